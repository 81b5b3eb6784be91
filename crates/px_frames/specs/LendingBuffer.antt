-- A buffer that is written through a reference.
use Rattle.std.specs.Prelude.{ℕ, List}
use Rattle.std.specs.Borrow.{Lends, MutBor, Fml, Array, u8}
use Rattle.px_frames.specs.Lending.{fitted}
use Rattle.px_frames.specs.Buffer.{BufView}
use Rattle.px_frames.specs.contracts.buf.Buf.{the_row}

-- the buffer with these bytes in the place of its own, whose number stays
abbrev pub with_bytes : BufView → List ℕ → BufView
with_bytes buf w = record buf { bytes = fitted buf.bytes w }

-- the buffer ends with the last bytes written
abbrev pub LendsHeld : MutBor BufView → MutBor (List ℕ) → Fml
LendsHeld buf r = Lends the_row (Array u8 0) buf r (with_bytes buf.now)
