-- A frame that is written through a reference.
use Rattle.std.specs.Prelude.{ℕ, List, ◌++◌, length, take, drop}
use Rattle.std.specs.Borrow.{Lends, MutBor, Fml, Array, u8}
use Rattle.px_frames.specs.contracts.frame.Frame.{the_row}

-- these bytes in the place of those, whose number stays
abbrev pub fitted : List ℕ → List ℕ → List ℕ
fitted old bytes = take (length old) (bytes ++ drop (length bytes) old)

-- the frame ends as the last bytes written
abbrev pub LendsBytes : MutBor (List ℕ) → MutBor (List ℕ) → Fml
LendsBytes frame r = Lends the_row (Array u8 0) frame r (fitted frame.now)
