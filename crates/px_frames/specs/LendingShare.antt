-- A frame of a share that is written through a reference.
use Rattle.std.specs.Prelude.{ℕ, List, [], slice_set, slice_index_or}
use Rattle.std.specs.Borrow.{Lends, MutBor, Fml, Array, u8}
use Rattle.px_frames.specs.Lending.{fitted}
use Rattle.px_frames.specs.Shares.{ShareView}
use Rattle.px_frames.specs.contracts.share.Share.{the_row}

-- the share with these bytes in the place of those of a frame, whose number stays
abbrev pub with_frame : ShareView → ℕ → List ℕ → ShareView
with_frame share i w =
    record share { frames = slice_set share.frames i (fitted (slice_index_or share.frames i []) w) }

-- the share ends with the frame at this place as last written
abbrev pub LendsFrame : MutBor ShareView → ℕ → MutBor (List ℕ) → Fml
LendsFrame share i r = Lends the_row (Array u8 0) share r (with_frame share.now i)
