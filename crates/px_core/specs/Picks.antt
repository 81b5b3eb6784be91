-- Turns that are listed.
use Rattle.std.specs.Prelude.{ℕ, List, [], ◌∷◌, if◌then◌else◌}
use Rattle.px_core.specs.Bits.{is_bit, lowest_bit}

-- the picks that are left, of a list that is asked in order
pub record TurnsView : Type 0 where
  pub left : List ℕ

-- the first pick left where its bit is set, else the lowest set bit
abbrev pub picked : List ℕ → ℕ → ℕ
picked [] ready = lowest_bit ready
picked (pick ∷ picks) ready = if is_bit ready pick then pick else lowest_bit ready
