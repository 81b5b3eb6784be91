-- What a read moved.
use Rattle.std.specs.Prelude.{◌≡◌, ℕ, ◌≤◌, List, length, take}

-- the first n bytes are those of the list
pub record BeginsWith (n : ℕ) (bytes l : List ℕ) : Type 0 where
  pub within : n ≤ length l
  pub same : take n bytes ≡ take n l
