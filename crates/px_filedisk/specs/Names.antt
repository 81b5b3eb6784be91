-- The names of page files.
use Rattle.std.specs.Prelude.{◌≡◌, ◌≢◌, ◌≤◌, ℕ, List, [], ◌++◌, All, codes}

-- `f` and one or more digits
pub record IsPageFile (name : List ℕ) : Type 0 where
  pub digits : List ℕ
  pub split : name ≡ codes "f" ++ digits
  pub some : digits ≢ []
  pub are_digits : All (λ byte. (48 ≤ byte) × (byte ≤ 57)) digits
