-- What an object knows of its own files outlives the calls on others.
use Rattle.std.specs.Prelude.{◌≡◌, ℕ, take}
use Rattle.std.specs.Option.{option_map}
use Rattle.px_core.specs.Shown.{Shown}

-- these files, and all that a relation may depend on besides them, are as before
pub record Same (mine : ℕ → Type 0) (a b : Shown) : Type 0 where
  pub files : (f : ℕ) → mine f → b.files f ≡ a.files f
  pub tells : b.tells ≡ a.tells
  pub page_len : b.page_len ≡ a.page_len

-- the pages of this file before this one, and all that a relation may depend on besides them, are as before
pub record SameBelow (file pages : ℕ) (a b : Shown) : Type 0 where
  pub below : option_map (take pages) (b.files file) ≡ option_map (take pages) (a.files file)
  pub tells : b.tells ≡ a.tells
  pub page_len : b.page_len ≡ a.page_len

-- two sets of files have none in common
abbrev pub Apart : (ℕ → Type 0) → (ℕ → Type 0) → Type 0
Apart mine theirs = (f : ℕ) → mine f → theirs f → ⊥
