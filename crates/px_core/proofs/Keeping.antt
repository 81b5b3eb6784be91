-- Calls on others keep an object's own files, and calls follow one another.
use Rattle.std.proofs.Common.{◌≡◌, ℕ, ◌≤◌, List, take, refl, sym, ◌∙◌, ap}
use Rattle.std.specs.Prelude.{Option, Some, None}
use Rattle.std.specs.Option.{option_map}
use Rattle.px_core.specs.Shown.{Shown, Touches, NoFile, Only, written, Tells, TellsPages}
use Rattle.px_core.specs.Same.{Same, SameBelow, Apart}
use Rattle.px_core.proofs.Pages.{take_written}

pub same_by_touches : (mine theirs : ℕ → Type 0) (a b : Shown) → Apart mine theirs → Touches theirs a b → Same mine a b
same_by_touches mine theirs a b apart t = record {
  files = λ f m. t.others f (apart f m);
  tells = t.tells;
  page_len = t.page_len;
}

-- no file was touched
pub same_by_none : (mine : ℕ → Type 0) (a b : Shown) → Touches NoFile a b → Same mine a b
same_by_none mine a b t = same_by_touches mine NoFile a b (λ f m no. no) t

-- another file was
pub same_by_other : (file other : ℕ) (a b : Shown) → (file ≡ other → ⊥) → Touches (Only other) a b → Same (Only file) a b
same_by_other file other a b apart t = same_by_touches (Only file) (Only other) a b (λ f is so. apart (sym is ∙ so)) t

pub same_refl : (mine : ℕ → Type 0) (a : Shown) → Same mine a a
same_refl mine a = record { files = λ f m. refl; tells = refl; page_len = refl }

pub same_then : (mine : ℕ → Type 0) (a b c : Shown) → Same mine a b → Same mine b c → Same mine a c
same_then mine a b c s t = record { files = λ f m. t.files f m ∙ s.files f m; tells = t.tells ∙ s.tells; page_len = t.page_len ∙ s.page_len }

-- fewer files are looked at
pub same_fewer : (mine more : ℕ → Type 0) (a b : Shown) → ((f : ℕ) → mine f → more f) → Same more a b → Same mine a b
same_fewer mine more a b sub s = record { files = λ f m. s.files f (sub f m); tells = s.tells; page_len = s.page_len }

pub tells_same : (a b : Shown) (file : ℕ) (pages : List (List ℕ)) → Same (Only file) a b → Tells a file pages → Tells b file pages
tells_same a b file pages s h = record { on = s.tells ∙ h.on; is = s.files file refl ∙ h.is }

pub tells_pages_same : (a b : Shown) (file pages : ℕ) → Same (Only file) a b → TellsPages a file pages → TellsPages b file pages
tells_pages_same a b file pages s h = record { told = h.told; tells = tells_same a b file h.told s h.tells; end = h.end }

-- the pages of a file are as before, so those before one of them are
pub below_by_same : (a b : Shown) (file pages : ℕ) → Same (Only file) a b → SameBelow file pages a b
below_by_same a b file pages s = record { below = ap (option_map (take pages)) (s.files file refl); tells = s.tells; page_len = s.page_len }

-- a write at a page or behind it
option_map-written : (n p : ℕ) (bytes : List ℕ) (o : Option (List (List ℕ))) → n ≤ p → option_map (take n) (option_map (written p bytes) o) ≡ option_map (take n) o
option_map-written n p bytes None low = refl
option_map-written n p bytes (Some ps) low = ap (λ (x : List (List ℕ)). Some x) (take_written n p bytes ps low)

pub below_by_write : (mine : ℕ → Type 0) (a b : Shown) (file n p : ℕ) (bytes : List ℕ) → Touches mine a b → b.files file ≡ option_map (written p bytes) (a.files file) → n ≤ p → SameBelow file n a b
below_by_write mine a b file n p bytes t is low = record {
  below = ap (option_map (take n)) is ∙ option_map-written n p bytes (a.files file) low;
  tells = t.tells;
  page_len = t.page_len;
}
