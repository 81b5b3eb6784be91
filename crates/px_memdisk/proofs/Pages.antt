-- Pages that are read and written.
use Rattle.std.proofs.Common.{◌≡◌, ◌≢◌, ℕ, ◌<◌, List, [], Vec, length, get_or, set, refl, sym, ◌∙◌, ap, inl, inr, arith, true, nat_lt}
use Rattle.std.proofs.lemmas.Bool.{cases_lt, cases_eq}
use Rattle.std.proofs.lemmas.Bool.Decides.{nat_tests}
use Rattle.std.proofs.lemmas.List.{get_or-map, length-map}
use Rattle.std.proofs.lemmas.List.Elements.{All-set, All-push}
use Rattle.std.specs.Prelude.{map}
use Rattle.std.specs.declared.alloc.Global.{Global}
use Rattle.px_core.specs.Shown.{written}
use Rattle.px_core.proofs.Pages.{written_end}
use Rattle.px_memdisk.specs.Files.{AreLong}

-- a page has the length of all
pub long_at : (len : ℕ) (pages : List (Vec ℕ Global)) (i : ℕ) (d : Vec ℕ Global) → AreLong len (map (λ page. page.items) pages) → i < length pages → length (get_or pages i d).items ≡ len
long_at len pages i d long within =
    let at = long i d.items (rw length-map within) in
    ap length (sym (get_or-map (λ page. page.items) pages i d d.items within)) ∙ at

-- the three cases of a write
pub written_within : (n : ℕ) (bytes : List ℕ) (pages : List (List ℕ)) → n < length pages → written n bytes pages ≡ set pages n bytes
written_within n bytes pages within = let below : nat_lt n (length pages) ≡ true = grind (arith, nat_tests) in rw below refl

pub written_past : (n : ℕ) (bytes : List ℕ) (pages : List (List ℕ)) → length pages < n → written n bytes pages ≡ pages
written_past n bytes pages past = grind (arith, nat_tests)

-- a page written of that length leaves all of it
pub long_written : (len n : ℕ) (bytes : List ℕ) (pages : List (List ℕ)) → AreLong len pages → length bytes ≡ len → AreLong len (written n bytes pages)
long_written len n bytes pages long is = elim (cases_lt n (length pages)) [
  | inl within ↦ rw (written_within n bytes pages within) (All-set (λ page. length page ≡ len) pages n bytes is long)
  | inr ge ↦ elim (cases_eq n (length pages)) [
    | inl at ↦ rw (written_end n bytes pages at) (All-push (λ page. length page ≡ len) pages bytes long is)
    | inr ne ↦ rw (written_past n bytes pages (omega arith)) long
  ]
]

-- so do all files, where one changed
pub long_in_all : (len file : ℕ) (old new : ℕ → List (List ℕ)) → AreLong len (new file) → ((f : ℕ) → f ≢ file → new f ≡ old f) → ((f : ℕ) → AreLong len (old f)) → (f : ℕ) → AreLong len (new f)
long_in_all len file old new mine others long f = elim (cases_eq f file) [
  | inl here ↦ rw here mine
  | inr apart ↦ rw (others f apart) (long f)
]

pub long_none : (len : ℕ) → AreLong len []
long_none len k d within = absurd (omega (arith, within))
