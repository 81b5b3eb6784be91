-- What holds of each place of a slice.
use Rattle.std.proofs.Common.{◌≡◌, ◌<◌, ℕ, zero, suc, List, [], ◌∷◌, length, set, sym, ◌∙◌, ap, subst, refl, inl, inr, arith}
use Rattle.std.proofs.lemmas.Bool.{cases_eq}
use Rattle.std.specs.Prelude.{Some, slice_get}
use Rattle.px_superstep.specs.Phases.{Each}

slice_get-set_same : {X : Type 0} (xs : List X) (i : ℕ) (y : X) → i < length xs → slice_get (set xs i y) i ≡ Some y
slice_get-set_same [] i y lt = absurd (omega (arith, lt))
slice_get-set_same (x ∷ xs) zero y lt = refl
slice_get-set_same (x ∷ xs) (suc i) y lt = slice_get-set_same xs i y (omega (arith, lt))

slice_get-set_other : {X : Type 0} (xs : List X) (i j : ℕ) (y : X) → (j ≡ i → ⊥) → slice_get (set xs i y) j ≡ slice_get xs j
slice_get-set_other [] i j y other = refl
slice_get-set_other (x ∷ xs) zero zero y other = absurd (other refl)
slice_get-set_other (x ∷ xs) zero (suc j) y other = refl
slice_get-set_other (x ∷ xs) (suc i) zero y other = refl
slice_get-set_other (x ∷ xs) (suc i) (suc j) y other = slice_get-set_other xs i j y (λ e. other (ap suc e))

pub length_set : {X : Type 0} (xs : List X) (i : ℕ) (y : X) → length (set xs i y) ≡ length xs
length_set [] i y = refl
length_set (x ∷ xs) zero y = refl
length_set (x ∷ xs) (suc i) y = ap suc (length_set xs i y)

pub some_is : {X : Type 0} {x y : X} → Some x ≡ Some y → x ≡ y
some_is h = cc h

pub below : {X : Type 0} (xs : List X) (i : ℕ) (x : X) → slice_get xs i ≡ Some x → i < length xs
below [] i x h = absurd (cc h)
below (x ∷ xs) zero y h = omega arith
below (x ∷ xs) (suc i) y h = (let rest = below xs i y h in omega (arith, rest))

pub found : {X : Type 0} (xs : List X) (i : ℕ) → i < length xs → (x : X) × (slice_get xs i ≡ Some x)
found [] i lt = absurd (omega (arith, lt))
found (x ∷ xs) zero lt = (x, refl)
found (x ∷ xs) (suc i) lt = found xs i (omega (arith, lt))

-- the place of a write has this, and each other one what it had
pub each_set : {X : Type 0} (old new : ℕ → X → Type 0) (xs : List X) (q : ℕ) (y : X) → q < length xs → new q y
    → ((i : ℕ) (x : X) → (i ≡ q → ⊥) → slice_get xs i ≡ Some x → old i x → new i x)
    → Each xs old → Each (set xs q y) new
each_set old new xs q y lt own others all i x at = elim (cases_eq i q) [
  | inl e ↦
      let y_is : y ≡ x = some_is (sym (slice_get-set_same xs q y lt) ∙ ap (slice_get (set xs q y)) (sym e) ∙ at) in
      subst (λ z. new i z) y_is (subst (λ k. new k y) (sym e) own)
  | inr other ↦ (let there = sym (slice_get-set_other xs q i y other) ∙ at in others i x other there (all i x there))
]

pub each_more : {X : Type 0} (old new : ℕ → X → Type 0) (xs : List X) → ((i : ℕ) (x : X) → slice_get xs i ≡ Some x → old i x → new i x) → Each xs old → Each xs new
each_more old new xs more all i x at = more i x at (all i x at)

-- what holds of two numbers holds of equal ones
pub carry : (P : ℕ → ℕ → Type 0) (a a' b b' : ℕ) → a ≡ a' → b ≡ b' → P a b → P a' b'
carry P a a' b b' ea eb h = subst (λ x. P x b') ea (subst (λ y. P a y) eb h)
