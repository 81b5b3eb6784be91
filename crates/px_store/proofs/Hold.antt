-- One store of a list is called.
use Rattle.std.proofs.Common.{◌≡◌, ◌<◌, ◌+◌, ℕ, zero, suc, Bool, true, false, List, [], ◌∷◌, ◌++◌, length, take, set, sym, ◌∙◌, ap, subst, refl, inl, inr, arith, add-one}
use Rattle.std.proofs.lemmas.Bool.{cases_eq}
use Rattle.std.specs.Prelude.{Option, Some, None, slice_get, is_some, if◌then◌else◌}
use Rattle.px_cache.proofs.Lists.{slice_get-set_same, slice_get-set_other, some_is}
use Rattle.px_meaning.specs.Graph.{Graph}
use Rattle.px_meaning.specs.Graph.{Vertex, lookup}
use Rattle.px_store.specs.Desks.{IsNotOwner, GivesNext}
use Rattle.px_store.specs.Lists.{AreParts, HoldAll, change, found_in}

change_same : (ls : List Graph) (q : ℕ) (f : Graph → Graph) (l : Graph) → slice_get (change ls q f) q ≡ Some l → (m : Graph) × (slice_get ls q ≡ Some m) × (l ≡ f m)
change_same [] q f l h = absurd (cc h)
change_same (m ∷ ls) zero f l h = (m, refl, sym (some_is h))
change_same (m ∷ ls) (suc q) f l h = change_same ls q f l h

change_other : (ls : List Graph) (q i : ℕ) (f : Graph → Graph) → (i ≡ q → ⊥) → slice_get (change ls q f) i ≡ slice_get ls i
change_other [] q i f other = refl
change_other (m ∷ ls) zero zero f other = absurd (other refl)
change_other (m ∷ ls) zero (suc i) f other = refl
change_other (m ∷ ls) (suc q) zero f other = refl
change_other (m ∷ ls) (suc q) (suc i) f other = change_other ls q i f (λ e. other (ap suc e))

pub within : {X : Type 0} (xs : List X) (q : ℕ) → q < length xs → (x : X) × (slice_get xs q ≡ Some x)
within [] q lt = absurd (omega (arith, lt))
within (x ∷ xs) zero lt = (x, refl)
within (x ∷ xs) (suc q) lt = within xs q (omega (arith, lt))

-- the store at place q changes as said, and the others hold what they held
pub hold_change : {X : Type 0} (old new : X → Graph → Type 0) (xs : List X) (ls : List Graph) (q : ℕ) (y : X) (f : Graph → Graph) → q < length xs
    → ((x : X) (m : Graph) → slice_get xs q ≡ Some x → old x m → new y (f m))
    → ((i : ℕ) (x : X) (l : Graph) → (i ≡ q → ⊥) → slice_get xs i ≡ Some x → old x l → new x l)
    → HoldAll old xs ls → HoldAll new (set xs q y) (change ls q f)
hold_change old new xs ls q y f lt own others all i x l at is = elim (cases_eq i q) [
  | inl e ↦
      let y_is : y ≡ x = some_is (sym (slice_get-set_same xs q y lt) ∙ ap (slice_get (set xs q y)) (sym e) ∙ at) in
      let m = change_same ls q f l (ap (slice_get (change ls q f)) (sym e) ∙ is) in
      let x0 = within xs q lt in
      subst (λ (k : Graph). new x k) (sym m.2) (subst (λ (z : _). new z (f m.0)) y_is (own x0.0 m.0 x0.1 (all q x0.0 m.0 x0.1 m.1)))
  | inr other ↦
      let at' = sym (slice_get-set_other xs q i y other) ∙ at in
      others i x l other at' (all i x l at' (sym (change_other ls q i f other) ∙ is))
]

pub parts_set : {X : Type 0} (part : X → ℕ) (xs : List X) (q : ℕ) (y : X) → q < length xs → part y ≡ q → AreParts part xs → AreParts part (set xs q y)
parts_set part xs q y lt is all i x at = elim (cases_eq i q) [
  | inl e ↦
      let y_is : y ≡ x = some_is (sym (slice_get-set_same xs q y lt) ∙ ap (slice_get (set xs q y)) (sym e) ∙ at) in
      ap part (sym y_is) ∙ is ∙ sym e
  | inr other ↦ all i x (sym (slice_get-set_other xs q i y other) ∙ at)
]

pub none_owns : (q : ℕ) (o : Option ℕ) → o ≡ None → IsNotOwner q o
none_owns q None is = tt
none_owns q (Some p) is = absurd (cc is)

-- what is known after a next, handed on
pub gives_map : (given : Bool) (v : ℕ) (x : Vertex) (a b : Graph) (now later : Graph → Graph → Type 0) → ((c d : Graph) → now c d → later c d) → GivesNext given v x a b now → GivesNext given v x a b later
gives_map false v x a b now later on h = (h.0, on a [] h.1)
gives_map true v x a b now later on h = (h.0, h.1, on (a ++ (v, x) ∷ []) h.0 h.2)

-- one vid more
found_suc : (l : Graph) (vs : List ℕ) (i v : ℕ) → slice_get vs i ≡ Some v → found_in l (take (suc i) vs) ≡ found_in l (take i vs) + (if is_some (lookup v l) then 1 else 0)
found_suc l [] i v at = absurd (cc at)
found_suc l (w ∷ vs) zero v at = rw (some_is at) (omega arith)
found_suc l (w ∷ vs) (suc i) v at = omega (arith, found_suc l vs i v at)

pub found_more : (l : Graph) (vs : List ℕ) (i v : ℕ) (b : Bool) → slice_get vs i ≡ Some v → b ≡ is_some (lookup v l) → found_in l (take (i + 1) vs) ≡ found_in l (take i vs) + (if b then 1 else 0)
found_more l vs i v b at is = rw (is, add-one) (found_suc l vs i v at)
