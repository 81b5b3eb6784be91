-- A test of the values of a map, by its look-ups.
use Rattle.std.proofs.Common.{◌≡◌, ℕ, List, [], ◌∷◌, Bool, true, false, Some, is_some, sym, ◌∙◌, ap, refl, arith, inl, inr}
use Rattle.std.specs.List.{list_any}
use Rattle.std.proofs.lemmas.Bool.{or_left, or_right, or_from, or_cases, cases_Bool, cases_eq, true≢false, false≢true}
use Rattle.px_meaning.specs.Graph.{lookup, IsMap}
use Rattle.px_meaning.proofs.Maps.{lookup_here, lookup_past, lookup_below, some_same}

-- what is found past the first pair has another key
later_key : {X : Type 0} (k : ℕ) (x : X) (e : ℕ × X) (es : List (ℕ × X)) → IsMap (e ∷ es) → lookup k es ≡ Some x → k ≡ e.0 → ⊥
later_key k x e es m f s = true≢false (ap is_some (sym f ∙ lookup_below k e.0 es (omega arith) m.0))

-- a value that passes and is found makes the test true of some
pub any_from_lookup : {X : Type 0} (p : X → Bool) (k : ℕ) (x : X) (es : List (ℕ × X)) → lookup k es ≡ Some x → p x ≡ true → list_any (λ e. p e.1) es ≡ true
any_from_lookup p k x [] h on = absurd (false≢true (ap is_some h))
any_from_lookup p k x (e ∷ es) h on =
    elim (cases_eq k e.0) [
      | inl s ↦ or_left (p e.1) _ (ap p (some_same e.1 x (sym (lookup_here k e es s) ∙ h)) ∙ on)
      | inr d ↦ or_right (p e.1) _ (any_from_lookup p k x es (sym (lookup_past k e es d) ∙ h) on)
    ]

-- where no value passes, none that is found does
pub none_at_lookup : {X : Type 0} (p : X → Bool) (k : ℕ) (x : X) (es : List (ℕ × X)) → list_any (λ e. p e.1) es ≡ false → lookup k es ≡ Some x → p x ≡ false
none_at_lookup p k x es none h =
    elim (cases_Bool (p x)) [
      | inl on ↦ absurd (true≢false (sym (any_from_lookup p k x es h on) ∙ none))
      | inr off ↦ off
    ]

-- where none that is found passes, none does
pub none_from_lookups : {X : Type 0} (p : X → Bool) (es : List (ℕ × X)) → IsMap es → ((k : ℕ) (x : X) → lookup k es ≡ Some x → p x ≡ false) → list_any (λ e. p e.1) es ≡ false
none_from_lookups p [] m h = refl
none_from_lookups p (e ∷ es) m h =
    or_from (p e.1) _ (h e.0 e.1 (lookup_here e.0 e es refl)) (none_from_lookups p es m.1 (λ k x f. h k x (lookup_past k e es (later_key k x e es m f) ∙ f)))

-- and a test that some value passes shows where
pub lookup_from_any : {X : Type 0} (p : X → Bool) (es : List (ℕ × X)) → IsMap es → list_any (λ e. p e.1) es ≡ true → (k : ℕ) × (x : X) × (lookup k es ≡ Some x) × (p x ≡ true)
lookup_from_any p [] m h = absurd (false≢true h)
lookup_from_any p (e ∷ es) m h =
    elim (or_cases (p e.1) _ h) [
      | inl here ↦ (e.0, e.1, lookup_here e.0 e es refl, here)
      | inr later ↦ let r = lookup_from_any p es m.1 later in (r.0, r.1, lookup_past r.0 e es (later_key r.0 r.1 e es m r.2) ∙ r.2, r.3)
    ]
