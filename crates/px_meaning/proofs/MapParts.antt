-- Parts of maps: two lists joined, a pair at the end, and the pairs whose keys pass a test.
use Rattle.std.proofs.Common.{◌≡◌, ℕ, List, [], ◌∷◌, ◌++◌, filter, Bool, true, false, Some, None, is_some, sym, ◌∙◌, ap, refl, subst, inl, inr}
use Rattle.std.proofs.lemmas.Bool.{cases_Bool, cond-true, cond-false, cond_both, cases_eq, true≢false, false≢true}
use Rattle.std.proofs.lemmas.List.{map-append}
use Rattle.px_meaning.specs.Graph.{lookup, put, vids, IsAscending, IsMap}
use Rattle.px_meaning.proofs.Ascending.{AllBelow, IsAscending-filter, IsAscending-front, IsAscending-back, IsAscending-push}
use Rattle.px_meaning.proofs.Maps.{lookup_here, lookup_past, put_past}

-- a put above all keys adds at the end
pub put_last : {X : Type 0} (k : ℕ) (x : X) (es : List (ℕ × X)) → AllBelow k (vids es) → put k x es ≡ es ++ (k, x) ∷ []
put_last k x [] b = refl
put_last k x (e ∷ es) b = put_past k x e es b.0 ∙ ap (λ l. e ∷ l) (put_last k x es b.1)

-- the keys of two lists joined
pub vids-append : {X : Type 0} (es fs : List (ℕ × X)) → vids (es ++ fs) ≡ vids es ++ vids fs
vids-append {X} es fs = map-append (λ (e : ℕ × X). e.0) es fs

-- the first part of a map is a map
pub IsMap-front : {X : Type 0} (es fs : List (ℕ × X)) → IsMap (es ++ fs) → IsMap es
IsMap-front es fs m = IsAscending-front (vids es) (vids fs) (subst IsAscending (vids-append es fs) m)

-- and so is the second part
pub IsMap-back : {X : Type 0} (es fs : List (ℕ × X)) → IsMap (es ++ fs) → IsMap fs
IsMap-back es fs m = IsAscending-back (vids es) (vids fs) (subst IsAscending (vids-append es fs) m)

-- a pair above all keys may follow
pub IsMap-push : {X : Type 0} (k : ℕ) (x : X) (es : List (ℕ × X)) → IsMap es → AllBelow k (vids es) → IsMap (es ++ (k, x) ∷ [])
IsMap-push k x es m b = subst IsAscending (sym (vids-append es ((k, x) ∷ []))) (IsAscending-push k (vids es) m b)

-- a look-up in two lists joined, where the first has the key
pub lookup-append_some : {X : Type 0} (k : ℕ) (x : X) (es fs : List (ℕ × X)) → lookup k es ≡ Some x → lookup k (es ++ fs) ≡ Some x
lookup-append_some k x [] fs h = absurd (false≢true (ap is_some h))
lookup-append_some k x (e ∷ es) fs h =
    elim (cases_eq k e.0) [
      | inl s ↦ lookup_here k e (es ++ fs) s ∙ sym (lookup_here k e es s) ∙ h
      | inr d ↦ lookup_past k e (es ++ fs) d ∙ lookup-append_some k x es fs (sym (lookup_past k e es d) ∙ h)
    ]

-- where the first has none
pub lookup-append_none : {X : Type 0} (k : ℕ) (es fs : List (ℕ × X)) → lookup k es ≡ None → lookup k (es ++ fs) ≡ lookup k fs
lookup-append_none k [] fs h = refl
lookup-append_none k (e ∷ es) fs h =
    elim (cases_eq k e.0) [
      | inl s ↦ absurd (true≢false (ap is_some (sym (lookup_here k e es s) ∙ h)))
      | inr d ↦ lookup_past k e (es ++ fs) d ∙ lookup-append_none k es fs (sym (lookup_past k e es d) ∙ h)
    ]

-- the part of a map whose keys pass a test, as of one partition

-- the keys of such a part
pub vids-filter : {X : Type 0} (q : ℕ → Bool) (es : List (ℕ × X)) → vids (filter (λ e. q e.0) es) ≡ filter q (vids es)
vids-filter q [] = refl
vids-filter q (e ∷ es) =
    elim (cases_Bool (q e.0)) [
      | inl on ↦ ap vids (cond-true (q e.0) _ _ on) ∙ ap (λ (l : List ℕ). e.0 ∷ l) (vids-filter q es) ∙ sym (cond-true (q e.0) _ _ on)
      | inr off ↦ ap vids (cond-false (q e.0) _ _ off) ∙ vids-filter q es ∙ sym (cond-false (q e.0) _ _ off)
    ]

-- such a part is a map
pub IsMap-filter : {X : Type 0} (q : ℕ → Bool) (es : List (ℕ × X)) → IsMap es → IsMap (filter (λ e. q e.0) es)
IsMap-filter q es m = subst IsAscending (sym (vids-filter q es)) (IsAscending-filter q (vids es) m)

-- it has what the map has at a key that passes, and nothing at another
pub lookup-filter_on : {X : Type 0} (q : ℕ → Bool) (k : ℕ) (es : List (ℕ × X)) → q k ≡ true → lookup k (filter (λ e. q e.0) es) ≡ lookup k es
lookup-filter_on q k [] h = refl
lookup-filter_on q k (e ∷ es) h =
    elim (cases_eq k e.0) [
      | inl s ↦ ap (lookup k) (cond-true (q e.0) _ _ (ap q (sym s) ∙ h)) ∙ lookup_here k e (filter (λ f. q f.0) es) s ∙ sym (lookup_here k e es s)
      | inr d ↦ cond_both (q e.0) _ _ (λ l. lookup k l ≡ lookup k (e ∷ es))
          (λ _. lookup_past k e (filter (λ f. q f.0) es) d ∙ lookup-filter_on q k es h ∙ sym (lookup_past k e es d)) (λ _. lookup-filter_on q k es h ∙ sym (lookup_past k e es d))
    ]

-- and nothing is found at a key that fails
pub lookup-filter_off : {X : Type 0} (q : ℕ → Bool) (k : ℕ) (es : List (ℕ × X)) → q k ≡ false → lookup k (filter (λ e. q e.0) es) ≡ None
lookup-filter_off q k [] h = refl
lookup-filter_off q k (e ∷ es) h =
    elim (cases_eq k e.0) [
      | inl s ↦ ap (lookup k) (cond-false (q e.0) _ _ (ap q (sym s) ∙ h)) ∙ lookup-filter_off q k es h
      | inr d ↦ cond_both (q e.0) _ _ (λ l. lookup k l ≡ None) (λ _. lookup_past k e (filter (λ f. q f.0) es) d ∙ lookup-filter_off q k es h) (λ _. lookup-filter_off q k es h)
    ]
