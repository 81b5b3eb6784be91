-- Maps as ascending lists of pairs: look-ups after `put` and `delete`, and that the look-ups decide a map.
use Rattle.std.proofs.Common.{◌≡◌, ◌≢◌, ℕ, zero, suc, ◌+◌, ◌<◌, List, [], ◌∷◌, length, filter, true, false, not, ◌==◌, Option, Some, None, is_some, Contains, sym, ◌∙◌, ap, refl, arith, inl, inr}
use Rattle.std.proofs.lemmas.Bool.{lt-ltb, le-ltb, eq-eqb, ne_eqb, or_left, or_right, cond-true, cond-false, cases_order, cases_eq, true≢false, false≢true}
use Rattle.px_meaning.specs.Graph.{lookup, put, delete, vids, place, AllAbove, IsAscending, IsMap}
use Rattle.px_meaning.proofs.Ascending.{has, place_below, place_here, place_past, IsAscending-place, IsAscending-filter, first_members, has-above, has-rest}

-- a look-up at the first pair
pub lookup_here : {X : Type 0} (k : ℕ) (e : ℕ × X) (es : List (ℕ × X)) → k ≡ e.0 → lookup k (e ∷ es) ≡ Some e.1
lookup_here k e es h = cond-true _ _ _ (eq-eqb k e.0 h)

-- past the first pair, at another key
pub lookup_past : {X : Type 0} (k : ℕ) (e : ℕ × X) (es : List (ℕ × X)) → (k ≡ e.0 → ⊥) → lookup k (e ∷ es) ≡ lookup k es
lookup_past k e es h = cond-false _ _ _ (ne_eqb k e.0 h)

-- `put` below the first key
pub put_below : {X : Type 0} (k : ℕ) (x : X) (e : ℕ × X) (es : List (ℕ × X)) → k < e.0 → put k x (e ∷ es) ≡ (k, x) ∷ e ∷ es
put_below k x e es h = cond-true _ _ _ (lt-ltb k e.0 h)

-- where the key is there
pub put_here : {X : Type 0} (k : ℕ) (x : X) (e : ℕ × X) (es : List (ℕ × X)) → k ≡ e.0 → put k x (e ∷ es) ≡ (k, x) ∷ es
put_here k x e es h = cond-false _ _ _ (le-ltb k e.0 (omega arith)) ∙ cond-true _ _ _ (eq-eqb k e.0 h)

-- and where it goes further on
pub put_past : {X : Type 0} (k : ℕ) (x : X) (e : ℕ × X) (es : List (ℕ × X)) → e.0 < k → put k x (e ∷ es) ≡ e ∷ put k x es
put_past k x e es h = cond-false _ _ _ (le-ltb k e.0 (omega arith)) ∙ cond-false _ _ _ (ne_eqb k e.0 (λ s. omega arith))

-- a pair with the key is deleted
pub delete_here : {X : Type 0} (k : ℕ) (e : ℕ × X) (es : List (ℕ × X)) → k ≡ e.0 → delete k (e ∷ es) ≡ delete k es
delete_here k e es h = rw (eq-eqb k e.0 h)

-- and a pair with another key stays
pub delete_past : {X : Type 0} (k : ℕ) (e : ℕ × X) (es : List (ℕ × X)) → (k ≡ e.0 → ⊥) → delete k (e ∷ es) ≡ e ∷ delete k es
delete_past k e es h = rw (ne_eqb k e.0 h)

-- what was put at a key is found there
pub lookup-put_same : {X : Type 0} (k : ℕ) (x : X) (es : List (ℕ × X)) → lookup k (put k x es) ≡ Some x
lookup-put_same k x [] = lookup_here k (k, x) [] refl
lookup-put_same k x (e ∷ es) =
    elim (cases_order k e.0) [
      | inl s ↦ ap (lookup k) (put_here k x e es s) ∙ lookup_here k (k, x) es refl
      | inr d ↦ elim d [
        | inl below ↦ ap (lookup k) (put_below k x e es below) ∙ lookup_here k (k, x) (e ∷ es) refl
        | inr above ↦ ap (lookup k) (put_past k x e es above) ∙ lookup_past k e (put k x es) (λ s. omega arith) ∙ lookup-put_same k x es
      ]
    ]

-- and the other keys have what they had
pub lookup-put_other : {X : Type 0} (j k : ℕ) (x : X) (es : List (ℕ × X)) → j ≢ k → lookup j (put k x es) ≡ lookup j es
lookup-put_other j k x [] d = lookup_past j (k, x) [] d
lookup-put_other j k x (e ∷ es) d =
    elim (cases_order k e.0) [
      | inl s ↦ ap (lookup j) (put_here k x e es s) ∙ lookup_past j (k, x) es d ∙ sym (lookup_past j e es (λ t. d (t ∙ sym s)))
      | inr o ↦ elim o [
        | inl below ↦ ap (lookup j) (put_below k x e es below) ∙ lookup_past j (k, x) (e ∷ es) d
        | inr above ↦ ap (lookup j) (put_past k x e es above) ∙ (elim (cases_eq j e.0) [
          | inl t ↦ lookup_here j e (put k x es) t ∙ sym (lookup_here j e es t)
          | inr t ↦ lookup_past j e (put k x es) t ∙ lookup-put_other j k x es d ∙ sym (lookup_past j e es t)
        ])
      ]
    ]

-- nothing is found at a key that was deleted
pub lookup-delete_same : {X : Type 0} (k : ℕ) (es : List (ℕ × X)) → lookup k (delete k es) ≡ None
lookup-delete_same k [] = refl
lookup-delete_same k (e ∷ es) =
    elim (cases_eq k e.0) [
      | inl s ↦ ap (lookup k) (delete_here k e es s) ∙ lookup-delete_same k es
      | inr d ↦ ap (lookup k) (delete_past k e es d) ∙ lookup_past k e (delete k es) d ∙ lookup-delete_same k es
    ]

-- and the other keys have what they had
pub lookup-delete_other : {X : Type 0} (j k : ℕ) (es : List (ℕ × X)) → j ≢ k → lookup j (delete k es) ≡ lookup j es
lookup-delete_other j k [] d = refl
lookup-delete_other j k (e ∷ es) d =
    elim (cases_eq k e.0) [
      | inl s ↦ ap (lookup j) (delete_here k e es s) ∙ lookup-delete_other j k es d ∙ sym (lookup_past j e es (λ t. d (t ∙ sym s)))
      | inr o ↦ ap (lookup j) (delete_past k e es o) ∙ (elim (cases_eq j e.0) [
        | inl t ↦ lookup_here j e (delete k es) t ∙ sym (lookup_here j e es t)
        | inr t ↦ lookup_past j e (delete k es) t ∙ lookup-delete_other j k es d ∙ sym (lookup_past j e es t)
      ])
    ]

-- a put places the key among the keys
pub vids-put : {X : Type 0} (k : ℕ) (x : X) (es : List (ℕ × X)) → vids (put k x es) ≡ place k (vids es)
vids-put k x [] = refl
vids-put k x (e ∷ es) =
    elim (cases_order k e.0) [
      | inl s ↦ ap vids (put_here k x e es s) ∙ ap (λ n. n ∷ vids es) s ∙ sym (place_here k e.0 (vids es) s)
      | inr d ↦ elim d [
        | inl below ↦ ap vids (put_below k x e es below) ∙ sym (place_below k e.0 (vids es) below)
        | inr above ↦ ap vids (put_past k x e es above) ∙ ap (λ (l : List ℕ). e.0 ∷ l) (vids-put k x es) ∙ sym (place_past k e.0 (vids es) above)
      ]
    ]

-- a delete takes the key out
pub vids-delete : {X : Type 0} (k : ℕ) (es : List (ℕ × X)) → vids (delete k es) ≡ filter (λ n. not (k == n)) (vids es)
vids-delete k [] = refl
vids-delete k (e ∷ es) =
    elim (cases_eq k e.0) [
      | inl s ↦ ap vids (delete_here k e es s) ∙ vids-delete k es ∙ sym (cond-false (not (k == e.0)) _ _ (ap not (eq-eqb k e.0 s)))
      | inr d ↦ ap vids (delete_past k e es d) ∙ ap (λ (l : List ℕ). e.0 ∷ l) (vids-delete k es) ∙ sym (cond-true (not (k == e.0)) _ _ (ap not (ne_eqb k e.0 d)))
    ]

-- a map with one more pair put is a map
pub IsMap-put : {X : Type 0} (k : ℕ) (x : X) (es : List (ℕ × X)) → IsMap es → IsMap (put k x es)
IsMap-put k x es m = rw (vids-put k x es) (IsAscending-place k (vids es) m)

-- so is one with a key deleted
pub IsMap-delete : {X : Type 0} (k : ℕ) (es : List (ℕ × X)) → IsMap es → IsMap (delete k es)
IsMap-delete k es m = rw (vids-delete k es) (IsAscending-filter (λ n. not (k == n)) (vids es) m)

-- a key is found just where it stands among the keys
pub is_some-lookup : {X : Type 0} (k : ℕ) (es : List (ℕ × X)) → is_some (lookup k es) ≡ has k (vids es)
is_some-lookup k [] = refl
is_some-lookup k (e ∷ es) =
    elim (cases_eq k e.0) [
      | inl s ↦ ap is_some (lookup_here k e es s) ∙ sym (or_left (k == e.0) _ (eq-eqb k e.0 s))
      | inr d ↦ ap is_some (lookup_past k e es d) ∙ is_some-lookup k es ∙ sym (has-rest k e.0 (vids es) d)
    ]

-- what is not some is none
pub is_some_none : {X : Type 0} (o : Option X) → is_some o ≡ false → o ≡ None
is_some_none None h = refl
is_some_none (Some x) h = absurd (true≢false h)

-- what does not stand among the keys is not found
pub lookup_none : {X : Type 0} (k : ℕ) (es : List (ℕ × X)) → has k (vids es) ≡ false → lookup k es ≡ None
lookup_none k es h = is_some_none (lookup k es) (is_some-lookup k es ∙ h)

-- nor is one found that is at or below a bound of all keys
pub lookup_below : {X : Type 0} (k n : ℕ) (es : List (ℕ × X)) → k < n + 1 → AllAbove n (vids es) → lookup k es ≡ None
lookup_below k n es h a = lookup_none k es (has-above k n (vids es) h a)

-- a put at a new key makes a map one longer
pub length-put_new : {X : Type 0} (k : ℕ) (x : X) (es : List (ℕ × X)) → lookup k es ≡ None → length (put k x es) ≡ suc (length es)
length-put_new k x [] h = refl
length-put_new k x (e ∷ es) h =
    elim (cases_order k e.0) [
      | inl s ↦ absurd (true≢false (ap is_some (sym (lookup_here k e es s) ∙ h)))
      | inr d ↦ elim d [
        | inl below ↦ ap length (put_below k x e es below)
        | inr above ↦ ap length (put_past k x e es above) ∙ ap suc (length-put_new k x es (sym (lookup_past k e es (λ s. omega arith)) ∙ h))
      ]
    ]

place_same : (k : ℕ) (ns : List ℕ) → IsAscending ns → has k ns ≡ true → place k ns ≡ ns
place_same k [] a h = absurd (false≢true h)
place_same k (n ∷ ns) a h =
    elim (cases_order k n) [
      | inl s ↦ place_here k n ns s
      | inr d ↦ elim d [
        | inl below ↦ absurd (true≢false (sym h ∙ has-rest k n ns (λ s. omega arith) ∙ has-above k n ns (omega arith) a.0))
        | inr above ↦ place_past k n ns above ∙ ap (λ (l : List ℕ). n ∷ l) (place_same k ns a.1 (sym (has-rest k n ns (λ s. omega arith)) ∙ h))
      ]
    ]

-- at an old key it leaves the keys
pub vids-put_old : {X : Type 0} (k : ℕ) (x y : X) (es : List (ℕ × X)) → IsMap es → lookup k es ≡ Some y → vids (put k x es) ≡ vids es
vids-put_old k x y es m h = vids-put k x es ∙ place_same k (vids es) m (sym (is_some-lookup k es) ∙ ap is_some h)

-- there are as many keys as pairs
pub length-vids : {X : Type 0} (es : List (ℕ × X)) → length (vids es) ≡ length es
length-vids [] = refl
length-vids (e ∷ es) = ap suc (length-vids es)

-- and the length
pub length-put_old : {X : Type 0} (k : ℕ) (x y : X) (es : List (ℕ × X)) → IsMap es → lookup k es ≡ Some y → length (put k x es) ≡ length es
length-put_old k x y es m h = sym (length-vids (put k x es)) ∙ ap length (vids-put_old k x y es m h) ∙ length-vids es

-- maps with the same look-ups have the same keys
keys_agree : {X : Type 0} (es fs : List (ℕ × X)) → ((k : ℕ) → lookup k es ≡ lookup k fs) → (k : ℕ) → has k (vids es) ≡ has k (vids fs)
keys_agree es fs h k = sym (is_some-lookup k es) ∙ ap is_some (h k) ∙ is_some-lookup k fs

-- what stands in two equal options is equal
pub some_same : {X : Type 0} (x y : X) → Some x ≡ Some y → x ≡ y
some_same x y h = cc

rest_lookups : {X : Type 0} (e f : ℕ × X) (es fs : List (ℕ × X)) → IsMap (e ∷ es) → IsMap (f ∷ fs) → e.0 ≡ f.0 → ((k : ℕ) → lookup k (e ∷ es) ≡ lookup k (f ∷ fs)) → (k : ℕ) → lookup k es ≡ lookup k fs
rest_lookups e f es fs m n s h k =
    elim (cases_eq k e.0) [
      | inl same ↦ lookup_below k e.0 es (omega arith) m.0 ∙ sym (lookup_below k f.0 fs (omega arith) n.0)
      | inr other ↦ sym (lookup_past k e es other) ∙ h k ∙ lookup_past k f fs (λ t. other (t ∙ sym s))
    ]

first_pair : {X : Type 0} (e f : ℕ × X) (es fs : List (ℕ × X)) → e.0 ≡ f.0 → ((k : ℕ) → lookup k (e ∷ es) ≡ lookup k (f ∷ fs)) → e ≡ f
first_pair (k, x) (j, y) es fs s h =
    let t = some_same x y (sym (lookup_here k (k, x) es refl) ∙ h k ∙ lookup_here k (j, y) fs s) in
    ap (λ n. (n, x)) s ∙ ap (λ z. (j, z)) t

-- maps with the same look-ups are equal
pub maps_equal : {X : Type 0} (es fs : List (ℕ × X)) → IsMap es → IsMap fs → ((k : ℕ) → lookup k es ≡ lookup k fs) → es ≡ fs
maps_equal [] [] m n h = refl
maps_equal [] (f ∷ fs) m n h = absurd (false≢true (ap is_some (h f.0 ∙ lookup_here f.0 f fs refl)))
maps_equal (e ∷ es) [] m n h = absurd (true≢false (ap is_some (sym (lookup_here e.0 e es refl) ∙ h e.0)))
maps_equal (e ∷ es) (f ∷ fs) m n h =
    let s = first_members e.0 f.0 (vids es) (vids fs) m.0 n.0 (keys_agree (e ∷ es) (f ∷ fs) h) in
    ap (λ g. g ∷ es) (first_pair e f es fs s h) ∙ ap (λ l. f ∷ l) (maps_equal es fs m.1 n.1 (rest_lookups e f es fs m n s h))

pair_is : {X : Type 0} (e : ℕ × X) (k : ℕ) (x : X) → k ≡ e.0 → e.1 ≡ x → e ≡ (k, x)
pair_is (j, y) k x s t = ap (λ n. (n, y)) (sym s) ∙ ap (λ z. (k, z)) t

-- what is found stands there
pub Contains-from_lookup : {X : Type 0} (k : ℕ) (x : X) (es : List (ℕ × X)) → lookup k es ≡ Some x → Contains es (k, x)
Contains-from_lookup k x [] h = absurd (false≢true (ap is_some h))
Contains-from_lookup k x (e ∷ es) h =
    elim (cases_eq k e.0) [
      | inl s ↦ (0, omega arith, pair_is e k x s (some_same e.1 x (sym (lookup_here k e es s) ∙ h)))
      | inr d ↦ let c = Contains-from_lookup k x es (sym (lookup_past k e es d) ∙ h) in (suc c.0, omega arith, c.2)
    ]

-- the key of a pair that stands in a list is among its keys
has-from_pair : {X : Type 0} (k : ℕ) (x : X) (es : List (ℕ × X)) → Contains es (k, x) → has k (vids es) ≡ true
has-from_pair k x [] c = absurd (omega arith)
has-from_pair k x (e ∷ es) (zero, low, at) = or_left _ _ (eq-eqb k e.0 (sym (ap (λ p. p.0) at)))
has-from_pair k x (e ∷ es) (suc i, low, at) = or_right (k == e.0) _ (has-from_pair k x es (i, omega arith, at))

-- a pair of a map is found by its key
pub lookup-from_Contains : {X : Type 0} (k : ℕ) (x : X) (es : List (ℕ × X)) → IsMap es → Contains es (k, x) → lookup k es ≡ Some x
lookup-from_Contains k x [] m c = absurd (omega arith)
lookup-from_Contains k x (e ∷ es) m (zero, low, at) = lookup_here k e es (sym (ap (λ p. p.0) at)) ∙ ap (λ p. Some p.1) at
lookup-from_Contains k x (e ∷ es) m (suc i, low, at) =
    let c : Contains es (k, x) = (i, omega arith, at) in
    lookup_past k e es (λ s. true≢false (sym (has-from_pair k x es c) ∙ has-above k e.0 (vids es) (omega arith) m.0)) ∙ lookup-from_Contains k x es m.1 c
