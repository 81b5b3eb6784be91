-- What the partitions have, in whatever order they come, is what there is.
use Rattle.std.proofs.Common.{◌≡◌, ℕ, ◌+◌, ◌<◌, List, [], ◌∷◌, ◌++◌, filter, IsPermutation, sym, ◌∙◌, ap, subst, refl, arith, inl, inr, append_assoc}
use Rattle.std.specs.Prelude.{◌==◌, flat_map, cond}
use Rattle.std.proofs.lemmas.Bool.{cases_eq, cond-true, cond-false, cond_both, eq-eqb, eqb-true}
use Rattle.std.proofs.lemmas.List.Sorted.{IsPermutation-cons, IsPermutation-middle, IsPermutation-trans, IsPermutation-refl, IsPermutation-append_right}
use Rattle.px_superstep.specs.Parting.{times}

pub times_here : (k n : ℕ) (ns : List ℕ) → k ≡ n → times k (n ∷ ns) ≡ 1 + times k ns
times_here k n ns is = ap (λ b. b + times k ns) (cond-true (k == n) 1 0 (eq-eqb k n is))

pub times_past : (k n : ℕ) (ns : List ℕ) → (k ≡ n → ⊥) → times k (n ∷ ns) ≡ times k ns
times_past k n ns other = cond_both (k == n) 1 0 (λ (b : ℕ). b + times k ns ≡ times k ns) (λ e. absurd (other (eqb-true k n e))) (λ _. omega arith)

pub times-append : (k : ℕ) (ms ns : List ℕ) → times k (ms ++ ns) ≡ times k ms + times k ns
times-append k [] ns = omega arith
times-append k (m ∷ ms) ns = (let rest = times-append k ms ns in omega arith)

module _ {Y : Type 0} where
  pub perm_same : (xs ys : List Y) → xs ≡ ys → IsPermutation xs ys
  perm_same xs ys is = subst (IsPermutation xs) is (IsPermutation-refl xs)

  pub moved_front : (us block rest : List Y) → IsPermutation (us ++ (block ++ rest)) (block ++ (us ++ rest))
  moved_front us [] rest = IsPermutation-refl (us ++ rest)
  moved_front us (b ∷ bs) rest =
      IsPermutation-trans (us ++ b ∷ (bs ++ rest)) (b ∷ (us ++ (bs ++ rest))) (b ∷ (bs ++ (us ++ rest))) (IsPermutation-middle us b (bs ++ rest)) (IsPermutation-cons b _ _ (moved_front us bs rest))

  -- a block that one number has more
  abbrev with_block : ℕ → List Y → (ℕ → List Y) → ℕ → List Y
  with_block k block h q = cond (k == q) (block ++ h q) (h q)

  flat_other : (k : ℕ) (block : List Y) (h : ℕ → List Y) (done : List ℕ) → times k done ≡ 0 → flat_map (with_block k block h) done ≡ flat_map h done
  flat_other k block h [] none = refl
  flat_other k block h (d ∷ ds) none = elim (cases_eq k d) [
    | inl e ↦ (let is = times_here k d ds e in absurd (omega arith))
    | inr other ↦ ap (λ l. l ++ flat_map (with_block k block h) ds) (cond_both (k == d) (block ++ h d) (h d) (λ l. l ≡ h d) (λ e. absurd (other (eqb-true k d e))) (λ _. refl))
        ∙ ap (λ l. h d ++ l) (flat_other k block h ds (sym (times_past k d ds other) ∙ none))
  ]

  block_first : (k : ℕ) (block : List Y) (h : ℕ → List Y) (done : List ℕ) → times k done ≡ 1 → IsPermutation (flat_map (with_block k block h) done) (block ++ flat_map h done)
  block_first k block h [] one = absurd (omega arith)
  block_first k block h (d ∷ ds) one = elim (cases_eq k d) [
    | inl e ↦
        let none : times k ds ≡ 0 = (let is = times_here k d ds e in omega arith) in
        perm_same _ _ (ap (λ l. l ++ flat_map (with_block k block h) ds) (cond-true (k == d) (block ++ h d) (h d) (eq-eqb k d e))
        ∙ ap (λ l. (block ++ h d) ++ l) (flat_other k block h ds none) ∙ append_assoc block (h d) (flat_map h ds))
    | inr other ↦
        let here : with_block k block h d ≡ h d = cond_both (k == d) (block ++ h d) (h d) (λ l. l ≡ h d) (λ e. absurd (other (eqb-true k d e))) (λ _. refl) in
        subst (λ l. IsPermutation (l ++ flat_map (with_block k block h) ds) (block ++ (h d ++ flat_map h ds))) (sym here)
        (IsPermutation-trans (h d ++ flat_map (with_block k block h) ds) (h d ++ (block ++ flat_map h ds)) (block ++ (h d ++ flat_map h ds))
        (IsPermutation-append_right (h d) _ _ (block_first k block h ds (sym (times_past k d ds other) ∙ one))) (moved_front (h d) block (flat_map h ds)))
  ]

  flat_none : (h : ℕ → List Y) (done : List ℕ) → ((q : ℕ) → h q ≡ []) → flat_map h done ≡ []
  flat_none h [] none = refl
  flat_none h (d ∷ ds) none = ap (λ l. l ++ flat_map h ds) (none d) ∙ flat_none h ds none

  pub flat_agree : {X : Type 0} (h k : X → List Y) (done : List X) → ((q : X) → h q ≡ k q) → flat_map h done ≡ flat_map k done
  flat_agree h k [] same = refl
  flat_agree h k (d ∷ ds) same = ap (λ l. l ++ flat_map h ds) (same d) ∙ ap (λ l. k d ++ l) (flat_agree h k ds same)

  -- what the entries of each number give, where each entry's number comes once
  pub by_parts : {E : Type 0} (key : E → ℕ) (f : E → List Y) (es : List E) (done : List ℕ) → ((e : E) → times (key e) done ≡ 1)
      → IsPermutation (flat_map (λ q. flat_map f (filter (λ e. key e == q) es)) done) (flat_map f es)
  by_parts key f [] done once = perm_same _ _ (flat_none (λ q. flat_map f (filter (λ e. key e == q) [])) done (λ q. refl))
  by_parts key f (e ∷ es) done once =
      let h : ℕ → List Y = λ q. flat_map f (filter (λ x. key x == q) es) in
      let same : flat_map (λ q. flat_map f (filter (λ x. key x == q) (e ∷ es))) done ≡ flat_map (with_block (key e) (f e) h) done =
      flat_agree (λ q. flat_map f (filter (λ x. key x == q) (e ∷ es))) (with_block (key e) (f e) h) done (λ q. cond_both (key e == q) (e ∷ filter (λ x. key x == q) es) (filter (λ x. key x == q) es)
      (λ l. flat_map f l ≡ with_block (key e) (f e) h q) (λ on. sym (cond-true (key e == q) (f e ++ h q) (h q) on)) (λ off. sym (cond-false (key e == q) (f e ++ h q) (h q) off))) in
      subst (λ l. IsPermutation l (f e ++ flat_map f es)) (sym same)
      (IsPermutation-trans (flat_map (with_block (key e) (f e) h) done) (f e ++ flat_map h done) (f e ++ flat_map f es) (block_first (key e) (f e) h done (once e))
      (IsPermutation-append_right (f e) _ _ (by_parts key f es done once)))
