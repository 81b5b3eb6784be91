-- Bits of what is ready, and the numbers of what is done.
use Rattle.std.proofs.Common.{◌≡◌, ◌<◌, ◌≤◌, ◌+◌, ◌^◌, ◌/◌, ℕ, zero, suc, List, [], ◌∷◌, ◌++◌, length, length-append, fold, sym, ◌∙◌, ap, subst, refl, inl, inr, arith}
use Rattle.std.proofs.lemmas.Bool.{cases_eq, cases_Bool, ltb-true, ltb-false}
use Rattle.std.proofs.lemmas.Grind.{flat_map-append}
use Rattle.std.proofs.lemmas.List.{append-nil}
use Rattle.std.proofs.lemmas.List.Sums.{fold-append}
use Rattle.std.specs.Int.{bit_at}
use Rattle.std.specs.Prelude.{flat_map, ◌%◌, nat_lt}
use Rattle.px_meaning.specs.Program.{ProgramMeaning, ProgramLaws}
use Rattle.px_meaning.specs.Step.{State}
use Rattle.px_global_state.specs.declared.part.Part.{Part}
use Rattle.px_global_state.specs.States.{joined_part}
use Rattle.px_compute_op.specs.Phase.{IsPart}
use Rattle.px_superstep.specs.Partial.{computed_at}
use Rattle.px_superstep.specs.Phases.{IsTotal}

-- how many of the lowest bits are set
abbrev pub bits_below : ℕ → ℕ → ℕ
bits_below zero n = 0
bits_below (suc k) n = bits_below k n + bit_at n k

bits_same : (k n m : ℕ) → ((i : ℕ) → i < k → bit_at m i ≡ bit_at n i) → bits_below k m ≡ bits_below k n
bits_same zero n m same = refl
bits_same (suc k) n m same = (let a = bits_same k n m (λ i lt. same i (omega (arith, lt))) in let b = same k (omega arith) in omega (arith, a, b))

-- one bit fewer
pub bits_fewer : (k n m q : ℕ) → q < k → bit_at n q ≡ 1 → bit_at m q ≡ 0 → ((i : ℕ) → i < k → (i ≡ q → ⊥) → bit_at m i ≡ bit_at n i) → bits_below k m + 1 ≡ bits_below k n
bits_fewer zero n m q lt on off same = absurd (omega (arith, lt))
bits_fewer (suc k) n m q lt on off same = elim (cases_eq k q) [
  | inl e ↦
      let a = bits_same k n m (λ i low. same i (omega (arith, low)) (λ is. absurd (omega (arith, is, e, low)))) in
      let on' : bit_at n k ≡ 1 = subst (λ j. bit_at n j ≡ 1) (sym e) on in
      let off' : bit_at m k ≡ 0 = subst (λ j. bit_at m j ≡ 0) (sym e) off in
      omega (arith, a, on', off')
  | inr other ↦ (let a = bits_fewer k n m q (omega (arith, lt, other)) on off (λ i low apart. same i (omega (arith, low)) apart) in let b = same k (omega arith) other in omega (arith, a, b))
]

pub bits_all : (k n : ℕ) → ((i : ℕ) → i < k → bit_at n i ≡ 1) → bits_below k n ≡ k
bits_all zero n on = refl
bits_all (suc k) n on = (let a = bits_all k n (λ i lt. on i (omega (arith, lt))) in let b = on k (omega arith) in omega (arith, a, b))

pub bits_none : (k n : ℕ) → bits_below k n ≡ 0 → (i : ℕ) → i < k → bit_at n i ≡ 0
bits_none zero n none i lt = absurd (omega (arith, lt))
bits_none (suc k) n none i lt = elim (cases_eq i k) [
  | inl e ↦ subst (λ j. bit_at n j ≡ 0) (sym e) (omega (arith, none))
  | inr other ↦ bits_none k n (omega (arith, none)) i (omega (arith, lt, other))
]

zero_bit : (k : ℕ) → bit_at 0 k ≡ 0
zero_bit k = omega arith

bits_zero : (k : ℕ) → bits_below k 0 ≡ 0
bits_zero zero = refl
bits_zero (suc k) = (let a = bits_zero k in let b = zero_bit k in omega (arith, a, b))

-- where some bit is set, the number is above 0
pub some_ready : (n ready turns : ℕ) → bits_below n ready + turns ≡ n → turns < n → 0 < ready
some_ready n zero turns is lt = (let a = bits_zero n in absurd (omega (arith, a, is, lt)))
some_ready n (suc r) turns is lt = omega arith

-- what is ready is one of the partitions
pub below_ready : (n ready q : ℕ) → ((k : ℕ) → n ≤ k → k < 32 → bit_at ready k ≡ 0) → q < 32 → bit_at ready q ≡ 1 → q < n
below_ready n ready q high within on = elim (cases_Bool (nat_lt q n)) [
  | inl below ↦ ltb-true q n below
  | inr off ↦ (let a = high q (ltb-false q n off) within in absurd (omega (arith, a, on)))
]

-- sums

module _ (p : ProgramMeaning) (laws : ProgramLaws p) where
  pull : (a b : ℕ) (xs : List ℕ) → fold p.join (p.join a b) xs ≡ p.join a (fold p.join b xs)
  pull a b [] = refl
  pull a b (x ∷ xs) = ap (λ k. fold p.join k xs) (sym (laws.join_associates a b x)) ∙ pull a (p.join b x) xs

  fold_parts : (a : ℕ) (xs : List ℕ) → a < 2 ^ 64 → fold p.join a xs ≡ p.join a (fold p.join p.unit xs)
  fold_parts a xs small = ap (λ k. fold p.join k xs) (sym (laws.join_unit a small) ∙ laws.join_commutes p.unit a) ∙ pull a p.unit xs

  -- the numbers with those of one more partition
  pub total_after : (parts : ℕ) (s : State) (total part : Part) (done : List ℕ) (q : ℕ) → total.contributed < 2 ^ 64 → IsTotal p parts s total done → IsPart p (computed_at p parts s q) part → IsTotal p parts s (joined_part p total part) (done ++ q ∷ [])
  total_after parts s total part done q small t is = record {
    sends = (let a = ap length (flat_map-append (λ k. (computed_at p parts s k).sends) done (q ∷ []) ∙ ap (λ l. flat_map (λ k. (computed_at p parts s k).sends) done ++ l) (append-nil (computed_at p parts s q).sends))
        in let b = length-append (flat_map (λ k. (computed_at p parts s k).sends) done) (computed_at p parts s q).sends in let e = t.sends in let f = is.sends in omega (arith, a, b, e, f));
    requests = (let a = ap length (flat_map-append (λ k. (computed_at p parts s k).requests) done (q ∷ []) ∙ ap (λ l. flat_map (λ k. (computed_at p parts s k).requests) done ++ l) (append-nil (computed_at p parts s q).requests))
        in let b = length-append (flat_map (λ k. (computed_at p parts s k).requests) done) (computed_at p parts s q).requests in let e = t.requests in let f = is.requests in omega (arith, a, b, e, f));
    contributed =
        let cs : ℕ → List ℕ = λ k. (computed_at p parts s k).contributions in
        ap (λ n. p.join total.contributed n) is.contributed ∙ sym (fold_parts total.contributed (cs q) small) ∙ ap (λ n. fold p.join n (cs q)) t.contributed
        ∙ sym (fold-append p.join p.unit (flat_map cs done) (cs q)) ∙ ap (fold p.join p.unit) (sym (flat_map-append cs done (q ∷ []) ∙ ap (λ l. flat_map cs done ++ l) (append-nil (cs q))));
  }
