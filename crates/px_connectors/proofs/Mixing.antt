-- What was given by turns, and what is left of each sender, are the whole in some order.
use Rattle.std.proofs.Common.{◌≡◌, ℕ, zero, suc, ◌<◌, ◌≤◌, List, [], ◌∷◌, ◌++◌, IsTrue, IsPermutation, sym, ◌∙◌, ap, subst, refl, inl, inr, arith}
use Rattle.std.specs.Prelude.{nat_lt}
use Rattle.std.specs.List.{list_any}
use Rattle.std.proofs.lemmas.Bool.{cases_eq, cond-true, cond-false, eq-eqb, ne_eqb, and_parts}
use Rattle.std.proofs.lemmas.Grind.{flat_map-append}
use Rattle.std.proofs.lemmas.List.{append-nil}
use Rattle.std.proofs.lemmas.List.Sorted.{IsPermutation-refl, IsPermutation-middle, IsPermutation-append, IsPermutation-pop_more}
use Rattle.px_core.specs.Parts.{upto, all_of}
use Rattle.px_meaning.specs.Graph.{pair_size}
use Rattle.px_meaning.specs.Merge.{MergeRule, MergeLaws, Pairs, AllValid}
use Rattle.px_meaning.specs.Step.{has_wide_fold}
use Rattle.px_meaning.proofs.Inbox.{AllValid-parts}
use Rattle.px_meaning.proofs.Limits.{wide_with_more}
use Rattle.px_meaning.proofs.Rearranged.{AllValid-IsPermutation, grouped-IsPermutation}
use Rattle.px_program.specs.Groups.{LeadsPair}
use Rattle.px_connectors.specs.Views as views

-- one sender more
all_of_next : (n : ℕ) (ls : ℕ → Pairs) → all_of (suc n) ls ≡ all_of n ls ++ ls n
all_of_next n ls = flat_map-append ls (upto n) (n ∷ []) ∙ ap (λ (l : Pairs). all_of n ls ++ l) (append-nil (ls n))

-- where no sender has any, all have none
pub all_of_none : (n : ℕ) (ls : ℕ → Pairs) → ((p : ℕ) → p < n → ls p ≡ []) → all_of n ls ≡ []
all_of_none zero ls none = refl
all_of_none (suc n) ls none =
    all_of_next n ls ∙ ap (λ (l : Pairs). l ++ ls n) (all_of_none n ls (λ p lt. none p (omega (arith, lt)))) ∙ none n (omega arith)

at_same : (p : ℕ) (l : Pairs) (ls : ℕ → Pairs) (q : ℕ) → q ≡ p → views.at p l ls q ≡ l
at_same p l ls q is = cond-true _ l (ls q) (eq-eqb q p is)

at_other : (p : ℕ) (l : Pairs) (ls : ℕ → Pairs) (q : ℕ) → (q ≡ p → ⊥) → views.at p l ls q ≡ ls q
at_other p l ls q other = cond-false _ l (ls q) (ne_eqb q p other)

all_of_above : (n p : ℕ) (l : Pairs) (ls : ℕ → Pairs) → n ≤ p → all_of n (views.at p l ls) ≡ all_of n ls
all_of_above zero p l ls up = refl
all_of_above (suc n) p l ls up =
    all_of_next n (views.at p l ls) ∙ ap (λ (k : Pairs). k ++ views.at p l ls n) (all_of_above n p l ls (omega (arith, up))) ∙ ap (λ (k : Pairs). all_of n ls ++ k) (at_other p l ls n (λ is. omega (arith, up, is)))
    ∙ sym (all_of_next n ls)

-- the first of one sender's is taken out
pub all_of_lead : (n p : ℕ) (ls : ℕ → Pairs) (x : ℕ × List ℕ) (rest : Pairs) → p < n → ls p ≡ x ∷ rest → IsPermutation (all_of n ls) (x ∷ all_of n (views.at p rest ls))
all_of_lead zero p ls x rest lt is = absurd (omega (arith, lt))
all_of_lead (suc n) p ls x rest lt is =
    let ks = views.at p rest ls in
    subst (λ (l : Pairs). IsPermutation l (x ∷ all_of (suc n) ks)) (sym (all_of_next n ls)) (subst (λ (l : Pairs). IsPermutation (all_of n ls ++ ls n) (x ∷ l)) (sym (all_of_next n ks))
    (elim (cases_eq n p) [
      | inl e ↦
          let here : ls n ≡ x ∷ rest = ap ls e ∙ is in
          let now : ks n ≡ rest = at_same p rest ls n e in
          let before : all_of n ks ≡ all_of n ls = all_of_above n p rest ls (omega (arith, e)) in
          subst (λ (l : Pairs). IsPermutation (all_of n ls ++ l) (x ∷ (all_of n ks ++ ks n))) (sym here)
          (subst (λ (l : Pairs). IsPermutation (all_of n ls ++ x ∷ rest) (x ∷ (l ++ ks n))) (sym before)
          (subst (λ (l : Pairs). IsPermutation (all_of n ls ++ x ∷ rest) (x ∷ (all_of n ls ++ l))) (sym now) (IsPermutation-middle (all_of n ls) x rest)))
      | inr other ↦
          let same : ks n ≡ ls n = at_other p rest ls n other in
          subst (λ (l : Pairs). IsPermutation (all_of n ls ++ ls n) (x ∷ (all_of n ks ++ l))) (sym same)
          (IsPermutation-append (all_of n ls) (x ∷ all_of n ks) (ls n) (ls n) (all_of_lead n p ls x rest (omega (arith, lt, other)) is) (IsPermutation-refl (ls n)))
    ]))

-- what a group took, and what the senders have still to give
pub record Mixing (T : Pairs → Type 0) (G : (ℕ → Pairs) → Type 0) (parts : ℕ) (ls : ℕ → Pairs) : Type 0 where
  pub done : Pairs
  pub rest : ℕ → Pairs
  pub took : T done
  pub gives : G rest
  pub mixed : IsPermutation (all_of parts ls) (done ++ all_of parts rest)

pub mixing_first : (T : Pairs → Type 0) (G : (ℕ → Pairs) → Type 0) (parts : ℕ) (ls : ℕ → Pairs) → T [] → G ls → Mixing T G parts ls
mixing_first T G parts ls took gives = record { done = []; rest = ls; took = took; gives = gives; mixed = IsPermutation-refl (all_of parts ls) }

-- the next pair, and what the senders have left behind it
abbrev pub NextPair : ((ℕ → Pairs) → Type 0) → ((ℕ → Pairs) → Type 0) → ℕ → ℕ → List ℕ → Type 0
NextPair G G' parts v bytes = (ks : ℕ → Pairs) → G ks → (p : ℕ) × (p < parts) × LeadsPair v bytes (ks p) (λ l. G' (views.at p l ks))

-- whether a fold is wide depends on no order
pub wide_same : (rule : MergeRule) → MergeLaws rule → (room : ℕ) (xs ys : Pairs) → IsPermutation xs ys → AllValid rule xs → has_wide_fold rule room xs ≡ has_wide_fold rule room ys
wide_same rule laws room xs ys mixed valid = ap (λ (l : Pairs). list_any (λ e. nat_lt room (pair_size e.1)) l) (grouped-IsPermutation rule laws xs ys mixed valid)

module _ (rule : MergeRule) (laws : MergeLaws rule) (parts : ℕ) (ls : ℕ → Pairs) (valid : AllValid rule (all_of parts ls)) where
  -- it is valid, and stands among all
  pub record Led (G' : (ℕ → Pairs) → Type 0) (v : ℕ) (bytes : List ℕ) (done : Pairs) : Type 0 where
    pub rest : ℕ → Pairs
    pub gives : G' rest
    pub good : IsTrue (rule.valid bytes)
    pub mixed : IsPermutation (all_of parts ls) ((done ++ (v, bytes) ∷ []) ++ all_of parts rest)

  pub led : (T : Pairs → Type 0) (G G' : (ℕ → Pairs) → Type 0) (v : ℕ) (bytes : List ℕ) → NextPair G G' parts v bytes → (i : Mixing T G parts ls) → Led G' v bytes i.done
  led T G G' v bytes next i =
      let n = next i.rest i.gives in
      let lead = n.2 in
      let one = all_of_lead parts n.0 i.rest (v, bytes) lead.rest n.1 lead.is in
      let left = (AllValid-parts rule i.done (all_of parts i.rest) (AllValid-IsPermutation rule laws (all_of parts ls) (i.done ++ all_of parts i.rest) i.mixed valid)).1 in
      let out = AllValid-IsPermutation rule laws (all_of parts i.rest) ((v, bytes) ∷ all_of parts (views.at n.0 lead.rest i.rest)) one left in
      record {
        rest = views.at n.0 lead.rest i.rest;
        gives = lead.after;
        good = (and_parts (rule.valid bytes) _ out).0;
        mixed = IsPermutation-pop_more (all_of parts ls) i.done (all_of parts i.rest) (all_of parts (views.at n.0 lead.rest i.rest)) (v, bytes) i.mixed one;
      }

  -- one pair is given and added
  pub mixing_next : (T T' T'' : Pairs → Type 0) (G G' G'' : (ℕ → Pairs) → Type 0) (v : ℕ) (bytes : List ℕ) → NextPair G G' parts v bytes → ((k : Pairs) → T k → T' k)
      → ((k : Pairs) → IsTrue (rule.valid bytes) → T' k → T'' (k ++ (v, bytes) ∷ [])) → ((ks : ℕ → Pairs) → G' ks → G'' ks) → Mixing T G parts ls → Mixing T'' G'' parts ls
  mixing_next T T' T'' G G' G'' v bytes next same takes still i =
      let l = led T G G' v bytes next i in
      record {
        done = i.done ++ (v, bytes) ∷ [];
        rest = l.rest;
        took = takes i.done l.good (same i.done i.took);
        gives = still l.rest l.gives;
        mixed = l.mixed;
      }

  -- a pair that makes some fold too wide makes it so among all pairs
  pub mixing_beyond : (room : ℕ) (T T' : Pairs → Type 0) (G G' : (ℕ → Pairs) → Type 0) (v : ℕ) (bytes : List ℕ) → NextPair G G' parts v bytes → ((k : Pairs) → T k → T' k)
      → ((k : Pairs) → IsTrue (rule.valid bytes) → T' k → IsTrue (has_wide_fold rule room (k ++ (v, bytes) ∷ []))) → Mixing T G parts ls → IsTrue (has_wide_fold rule room (all_of parts ls))
  mixing_beyond room T T' G G' v bytes next same wide i =
      let l = led T G G' v bytes next i in
      let front : Pairs = i.done ++ (v, bytes) ∷ [] in
      let both = AllValid-parts rule front (all_of parts l.rest) (AllValid-IsPermutation rule laws (all_of parts ls) (front ++ all_of parts l.rest) l.mixed valid) in
      wide_same rule laws room (all_of parts ls) (front ++ all_of parts l.rest) l.mixed valid
      ∙ wide_with_more rule laws room front (all_of parts l.rest) both.0 both.1 (wide i.done l.good (same i.done i.took))

-- none is left to be given
pub mixing_end : (T T' : Pairs → Type 0) (G : (ℕ → Pairs) → Type 0) (parts : ℕ) (ls : ℕ → Pairs) → ((ks : ℕ → Pairs) → G ks → (p : ℕ) → p < parts → ks p ≡ []) → ((k : Pairs) → T k → T' k) → Mixing T G parts ls
    → (l : Pairs) × IsPermutation (all_of parts ls) l × T' l
mixing_end T T' G parts ls none same i =
    let all : i.done ++ all_of parts i.rest ≡ i.done = ap (λ (l : Pairs). i.done ++ l) (all_of_none parts i.rest (none i.rest i.gives)) ∙ append-nil i.done in
    (i.done, subst (IsPermutation (all_of parts ls)) all i.mixed, same i.done i.took)
