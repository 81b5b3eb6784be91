-- One vertex more is counted.
use Rattle.std.proofs.Common.{◌≡◌, ◌<◌, ◌≤◌, ℕ, suc, ◌+◌, ◌^◌, Bool, true, false, List, [], ◌∷◌, ◌++◌, length, filter, sym, ◌∙◌, ap, refl, subst, arith, inl, inr, append_assoc, length-append}
use Rattle.std.specs.Prelude.{not, if◌then◌else◌, slice_index_or}
use Rattle.std.proofs.lemmas.Bool.{cases_eq}
use Rattle.std.proofs.lemmas.List.{append-nil}
use Rattle.px_core.specs.Parts.{to_part}
use Rattle.px_meaning.specs.Graph.{Graph, Vertex}
use Rattle.px_global_state.specs.States.{awake_in}
use Rattle.px_store.specs.Desks.{GivesNext}
use Rattle.px_mutations.specs.declared.applying.Tally.{Tally}
use Rattle.px_superstep.specs.Counting.{IsCounted, CountsOf, AreCounted, no_tally}

awake_most : (g : Graph) → awake_in g ≤ length g
awake_most [] = omega arith
awake_most (e ∷ es) = (elim (not e.1.halt) as (λ b. length (if b then e ∷ filter (λ e. not e.1.halt) es else filter (λ e. not e.1.halt) es) ≤ suc (length es)) [
  | true ↦ (let most = awake_most es in omega (arith, most))
  | false ↦ (let most = awake_most es in omega (arith, most))
])

one_awake : (b : Bool) (e : ℕ × Vertex) → length (if not b then e ∷ [] else []) ≡ (if b then 0 else 1)
one_awake true e = refl
one_awake false e = refl

awake_last : (g : Graph) (v : ℕ) (x : Vertex) → awake_in (g ++ (v, x) ∷ []) ≡ awake_in g + (if x.halt then 0 else 1)
awake_last [] v x = let one = one_awake x.halt (v, x) in omega (arith, one)
awake_last (e ∷ es) v x = (elim (not e.1.halt) as (λ b. length (if b then e ∷ filter (λ e. not e.1.halt) (es ++ (v, x) ∷ []) else filter (λ e. not e.1.halt) (es ++ (v, x) ∷ []))
    ≡ length (if b then e ∷ filter (λ e. not e.1.halt) es else filter (λ e. not e.1.halt) es) + (if x.halt then 0 else 1)) [
      | true ↦ (let last = awake_last es v x in omega (arith, last))
      | false ↦ awake_last es v x
    ])

pub counts_first : (gives : Graph → Graph → Type 0) (tally : Tally) (l : Graph) → tally.count ≡ 0 → tally.live ≡ 0 → gives [] l → CountsOf gives tally l
counts_first gives tally l none none_live h = record { past = []; rest = l; is = refl; to_give = h; counted = record { count = λ low. none; live = λ low. none_live } }

pub counts_next : (Gave Gives : Graph → Graph → Type 0) (tally now : Tally) (v : ℕ) (x : Vertex) (l : Graph) → ((a b : Graph) → Gave a b → GivesNext true v x a b Gives)
    → (tally.count + 1 < 2 ^ 64 → now.count ≡ tally.count + 1) → (tally.live + 1 < 2 ^ 64 → now.live ≡ tally.live + (if x.halt then 0 else 1)) → CountsOf Gave tally l → CountsOf Gives now l
counts_next Gave Gives tally now v x l give count live c =
    let n = give c.past c.rest c.to_give in
    let long = length-append c.past ((v, x) ∷ []) in
    record {
      past = c.past ++ (v, x) ∷ [];
      rest = n.0;
      is = c.is ∙ ap (λ (g : Graph). c.past ++ g) n.1 ∙ sym (append_assoc c.past ((v, x) ∷ []) n.0);
      to_give = n.2;
      counted = record {
        count = λ low. (let was = c.counted.count (omega (arith, low, long)) in let next = count (omega (arith, low, long, was)) in omega (arith, next, was, long));
        live = λ low.
            (let was = c.counted.live (omega (arith, low, long)) in
            let most = awake_most c.past in
            let next = live (omega (arith, low, long, was, most)) in
            next ∙ ap (λ n. n + (if x.halt then 0 else 1)) was ∙ sym (awake_last c.past v x));
      };
    }

pub counts_over : (Gave Gives : Graph → Graph → Type 0) (tally : Tally) (v : ℕ) (x : Vertex) (l : Graph) → ((a b : Graph) → Gave a b → GivesNext false v x a b Gives) → CountsOf Gave tally l → Gives l []
counts_over Gave Gives tally v x l give c =
    let n = give c.past c.rest c.to_give in
    subst (λ (g : Graph). Gives g []) (sym (c.is ∙ ap (λ (g : Graph). c.past ++ g) n.0 ∙ append-nil c.past)) n.1

pub counts_all : (Gave Gives : Graph → Graph → Type 0) (tally : Tally) (v : ℕ) (x : Vertex) (l : Graph) → ((a b : Graph) → Gave a b → GivesNext false v x a b Gives) → CountsOf Gave tally l → IsCounted tally l
counts_all Gave Gives tally v x l give c =
    let n = give c.past c.rest c.to_give in
    subst (IsCounted tally) (sym (c.is ∙ ap (λ (g : Graph). c.past ++ g) n.0 ∙ append-nil c.past)) c.counted

-- one more partition was counted
pub counted_next : (parts q : ℕ) (old new : List Tally) (tally : Tally) (g : Graph) → slice_index_or new q no_tally ≡ tally → ((i : ℕ) → (i ≡ q → ⊥) → slice_index_or new i no_tally ≡ slice_index_or old i no_tally)
    → IsCounted tally (to_part parts q g) → AreCounted old parts q g → AreCounted new parts (q + 1) g
counted_next parts q old new tally g at others mine h = record {
  each = λ i low. elim (cases_eq i q) [
    | inl e ↦ subst (λ (k : ℕ). IsCounted (slice_index_or new k no_tally) (to_part parts k g)) (sym e) (subst (λ (t : Tally). IsCounted t (to_part parts q g)) (sym at) mine)
    | inr ne ↦ subst (λ (t : Tally). IsCounted t (to_part parts i g)) (sym (others i ne)) (h.each i (omega (arith, low, ne)))
  ];
}
