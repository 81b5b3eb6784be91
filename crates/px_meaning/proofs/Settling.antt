-- The graph after the changes and the requests of a superstep, as a map.
use Rattle.std.proofs.Common.{◌≡◌, ◌≢◌, ℕ, List, [], ◌∷◌, fold, Option, Some, None, sym, ◌∙◌, ap, refl, arith, inl, inr}
use Rattle.std.specs.Option.{option_or}
use Rattle.std.proofs.lemmas.Bool.{cases_eq}
use Rattle.px_meaning.specs.Graph.{Vertex, Graph, lookup, put, IsMap}
use Rattle.px_meaning.specs.Merge.{Pairs, inbox, grouped}
use Rattle.px_meaning.specs.Program.{ProgramMeaning, Settlement, Keeps, Sets, Removes}
use Rattle.px_meaning.specs.Step.{put_all, settle, settled}
use Rattle.px_meaning.proofs.Maps.{lookup_here, lookup_past, lookup_below, lookup-put_same, lookup-put_other, lookup-delete_same, lookup-delete_other, IsMap-put, IsMap-delete}
use Rattle.px_meaning.proofs.Grouping.{IsMap-grouped, lookup-grouped}

-- a graph with vertices put into it is a map
pub IsMap-put_all : (g : Graph) (changes : List (ℕ × Vertex)) → IsMap g → IsMap (put_all g changes)
IsMap-put_all g [] m = m
IsMap-put_all g (e ∷ es) m = IsMap-put_all (put e.0 e.1 g) es (IsMap-put e.0 e.1 g m)

-- so is one with one vid settled
pub IsMap-settle : (v : ℕ) (what : Settlement) (g : Graph) → IsMap g → IsMap (settle v what g)
IsMap-settle v Keeps g m = m
IsMap-settle v (Sets x) g m = IsMap-put v x g m
IsMap-settle v Removes g m = IsMap-delete v g m

IsMap-settled_by : (p : ProgramMeaning) (g : Graph) (es : Pairs) → IsMap g → IsMap (fold (λ g e. settle e.0 (p.settle_of e.0 (lookup e.0 g) e.1) g) g es)
IsMap-settled_by p g [] m = m
IsMap-settled_by p g (e ∷ es) m = IsMap-settled_by p (settle e.0 (p.settle_of e.0 (lookup e.0 g) e.1) g) es (IsMap-settle e.0 (p.settle_of e.0 (lookup e.0 g) e.1) g m)

-- so is one with its requests settled
pub IsMap-settled : (p : ProgramMeaning) (g : Graph) (requests : Pairs) → IsMap g → IsMap (settled p g requests)
IsMap-settled p g requests m = IsMap-settled_by p g (grouped p.verdict requests) m

-- a vid has its new vertex where there is one, else the one that it had
pub lookup-put_all : (v : ℕ) (g : Graph) (changes : List (ℕ × Vertex)) → IsMap changes → lookup v (put_all g changes) ≡ option_or (lookup v changes) (lookup v g)
lookup-put_all v g [] m = refl
lookup-put_all v g (e ∷ es) m =
    lookup-put_all v (put e.0 e.1 g) es m.1 ∙ (elim (cases_eq v e.0) [
      | inl s ↦ ap (λ o. option_or o (lookup v (put e.0 e.1 g))) (lookup_below v e.0 es (omega arith) m.0)
          ∙ ap (λ k. lookup v (put k e.1 g)) (sym s) ∙ lookup-put_same v e.1 g ∙ ap (λ o. option_or o (lookup v g)) (sym (lookup_here v e es s))
      | inr d ↦ ap (option_or (lookup v es)) (lookup-put_other v e.0 e.1 g d) ∙ ap (λ o. option_or o (lookup v g)) (sym (lookup_past v e es d))
    ])

-- what a settlement leaves at its vid
abbrev pub after_settle : Settlement → Option Vertex → Option Vertex
after_settle Keeps o = o
after_settle (Sets x) o = Some x
after_settle Removes o = None

-- what the folded verdict of a vid leaves there, if it has one
abbrev pub settled_at : ProgramMeaning → ℕ → Option Vertex → Option (List ℕ) → Option Vertex
settled_at p v o None = o
settled_at p v o (Some m) = after_settle (p.settle_of v o m) o

-- a settlement acts on its vid
pub lookup-settle_same : (v : ℕ) (what : Settlement) (g : Graph) → lookup v (settle v what g) ≡ after_settle what (lookup v g)
lookup-settle_same v Keeps g = refl
lookup-settle_same v (Sets x) g = lookup-put_same v x g
lookup-settle_same v Removes g = lookup-delete_same v g

-- and on no other
pub lookup-settle_other : (v w : ℕ) (what : Settlement) (g : Graph) → v ≢ w → lookup v (settle w what g) ≡ lookup v g
lookup-settle_other v w Keeps g d = refl
lookup-settle_other v w (Sets x) g d = lookup-put_other v w x g d
lookup-settle_other v w Removes g d = lookup-delete_other v w g d

lookup-settled_by : (p : ProgramMeaning) (v : ℕ) (g : Graph) (es : Pairs) → IsMap es → lookup v (fold (λ g e. settle e.0 (p.settle_of e.0 (lookup e.0 g) e.1) g) g es) ≡ settled_at p v (lookup v g) (lookup v es)
lookup-settled_by p v g [] m = refl
lookup-settled_by p v g (e ∷ es) m =
    let what = p.settle_of e.0 (lookup e.0 g) e.1 in
    lookup-settled_by p v (settle e.0 what g) es m.1 ∙ (elim (cases_eq v e.0) [
      | inl s ↦ ap (settled_at p v (lookup v (settle e.0 what g))) (lookup_below v e.0 es (omega arith) m.0)
          ∙ ap (λ k. lookup k (settle e.0 what g)) s ∙ lookup-settle_same e.0 what g
          ∙ ap (λ k. after_settle (p.settle_of k (lookup k g) e.1) (lookup k g)) (sym s) ∙ ap (settled_at p v (lookup v g)) (sym (lookup_here v e es s))
      | inr d ↦ ap (λ o. settled_at p v o (lookup v es)) (lookup-settle_other v e.0 what g d) ∙ ap (settled_at p v (lookup v g)) (sym (lookup_past v e es d))
    ])

-- each vid is settled by the fold of its own verdicts alone
pub lookup-settled : (p : ProgramMeaning) (v : ℕ) (g : Graph) (requests : Pairs) → lookup v (settled p g requests) ≡ settled_at p v (lookup v g) (inbox p.verdict requests v)
lookup-settled p v g requests = lookup-settled_by p v g (grouped p.verdict requests) (IsMap-grouped p.verdict requests) ∙ ap (settled_at p v (lookup v g)) (lookup-grouped p.verdict requests v)
