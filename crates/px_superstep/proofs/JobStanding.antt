-- What a job stands for, told of the parts of which it was lent.
use Rattle.std.proofs.Common.{◌≡◌, ℕ, Bool, List, length, take, sym, subst}
use Rattle.px_core.specs.Shown.{Shown}
use Rattle.px_meaning.specs.Graph.{Graph}
use Rattle.px_meaning.specs.Program.{ProgramMeaning}
use Rattle.px_meaning.specs.Step.{State}
use Rattle.px_global_state.specs.declared.gs.Gs.{Gs}
use Rattle.px_mutations.specs.declared.applying.Tally.{Tally}
use Rattle.px_superstep.specs.Steps.{StandsFor}

-- equal stores, numbers and room stand for the same
pub stands_here : {X : Type 0} (p : ProgramMeaning) (room room' : ℕ) (probing : Bool) (h : X → Graph → Type 0) (xs ys : List X) (n : ℕ) (t : Shown) (ms ms' : List ℕ) (ts ts' : List Tally) (gs : Gs) (s : State)
    → room' ≡ room → ys ≡ xs → length xs ≡ n → ms' ≡ ms → ts' ≡ ts
    → StandsFor p room probing h xs t (take n ms) (take n ts) gs s → StandsFor p room' probing h ys t (take (length ys) ms') (take (length ys) ts') gs s
stands_here p room room' probing h xs ys n t ms ms' ts ts' gs s rooms stores count msgs tallies st =
    subst (λ (r : ℕ). StandsFor p r probing h ys t (take (length ys) ms') (take (length ys) ts') gs s) (sym rooms)
    (subst (λ (l : List _). StandsFor p room probing h l t (take (length l) ms') (take (length l) ts') gs s) (sym stores)
    (subst (λ (m : List ℕ). StandsFor p room probing h xs t (take (length xs) m) (take (length xs) ts') gs s) (sym msgs)
    (subst (λ (u : List Tally). StandsFor p room probing h xs t (take (length xs) ms) (take (length xs) u) gs s) (sym tallies)
    (subst (λ (k : ℕ). StandsFor p room probing h xs t (take k ms) (take k ts) gs s) (sym count) st))))

pub stands_same : {X : Type 0} (p : ProgramMeaning) (room : ℕ) (probing : Bool) (h : X → Graph → Type 0) (xs : List X) (t : Shown) (ms ms' : List ℕ) (ts ts' : List Tally) (gs : Gs) (s : State)
    → ms' ≡ ms → ts' ≡ ts → StandsFor p room probing h xs t ms ts gs s → StandsFor p room probing h xs t ms' ts' gs s
stands_same p room probing h xs t ms ms' ts ts' gs s msgs tallies st =
    subst (λ (m : List ℕ). StandsFor p room probing h xs t m ts' gs s) (sym msgs)
    (subst (λ (u : List Tally). StandsFor p room probing h xs t ms u gs s) (sym tallies) st)
