-- A whole run: supersteps until the state is halted, a step is beyond the limits, or as many steps were taken as are allowed.
use Rattle.std.specs.Prelude.{ℕ, zero, suc, Bool, true, false, ◌&&◌, if◌then◌else◌, [], ◌∷◌, Some, None}
use Rattle.std.specs.List.{list_all}
use Rattle.px_meaning.specs.Graph.{Graph}
use Rattle.px_meaning.specs.Merge.{Pairs}
use Rattle.px_meaning.specs.Program.{ProgramMeaning}
use Rattle.px_meaning.specs.Step.{State, step}

abbrev pub has_no_pairs : Pairs → Bool
has_no_pairs [] = true
has_no_pairs (e ∷ es) = false

-- every vertex has voted to halt, and no message is in transit
abbrev pub is_halted : State → Bool
is_halted s = list_all (λ e. e.1.halt) s.graph && has_no_pairs s.sends

-- how a run ends: in a halted state, not halted after so many steps, or beyond the limits in the step to this superstep
pub data Outcome : Type 0 where
  Halted : State → Outcome
  Limit : ℕ → Outcome
  Beyond : ℕ → Outcome

-- from a state on, with so many steps left
abbrev pub run : ProgramMeaning → ℕ → ℕ → State → Outcome
run p room zero s = if is_halted s then Halted s else Limit s.superstep
run p room (suc n) s =
    elim (is_halted s) [
      | true ↦ Halted s
      | false ↦ elim (step p room s) [ None ↦ Beyond (suc s.superstep) | Some t ↦ run p room n t ]
    ]

abbrev pub first_state : ProgramMeaning → Graph → State
first_state p graph = record { superstep = 0; graph = graph; sends = []; aggregate = p.unit }

abbrev pub meaning : ProgramMeaning → ℕ → Graph → ℕ → Outcome
meaning p room graph n = run p room n (first_state p graph)
