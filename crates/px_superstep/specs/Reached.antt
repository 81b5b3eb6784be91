-- The states of a run, one after the other.
use Rattle.std.specs.Prelude.{ℕ, zero, suc, Bool, true, false, List, [], ◌∷◌, Option, Some, None}
use Rattle.px_meaning.specs.GraphText as text
use Rattle.px_meaning.specs.GraphText.{TextMeaning}
use Rattle.px_meaning.specs.Meaning.{first_state, is_halted}
use Rattle.px_meaning.specs.Program.{ProgramMeaning}
use Rattle.px_meaning.specs.Step.{State, step}

-- none from a halted state on, and none where the step is beyond the limits
abbrev pub after_step : Bool → Option State → (State → List State) → List State
after_step true next more = []
after_step false None more = []
after_step false (Some t) more = t ∷ more t

-- those that the steps lead to from this state on until one is halted, at most so many
abbrev pub reached : ProgramMeaning → ℕ → ℕ → State → List State
reached p room zero s = []
reached p room (suc n) s = after_step (is_halted s) (step p room s) (λ t. reached p room n t)

-- and those of a text's run: none where the text is refused
abbrev pub reached_of_text : ProgramMeaning → ℕ → ℕ → TextMeaning → List State
reached_of_text p room most (text.Bad line kind) = []
reached_of_text p room most (text.Twice v) = []
reached_of_text p room most (text.Good graph) = reached p room most (first_state p graph)
