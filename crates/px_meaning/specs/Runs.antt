-- How a run goes on and ends, for what stands for a state.
use Rattle.std.specs.Prelude.{◌≡◌, ℕ, ◌+◌, ◌-◌}
use Rattle.px_meaning.specs.Meaning.{Halted, run}
use Rattle.px_meaning.specs.Program.{ProgramMeaning}
use Rattle.px_meaning.specs.Step.{State}

-- the run from the state on comes to a halted state, for which this stands
pub record HasHalted (p : ProgramMeaning) (room most : ℕ) (s : State) (Stands : State → Type 0) : Type 0 where
  pub state : State
  pub halted : run p room most s ≡ Halted state
  pub stands : Stands state

-- so many steps of the run were taken, and this stands for the state that they led to
pub record HasRun (p : ProgramMeaning) (room most taken : ℕ) (s : State) (Stands : State → Type 0) : Type 0 where
  pub state : State
  pub same : run p room most s ≡ run p room (most - taken) state
  pub superstep_is : state.superstep ≡ s.superstep + taken
  pub stands : Stands state
