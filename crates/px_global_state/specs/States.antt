-- The global state, and what a compute phase adds to it.
use Rattle.std.specs.Prelude.{◌≡◌, ℕ, not, length, filter, ◌+◌}
use Rattle.px_meaning.specs.Graph.{Graph}
use Rattle.px_meaning.specs.Program.{ProgramMeaning, Moment}
use Rattle.px_meaning.specs.Step.{State}
use Rattle.px_global_state.specs.declared.gs.Gs.{Gs}
use Rattle.px_global_state.specs.declared.part.Part.{Part}

-- the number of vertices that have not voted to halt
abbrev pub awake_in : Graph → ℕ
awake_in graph = length (filter (λ e. not e.1.halt) graph)

-- the numbers of a state
pub record IsGs (gs : Gs) (s : State) : Type 0 where
  pub superstep : gs.superstep ≡ s.superstep
  pub aggregate : gs.aggregate ≡ s.aggregate
  pub live : gs.live ≡ awake_in s.graph
  pub count : gs.count ≡ length s.graph
  pub in_flight : gs.in_flight ≡ length s.sends

-- what a vertex is told of a state
abbrev pub moment_of : Gs → Moment
moment_of gs = record { superstep = gs.superstep; aggregate = gs.aggregate; count = gs.count }

-- nothing was made yet
abbrev pub no_part : ProgramMeaning → Part
no_part p = record { sends = 0; requests = 0; contributed = p.unit }

-- what two partitions made
abbrev pub joined_part : ProgramMeaning → Part → Part → Part
joined_part p a b = record { sends = a.sends + b.sends; requests = a.requests + b.requests; contributed = p.join a.contributed b.contributed }
