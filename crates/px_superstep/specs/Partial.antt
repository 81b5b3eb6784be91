-- What one partition does in a superstep.
use Rattle.std.specs.Prelude.{ℕ, List, filter, ◌==◌}
use Rattle.px_core.specs.Parts.{to_part}
use Rattle.px_core.specs.Partition.{partition_of}
use Rattle.px_meaning.specs.Graph.{Graph}
use Rattle.px_meaning.specs.Merge.{Pairs, grouped}
use Rattle.px_meaning.specs.Program.{ProgramMeaning, Row}
use Rattle.px_meaning.specs.Step.{State, Computed, moment, computed}
use Rattle.px_store.specs.Joins.{rows_in}
use Rattle.px_mutations.specs.Applying.{settled_after}

-- its vertices, and the messages to them
abbrev pub graph_at : ℕ → State → ℕ → Graph
graph_at parts s q = to_part parts q s.graph

abbrev pub messages_at : ProgramMeaning → ℕ → State → ℕ → Pairs
messages_at p parts s q = to_part parts q (grouped p.message s.sends)

-- what it computes
abbrev pub computed_at : ProgramMeaning → ℕ → State → ℕ → Computed
computed_at p parts s q = computed p (moment s) (rows_in (graph_at parts s q) (messages_at p parts s q))

-- its rows among those of all
abbrev pub rows_at : ℕ → ℕ → List Row → List Row
rows_at parts q rows = filter (λ r. partition_of r.vid parts == q) rows

-- what a partition's store holds after the superstep, where these were requested of all
abbrev pub after_at : ProgramMeaning → ℕ → State → Pairs → ℕ → Graph
after_at p parts s asked q = settled_after p (graph_at parts s q) (computed_at p parts s q).changes (to_part parts q asked)
