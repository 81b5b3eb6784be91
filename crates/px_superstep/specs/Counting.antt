-- Vertices are counted.
use Rattle.std.specs.Prelude.{◌≡◌, ◌<◌, ℕ, ◌^◌, List, [], ◌++◌, length, slice_index_or}
use Rattle.px_core.specs.Parts.{to_part}
use Rattle.px_meaning.specs.Graph.{Graph}
use Rattle.px_global_state.specs.States.{awake_in}
use Rattle.px_mutations.specs.declared.applying.Tally.{Tally}

-- the numbers of a graph, where a counter can hold them
pub record IsCounted (tally : Tally) (graph : Graph) : Type 0 where
  pub count : length graph < 2 ^ 64 → tally.count ≡ length graph
  pub live : length graph < 2 ^ 64 → tally.live ≡ awake_in graph

-- a store gave the first vertices of a graph, which were counted, and will give the others
pub record CountsOf (gives : Graph → Graph → Type 0) (tally : Tally) (graph : Graph) : Type 0 where
  pub past : Graph
  pub rest : Graph
  pub is : graph ≡ past ++ rest
  pub to_give : gives past rest
  pub counted : IsCounted tally past

-- nothing was counted
abbrev pub no_tally : Tally
no_tally = record { count = 0; live = 0; vid_pages = 0 }

-- the first partitions were counted
pub record AreCounted (tallies : List Tally) (parts n : ℕ) (graph : Graph) : Type 0 where
  pub each : (q : ℕ) → q < n → IsCounted (slice_index_or tallies q no_tally) (to_part parts q graph)
