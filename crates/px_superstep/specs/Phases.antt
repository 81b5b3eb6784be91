-- How far the compute phases of a superstep have come.
use Rattle.std.specs.Int.{bit_at}
use Rattle.std.specs.Prelude.{◌≡◌, ◌<◌, ℕ, ◌+◌, Bool, false, List, length, fold, flat_map, slice_get, Some, IsTrue}
use Rattle.px_core.specs.Shown.{Shown}
use Rattle.px_meaning.specs.Graph.{Graph}
use Rattle.px_meaning.specs.Merge.{MergeRule, Pairs, AllValid, grouped}
use Rattle.px_meaning.specs.Program.{ProgramMeaning}
use Rattle.px_meaning.specs.Step.{State, has_wide_vertex}
use Rattle.px_stream.specs.Stream.{Holds}
use Rattle.px_connectors.specs.Views.{ConnectorView}
use Rattle.px_store.specs.Joins.{AreInputs, vertex_tuples}
use Rattle.px_store.specs.declared.join.Inputs.{Inputs}
use Rattle.px_global_state.specs.declared.part.Part.{Part}
use Rattle.px_compute_op.specs.Phase.{AreStored, is_part_beyond}
use Rattle.px_superstep.specs.Files.{update_file}
use Rattle.px_superstep.specs.Parting.{times}
use Rattle.px_superstep.specs.Partial.{computed_at}

-- this holds of each place of a slice
abbrev pub Each : {X : Type 0} → List X → (ℕ → X → Type 0) → Type 0
Each xs holds = (q : ℕ) (x : _) → slice_get xs q ≡ Some x → holds q x

-- what no phase changes of a connector
pub record SameConnector (old new : ConnectorView) : Type 0 where
  pub parts : new.parts ≡ old.parts
  pub frame_len : new.frame_len ≡ old.frame_len
  pub size : new.size ≡ old.size
  pub frames : new.frames ≡ old.frames

-- a partition is ready to be computed: its store holds this graph and its files these messages to it, and so much was requested before
pub record IsReadyToCompute (rule : MergeRule) (probing : Bool) (holding : Graph → Type 0) (t : Shown) (ins : Inputs) (asking : Pairs → Type 0) (graph : Graph) (messages before : Pairs) : Type 0 where
  pub held : holding graph
  pub inputs : AreInputs probing t ins graph messages
  pub valid : AllValid rule messages
  pub asked : asking before

-- the compute phases of these partitions are over, in this order: each left its new vertices, stored and within room, its sender the fold of what it sends to each vid, and all of them what they request
pub record PhaseAt (p : ProgramMeaning) (room parts : ℕ) (sent : ℕ → Pairs → Type 0) (asking : Pairs → Type 0) (t : Shown) (update_pages : List ℕ) (s : State) (done : List ℕ) : Type 0 where
  pub updates : Each update_pages (λ q n. times q done ≡ 1 → Holds t (update_file q) n (vertex_tuples (computed_at p parts s q).changes))
  pub sends : (q : ℕ) → q < parts → times q done ≡ 1 → sent q (grouped p.message (computed_at p parts s q).sends)
  pub asked : asking (flat_map (λ q. (computed_at p parts s q).requests) done)
  pub stored : (q : ℕ) → q < parts → times q done ≡ 1 → AreStored (computed_at p parts s q).changes
  pub fit : (q : ℕ) → q < parts → times q done ≡ 1 → has_wide_vertex room (computed_at p parts s q).changes ≡ false

-- the numbers of what they made
pub record IsTotal (p : ProgramMeaning) (parts : ℕ) (s : State) (total : Part) (done : List ℕ) : Type 0 where
  pub sends : total.sends ≡ length (flat_map (λ q. (computed_at p parts s q).sends) done)
  pub requests : total.requests ≡ length (flat_map (λ q. (computed_at p parts s q).requests) done)
  pub contributed : total.contributed ≡ fold p.join p.unit (flat_map (λ q. (computed_at p parts s q).contributions) done)

-- some phases are over, and each of the other partitions is still ready
pub record Going (p : ProgramMeaning) (parts : ℕ) (s : State) (phase : List ℕ → Type 0) (total : Part) (ready : ℕ) : Type 0 where
  pub done : List ℕ
  pub reached : phase done
  pub numbers : IsTotal p parts s total done
  pub once : (k : ℕ) → k < parts → times k done + bit_at ready k ≡ 1

-- all are over, in some order
pub record HasComputed (p : ProgramMeaning) (parts : ℕ) (s : State) (phase : List ℕ → Type 0) (total : Part) : Type 0 where
  pub done : List ℕ
  pub reached : phase done
  pub numbers : IsTotal p parts s total done
  pub once : (k : ℕ) → k < parts → times k done ≡ 1

-- what some partition computes is beyond the limits
pub record IsPhaseBeyond (p : ProgramMeaning) (room parts : ℕ) (s : State) : Type 0 where
  pub q : ℕ
  pub below : q < parts
  pub beyond : IsTrue (is_part_beyond p room (computed_at p parts s q))
