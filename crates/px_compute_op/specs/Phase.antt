-- The compute phase of one partition.
use Rattle.std.specs.Prelude.{◌≡◌, ◌⊎◌, ◌+◌, ℕ, Bool, ◌||◌, List, [], ◌++◌, false, fold, length}
use Rattle.std.specs.List.{AllByRecursion}
use Rattle.px_core.specs.Same.{Apart}
use Rattle.px_frames.specs.Buffer.{SameRoom as SameBuf}
use Rattle.px_meaning.specs.Graph.{Vertex, room_of}
use Rattle.px_meaning.specs.Merge.{MergeRule, Pairs, IsValidMessage, grouped}
use Rattle.px_meaning.specs.Program.{ProgramMeaning, Row}
use Rattle.px_meaning.specs.Step.{Computed, has_wide_vertex, are_beyond}
use Rattle.px_pages.specs.Entry.{Entry}
use Rattle.px_record.specs.Body.{IsVertex}
use Rattle.px_program.specs.Groups.{GroupMade, IsOwn}
use Rattle.px_program.specs.Phase.{with_all}
use Rattle.px_program.specs.Posted.{Posted, nothing, asks_too_much}
use Rattle.px_connectors.specs.Asking.{IsRequestFile}
use Rattle.px_connectors.specs.Views.{IsSenderFile, IsConnectorFile}
use Rattle.px_store.specs.Desks.{SameRoom}
use Rattle.px_store.specs.Joins.{IsInput, vertex_tuples}
use Rattle.px_store.specs.declared.join.Inputs.{Inputs}
use Rattle.px_global_state.specs.declared.part.Part.{Part}
use Rattle.px_compute_op.specs.declared.phase.Bench.{Bench}
use Rattle.px_compute_op.specs.Outs.{IsOutFile}

-- the files that the rows of a partition change
abbrev pub IsRunFile : GroupMade → ℕ → ℕ → Type 0
IsRunFile made updates f = IsOutFile made f ⊎ (f ≡ updates)

-- the files of a group and of a sender
abbrev pub OwnOrSent : GroupMade → ℕ → ℕ → Type 0
OwnOrSent made sender f = IsOwn made f ⊎ IsSenderFile sender f

-- the files that a partition's phase changes
abbrev pub IsPhaseFile : GroupMade → ℕ → ℕ → ℕ → Type 0
IsPhaseFile made updates sender f = IsRunFile made updates f ⊎ IsSenderFile sender f

-- and those that it reads, of which nothing is told after a read failed
abbrev pub OrInput : Inputs → (ℕ → Type 0) → ℕ → Type 0
OrInput ins mine f = mine f ⊎ IsInput ins f

-- the files of a phase are different ones: the group's, that of the updates, those of requests and of senders, and those that the join reads
pub record AreApart (made : GroupMade) (updates : ℕ) (ins : Inputs) : Type 0 where
  pub group_requests : Apart (IsOwn made) IsRequestFile
  pub group_senders : Apart (IsOwn made) IsConnectorFile
  pub group_updates : IsOwn made updates → ⊥
  pub updates_requests : IsRequestFile updates → ⊥
  pub updates_senders : IsConnectorFile updates → ⊥
  pub inputs_group : Apart (IsInput ins) (IsOwn made)
  pub inputs_requests : Apart (IsInput ins) IsRequestFile
  pub inputs_updates : IsInput ins updates → ⊥

-- what a phase works with fits pages of this length
pub record IsBench {G : Type 0} (made : G → GroupMade) (len : ℕ) (b : Bench G) : Type 0 where
  pub group_len : (made b.group).frame_len ≡ len
  pub updates_len : b.updates.page_len ≡ len
  pub vertex_len : b.vertex.frame_len ≡ len
  pub room : b.vertex.room ≡ room_of len
  pub limit : 13 + b.message.limit ≡ room_of len
  pub spare : 13 + b.spare.limit ≡ room_of len

-- what no phase changes of it
pub record SameBench {G : Type 0} (made : G → GroupMade) (old new : Bench G) : Type 0 where
  pub group : made new.group ≡ made old.group
  pub updates_file : new.updates.file ≡ old.updates.file
  pub updates_len : new.updates.page_len ≡ old.updates.page_len
  pub vertex : SameRoom old.vertex new.vertex
  pub message : SameBuf old.message new.message
  pub spare : SameBuf old.spare new.spare

-- each row's message is valid
abbrev pub HaveValidMessages : MergeRule → List Row → Type 0
HaveValidMessages rule rows = AllByRecursion (λ r. IsValidMessage rule r.message) rows

-- the rows of a partition are ready: the join has these to give, and nothing is taken yet
pub record Begun (rule : MergeRule) (giving : List Row → Type 0) (updating : List Entry → Type 0) (grouping : Pairs → Type 0) (rows : List Row) : Type 0 where
  pub gives : giving rows
  pub valid : HaveValidMessages rule rows
  pub updates : updating []
  pub group : grouping []

-- what a partition computes is beyond the limits: a new vertex is above room, a vid's fold of sends or a request by itself is, or there are too many of either
abbrev pub is_part_beyond : ProgramMeaning → ℕ → Computed → Bool
is_part_beyond p room c = has_wide_vertex room c.changes || (are_beyond p.message room c.sends || asks_too_much room c.requests)

-- the numbers of what was computed
pub record IsPart (p : ProgramMeaning) (c : Computed) (part : Part) : Type 0 where
  pub sends : part.sends ≡ length c.sends
  pub requests : part.requests ≡ length c.requests
  pub contributed : part.contributed ≡ fold p.join p.unit c.contributions

-- new vertices, each of which a frame has held
abbrev pub AreStored : List (ℕ × Vertex) → Type 0
AreStored changes = AllByRecursion (λ (e : ℕ × Vertex). IsVertex e.1) changes

-- a partition's phase is over: its numbers, its updates, the fold of what it sends to each vid, and its requests behind those before
pub record HasRun (p : ProgramMeaning) (room : ℕ) (c : Computed) (updating : List Entry → Type 0) (sending asking : Pairs → Type 0) (before : Pairs) (part : Part) : Type 0 where
  pub numbers : IsPart p c part
  pub updates : updating (vertex_tuples c.changes)
  pub sends : sending (grouped p.message c.sends)
  pub requests : asking (before ++ c.requests)
  pub stored : AreStored c.changes
  pub fits : is_part_beyond p room c ≡ false

-- all rows were computed: the updates took the new vertices, each within room, and the rest was taken
pub record AreComputed (room : ℕ) (updating : List Entry → Type 0) (taking : Posted → Type 0) (c : Computed) : Type 0 where
  pub updates : updating (vertex_tuples c.changes)
  pub taken : taking (with_all c nothing)
  pub stored : AreStored c.changes
  pub fit : has_wide_vertex room c.changes ≡ false
