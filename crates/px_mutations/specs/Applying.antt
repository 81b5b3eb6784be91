-- The settling of one partition.
use Rattle.std.specs.Prelude.{◌≡◌, ◌⊎◌, ◌≤◌, ◌+◌, ◌^◌, ℕ, Bool, ◌||◌, true, false, not, List, [], ◌++◌, filter, length, is_some}
use Rattle.std.specs.List.{AllByRecursion}
use Rattle.px_meaning.specs.Graph.{Graph, IsMap, lookup, vids, ascending}
use Rattle.px_meaning.specs.Merge.{Pairs, AllValid}
use Rattle.px_meaning.specs.Program.{ProgramMeaning}
use Rattle.px_meaning.specs.Step.{put_all, settled, is_awake, has_wide_vertex, has_wide_fold, has_many_vertices}
use Rattle.px_pages.specs.Entry.{Entry}
use Rattle.px_program.specs.Groups.{GroupMade, IsOwn}
use Rattle.px_record.specs.Body.{IsVertex}
use Rattle.px_store.specs.Joins.{vertex_tuples, vid_tuples}
use Rattle.px_connectors.specs.Asking.{requests}
use Rattle.px_mutations.specs.declared.applying.Tally.{Tally}
use Rattle.px_mutations.specs.declared.effects.Counts.{Counts}
use Rattle.px_mutations.specs.Effects.{standing}

-- the graph after its changes and the requests to it
abbrev pub settled_after : ProgramMeaning → Graph → Graph → Pairs → Graph
settled_after p l changes asked = settled p (put_all l changes) asked

-- the part of the rule of limits that settling shows
abbrev pub is_settling_beyond : ProgramMeaning → ℕ → Graph → Pairs → Bool
is_settling_beyond p room after asked = has_wide_vertex room after || has_wide_fold p.verdict room asked || has_many_vertices after

-- how many vids the changes and the requests name
abbrev pub touched : Graph → Pairs → ℕ
touched changes asked = length (ascending (vids changes ++ vids asked))

-- the vids that are awake
abbrev pub live_vids : Graph → List ℕ
live_vids l = vids (filter (λ e. not e.1.halt) l)

pub record IsTally (tally : Tally) (l : Graph) : Type 0 where
  pub count : tally.count ≡ length l
  pub live : tally.live ≡ length (live_vids l)

-- the partition is computed: its graph is within room with its changes, each of which can be stored, and each vertex that is awake has one
pub record IsReadyToSettle (p : ProgramMeaning) (room : ℕ) (tally : Tally) (l changes : Graph) (asked : Pairs) : Type 0 where
  pub counted : IsTally tally l
  pub is_map : IsMap changes
  pub stored : AllByRecursion (λ e. IsVertex e.1) changes
  pub fit : has_wide_vertex room (put_all l changes) ≡ false
  pub valid : AllValid p.verdict asked
  pub awake : (v : ℕ) → is_awake (lookup v l) ≡ true → is_some (lookup v changes) ≡ true

-- and the store, the two files, the writer and the group are as the settling begins
pub record Begun (p : ProgramMeaning) (room : ℕ) (tally : Tally) (holding : Graph → Type 0) (updating asking writing : List Entry → Type 0) (grouping : Pairs → Type 0) (l changes : Graph) (asked : Pairs) : Type 0 where
  pub is_ready : IsReadyToSettle p room tally l changes asked
  pub held : holding l
  pub updates : updating (vertex_tuples changes)
  pub requests_are : asking (requests asked)
  pub vids_are : writing []
  pub group : grouping []

-- the files that settling changes: a group's own, and that of the live vids
abbrev pub IsSettled : GroupMade → ℕ → ℕ → Type 0
IsSettled made live f = IsOwn made f ⊎ (f ≡ live)

-- and those that it reads, of which nothing is told after a read failed
abbrev pub OrRead : ℕ → ℕ → (ℕ → Type 0) → ℕ → Type 0
OrRead updates asking mine f = mine f ⊎ ((f ≡ updates) ⊎ (f ≡ asking))

-- these files are different ones
pub record AreApart (made : GroupMade) (updates asking live : ℕ) : Type 0 where
  pub group_updates : IsOwn made updates → ⊥
  pub group_requests : IsOwn made asking → ⊥
  pub group_live : IsOwn made live → ⊥
  pub updates_requests : updates ≡ asking → ⊥
  pub updates_live : updates ≡ live → ⊥
  pub requests_live : asking ≡ live → ⊥

-- the counts of what became of a graph
pub record AreCounts (c : Counts) (l after : Graph) : Type 0 where
  pub more : ℕ
  pub fewer : ℕ
  pub sizes : length after + fewer ≡ length l + more
  pub within : fewer ≤ length l
  pub added : c.added ≡ standing more
  pub removed : c.removed ≡ standing fewer
  pub live : c.live ≡ standing (length (live_vids after))

-- changes and folds are still to be merged: both are maps, each vertex that is awake has a change, and nothing is merged yet
pub record IsMerging (p : ProgramMeaning) (room : ℕ) (holding : Graph → Type 0) (updating : List Entry → Type 0) (giving : Pairs → Type 0) (writing : List Entry → Type 0) (l changes : Graph) (folds : Pairs) : Type 0 where
  pub map_changes : IsMap changes
  pub map_folds : IsMap folds
  pub stored : AllByRecursion (λ e. IsVertex e.1) changes
  pub valid : AllValid p.verdict folds
  pub fit : has_wide_vertex room (put_all l changes) ≡ false
  pub awake : (v : ℕ) → is_awake (lookup v l) ≡ true → is_some (lookup v changes) ≡ true
  pub held : holding l
  pub updates : updating (vertex_tuples changes)
  pub gives : giving folds
  pub vids_are : writing []

-- all is merged: the store holds this graph, whose live vids were written, and these are the counts
pub record IsMerged (room : ℕ) (fits : Type 0) (holding : Graph → Type 0) (writing : List Entry → Type 0) (l after : Graph) (counts : Counts) : Type 0 where
  pub held : holding after
  pub vids_are : writing (vid_tuples after)
  pub counted : AreCounts counts l after
  pub fit : has_wide_vertex room after ≡ false
  pub folds_fit : fits
