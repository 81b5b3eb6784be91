-- What a job stands for, and what a superstep leaves.
use Rattle.std.specs.Prelude.{◌≡◌, ◌≤◌, ◌<◌, ℕ, ◌+◌, ◌%◌, Bool, true, false, List, length, filter, not, Some, IsTrue}
use Rattle.px_core.specs.Parts.{to_part, all_of}
use Rattle.px_core.specs.Shown.{Shown}
use Rattle.px_meaning.specs.Graph.{Graph, IsMap}
use Rattle.px_meaning.specs.Merge.{MergeRule, Pairs, AllValid}
use Rattle.px_meaning.specs.Program.{ProgramMeaning}
use Rattle.px_meaning.specs.Step.{State, has_wide_vertex, has_wide_fold, step}
use Rattle.px_stream.specs.Stream.{Holds}
use Rattle.px_connectors.specs.Asking.{requests}
use Rattle.px_store.specs.Joins.{message_tuples, vid_tuples, vertex_tuples}
use Rattle.px_global_state.specs.States.{IsGs}
use Rattle.px_global_state.specs.declared.gs.Gs.{Gs}
use Rattle.px_load.specs.Loading.{HoldGraph}
use Rattle.px_mutations.specs.Applying.{settled_after, is_settling_beyond, IsTally, IsReadyToSettle}
use Rattle.px_mutations.specs.declared.applying.Tally.{Tally}
use Rattle.px_superstep.specs.Files.{msg_file, vid_file, update_file}
use Rattle.px_superstep.specs.Partial.{graph_at, messages_at}
use Rattle.px_superstep.specs.Phases.{Each, PhaseAt}

-- stores, files and numbers stand for a state: each store holds its partition's vertices, and each file of messages the folds of what was sent to it.
-- Where joins look vids up, the files of vids have those that are awake
pub record StandsFor {X : Type 0} (p : ProgramMeaning) (room : ℕ) (probing : Bool) (holding : X → Graph → Type 0) (stores : List X) (t : Shown) (msg_pages : List ℕ) (tallies : List Tally) (gs : Gs) (s : State) : Type 0 where
  pub is_map : IsMap s.graph
  pub valid : AllValid p.message s.sends
  pub fit : has_wide_vertex room s.graph ≡ false
  pub numbers : IsGs gs s
  pub hold : HoldGraph holding stores s.graph
  pub messages : Each msg_pages (λ q n. Holds t (msg_file (s.superstep % 2) q) n (message_tuples (messages_at p (length stores) s q)))
  pub counted : Each tallies (λ q tally. IsTally tally (graph_at (length stores) s q))
  pub vids : probing ≡ true → Each tallies (λ q tally. Holds t (vid_file (s.superstep % 2) q) tally.vid_pages (vid_tuples (graph_at (length stores) s q)))

-- they stand for the state while the compute phases of a superstep are taken, of which these are over
pub record StandsMidway {X : Type 0} (p : ProgramMeaning) (room : ℕ) (probing : Bool) (holding : X → Graph → Type 0) (stores : List X) (t : Shown) (msg_pages : List ℕ) (tallies : List Tally) (gs : Gs) (sent : ℕ → Pairs → Type 0) (asking : Pairs → Type 0) (update_pages : List ℕ) (s : State) (done : List ℕ) : Type 0 where
  pub stands : StandsFor p room probing holding stores t msg_pages tallies gs s
  pub phase : PhaseAt p room (length stores) sent asking t update_pages s done

-- the step is within the limits, and they stand for the state that it gives
pub record StandsForNext {X : Type 0} (p : ProgramMeaning) (room : ℕ) (probing : Bool) (holding : X → Graph → Type 0) (stores : List X) (t : Shown) (msg_pages : List ℕ) (tallies : List Tally) (gs : Gs) (s : State) : Type 0 where
  pub next : State
  pub is : step p room s ≡ Some next
  pub stands : StandsFor p room probing holding stores t msg_pages tallies gs next

-- a partition's store holds the graph, and its files the changes and the requests
pub record CanSettle (holding : Graph → Type 0) (t : Shown) (q update_pages request_pages : ℕ) (graph changes : Graph) (asked : Pairs) : Type 0 where
  pub held : holding graph
  pub updates : Holds t (update_file q) update_pages (vertex_tuples changes)
  pub requested : Holds t (160 + q) request_pages (requests asked)

-- a partition was settled, within the limits
pub record IsSettled (p : ProgramMeaning) (room : ℕ) (t : Shown) (to : ℕ) (tally : Tally) (after : Graph) (asked : Pairs) : Type 0 where
  pub counted : IsTally tally after
  pub vids : Holds t to tally.vid_pages (vid_tuples after)
  pub within : is_settling_beyond p room after asked ≡ false

-- partitions below the k-th are settled, and each of the others is ready to be
pub record SettledBelow {X : Type 0} (p : ProgramMeaning) (room parity : ℕ) (holding : X → Graph → Type 0) (stores : List X) (t : Shown) (tallies : List Tally) (update_pages : List ℕ) (request_pages : ℕ → ℕ) (before changes : ℕ → Graph) (asked : ℕ → Pairs) (k : ℕ) : Type 0 where
  pub held_before : Each stores (λ q x. k ≤ q → holding x (before q))
  pub held_after : Each stores (λ q x. q < k → holding x (settled_after p (before q) (changes q) (asked q)))
  pub ready : Each tallies (λ q tally. k ≤ q → IsReadyToSettle p room tally (before q) (changes q) (asked q))
  pub settled : Each tallies (λ q tally. q < k → IsSettled p room t (vid_file parity q) tally (settled_after p (before q) (changes q) (asked q)) (asked q))
  pub updates : Each update_pages (λ q n. q < length stores → Holds t (update_file q) n (vertex_tuples (changes q)))
  pub requested : (q : ℕ) → q < length stores → Holds t (160 + q) (request_pages q) (requests (asked q))

-- the numbers of so many partitions together
pub record IsSum (parts : ℕ) (after : ℕ → Graph) (sum : Tally) : Type 0 where
  pub count : sum.count ≡ length (all_of parts after)
  pub live : sum.live ≡ length (all_of parts (λ q. filter (λ e. not e.1.halt) (after q)))

-- what is sent to some partition is beyond the limits
pub record IsFoldBeyond (rule : MergeRule) (room parts : ℕ) (pairs : Pairs) : Type 0 where
  pub q : ℕ
  pub wide : IsTrue (has_wide_fold rule room (to_part parts q pairs))

-- the settling of some partition is
pub record IsSettlingBeyond (p : ProgramMeaning) (room : ℕ) (after : ℕ → Graph) (asked : ℕ → Pairs) : Type 0 where
  pub q : ℕ
  pub beyond : IsTrue (is_settling_beyond p room (after q) (asked q))
