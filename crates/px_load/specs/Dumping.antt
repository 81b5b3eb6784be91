-- What a dump writes and keeps, and why it stopped.
use Rattle.std.specs.Prelude.{◌≡◌, ◌≤◌, ◌+◌, ◌*◌, ◌++◌, ℕ, Bool, true, false, if◌then◌else◌, List, [], ◌∷◌, length, take, slice_get, Some}
use Rattle.px_core.specs.Shown.{Shown, Touches}
use Rattle.px_core.specs.declared.stop.Stop.{Stop}
use Rattle.px_core.specs.declared.stop.Stop.TheVariants as disks
use Rattle.px_cache.specs.View.{AnyFile}
use Rattle.px_global_state.specs.declared.gs.Gs.{Gs}
use Rattle.px_meaning.specs.Graph.{Graph, IsMap}
use Rattle.px_meaning.specs.OutputText.{text_of, summary_of}
use Rattle.px_meaning.specs.Program.{ProgramMeaning}
use Rattle.px_meaning.specs.Step.{State}
use Rattle.px_store.specs.Desks.{Kept}
use Rattle.px_store.specs.declared.shared.Desk.{Desk}
use Rattle.px_load.specs.Loading.{HoldGraph}
use Rattle.px_load.specs.Stops.{Counts}
use Rattle.px_connectors.specs.Writers.{IsPartFile}
use Rattle.px_load.specs.declared.stops.DumpStop.{DumpStop}
use Rattle.px_load.specs.declared.stops.DumpStop.TheVariants.{Graph as GraphFailed, Scratch, Sink}

-- the stores hold the graph of this state, each its partition's part, and these are the state's numbers
pub record IsStored {X : Type 0} (holding : X → Graph → Type 0) (stores : List X) (gs : Gs) (s : State) : Type 0 where
  pub hold : HoldGraph holding stores s.graph
  pub is_map : IsMap s.graph
  pub superstep : gs.superstep ≡ s.superstep
  pub aggregate : gs.aggregate ≡ s.aggregate
  pub count : gs.count ≡ length s.graph

-- what a dump writes: the state's text, or its last line alone
abbrev pub dumped : Bool → ProgramMeaning → State → List ℕ
dumped summary p s = if summary then summary_of s else text_of p s

-- a part of a text, from its front
pub record SomeOf (text : List ℕ) (Holds : List ℕ → Type 0) : Type 0 where
  pub most : ℕ
  pub holds : Holds (take most text)

-- what was held, and then some more
pub record SomeMore (h : List ℕ) (Holds : List ℕ → Type 0) : Type 0 where
  pub more : List ℕ
  pub holds : Holds (h ++ more)

-- what a store held, the one at its place holds
abbrev pub KeepAll : {X : Type 0} → (X → Graph → Type 0) → (X → Graph → Type 0) → List X → List X → Type 0
KeepAll held holds old new = (q : ℕ) (st : _) (l : Graph) → slice_get old q ≡ Some st → held st l → (now : _) × (slice_get new q ≡ Some now) × holds now l

-- all of them together
abbrev pub total : List ℕ → ℕ
total [] = 0
total (n ∷ ns) = n + total ns

-- the files of the graph disk that belong to no store of so many
abbrev pub IsFar : ℕ → ℕ → Type 0
IsFar stores f = 8 * stores ≤ f

-- they are shown as before
abbrev pub FarKept : ℕ → Desk → Shown → Desk → Shown → Type 0
FarKept stores d s d' s' = Kept (IsFar stores) d s d' s'

abbrev pub of_stop : Stop → DumpStop
of_stop disks.Graph = GraphFailed
of_stop disks.Scratch = Scratch
of_stop disks.Beyond = Scratch

-- the device that failed
abbrev pub is_sink : DumpStop → Bool
is_sink GraphFailed = false
is_sink Scratch = false
is_sink Sink = true

abbrev pub is_graph : DumpStop → Bool
is_graph GraphFailed = true
is_graph Scratch = false
is_graph Sink = false

abbrev pub is_scratch : DumpStop → Bool
is_scratch GraphFailed = false
is_scratch Scratch = true
is_scratch Sink = false

-- the scratch files of a dump: one for each partition
abbrev pub IsDumpFile : ℕ → Type 0
IsDumpFile f = IsPartFile 192 f

-- a dump stopped for this reason: the device that it names counted a fault, and no other did
pub record DumpStops (n n' : ℕ) (g g' s s' : Shown) (e : DumpStop) : Type 0 where
  pub sink : Counts (is_sink e) n n'
  pub graph : Counts (is_graph e) g.faults g'.faults
  pub scratch : Counts (is_scratch e) s.faults s'.faults
  pub graph_touches : Touches AnyFile g g'
  pub scratch_touches : Touches IsDumpFile s s'
