-- Why a load stopped, and the device that failed.
use Rattle.std.specs.Prelude.{◌≡◌, ◌≤◌, ◌<◌, ◌⊎◌, ℕ, Bool, true, false}
use Rattle.px_core.specs.Counts.{Rose}
use Rattle.px_core.specs.Shown.{Shown, Touches}
use Rattle.px_core.specs.declared.stop.Stop.{Stop}
use Rattle.px_core.specs.declared.stop.Stop.TheVariants as disks
use Rattle.px_cache.specs.View.{AnyFile}
use Rattle.px_graph_text.specs.Kinds.{kind_of}
use Rattle.px_graph_text.specs.declared.refusal.TextStop.{TextStop}
use Rattle.px_graph_text.specs.declared.refusal.TextStop.TheVariants as texts
use Rattle.px_meaning.specs.GraphText as text
use Rattle.px_meaning.specs.GraphText.{TextMeaning}
use Rattle.px_load.specs.declared.stops.LoadStop.{LoadStop}
use Rattle.px_meaning.specs.Graph.{Graph as Vertices}
use Rattle.px_load.specs.declared.stops.LoadStop.TheVariants.{Source, Bad, Twice, Graph, Scratch}

abbrev pub of_text : TextStop → LoadStop
of_text texts.Source = Source
of_text (texts.Bad line kind) = Bad line kind

abbrev pub of_disk : Stop → LoadStop
of_disk disks.Graph = Graph
of_disk disks.Scratch = Scratch
of_disk disks.Beyond = Scratch

-- the device that failed
abbrev pub is_source : LoadStop → Bool
is_source Source = true
is_source (Bad line kind) = false
is_source (Twice v) = false
is_source Graph = false
is_source Scratch = false

abbrev pub is_graph : LoadStop → Bool
is_graph Source = false
is_graph (Bad line kind) = false
is_graph (Twice v) = false
is_graph Graph = true
is_graph Scratch = false

abbrev pub is_scratch : LoadStop → Bool
is_scratch Source = false
is_scratch (Bad line kind) = false
is_scratch (Twice v) = false
is_scratch Graph = false
is_scratch Scratch = true

-- the count of faults rose, or is as it was
abbrev pub Counts : Bool → ℕ → ℕ → Type 0
Counts true before now = Rose before now
Counts false before now = now ≡ before

-- the scratch files of a load and a dump: two for runs, and one for each partition
abbrev pub IsLoadFile : ℕ → Type 0
IsLoadFile f = (f < 2) ⊎ ((192 ≤ f) × (f < 208))

-- a load stopped for this reason: the device that it names counted a fault, and no other did
pub record Stops (n n' : ℕ) (g g' s s' : Shown) (e : LoadStop) : Type 0 where
  pub source : Counts (is_source e) n n'
  pub graph : Counts (is_graph e) g.faults g'.faults
  pub scratch : Counts (is_scratch e) s.faults s'.faults
  pub graph_touches : Touches AnyFile g g'
  pub scratch_touches : Touches IsLoadFile s s'

-- a text of which no line is refused
abbrev pub HasGoodLines : TextMeaning → Type 0
HasGoodLines (text.Bad line kind) = ⊥
HasGoodLines (text.Twice v) = Unit {0}
HasGoodLines (text.Good graph) = Unit {0}

-- a line is refused as the text means, and what comes behind the text only where no line is. Of faults of the source and of the scratch disk nothing is said
abbrev pub IsLineRefusal : TextMeaning → LoadStop → Type 0
IsLineRefusal meaning Source = Unit {0}
IsLineRefusal meaning (Bad line kind) = meaning ≡ text.Bad line (kind_of kind)
IsLineRefusal meaning (Twice v) = HasGoodLines meaning
IsLineRefusal meaning Graph = HasGoodLines meaning
IsLineRefusal meaning Scratch = Unit {0}

-- a text is refused as it means, and the graph disk fails only where it has a graph. Of faults of the source and of the scratch disk nothing is said
abbrev pub IsRefusal : TextMeaning → LoadStop → Type 0
IsRefusal meaning Source = Unit {0}
IsRefusal meaning (Bad line kind) = meaning ≡ text.Bad line (kind_of kind)
IsRefusal meaning (Twice v) = meaning ≡ text.Twice v
IsRefusal meaning Graph = (graph : Vertices) × (meaning ≡ text.Good graph)
IsRefusal meaning Scratch = Unit {0}

-- the whole text was read before this was answered
abbrev pub IsAfterText : LoadStop → Type 0
IsAfterText Source = ⊥
IsAfterText (Bad line kind) = ⊥
IsAfterText (Twice v) = Unit {0}
IsAfterText Graph = Unit {0}
IsAfterText Scratch = ⊥

-- a disk failed
abbrev pub IsFault : LoadStop → Type 0
IsFault Source = ⊥
IsFault (Bad line kind) = ⊥
IsFault (Twice v) = ⊥
IsFault Graph = Unit {0}
IsFault Scratch = Unit {0}
