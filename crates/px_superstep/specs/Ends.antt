-- How a run over a job ends.
use Rattle.std.specs.Prelude.{◌≡◌, ℕ, ◌++◌, Bool, true, false, List, []}
use Rattle.px_core.specs.Shown.{Shown}
use Rattle.px_core.specs.declared.stop.Stop.{Stop}
use Rattle.px_core.specs.declared.stop.Stop.TheVariants as stops
use Rattle.px_graph_text.specs.Kinds.{kind_of}
use Rattle.px_load.specs.Dumping.{SomeOf, dumped}
use Rattle.px_load.specs.Stops.{Counts, HasGoodLines}
use Rattle.px_load.specs.declared.stops.DumpStop.{DumpStop}
use Rattle.px_load.specs.declared.stops.DumpStop.TheVariants as dumps
use Rattle.px_load.specs.declared.stops.LoadStop.{LoadStop}
use Rattle.px_load.specs.declared.stops.LoadStop.TheVariants as loads
use Rattle.px_meaning.specs.Due.{Due, DueBad, DueTwice, DueBeyond, DueLimit, DueText, due_of_text}
use Rattle.px_meaning.specs.Graph as vertices
use Rattle.px_meaning.specs.GraphText as text
use Rattle.px_meaning.specs.GraphText.{TextMeaning}
use Rattle.px_meaning.specs.Meaning as outcomes
use Rattle.px_meaning.specs.Meaning.{Outcome, meaning}
use Rattle.px_meaning.specs.Program.{ProgramMeaning}
use Rattle.px_meaning.specs.Step.{State}
use Rattle.px_superstep.specs.declared.plan.End.{End}
use Rattle.px_superstep.specs.declared.plan.End.TheVariants.{Done, Short, Memory, Bad, Twice, Beyond, Limit, Graph, Scratch, Source, Sink}

-- how a run ends whose text was not loaded
abbrev pub end_of_load : LoadStop → End
end_of_load loads.Source = Source
end_of_load (loads.Bad line kind) = Bad line kind
end_of_load (loads.Twice v) = Twice v
end_of_load loads.Graph = Graph
end_of_load loads.Scratch = Scratch

-- whose step to this superstep was not taken
abbrev pub end_of_step : ℕ → Stop → End
end_of_step superstep stops.Graph = Graph
end_of_step superstep stops.Scratch = Scratch
end_of_step superstep stops.Beyond = Beyond superstep

-- and whose text was not written
abbrev pub end_of_dump : DumpStop → End
end_of_dump dumps.Graph = Graph
end_of_dump dumps.Scratch = Scratch
end_of_dump dumps.Sink = Sink

-- the device that failed
abbrev pub is_source : End → Bool
is_source Source = true
is_source Done = false
is_source (Short need have) = false
is_source Memory = false
is_source (Bad line kind) = false
is_source (Twice v) = false
is_source (Beyond s) = false
is_source (Limit n) = false
is_source Graph = false
is_source Scratch = false
is_source Sink = false

abbrev pub is_sink : End → Bool
is_sink Sink = true
is_sink Done = false
is_sink (Short need have) = false
is_sink Memory = false
is_sink (Bad line kind) = false
is_sink (Twice v) = false
is_sink (Beyond s) = false
is_sink (Limit n) = false
is_sink Graph = false
is_sink Scratch = false
is_sink Source = false

abbrev pub is_graph : End → Bool
is_graph Graph = true
is_graph Done = false
is_graph (Short need have) = false
is_graph Memory = false
is_graph (Bad line kind) = false
is_graph (Twice v) = false
is_graph (Beyond s) = false
is_graph (Limit n) = false
is_graph Scratch = false
is_graph Source = false
is_graph Sink = false

abbrev pub is_scratch : End → Bool
is_scratch Scratch = true
is_scratch Done = false
is_scratch (Short need have) = false
is_scratch Memory = false
is_scratch (Bad line kind) = false
is_scratch (Twice v) = false
is_scratch (Beyond s) = false
is_scratch (Limit n) = false
is_scratch Graph = false
is_scratch Source = false
is_scratch Sink = false

-- a disk failed
abbrev pub IsDiskEnd : End → Type 0
IsDiskEnd Graph = Unit {0}
IsDiskEnd Scratch = Unit {0}
IsDiskEnd Done = ⊥
IsDiskEnd (Short need have) = ⊥
IsDiskEnd Memory = ⊥
IsDiskEnd (Bad line kind) = ⊥
IsDiskEnd (Twice v) = ⊥
IsDiskEnd (Beyond s) = ⊥
IsDiskEnd (Limit n) = ⊥
IsDiskEnd Source = ⊥
IsDiskEnd Sink = ⊥

-- a superstep was not taken: a disk failed, or it is beyond the limits, which is said of it elsewhere
abbrev pub IsStepEnd : (ℕ → Type 0) → End → Type 0
IsStepEnd Is (Beyond s) = Is s
IsStepEnd Is Graph = Unit {0}
IsStepEnd Is Scratch = Unit {0}
IsStepEnd Is Done = ⊥
IsStepEnd Is (Short need have) = ⊥
IsStepEnd Is Memory = ⊥
IsStepEnd Is (Bad line kind) = ⊥
IsStepEnd Is (Twice v) = ⊥
IsStepEnd Is (Limit n) = ⊥
IsStepEnd Is Source = ⊥
IsStepEnd Is Sink = ⊥

-- the run did not come to a halted state: a disk failed, a step is beyond the limits, or so many were taken as are allowed
abbrev pub IsRunEnd : (ℕ → Type 0) → (ℕ → Type 0) → End → Type 0
IsRunEnd IsBeyond IsLimit (Beyond s) = IsBeyond s
IsRunEnd IsBeyond IsLimit (Limit n) = IsLimit n
IsRunEnd IsBeyond IsLimit Graph = Unit {0}
IsRunEnd IsBeyond IsLimit Scratch = Unit {0}
IsRunEnd IsBeyond IsLimit Done = ⊥
IsRunEnd IsBeyond IsLimit (Short need have) = ⊥
IsRunEnd IsBeyond IsLimit Memory = ⊥
IsRunEnd IsBeyond IsLimit (Bad line kind) = ⊥
IsRunEnd IsBeyond IsLimit (Twice v) = ⊥
IsRunEnd IsBeyond IsLimit Source = ⊥
IsRunEnd IsBeyond IsLimit Sink = ⊥

-- the graph was loaded, and this stands for a state to which its run comes and which is halted
pub record HaltsFor (p : ProgramMeaning) (room most : ℕ) (of_text : TextMeaning) (Stands : State → Type 0) : Type 0 where
  pub graph : vertices.Graph
  pub good : of_text ≡ text.Good graph
  pub state : State
  pub halted : meaning p room graph most ≡ outcomes.Halted state
  pub stands : Stands state

-- the text that a run ends with that ends so, or with `summary` its last line alone
abbrev pub text_of_outcome : Bool → ProgramMeaning → Outcome → List ℕ
text_of_outcome summary p (outcomes.Halted s) = dumped summary p s
text_of_outcome summary p (outcomes.Limit n) = []
text_of_outcome summary p (outcomes.Beyond s) = []

-- what is to be written of a text: nothing where its run does not halt
abbrev pub text_due : Bool → ProgramMeaning → ℕ → ℕ → TextMeaning → List ℕ
text_due summary p room most (text.Bad line kind) = []
text_due summary p room most (text.Twice v) = []
text_due summary p room most (text.Good graph) = text_of_outcome summary p (meaning p room graph most)

-- a run that ends so owes this. Of faults and of want of memory nothing is said, but that the sink fails only where a text is owed
abbrev pub IsOwed : Due → End → Type 0
IsOwed due Done = (t : List ℕ) × (due ≡ DueText t)
IsOwed due (Short need have) = Unit {0}
IsOwed due Memory = Unit {0}
IsOwed due (Bad line kind) = due ≡ DueBad line (kind_of kind)
IsOwed due (Twice v) = due ≡ DueTwice v
IsOwed due (Beyond s) = due ≡ DueBeyond s
IsOwed due (Limit n) = due ≡ DueLimit n
IsOwed due Graph = Unit {0}
IsOwed due Scratch = Unit {0}
IsOwed due Source = Unit {0}
IsOwed due Sink = (t : List ℕ) × (due ≡ DueText t)

-- a line is refused as the text means, and what comes behind the text only where no line is
abbrev pub IsLineOwed : TextMeaning → End → Type 0
IsLineOwed of_text Done = HasGoodLines of_text
IsLineOwed of_text (Short need have) = Unit {0}
IsLineOwed of_text Memory = Unit {0}
IsLineOwed of_text (Bad line kind) = of_text ≡ text.Bad line (kind_of kind)
IsLineOwed of_text (Twice v) = HasGoodLines of_text
IsLineOwed of_text (Beyond s) = HasGoodLines of_text
IsLineOwed of_text (Limit n) = HasGoodLines of_text
IsLineOwed of_text Graph = Unit {0}
IsLineOwed of_text Scratch = Unit {0}
IsLineOwed of_text Source = Unit {0}
IsLineOwed of_text Sink = HasGoodLines of_text

-- the whole text was read before
abbrev pub IsAfterText : End → Type 0
IsAfterText Done = Unit {0}
IsAfterText (Twice v) = Unit {0}
IsAfterText (Beyond s) = Unit {0}
IsAfterText (Limit n) = Unit {0}
IsAfterText Sink = Unit {0}
IsAfterText (Short need have) = ⊥
IsAfterText Memory = ⊥
IsAfterText (Bad line kind) = ⊥
IsAfterText Graph = ⊥
IsAfterText Scratch = ⊥
IsAfterText Source = ⊥

-- a part of the text may have been written
abbrev pub IsCut : End → Type 0
IsCut Graph = Unit {0}
IsCut Scratch = Unit {0}
IsCut Sink = Unit {0}
IsCut Done = ⊥
IsCut (Short need have) = ⊥
IsCut Memory = ⊥
IsCut (Bad line kind) = ⊥
IsCut (Twice v) = ⊥
IsCut (Beyond s) = ⊥
IsCut (Limit n) = ⊥
IsCut Source = ⊥

-- nothing was written
abbrev pub IsUnwritten : End → Type 0
IsUnwritten (Short need have) = Unit {0}
IsUnwritten Memory = Unit {0}
IsUnwritten (Bad line kind) = Unit {0}
IsUnwritten (Twice v) = Unit {0}
IsUnwritten (Beyond s) = Unit {0}
IsUnwritten (Limit n) = Unit {0}
IsUnwritten Source = Unit {0}
IsUnwritten Done = ⊥
IsUnwritten Graph = ⊥
IsUnwritten Scratch = ⊥
IsUnwritten Sink = ⊥

-- nothing was asked
abbrev pub IsUnread : End → Type 0
IsUnread (Short need have) = Unit {0}
IsUnread Memory = Unit {0}
IsUnread Done = ⊥
IsUnread (Bad line kind) = ⊥
IsUnread (Twice v) = ⊥
IsUnread (Beyond s) = ⊥
IsUnread (Limit n) = ⊥
IsUnread Graph = ⊥
IsUnread Scratch = ⊥
IsUnread Source = ⊥
IsUnread Sink = ⊥

-- a job that was opened ran to this end. `left` and `holds` are what source and sink tell, and `was` and `now` the source, the sink and the disks before and after
pub record RunEnds {R W : Type 0} (left : R → List ℕ → Type 0) (holds : W → List ℕ → Type 0) (of_text : List ℕ → TextMeaning) (p : ProgramMeaning) (room most : ℕ) (summary : Bool) (source_was source_now : R) (out_was out_now : W) (g s : Shown) (e : End) : Type 0 where
  pub owed : (bytes : List ℕ) → left source_was bytes → g.tells ≡ true → s.tells ≡ true → IsOwed (due_of_text p room most (of_text bytes)) e
  pub line : (bytes : List ℕ) → left source_was bytes → IsLineOwed (of_text bytes) e
  pub done : e ≡ Done → (bytes h : List ℕ) → left source_was bytes → g.tells ≡ true → s.tells ≡ true → holds out_was h → holds out_now (h ++ text_due summary p room most (of_text bytes))
  pub part : IsCut e → (bytes h : List ℕ) → left source_was bytes → g.tells ≡ true → s.tells ≡ true → holds out_was h → SomeOf (text_due summary p room most (of_text bytes)) (λ t. holds out_now (h ++ t))
  pub unwritten : IsUnwritten e → out_now ≡ out_was
  pub read : IsAfterText e → (bytes : List ℕ) → left source_was bytes → left source_now []
  pub started : IsUnread e → ⊥

-- of each device a fault was counted where the end names it, and none where it does not
pub record FaultsAt (r r' w w' g g' s s' : ℕ) (e : End) : Type 0 where
  pub source : Counts (is_source e) r r'
  pub sink : Counts (is_sink e) w w'
  pub graph : Counts (is_graph e) g g'
  pub scratch : Counts (is_scratch e) s s'
