-- A job between two calls, and what it stands for.
use Rattle.std.specs.Prelude.{◌≡◌, ◌≤◌, ◌<◌, ◌^◌, ℕ, Bool, true, false, List, [], ◌∷◌, length, take, slice_index_or, Some}
use Rattle.px_core.specs.Parts.{to_part}
use Rattle.px_core.specs.Shown.{Shown, Tells}
use Rattle.px_frames.specs.Banks.{BankView}
use Rattle.px_meaning.specs.Graph.{Graph, room_of}
use Rattle.px_meaning.specs.GraphText as text
use Rattle.px_meaning.specs.GraphText.{TextMeaning}
use Rattle.px_meaning.specs.Program.{ProgramMeaning}
use Rattle.px_meaning.specs.Step.{State, step}
use Rattle.px_meaning.specs.Meaning.{first_state}
use Rattle.px_global_state.specs.States.{awake_in}
use Rattle.px_store.specs.declared.shared.Desk.{Desk}
use Rattle.px_load.specs.Loading.{IsFree, AreStores, HoldGraph}
use Rattle.px_superstep.specs.Counting.{AreCounted}
use Rattle.px_superstep.specs.Files.{msg_file}
use Rattle.px_superstep.specs.Plans.{IsBank}
use Rattle.px_superstep.specs.Steps.{StandsFor}
use Rattle.px_superstep.specs.declared.job.Job.{Job}
use Rattle.px_mutations.specs.declared.applying.Tally.{Tally}

-- a desk that any store may use, over pages of this length
abbrev pub IsFreeOver : Bool → ℕ → Desk → Type 0
IsFreeOver counted len desk = (s : Shown) → s.page_len ≡ len → IsFree counted desk s

-- a job whose bank is home but for the desk, and whose desk is free
pub record IsJob {P J G C St M V : Type 0} (part : St → ℕ) (counted : Bool) (job : Job P J G C St M V) : Type 0 where
  pub bank : IsBank (length job.stores.items) true false job.bank
  pub stores : AreStores part job.stores.items
  pub free : IsFreeOver counted job.bank.frame_len job.desk

-- it stands for this state
abbrev pub JobStands : {P J G C St M V : Type 0} → ProgramMeaning → ℕ → Bool → (St → Desk → Shown → Graph → Type 0) → Shown → Shown → Job P J G C St M V → State → Type 0
JobStands p room probing holds graph scratch job s =
    StandsFor p room probing (λ st g. holds st job.desk graph g) job.stores.items scratch
    (take (length job.stores.items) job.msg_pages) (take (length job.stores.items) job.tallies) job.gs s

-- the files of messages that superstep 0 reads are empty, as after a start of the disk
abbrev pub AreNoMessages : ℕ → Shown → Type 0
AreNoMessages parts t = (q : ℕ) → q < parts → Tells t (msg_file 0 q) []

-- a good text's graph is in the stores, and these are its number of vertices and those of its partitions
pub record AreLoaded {X : Type 0} (meaning : TextMeaning) (holding : X → Graph → Type 0) (stores : List X) (tallies : List Tally) (count : ℕ) : Type 0 where
  pub graph : Graph
  pub good : meaning ≡ text.Good graph
  pub hold : HoldGraph holding stores graph
  pub counted : count ≡ length graph
  pub tallied : AreCounted tallies (length stores) (length stores) graph

-- the text is good, and the job stands for the state before the first superstep
pub record StandsForText {P J G C St M V : Type 0} (p : ProgramMeaning) (room : ℕ) (probing : Bool) (holds : St → Desk → Shown → Graph → Type 0) (graph scratch : Shown) (job : Job P J G C St M V) (meaning : TextMeaning) : Type 0 where
  pub vertices : Graph
  pub good : meaning ≡ text.Good vertices
  pub stands : JobStands p room probing holds graph scratch job (first_state p vertices)

-- the step is within the limits, and the job stands for the state that it gives
pub record JobStandsNext {P J G C St M V : Type 0} (p : ProgramMeaning) (room : ℕ) (probing : Bool) (holds : St → Desk → Shown → Graph → Type 0) (graph scratch : Shown) (job : Job P J G C St M V) (s : State) : Type 0 where
  pub next : State
  pub is : step p room s ≡ Some next
  pub stands : JobStands p room probing holds graph scratch job next
