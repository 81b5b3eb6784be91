-- Lines of statistics, and their text.
use Rattle.std.specs.Prelude.{◌≡◌, ◌⊎◌, ◌-◌, ℕ, List, ◌++◌, codes, decimal, flat_map, length, map, take}
use Rattle.circular_buffer.specs.Buffer.{keep_last}
use Rattle.px_core.specs.Counts.{Rose}
use Rattle.px_core.specs.Shown.{Shown}
use Rattle.px_meaning.specs.Step.{State}
use Rattle.px_global_state.specs.States.{awake_in}
use Rattle.px_global_state.specs.declared.gs.Gs.{Gs}
use Rattle.px_superstep.specs.declared.line.Asked.{Asked}
use Rattle.px_superstep.specs.declared.line.Line.{Line}

-- the last 64
abbrev pub last_of : {X : Type 0} → List X → List X
last_of xs = keep_last 64 xs

-- how often both disks were asked
abbrev pub asked_of : Shown → Shown → Asked
asked_of g s = record { graph_reads = g.reads; graph_writes = g.writes; scratch_reads = s.reads; scratch_writes = s.writes }

-- the line of a superstep that led to these numbers, between these counts
abbrev pub line_between : Gs → Asked → Asked → Line
line_between gs before now = record {
  gs = gs;
  graph_reads = now.graph_reads - before.graph_reads;
  graph_writes = now.graph_writes - before.graph_writes;
  scratch_reads = now.scratch_reads - before.scratch_reads;
  scratch_writes = now.scratch_writes - before.scratch_writes;
}

abbrev pub line_text : Line → List ℕ
line_text l =
    codes "superstep " ++ decimal l.gs.superstep ++ codes " count " ++ decimal l.gs.count ++ codes " live " ++ decimal l.gs.live
    ++ codes " messages " ++ decimal l.gs.in_flight ++ codes " graph " ++ decimal l.graph_reads ++ codes " " ++ decimal l.graph_writes
    ++ codes " scratch " ++ decimal l.scratch_reads ++ codes " " ++ decimal l.scratch_writes ++ codes "\n"

-- the numbers of a state
abbrev pub gs_of : State → Gs
gs_of s = record { superstep = s.superstep; aggregate = s.aggregate; live = awake_in s.graph; count = length s.graph; in_flight = length s.sends }

abbrev pub gs_of_line : Line → Gs
gs_of_line l = l.gs

-- a line for each of these states, in order, with its numbers and with some counts of the disks
abbrev pub AreLinesOf : List State → List Line → Type 0
AreLinesOf states lines = map gs_of_line lines ≡ map gs_of states

-- the text of the lines of the last 64 of these states
pub record TellsLast (states : List State) (text : List ℕ) : Type 0 where
  pub lines : List Line
  pub of : AreLinesOf (last_of states) lines
  pub is : text ≡ flat_map line_text lines

-- a sink holds one list more and has not failed, or a prefix of that list where its count of faults rose
abbrev pub Grew : (List ℕ → Type 0) → ℕ → ℕ → List ℕ → List ℕ → Type 0
Grew holds was now before more = (holds (before ++ more) × (now ≡ was)) ⊎ (((n : ℕ) × holds (before ++ take n more)) × Rose was now)
