-- What the clauses of a run speak of.
use Rattle.std.specs.Prelude.{◌≡◌, ◌⊎◌, ℕ, ◌||◌, ◌==◌, nat_lt, if◌then◌else◌, true, IsTrue, List, [], ◌++◌, take}
use Rattle.px_core.specs.Shown.{Shown}
use Rattle.px_load.specs.Stops.{Counts}
use Rattle.px_meaning.specs.Step.{State}
use Rattle.px_superstep.specs.Lines.{Grew, TellsLast}
use Rattle.px_superstep.specs.declared.plan.End.TheVariants.{Done, Memory, Graph, Scratch, Source, Sink}
use Rattle.px_tool.specs.Due.{Due}
use Rattle.px_tool.specs.Endings.{ending_of, line_of, line_of_end, status_of}
use Rattle.px_tool.specs.declared.ending.Ending.{Ending}
use Rattle.px_tool.specs.declared.ending.Ending.TheVariants.{Ran}

abbrev pub IsStatus : ℕ → Type 0
IsStatus n = IsTrue (nat_lt n 12)

-- the words and the text decide the status. The others are faults and want of memory
abbrev pub IsDecided : ℕ → Type 0
IsDecided n = IsTrue (nat_lt n 6 || n == 11)

-- the status rests on the text: its words alone do not decide it
abbrev pub RestsOnText : ℕ → Type 0
RestsOnText n = IsTrue (n == 0 || n == 2 || n == 3 || n == 4 || n == 5)

-- and on what the disks hold: it comes after no line was refused
abbrev pub RestsOnDisks : ℕ → Type 0
RestsOnDisks n = IsTrue (n == 0 || n == 3 || n == 4 || n == 5)

-- both disks tell what they hold
pub record DisksTell (graph scratch : Shown) : Type 0 where
  pub graph_tells : graph.tells ≡ true
  pub scratch_tells : scratch.tells ≡ true

-- no device was asked
abbrev pub IsUnasked : ℕ → Type 0
IsUnasked n = IsTrue (n == 1 || n == 10 || n == 11)

-- the whole input was read
abbrev pub IsAfterInput : ℕ → Type 0
IsAfterInput n = IsTrue (n == 0 || n == 3 || n == 4 || n == 5 || n == 9)

-- nothing was written
abbrev pub IsUnwritten : ℕ → Type 0
IsUnwritten n = IsTrue (n == 1 || n == 2 || n == 3 || n == 4 || n == 5 || n == 8 || n == 10 || n == 11)

-- a part of the text may have been written
abbrev pub IsCut : ℕ → Type 0
IsCut n = IsTrue (n == 6 || n == 7 || n == 9)

-- of each device a fault was counted where the status names it, and none where it does not
pub record HasFaults (status r r' w w' g g' s s' : ℕ) : Type 0 where
  pub source : Counts (status == 8) r r'
  pub sink : Counts (status == 9) w w'
  pub graph : Counts (status == 6) g g'
  pub scratch : Counts (status == 7) s s'

-- it is want of frames, or memory was wanting before frames were counted
abbrev pub IsShort : ℕ → Type 0
IsShort n = (n ≡ 11) ⊎ (n ≡ 10)

-- a run that owes this to each text ended so, and this is what it writes of each. `Left` is what the source tells of the text, `Read` that nothing is left of it and `Untouched` that it was not asked.
-- `holds` is what the sink tells, and `was` and `now` are the devices before and after
pub record HasEnded {W G S : Type 0} (Left : List ℕ → Type 0) (Read Untouched : Type 0) (holds : W → List ℕ → Type 0) (g s : Shown) (due : List ℕ → Due) (output : List ℕ → List ℕ) (out_was out_now : W) (graph_was graph_now : G) (scratch_was scratch_now : S) (e : Ending) : Type 0 where
  pub owed : IsDecided (status_of e) → (l : List ℕ) → (RestsOnText (status_of e) → Left l) → (RestsOnDisks (status_of e) → DisksTell g s) → ending_of (due l) ≡ e
  pub short : (l : List ℕ) → status_of (ending_of (due l)) ≡ 11 → IsShort (status_of e)
  pub sink : status_of e ≡ 9 → (l : List ℕ) → Left l → DisksTell g s → ending_of (due l) ≡ Ran Done
  pub text : status_of e ≡ 0 → (l h : List ℕ) → Left l → DisksTell g s → holds out_was h → holds out_now (h ++ output l)
  pub part : IsCut (status_of e) → (l h : List ℕ) → Left l → DisksTell g s → holds out_was h → (n : ℕ) × holds out_now (h ++ take n (output l))
  pub unwritten : IsUnwritten (status_of e) → out_now ≡ out_was
  pub read : IsAfterInput (status_of e) → (l : List ℕ) → Left l → Read
  pub source : IsUnasked (status_of e) → Untouched
  pub graph : IsUnasked (status_of e) → graph_now ≡ graph_was
  pub scratch : IsUnasked (status_of e) → scratch_now ≡ scratch_was

-- the lines of statistics of the last of these states were written behind this text, or a prefix of them where the sink failed
abbrev pub HasStats : List State → (List ℕ → Type 0) → ℕ → ℕ → List ℕ → Type 0
HasStats states holds was now before = (t : List ℕ) × TellsLast states t × Grew holds was now before t

-- the line on the error sink of a run that ends with this status, where this is owed
abbrev pub line_owed : ℕ → Due → List ℕ
line_owed status due =
    if status == 6 then line_of_end Graph
    else if status == 7 then line_of_end Scratch
    else if status == 8 then line_of_end Source
    else if status == 9 then line_of_end Sink
    else if status == 10 then line_of_end Memory
    else line_of (ending_of due)
