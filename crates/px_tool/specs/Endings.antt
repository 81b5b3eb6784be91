-- How a run ends: its status, and its line on the error sink.
use Rattle.std.specs.Prelude.{ℕ, List, [], ◌++◌, codes, decimal}
use Rattle.px_meaning.specs.Line as grammar
use Rattle.px_meaning.specs.Due as owed
use Rattle.px_tool.specs.Due.{Due, DueUsage, DueShort, DueOf}
use Rattle.px_graph_text.specs.declared.refusal.Kind.{Kind}
use Rattle.px_graph_text.specs.declared.refusal.Kind.TheVariants.{Form, Number, Wide, Long}
use Rattle.px_superstep.specs.declared.plan.End.{End}
use Rattle.px_superstep.specs.declared.plan.End.TheVariants.{Done, Short, Memory, Bad, Twice, Beyond, Limit, Graph, Scratch, Source, Sink}
use Rattle.px_tool.specs.declared.ending.Ending.{Ending}
use Rattle.px_tool.specs.declared.ending.Ending.TheVariants.{Usage, Ran}

-- a kind of offence that the definitions name
abbrev pub kind_named : grammar.Kind → Kind
kind_named grammar.Form = Form
kind_named grammar.Number = Number
kind_named grammar.Wide = Wide
kind_named grammar.Long = Long

-- how a program's run ends that owes this, where no device fails and there is memory
abbrev pub end_of : owed.Due → End
end_of (owed.DueBad line kind) = Bad line (kind_named kind)
end_of (owed.DueTwice v) = Twice v
end_of (owed.DueBeyond s) = Beyond s
end_of (owed.DueLimit n) = Limit n
end_of (owed.DueText text) = Done

-- the same of a run with its words
abbrev pub ending_of : Due → Ending
ending_of DueUsage = Usage
ending_of (DueShort need have) = Ran (Short need have)
ending_of (DueOf due) = Ran (end_of due)

abbrev pub status_of_end : End → ℕ
status_of_end Done = 0
status_of_end (Bad line kind) = 2
status_of_end (Twice v) = 3
status_of_end (Beyond superstep) = 4
status_of_end (Limit n) = 5
status_of_end Graph = 6
status_of_end Scratch = 7
status_of_end Source = 8
status_of_end Sink = 9
status_of_end Memory = 10
status_of_end (Short need have) = 11

abbrev pub status_of : Ending → ℕ
status_of Usage = 1
status_of (Ran end) = status_of_end end

abbrev pub decimal_line : List ℕ → ℕ → List ℕ → List ℕ
decimal_line before n after = before ++ decimal n ++ after

abbrev pub kind_text : Kind → List ℕ
kind_text Form = codes ": form\n"
kind_text Number = codes ": number\n"
kind_text Wide = codes ": wide\n"
kind_text Long = codes ": long\n"

abbrev pub short_line : ℕ → ℕ → List ℕ
short_line need have = codes "px: needs " ++ decimal need ++ codes " frames, has " ++ decimal have ++ codes "\n"

-- the line on the error sink. It is empty where the run halted
abbrev pub line_of_end : End → List ℕ
line_of_end Done = []
line_of_end (Bad line kind) = decimal_line (codes "px: line ") line (kind_text kind)
line_of_end (Twice v) = decimal_line (codes "px: vertex ") v (codes " twice\n")
line_of_end (Beyond superstep) = decimal_line (codes "px: beyond the limits in superstep ") superstep (codes "\n")
line_of_end (Limit n) = decimal_line (codes "px: not halted after ") n (codes " supersteps\n")
line_of_end Graph = codes "px: graph disk failed\n"
line_of_end Scratch = codes "px: scratch disk failed\n"
line_of_end Source = codes "px: input failed\n"
line_of_end Sink = codes "px: output failed\n"
line_of_end Memory = codes "px: no memory\n"
line_of_end (Short need have) = short_line need have

abbrev pub line_of : Ending → List ℕ
line_of Usage = codes "px: usage: px --program reach|sssp|components|pagerank|chains|reverse|close|prune [--NAME VALUE ..]\n"
line_of (Ran end) = line_of_end end
