-- The one answer that a program owes to a text.
use Rattle.std.specs.Prelude.{ℕ, List}
use Rattle.px_meaning.specs.Graph.{Graph}
use Rattle.px_meaning.specs.GraphText.{TextMeaning, Bad, Twice, Good}
use Rattle.px_meaning.specs.Line.{Kind}
use Rattle.px_meaning.specs.Meaning.{Outcome, Halted, Limit, Beyond, meaning}
use Rattle.px_meaning.specs.OutputText.{text_of}
use Rattle.px_meaning.specs.Program.{ProgramMeaning}

pub data Due : Type 0 where
  -- the text is refused at this line, for this kind of offence
  DueBad : ℕ → Kind → Due
  -- this vid, the least such, stands on two lines
  DueTwice : ℕ → Due
  -- the step to this superstep is beyond the limits
  DueBeyond : ℕ → Due
  -- so many supersteps were taken, and the state is not halted
  DueLimit : ℕ → Due
  -- the run halts, and this is its text
  DueText : List ℕ → Due

-- what is owed of a run that ends so
abbrev pub due_of_outcome : ProgramMeaning → Outcome → Due
due_of_outcome p (Halted s) = DueText (text_of p s)
due_of_outcome p (Limit n) = DueLimit n
due_of_outcome p (Beyond s) = DueBeyond s

-- what a program owes to a graph, with so many supersteps at most
abbrev pub due_of_graph : ProgramMeaning → ℕ → ℕ → Graph → Due
due_of_graph p room most graph = due_of_outcome p (meaning p room graph most)

-- what it owes to a text
abbrev pub due_of_text : ProgramMeaning → ℕ → ℕ → TextMeaning → Due
due_of_text p room most (Bad line kind) = DueBad line kind
due_of_text p room most (Twice v) = DueTwice v
due_of_text p room most (Good graph) = due_of_graph p room most graph
