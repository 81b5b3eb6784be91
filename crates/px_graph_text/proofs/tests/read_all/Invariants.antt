use Rattle.std.proofs.Common.{◌≡◌, ℕ, List, Option, false}
use Rattle.px_meaning.specs.Graph.{Vertex}
use Rattle.px_meaning.specs.GraphText.{Offence}
use Rattle.px_graph_text.specs.Reading.{ToGive, SameParser, left}
use Rattle.px_graph_text.proofs.Collecting.{Collects}
use Rattle.px_graph_text.proofs.tests.read_all.Given as goal

abbrev pub invariant-vertices : goal.invariant-vertices
invariant-vertices g l = record {
  collects : (bytes : List ℕ) (vs : List (ℕ × Vertex)) (o : Option Offence) → g.R.Source.left l.fn.source bytes → ToGive l.fn.into.room l.fn.parser bytes vs o
      → Collects (g.R.Source.left l.source) l.fn.into.room l.parser l.fn.found.items l.found.items vs o;
  spent : l.parser.spent ≡ false;
  room : l.into.room ≡ l.fn.into.room;
  faults : g.R.Source.faults l.source ≡ g.R.Source.faults l.fn.source;
  same : SameParser l.fn.parser l.parser;
}

abbrev pub decreases-vertices : goal.decreases-vertices
decreases-vertices g l = left l.parser
