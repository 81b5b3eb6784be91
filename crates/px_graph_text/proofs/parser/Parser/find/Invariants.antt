use Rattle.std.proofs.Common.{◌≡◌, ◌≤◌, ◌<◌, ◌⊎◌, ℕ, List, Option}
use Rattle.px_meaning.specs.Graph.{Vertex}
use Rattle.px_meaning.specs.GraphText.{Offence}
use Rattle.px_graph_text.specs.declared.line.State.TheVariants.{Start}
use Rattle.px_graph_text.specs.Steps.{spot_of, Holds, SameFrame}
use Rattle.px_graph_text.specs.Reading.{ToGive, SameParser, left}
use Rattle.px_graph_text.specs.Passing.{ToGiveAt, Still}
use Rattle.px_graph_text.proofs.parser.Parser.find.Given as goal

abbrev pub invariant-loop-self : goal.invariant-loop-self
invariant-loop-self g l = record {
  to_give : (bytes : List ℕ) (vs : List (ℕ × Vertex)) (o : Option Offence) → g.R.Source.left l.fn.source bytes → ToGive l.fn.into.room l.fn.self bytes vs o
      → Still (g.R.Source.left l.source) (λ rest. ToGiveAt l.fn.into.room (spot_of l.state l.into) l.self rest vs o);
  holds : Holds l.state l.into;
  begun : (l.state ≡ Start) ⊎ (left l.self < left l.fn.self);
  forward : left l.self ≤ left l.fn.self;
  faults : g.R.Source.faults l.source ≡ g.R.Source.faults l.fn.source;
  same : SameParser l.fn.self l.self;
  frame : SameFrame l.fn.into l.into;
}

abbrev pub decreases-loop-self : goal.decreases-loop-self
decreases-loop-self g l = left l.self
