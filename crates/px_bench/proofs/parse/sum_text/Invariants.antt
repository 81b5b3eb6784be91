use Rattle.std.proofs.Common.{◌≡◌, false}
use Rattle.px_graph_text.specs.Reading.{left}
use Rattle.px_bench.proofs.parse.sum_text.Given as goal

abbrev pub invariant-vertices : goal.invariant-vertices
invariant-vertices g l = l.parser.spent ≡ false

abbrev pub decreases-vertices : goal.decreases-vertices
decreases-vertices g l = left l.parser
