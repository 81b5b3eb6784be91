use Rattle.std.proofs.Common.{◌≡◌, ◌+◌, length}
use Rattle.px_pages.specs.Page.{left_of, tuples_of}
use Rattle.px_bench.proofs.pages.walk.Given as goal

abbrev pub invariant-loop-tuple : goal.invariant-loop-tuple
invariant-loop-tuple l = l.count + length (left_of l.reader l.page) ≡ length (tuples_of l.page)

abbrev pub decreases-loop-tuple : goal.decreases-loop-tuple
decreases-loop-tuple l = l.reader.left
