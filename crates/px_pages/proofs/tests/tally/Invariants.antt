use Rattle.std.proofs.Common.{◌≡◌, ◌+◌, length}
use Rattle.px_pages.specs.Page.{left_of, tuples_of}
use Rattle.px_pages.proofs.tests.tally.Given as goal

abbrev pub invariant-loop-reader : goal.invariant-loop-reader
invariant-loop-reader l = l.given + length (left_of l.reader l.page) ≡ length (tuples_of l.page)

abbrev pub decreases-loop-reader : goal.decreases-loop-reader
decreases-loop-reader l = l.reader.left
