use Rattle.std.proofs.Common.{◌≡◌, ◌≤◌, length}
use Rattle.std.specs.Prelude.{IsTrue}
use Rattle.px_programs.specs.Entries.{entries_in, entries_of, count}
use Rattle.px_programs.specs.InOrder.{is_ordered}
use Rattle.px_programs.specs.Weaving.{woven}
use Rattle.px_programs.proofs.entries.weave.Given as goal

-- what is left to be put, put, gives what all of it gave at first
abbrev pub invariant-loop-left : goal.invariant-loop-left
invariant-loop-left l = record {
  ordered : IsTrue (is_ordered (entries_in l.held l.fn.bytes)) → IsTrue (is_ordered (entries_in l.first l.bytes));
  woven : IsTrue (is_ordered (entries_in l.held l.fn.bytes)) → IsTrue (is_ordered (entries_of l.more)) → woven l.first l.left l.bytes l.more ≡ woven l.held (count l.more) l.fn.bytes l.more;
  first : l.first ≤ l.held;
  left : l.left ≤ count l.more;
  len : length l.bytes ≡ length l.fn.bytes;
}

abbrev pub decreases-loop-left : goal.decreases-loop-left
decreases-loop-left l = l.left
