use Rattle.std.proofs.Common.{◌≤◌, ◌-◌}
use Rattle.std.specs.Prelude.{IsTrue}
use Rattle.px_programs.specs.Entries.{entries_in}
use Rattle.px_programs.specs.InOrder.{is_ordered}
use Rattle.px_programs.specs.Weaving.{IsSpan}
use Rattle.px_programs.proofs.entries.end_of_upto.Given as goal

abbrev pub invariant-loop-low : goal.invariant-loop-low
invariant-loop-low l = record {
  span : IsTrue (is_ordered (entries_in l.held l.bytes)) → IsSpan l.held l.bytes l.entry l.low l.high;
  order : l.low ≤ l.high;
  within : l.high ≤ l.held;
}

abbrev pub decreases-loop-low : goal.decreases-loop-low
decreases-loop-low l = l.high - l.low
