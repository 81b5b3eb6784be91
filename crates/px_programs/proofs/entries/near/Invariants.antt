use Rattle.std.proofs.Common.{◌≤◌, ◌<◌}
use Rattle.std.specs.Prelude.{IsTrue}
use Rattle.px_programs.specs.Entries.{entries_in}
use Rattle.px_programs.specs.InOrder.{is_ordered}
use Rattle.px_programs.specs.Weaving.{IsSpan}
use Rattle.px_programs.proofs.entries.near.Given as goal

-- those from `high` on come after the entry
abbrev pub invariant-loop-step : goal.invariant-loop-step
invariant-loop-step l = record {
  span : IsTrue (is_ordered (entries_in l.held l.bytes)) → IsSpan l.held l.bytes l.entry 0 l.high;
  within : l.high ≤ l.held;
  some : 0 < l.step;
}

abbrev pub decreases-loop-step : goal.decreases-loop-step
decreases-loop-step l = l.high
