use Rattle.std.proofs.Common.{◌≤◌, ◌≡◌, ◌-◌, ◌++◌, List, ℕ, take, length}
use Rattle.px_core.proofs.sink.write_all.Given as goal

abbrev pub invariant-loop-done : goal.invariant-loop-done
invariant-loop-done g l = record {
  within : l.done ≤ length l.bytes;
  holds : (h : List ℕ) → g.W.Sink.holds l.fn.sink h → g.W.Sink.holds l.sink (h ++ take l.done l.bytes);
  no_fault : g.W.Sink.faults l.sink ≡ g.W.Sink.faults l.fn.sink;
}

abbrev pub decreases-loop-done : goal.decreases-loop-done
decreases-loop-done g l = length l.bytes - l.done
