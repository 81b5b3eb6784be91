use Rattle.std.proofs.Common.{◌≡◌}
use Rattle.px_stream.specs.Counts.{left}
use Rattle.px_bench.proofs.superstep.sum_tuples.Given as goal

abbrev pub invariant-loop-head : goal.invariant-loop-head
invariant-loop-head g l = l.reader.page_len ≡ (g.D.Disk.shown l.disk).page_len

abbrev pub decreases-loop-head : goal.decreases-loop-head
decreases-loop-head g l = left l.reader
