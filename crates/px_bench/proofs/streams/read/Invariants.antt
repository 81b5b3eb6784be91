use Rattle.std.proofs.Common.{◌≡◌}
use Rattle.px_stream.specs.Counts.{left}
use Rattle.px_bench.proofs.streams.read.Given as goal

abbrev pub invariant-tuples : goal.invariant-tuples
invariant-tuples g l = l.reader.page_len ≡ (g.D.Disk.shown l.disk).page_len

abbrev pub decreases-tuples : goal.decreases-tuples
decreases-tuples g l = left l.reader
