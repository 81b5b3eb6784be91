use Rattle.std.proofs.Common.{◌≡◌}
use Rattle.px_stream.proofs.tests.merging.put_all.Given as goal

abbrev pub invariant-loop-key : goal.invariant-loop-key
invariant-loop-key g l = record { disk : (g.D.Disk.shown l.disk).page_len ≡ 256; writer : l.writer.page_len ≡ 256 }
