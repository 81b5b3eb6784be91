use Rattle.std.proofs.Common.{◌≡◌}
use Rattle.px_outer_join.proofs.tests.send.Given as goal

abbrev pub invariant-loop-vid : goal.invariant-loop-vid
invariant-loop-vid g l = record { disk : (g.D.Disk.shown l.disk).page_len ≡ 256; writer : l.writer.page_len ≡ 256 }
