use Rattle.std.proofs.Common.{◌≡◌}
use Rattle.px_sort_group.proofs.tests.reads.Given as goal

abbrev pub invariant-loop-vid : goal.invariant-loop-vid
invariant-loop-vid g l = record { disk : (g.D.Disk.shown l.disk).page_len ≡ 256; from : l.from.page_len ≡ 256; limit : l.into.limit ≡ 99 }
