use Rattle.std.proofs.Common.{◌≡◌}
use Rattle.px_sort_group.proofs.tests.write_pairs.Given as goal

abbrev pub invariant-loop-vid : goal.invariant-loop-vid
invariant-loop-vid g l = record { disk : (g.D.Disk.shown l.disk).page_len ≡ 256; to : l.to.page_len ≡ 256 }
