use Rattle.std.proofs.Common.{◌≡◌, IsTrue}
use Rattle.px_sort_group.specs.Sorted.{takes}
use Rattle.px_sort_group.proofs.tests.add_all.Given as goal

abbrev pub invariant-loop-vid : goal.invariant-loop-vid
invariant-loop-vid g l = record { disk : (g.D.Disk.shown l.disk).page_len ≡ 256; group : l.group.held.frame_len ≡ 256; takes : IsTrue (takes l.group.stage) }
