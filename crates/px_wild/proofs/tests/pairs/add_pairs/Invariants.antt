use Rattle.std.proofs.Common.{◌≡◌, IsTrue}
use Rattle.px_sort_group.specs.Sorted.{takes}
use Rattle.px_wild.proofs.tests.pairs.add_pairs.Given as goal

abbrev pub invariant-loop-i : goal.invariant-loop-i
invariant-loop-i g l = record {
  disk : (g.D.Disk.shown l.disk).page_len ≡ 256;
  group : l.group.held.frame_len ≡ 256;
  takes : IsTrue (takes l.group.stage);
}
