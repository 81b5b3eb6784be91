use Rattle.std.proofs.Common.{◌≡◌, IsTrue}
use Rattle.px_sort_group.specs.Sorted.{gives}
use Rattle.px_wild.proofs.tests.pairs.take_folds.Given as goal

abbrev pub invariant-loop : goal.invariant-loop
invariant-loop g l = record {
  disk : (g.D.Disk.shown l.disk).page_len ≡ 256;
  group : l.group.held.frame_len ≡ 256;
  sealed : IsTrue (gives l.group.stage);
  limit : l.into.limit ≡ 99;
}
