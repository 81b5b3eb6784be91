use Rattle.std.proofs.Common.{◌≡◌}
use Rattle.px_cache.specs.View.{HasFree, SameCache}
use Rattle.px_cache.proofs.tests.sweep.Given as goal

abbrev pub invariant-loop-page : goal.invariant-loop-page
invariant-loop-page g l = record {
  len : l.cache.len ≡ (g.D.Disk.shown l.disk).page_len;
  free : HasFree l.cache.notes;
  stays : SameCache l.fn.cache l.cache;
}
