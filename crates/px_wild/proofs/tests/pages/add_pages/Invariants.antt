use Rattle.std.proofs.Common.{◌≡◌}
use Rattle.px_cache.specs.View.{NoPins, SameCache}
use Rattle.px_wild.proofs.tests.pages.add_pages.Given as goal

abbrev pub invariant-loop-page : goal.invariant-loop-page
invariant-loop-page g l = record {
  len : l.cache.len ≡ (g.D.Disk.shown l.disk).page_len;
  free : NoPins l.cache.notes;
  stays : SameCache l.fn.cache l.cache;
}
