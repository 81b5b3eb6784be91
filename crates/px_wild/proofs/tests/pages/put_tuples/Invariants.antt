use Rattle.std.proofs.Common.{◌≡◌}
use Rattle.px_wild.proofs.tests.pages.put_tuples.Given as goal

abbrev pub invariant-loop-key : goal.invariant-loop-key
invariant-loop-key g l = record {
  disk : (g.D.Disk.shown l.disk).page_len ≡ 256;
  to : l.to.page_len ≡ 256;
}
