use Rattle.std.proofs.Common.{◌≡◌, ◌≤◌}
use Rattle.px_wild.proofs.tests.pages.take_tuples.Given as goal

abbrev pub invariant-loop : goal.invariant-loop
invariant-loop g l = record {
  disk : (g.D.Disk.shown l.disk).page_len ≡ 256;
  from : l.from.page_len ≡ 256;
  limit : 99 ≤ l.into.limit;
}
