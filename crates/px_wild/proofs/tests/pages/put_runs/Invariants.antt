use Rattle.std.proofs.Common.{◌≡◌}
use Rattle.px_wild.proofs.tests.pages.put_runs.Given as goal

abbrev pub invariant-loop : goal.invariant-loop
invariant-loop g l = record {
  disk : (g.D.Disk.shown l.disk).page_len ≡ 256;
  runs : l.runs.writer.page_len ≡ 256;
}
