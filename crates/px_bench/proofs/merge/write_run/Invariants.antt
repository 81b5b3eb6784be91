use Rattle.std.proofs.Common.{◌≡◌}
use Rattle.px_bench.proofs.merge.write_run.Given as goal

abbrev pub invariant-loop-i : goal.invariant-loop-i
invariant-loop-i g l = record {
  disk : (g.D.Disk.shown l.disk).page_len ≡ (g.D.Disk.shown l.fn.disk).page_len;
  runs : l.runs.writer.page_len ≡ l.fn.runs.writer.page_len;
}
