use Rattle.std.proofs.Common.{◌≡◌}
use Rattle.px_bench.proofs.streams.write.Given as goal

abbrev pub invariant-loop-key : goal.invariant-loop-key
invariant-loop-key g l = record {
  disk : (g.D.Disk.shown l.disk).page_len ≡ (g.D.Disk.shown l.fn.disk).page_len;
  writer : l.writer.page_len ≡ l.fn.writer.page_len;
}
