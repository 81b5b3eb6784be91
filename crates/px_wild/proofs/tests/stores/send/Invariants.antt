use Rattle.std.proofs.Common.{◌≡◌}
use Rattle.px_wild.proofs.tests.stores.send.Given as goal

abbrev pub invariant-loop-vid : goal.invariant-loop-vid
invariant-loop-vid g l = record {
  disk : (g.D.Disk.shown l.disk).page_len ≡ 256;
  writer : l.writer.page_len ≡ 256;
}
