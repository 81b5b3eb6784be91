use Rattle.std.proofs.Common.{◌≡◌}
use Rattle.px_wild.proofs.tests.pairs.ask.Given as goal

abbrev pub invariant-loop-vid : goal.invariant-loop-vid
invariant-loop-vid g l = record {
  disk : (g.D.Disk.shown l.disk).page_len ≡ 256;
  requests : l.requests.frame_len ≡ 256;
}
