use Rattle.std.proofs.Common.{◌≡◌}
use Rattle.px_wild.proofs.tests.pairs.send.Given as goal

abbrev pub invariant-loop-vid : goal.invariant-loop-vid
invariant-loop-vid g l = record {
  disk : (g.D.Disk.shown l.disk).page_len ≡ 256;
  parts : (g.C.Connector.view l.connector).parts ≡ (g.C.Connector.view l.fn.connector).parts;
  frame_len : (g.C.Connector.view l.connector).frame_len ≡ 256;
}
