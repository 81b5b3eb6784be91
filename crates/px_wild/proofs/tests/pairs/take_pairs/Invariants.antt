use Rattle.std.proofs.Common.{◌≡◌}
use Rattle.px_wild.proofs.tests.pairs.take_pairs.Given as goal

abbrev pub invariant-loop : goal.invariant-loop
invariant-loop g l = record {
  disk : (g.D.Disk.shown l.disk).page_len ≡ 256;
  parts : (g.C.Connector.view l.connector).parts ≡ (g.C.Connector.view l.fn.connector).parts;
  frame_len : (g.C.Connector.view l.connector).frame_len ≡ 256;
  limit : l.into.limit ≡ 99;
}
