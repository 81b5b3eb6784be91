use Rattle.std.proofs.Common.{◌≡◌}
use Rattle.px_connectors.proofs.tests.is_given.Given as goal

abbrev pub invariant-loop-byte : goal.invariant-loop-byte
invariant-loop-byte g l = record {
  disk : (g.D.Disk.shown l.disk).page_len ≡ 256;
  frame_len : (g.C.Connector.view l.connector).frame_len ≡ 256;
  limit : l.into.limit ≡ 99;
}
