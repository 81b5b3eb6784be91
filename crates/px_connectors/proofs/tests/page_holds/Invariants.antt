use Rattle.std.proofs.Common.{◌≡◌}
use Rattle.px_connectors.proofs.tests.page_holds.Given as goal

abbrev pub invariant-loop-key : goal.invariant-loop-key
invariant-loop-key l = record {
  disk : l.disk.page_len ≡ 256;
  reader : l.reader.page_len ≡ 256;
  limit : l.into.limit ≡ 99;
}
