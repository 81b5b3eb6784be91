use Rattle.std.proofs.Common.{◌≡◌, ◌≤◌, length}
use Rattle.px_store.specs.Lists.{AreParts}
use Rattle.px_superstep.proofs.job.open_stores.Given as goal

abbrev pub invariant-loop-q : goal.invariant-loop-q
invariant-loop-q g l = record {
  len : length l.stores.items ≡ l.q;
  below : l.q ≤ l.fn.partitions;
  same : l.partitions ≡ l.fn.partitions;
  parts : AreParts g.St.Store.part l.stores.items;
}
