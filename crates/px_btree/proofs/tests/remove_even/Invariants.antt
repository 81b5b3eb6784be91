use Rattle.std.proofs.Common.{◌≡◌, true}
use Rattle.px_store.specs.Desks.{IsReady}
use Rattle.px_btree.proofs.tests.remove_even.Given as goal

abbrev pub invariant-loop-i : goal.invariant-loop-i
invariant-loop-i g l = record {
  ready : IsReady true l.tree.part l.desk (g.D.Disk.shown l.disk);
  len : (g.D.Disk.shown l.disk).page_len ≡ (g.D.Disk.shown l.fn.disk).page_len;
}
