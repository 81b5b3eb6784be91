use Rattle.std.proofs.Common.{◌≡◌, ℕ}
use Rattle.px_meaning.specs.Graph.{room_of}
use Rattle.px_store.specs.Desks.{IsReady}
use Rattle.px_btree.proofs.tests_growing.put_both.Given as goal

abbrev pub invariant-loop-way : goal.invariant-loop-way
invariant-loop-way g l = record {
  ready : (q : ℕ) → IsReady g.St.Store.counted q l.desk (g.D.Disk.shown l.disk);
  room : l.v.room ≡ room_of (g.D.Disk.shown l.disk).page_len;
}
