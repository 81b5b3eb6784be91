use Rattle.std.proofs.Common.{◌≡◌}
use Rattle.px_meaning.specs.Graph.{room_of}
use Rattle.px_store.specs.Desks.{IsReady}
use Rattle.px_btree.proofs.tests_growing.pass_all.Given as goal

abbrev pub invariant-loop-way : goal.invariant-loop-way
invariant-loop-way g l = record {
  ready : IsReady g.St.Store.counted (g.St.Store.part l.store) l.desk (g.D.Disk.shown l.disk);
  room : l.v.room ≡ room_of (g.D.Disk.shown l.disk).page_len;
}
