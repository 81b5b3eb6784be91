use Rattle.std.proofs.Common.{◌≡◌}
use Rattle.px_store.specs.Desks.{IsReady}
use Rattle.px_wild.proofs.tests.stores.scan.Given as goal

abbrev pub invariant-loop : goal.invariant-loop
invariant-loop g l = record {
  ready : IsReady g.St.Store.counted (g.St.Store.part l.store) l.desk (g.D.Disk.shown l.disk);
  page_len : (g.D.Disk.shown l.disk).page_len ≡ 256;
  room : l.v.room ≡ 112;
}

abbrev pub decreases-loop : goal.decreases-loop
decreases-loop g l = g.St.Store.left l.store
