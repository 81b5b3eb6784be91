use Rattle.std.proofs.Common.{◌≡◌}
use Rattle.px_store.specs.Desks.{IsReady}
use Rattle.px_wild.proofs.tests.stores.change.Given as goal

abbrev pub invariant-loop-vid : goal.invariant-loop-vid
invariant-loop-vid g l = record {
  ready : IsReady g.St.Store.counted (g.St.Store.part l.store) l.desk (g.D.Disk.shown l.disk);
  page_len : (g.D.Disk.shown l.disk).page_len ≡ 256;
  room : l.v.room ≡ 112;
}
