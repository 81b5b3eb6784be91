use Rattle.std.proofs.Common.{◌≡◌}
use Rattle.px_meaning.specs.Graph.{room_of}
use Rattle.px_store.specs.Desks.{IsReady}
use Rattle.px_bench.proofs.vertices.load.Given as goal

abbrev pub invariant-loop-vid : goal.invariant-loop-vid
invariant-loop-vid g l = record {
  ready : IsReady g.S.Store.counted (g.S.Store.part l.store) l.desk (g.D.Disk.shown l.disk);
  page_len : (g.D.Disk.shown l.disk).page_len ≡ (g.D.Disk.shown l.fn.disk).page_len;
  room : l.v.room ≡ room_of (g.D.Disk.shown l.disk).page_len;
}
