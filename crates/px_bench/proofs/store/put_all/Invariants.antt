use Rattle.std.proofs.Common.{◌≡◌}
use Rattle.px_meaning.specs.Graph.{room_of}
use Rattle.px_store.specs.Desks.{IsReady}
use Rattle.px_bench.proofs.store.put_all.Given as goal

abbrev pub invariant-loop-i : goal.invariant-loop-i
invariant-loop-i g l = record {
  ready : IsReady g.S.Store.counted (g.S.Store.part l.store) l.desk (g.D.Disk.shown l.disk);
  room : l.v.room ≡ room_of (g.D.Disk.shown l.disk).page_len;
}
