use Rattle.std.proofs.Common.{◌≡◌}
use Rattle.px_store.specs.Desks.{IsReady}
use Rattle.px_wild.proofs.tests.stores.take_rows.Given as goal

abbrev pub invariant-loop : goal.invariant-loop
invariant-loop g l = record {
  ready : IsReady g.St.Store.counted (g.St.Store.part l.store) l.desk (g.GD.Disk.shown l.graph);
  graph : (g.GD.Disk.shown l.graph).page_len ≡ 256;
  scratch : (g.SD.Disk.shown l.scratch).page_len ≡ 256;
  join : (g.J.Join.view l.join).frame_len ≡ 256;
  len : l.vertex.frame_len ≡ 256;
  room : l.vertex.room ≡ 112;
  limit : l.message.limit ≡ 99;
}
