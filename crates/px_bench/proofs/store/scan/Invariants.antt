use Rattle.std.proofs.Common.{◌≡◌}
use Rattle.px_meaning.specs.Graph.{room_of}
use Rattle.px_store.specs.Desks.{IsReady}
use Rattle.px_bench.proofs.store.scan.Given as goal

abbrev pub invariant-loop-tally : goal.invariant-loop-tally
invariant-loop-tally g l = record {
  ready : IsReady g.S.Store.counted (g.S.Store.part l.store) l.desk (g.D.Disk.shown l.disk);
  room : l.v.room ≡ room_of (g.D.Disk.shown l.disk).page_len;
}

abbrev pub decreases-loop-tally : goal.decreases-loop-tally
decreases-loop-tally g l = g.S.Store.left l.store
