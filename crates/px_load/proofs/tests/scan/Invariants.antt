use Rattle.std.proofs.Common.{◌≡◌}
use Rattle.px_meaning.specs.Graph.{room_of}
use Rattle.px_store.specs.Desks.{IsReady}
use Rattle.px_load.proofs.tests.scan.Given as goal

abbrev pub invariant-loop-v : goal.invariant-loop-v
invariant-loop-v g l =
    let s = g.D.Disk.shown l.disk in
    record {
      ready : IsReady g.St.Store.counted (g.St.Store.part l.store) l.desk s;
      room : l.v.room ≡ room_of s.page_len;
    }

abbrev pub decreases-loop-v : goal.decreases-loop-v
decreases-loop-v g l = g.St.Store.left l.store
