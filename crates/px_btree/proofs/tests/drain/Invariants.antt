use Rattle.std.proofs.Common.{◌≡◌, true}
use Rattle.px_meaning.specs.Graph.{room_of}
use Rattle.px_store.specs.Desks.{IsReady}
use Rattle.px_btree.specs.Scan.{left}
use Rattle.px_btree.proofs.tests.drain.Given as goal

abbrev pub invariant-loop-v : goal.invariant-loop-v
invariant-loop-v g l = record {
  part : l.tree.part ≡ l.fn.tree.part;
  ready : IsReady true l.tree.part l.desk (g.D.Disk.shown l.disk);
  room : l.v.room ≡ room_of (g.D.Disk.shown l.disk).page_len;
}

abbrev pub decreases-loop-v : goal.decreases-loop-v
decreases-loop-v g l = left l.tree
