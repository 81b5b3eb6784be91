use Rattle.std.proofs.Common.{◌≡◌, ◌≤◌, ◌+◌, true}
use Rattle.px_meaning.specs.Graph.{Graph, room_of}
use Rattle.px_store.specs.Desks.{IsDone, SameDesk, SameRoom}
use Rattle.px_btree.specs.Scan.{IsScan, unread, left}
use Rattle.px_btree.proofs.tree.ClosedTree.next.Given as goal

abbrev pub invariant-loop-self : goal.invariant-loop-self
invariant-loop-self g l =
    let shown = g.D.Disk.shown in
    record {
      scans : (a b : Graph) → IsScan l.fn.self l.fn.desk (shown l.fn.disk) a b → IsScan l.self l.desk (shown l.disk) a b;
      done : IsDone true l.fn.self.part l.fn.desk (shown l.fn.disk) l.desk (shown l.disk);
      part : l.self.part ≡ l.fn.self.part;
      leaves : l.self.leaves ≡ l.fn.self.leaves;
      left : left l.self ≤ left l.fn.self;
      room : l.into.room ≡ room_of (shown l.disk).page_len;
      into : SameRoom l.fn.into l.into;
      reads : (shown l.disk).reads + unread l.self l.desk ≤ (shown l.fn.disk).reads + unread l.fn.self l.fn.desk;
      desk : SameDesk l.fn.desk l.desk;
    }

abbrev pub decreases-loop-self : goal.decreases-loop-self
decreases-loop-self g l = left l.self
