use Rattle.std.proofs.Common.{◌-◌, ◌≡◌, ◌≤◌, ◌<◌, ◌+◌, ◌*◌, ◌^◌, true}
use Rattle.px_meaning.specs.Graph.{Graph}
use Rattle.px_store.specs.Desks.{IsDone, SameDesk}
use Rattle.px_btree.specs.Fill.{IsFilling, IsBuilt}
use Rattle.px_btree.proofs.tree.ClosedTree.bulk_end.Given as goal

abbrev pub invariant-loop-first : goal.invariant-loop-first
invariant-loop-first g l =
    let shown = g.D.Disk.shown in
    record {
      built : (a : Graph) → IsFilling l.fn.self l.fn.desk.cache (shown l.fn.disk) a → IsBuilt (8 * l.fn.self.part) (shown l.fn.disk).page_len l.first l.end l.depth a l.fn.self.leaves l.desk.cache (shown l.disk);
      same : l.self ≡ l.fn.self;
      done : IsDone true l.fn.self.part l.fn.desk (shown l.fn.disk) l.desk (shown l.disk);
      desk : SameDesk l.fn.desk l.desk;
      reads : (shown l.disk).reads + 2 * (l.end - l.first) ≤ (shown l.fn.disk).reads + 2 * l.fn.self.leaves;
      wide : l.end + (l.end - l.first) ≤ 2 * l.fn.self.leaves;
      order : l.first ≤ l.end;
      some : 1 ≤ l.fn.self.leaves → l.first < l.end;
      least : 1 ≤ l.depth;
      most : l.depth ≤ 42;
      high : l.end - l.first ≤ 2 ^ (42 - l.depth);
      few : l.fn.self.leaves ≤ 2 ^ 41;
      paid : 2 * l.fn.self.leaves ≤ l.fn.self.togo + 2;
    }

abbrev pub decreases-loop-first : goal.decreases-loop-first
decreases-loop-first g l = l.end - l.first
