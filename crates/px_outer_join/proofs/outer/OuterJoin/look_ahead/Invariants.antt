use Rattle.std.proofs.Common.{◌≡◌, ◌≤◌, ◌+◌, List}
use Rattle.std.specs.Bool.{OnTrue}
use Rattle.px_meaning.specs.Graph.{Graph}
use Rattle.px_meaning.specs.Merge.{Pairs}
use Rattle.px_meaning.specs.Program.{Row as MeantRow}
use Rattle.px_store.specs.Desks.{IsDone, SameDesk}
use Rattle.px_outer_join.specs.Due.{first_vid}
use Rattle.px_outer_join.specs.Outer.{left_of, Beside}
use Rattle.px_outer_join.proofs.outer.OuterJoin.look_ahead.Given as goal

abbrev pub invariant-loop-message : goal.invariant-loop-message
invariant-loop-message g l =
    let gd = g.GD.Disk.shown in
    let st = g.St.Store in
    record {
      rows : (t : Graph) (m : Pairs) (rs : List MeantRow) → first_vid m ≡ l.message
          → Beside (st.scans l.fn.store l.fn.desk (gd l.fn.graph)) l.fn.self.held l.fn.self.ahead t m rs → Beside (st.scans l.store l.desk (gd l.graph)) l.self.held l.self.ahead t m rs;
      left : st.left l.store + left_of l.self ≤ st.left l.fn.store + left_of l.fn.self;
      leaves : OnTrue st.counted (st.leaves l.store ≡ st.leaves l.fn.store);
      reads : OnTrue st.counted ((gd l.graph).reads + st.unread l.store l.desk ≤ (gd l.fn.graph).reads + st.unread l.fn.store l.fn.desk);
      part : st.part l.store ≡ st.part l.fn.store;
      desk : SameDesk l.fn.desk l.desk;
      done : IsDone st.counted (st.part l.fn.store) l.fn.desk (gd l.fn.graph) l.desk (gd l.graph);
      stays : l.self ≡ record l.fn.self { ahead = l.self.ahead; held = l.self.held };
    }

abbrev pub decreases-loop-message : goal.decreases-loop-message
decreases-loop-message g l = g.St.Store.left l.store
