use Rattle.std.proofs.Common.{◌≡◌, ◌≤◌, ◌+◌, ◌||◌, ◌==◌, List, IsFalse}
use Rattle.std.specs.Bool.{OnTrue}
use Rattle.std.specs.List.{list_any}
use Rattle.px_core.specs.Shown.{NoFile, Clean}
use Rattle.px_meaning.specs.Graph.{Graph, room_of}
use Rattle.px_meaning.specs.Merge.{Pairs}
use Rattle.px_meaning.specs.Program.{Row as MeantRow}
use Rattle.px_store.specs.Desks.{IsDone, SameDesk}
use Rattle.px_store.specs.Joins.{AreInputs, rows_in, HasRows}
use Rattle.px_store.proofs.tests.joining.has_row.Given as goal

abbrev pub invariant-loop-row : goal.invariant-loop-row
invariant-loop-row g l =
    let gd = g.GD.Disk.shown in
    let sd = g.SD.Disk.shown in
    let st = g.St.Store in
    let j = g.J.Join in
    record {
      gives : (t : Graph) (m : Pairs) → st.holds l.fn.store l.fn.desk (gd l.fn.graph) t → AreInputs j.probing (sd l.fn.scratch) l.ins t m
          → (rest : List MeantRow) × HasRows j.probing (st.holds l.store l.desk (gd l.graph)) (st.scans l.store l.desk (gd l.graph)) (j.gives l.join (sd l.scratch)) t rest
          × (list_any (λ r. r.vid == l.vid) (rows_in t m) ≡ (l.found || list_any (λ r. r.vid == l.vid) rest));
      done : IsDone st.counted (st.part l.fn.store) l.fn.desk (gd l.fn.graph) l.desk (gd l.graph);
      ok : Clean NoFile (sd l.fn.scratch) (sd l.scratch);
      part : st.part l.store ≡ st.part l.fn.store;
      view : j.view l.join ≡ record (j.view l.fn.join) { inputs = l.ins };
      vertex_len : l.vertex.frame_len ≡ (j.view l.fn.join).frame_len;
      room : l.vertex.room ≡ room_of (j.view l.fn.join).frame_len;
      limit : l.message.limit ≡ l.fn.message.limit;
      leaves : OnTrue st.counted (st.leaves l.store ≡ st.leaves l.fn.store);
      reads : IsFalse j.probing → OnTrue st.counted ((gd l.graph).reads + st.unread l.store l.desk ≤ (gd l.fn.graph).reads + 64 + st.leaves l.fn.store);
      desk : SameDesk l.fn.desk l.desk;
    }

abbrev pub decreases-loop-row : goal.decreases-loop-row
decreases-loop-row g l = g.J.Join.left l.join + g.St.Store.left l.store
