use Rattle.std.proofs.Common.{◌≡◌, ◌≤◌, ◌+◌, ◌*◌, take}
use Rattle.std.specs.Bool.{OnTrue}
use Rattle.px_meaning.specs.Graph.{Graph, room_of}
use Rattle.px_store.specs.Desks.{IsDone, SameDesk}
use Rattle.px_store.specs.Lists.{found_in}
use Rattle.px_store.proofs.tests.probe_all.Given as goal

abbrev pub invariant-loop-i : goal.invariant-loop-i
invariant-loop-i g l =
    let shown = g.D.Disk.shown in
    let st = g.St.Store in
    record {
      holds : (t : Graph) → st.holds l.fn.store l.fn.desk (shown l.fn.disk) t → st.holds l.store l.desk (shown l.disk) t;
      found : (t : Graph) → st.holds l.fn.store l.fn.desk (shown l.fn.disk) t → l.found ≡ found_in t (take l.i l.vids);
      few : l.found ≤ l.i;
      done : IsDone st.counted (st.part l.fn.store) l.fn.desk (shown l.fn.disk) l.desk (shown l.disk);
      part : st.part l.store ≡ st.part l.fn.store;
      room : l.into.room ≡ room_of (shown l.disk).page_len;
      leaves : OnTrue st.counted (st.leaves l.store ≡ st.leaves l.fn.store);
      reads : OnTrue st.counted ((shown l.disk).reads ≤ (shown l.fn.disk).reads + 64 * l.i);
      desk : SameDesk l.fn.desk l.desk;
    }
