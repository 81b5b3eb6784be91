use Rattle.std.proofs.Common.{◌≡◌, ◌≤◌, ◌+◌, ◌++◌}
use Rattle.std.specs.Bool.{OnTrue}
use Rattle.px_core.specs.Shown.{Clean}
use Rattle.px_cache.specs.View.{AnyFile}
use Rattle.px_meaning.specs.Graph.{Graph, vids, room_of}
use Rattle.px_store.specs.Desks.{IsReady}
use Rattle.px_store.proofs.tests.scan.Given as goal

abbrev pub invariant-loop-found : goal.invariant-loop-found
invariant-loop-found g l =
    let shown = g.D.Disk.shown in
    let st = g.St.Store in
    record {
      scans : (t : Graph) → st.holds l.fn.store l.fn.desk (shown l.fn.disk) t → (a : Graph) × ((b : Graph) × st.scans l.store l.desk (shown l.disk) a b × (a ++ b ≡ t) × (l.found.items ≡ vids a));
      ready : IsReady st.counted (st.part l.fn.store) l.desk (shown l.disk);
      part : st.part l.store ≡ st.part l.fn.store;
      room : l.into.room ≡ room_of (shown l.disk).page_len;
      leaves : OnTrue st.counted (st.leaves l.store ≡ st.leaves l.fn.store);
      reads : OnTrue st.counted ((shown l.disk).reads + st.unread l.store l.desk ≤ (shown l.fn.disk).reads + 64 + st.leaves l.fn.store);
      clean : Clean AnyFile (shown l.fn.disk) (shown l.disk);
    }

abbrev pub decreases-loop-found : goal.decreases-loop-found
decreases-loop-found g l = g.St.Store.left l.store
