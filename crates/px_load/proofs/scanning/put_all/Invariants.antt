use Rattle.std.proofs.Common.{◌≡◌, ◌≤◌, ◌+◌, []}
use Rattle.std.specs.Bool.{OnTrue}
use Rattle.px_core.specs.Shown.{Clean, Only}
use Rattle.px_meaning.specs.Graph.{Graph}
use Rattle.px_store.specs.Desks.{IsDone, SameDesk, SameRoom}
use Rattle.px_stream.specs.Stream.{Took}
use Rattle.px_load.specs.Scanning.{Scans}
use Rattle.px_load.proofs.scanning.put_all.Given as goal

abbrev pub invariant-loop-writer : goal.invariant-loop-writer
invariant-loop-writer g l =
    let st = g.St.Store in
    let graph = g.GD.Disk.shown in
    let scratch = g.SD.Disk.shown in
    record {
      scans : (k : Graph) → st.scans l.fn.store l.fn.desk (graph l.fn.graph) [] k
          → Scans (λ a b. st.scans l.store l.desk (graph l.graph) a b) (λ es. Took (scratch l.fn.scratch) l.fn.writer [] → Took (scratch l.scratch) l.writer es) l.fn.v.room k;
      leaves : OnTrue st.counted (st.leaves l.store ≡ st.leaves l.fn.store);
      reads : OnTrue st.counted ((graph l.graph).reads + st.unread l.store l.desk ≤ (graph l.fn.graph).reads + st.unread l.fn.store l.fn.desk);
      part : st.part l.store ≡ st.part l.fn.store;
      done : IsDone st.counted (st.part l.fn.store) l.fn.desk (graph l.fn.graph) l.desk (graph l.graph);
      desk : SameDesk l.fn.desk l.desk;
      clean : Clean (Only l.fn.writer.file) (scratch l.fn.scratch) (scratch l.scratch);
      file : l.writer.file ≡ l.fn.writer.file;
      first : l.writer.first ≡ l.fn.writer.first;
      page_len : l.writer.page_len ≡ l.fn.writer.page_len;
      vertex : SameRoom l.fn.v l.v;
    }

abbrev pub decreases-loop-writer : goal.decreases-loop-writer
decreases-loop-writer g l = g.St.Store.left l.store
