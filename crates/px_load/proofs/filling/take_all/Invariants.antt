use Rattle.std.proofs.Common.{◌≡◌, ◌+◌, []}
use Rattle.px_core.specs.Shown.{Clean, NoFile}
use Rattle.px_frames.specs.Buffer as buffer
use Rattle.px_meaning.specs.Graph.{IsMap}
use Rattle.px_meaning.specs.Merge.{Pairs}
use Rattle.px_store.specs.Desks.{IsDone, SameDesk, SameRoom}
use Rattle.px_stream.specs.Counts.{left}
use Rattle.px_stream.specs.Stream.{ToGive}
use Rattle.px_load.specs.Filling.{Fills}
use Rattle.px_load.specs.Frames.{StillReader}
use Rattle.px_load.specs.Held.{tuples}
use Rattle.px_load.specs.Reading.{AllBodies}
use Rattle.px_load.proofs.filling.take_all.Given as goal

abbrev pub invariant-loop-store : goal.invariant-loop-store
invariant-loop-store g l =
    let st = g.St.Store in
    let graph = g.GD.Disk.shown in
    let scratch = g.SD.Disk.shown in
    record {
      fills : (k : Pairs) → AllBodies l.fn.v.room k → IsMap k → ToGive (scratch l.fn.scratch) l.fn.reader (tuples k)
          → Fills (λ h. st.fills l.fn.store l.fn.desk (graph l.fn.graph) [] → st.fills l.store l.desk (graph l.graph) h) (λ rest. ToGive (scratch l.scratch) l.reader (tuples rest)) st.counted
          ((graph l.fn.graph).reads + st.saved l.fn.store) ((graph l.graph).reads + st.saved l.store) (st.leaves l.fn.store) (st.leaves l.store) k;
      part : st.part l.store ≡ st.part l.fn.store;
      done : IsDone st.counted (st.part l.fn.store) l.fn.desk (graph l.fn.graph) l.desk (graph l.graph);
      desk : SameDesk l.fn.desk l.desk;
      clean : Clean NoFile (scratch l.fn.scratch) (scratch l.scratch);
      reader : StillReader l.fn.reader l.reader;
      body : buffer.SameRoom l.fn.body l.body;
      vertex : SameRoom l.fn.v l.v;
    }

abbrev pub decreases-loop-store : goal.decreases-loop-store
decreases-loop-store g l = left l.reader
