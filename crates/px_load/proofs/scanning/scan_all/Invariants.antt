use Rattle.std.proofs.Common.{◌≡◌, ◌≤◌, ◌+◌, ◌*◌, length, map, take, true}
use Rattle.std.specs.Bool.{OnTrue}
use Rattle.px_cache.specs.View.{AnyFile}
use Rattle.px_core.specs.Shown.{Clean}
use Rattle.px_meaning.specs.Graph.{Graph}
use Rattle.px_store.specs.Desks.{SameDesk}
use Rattle.px_load.specs.Dumping.{KeepAll, FarKept, IsDumpFile, total}
use Rattle.px_load.specs.Frames.{SameLoadFrames}
use Rattle.px_load.specs.Loading.{IsFree, AreStores, HoldGraph}
use Rattle.px_load.specs.Scanning.{HoldFiles}
use Rattle.px_load.proofs.scanning.scan_all.Given as goal

abbrev pub invariant-loop-q : goal.invariant-loop-q
invariant-loop-q g l =
    let st = g.St.Store in
    let graph = g.GD.Disk.shown in
    let scratch = g.SD.Disk.shown in
    let many = length l.fn.stores in
    record {
      keeps : KeepAll (λ x h. st.holds x l.fn.desk (graph l.fn.graph) h) (λ x h. st.holds x l.desk (graph l.graph) h) l.fn.stores l.stores;
      files : (k : Graph) → HoldGraph (λ x h. st.holds x l.fn.desk (graph l.fn.graph) h) l.fn.stores k → (scratch l.fn.scratch).tells ≡ true
          → HoldFiles (scratch l.scratch) l.fn.frames.vertex.room many l.q l.pages k;
      leaves : OnTrue st.counted (map st.leaves l.stores ≡ map st.leaves l.fn.stores);
      reads : OnTrue st.counted ((graph l.graph).reads ≤ (graph l.fn.graph).reads + 64 * l.q + total (take l.q (map st.leaves l.fn.stores)));
      count : length l.stores ≡ many;
      end : l.q-end ≡ many;
      below : l.q ≤ many;
      parts : AreStores st.part l.stores;
      desk : SameDesk l.fn.desk l.desk;
      free : IsFree st.counted l.desk (graph l.graph);
      clean : Clean AnyFile (graph l.fn.graph) (graph l.graph);
      far : FarKept many l.fn.desk (graph l.fn.graph) l.desk (graph l.graph);
      scratch : Clean IsDumpFile (scratch l.fn.scratch) (scratch l.scratch);
      frames : SameLoadFrames l.fn.frames l.frames;
    }
