use Rattle.std.proofs.Common.{◌≡◌, ◌≤◌, ◌+◌, ◌*◌, length, true}
use Rattle.std.specs.Bool.{OnTrue}
use Rattle.px_cache.specs.View.{AnyFile}
use Rattle.px_core.specs.Parts.{to_part}
use Rattle.px_core.specs.Shown.{Clean, NoFile}
use Rattle.px_meaning.specs.Graph.{IsMap}
use Rattle.px_meaning.specs.Merge.{Pairs}
use Rattle.px_store.specs.Desks.{SameDesk}
use Rattle.px_load.specs.Filling.{HoldUpTo, count_below}
use Rattle.px_load.specs.Frames.{SameLoadFrames}
use Rattle.px_load.specs.Loading.{IsFree, AreStores}
use Rattle.px_load.specs.Reading.{AllBodies, vertices_of}
use Rattle.px_connectors.specs.Writers.{HoldParts}
use Rattle.px_load.proofs.filling.fill_all.Given as goal

abbrev pub invariant-loop-q : goal.invariant-loop-q
invariant-loop-q g l =
    let st = g.St.Store in
    let graph = g.GD.Disk.shown in
    let scratch = g.SD.Disk.shown in
    let parts = length l.fn.stores in
    record {
      holds : (k : Pairs) → AllBodies l.fn.frames.vertex.room k → IsMap k → HoldParts (scratch l.fn.scratch) 1 192 parts l.fn.pages k → (graph l.fn.graph).tells ≡ true
          → HoldUpTo (λ x h. st.holds x l.desk (graph l.graph) h) l.q (λ i. vertices_of (to_part parts i k)) l.stores;
      leaves : OnTrue st.counted ((k : Pairs) → AllBodies l.fn.frames.vertex.room k → IsMap k → HoldParts (scratch l.fn.scratch) 1 192 parts l.fn.pages k
          → HoldUpTo (λ x h. st.leaves x ≤ length h + 1) l.q (λ i. vertices_of (to_part parts i k)) l.stores);
      reads : OnTrue st.counted ((k : Pairs) → AllBodies l.fn.frames.vertex.room k → IsMap k → HoldParts (scratch l.fn.scratch) 1 192 parts l.fn.pages k
          → (graph l.graph).reads ≤ (graph l.fn.graph).reads + 2 * count_below parts l.q k);
      count : length l.stores ≡ parts;
      end : l.q-end ≡ parts;
      parts : AreStores st.part l.stores;
      desk : SameDesk l.fn.desk l.desk;
      free : IsFree st.counted l.desk (graph l.graph);
      clean : Clean AnyFile (graph l.fn.graph) (graph l.graph);
      scratch : Clean NoFile (scratch l.fn.scratch) (scratch l.scratch);
      frames : SameLoadFrames l.fn.frames l.frames;
    }
