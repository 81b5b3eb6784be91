use Rattle.std.proofs.Common.{◌≡◌, ◌≤◌, length}
use Rattle.px_cache.specs.View.{AnyFile}
use Rattle.px_core.specs.Shown.{Clean}
use Rattle.px_meaning.specs.Graph.{Graph}
use Rattle.px_store.specs.Desks.{SameDesk, SameRoom}
use Rattle.px_load.specs.Dumping.{KeepAll}
use Rattle.px_load.specs.Loading.{IsFree, AreStores, HoldGraph}
use Rattle.px_superstep.specs.Counting.{AreCounted}
use Rattle.px_superstep.proofs.counting.count_all.Given as goal

abbrev pub invariant-loop-q : goal.invariant-loop-q
invariant-loop-q g l =
    let st = g.St.Store in
    let graph = g.D.Disk.shown in
    let many = length l.fn.stores in
    record {
      keeps : KeepAll (λ x h. st.holds x l.fn.desk (graph l.fn.disk) h) (λ x h. st.holds x l.desk (graph l.disk) h) l.fn.stores l.stores;
      counted : (k : Graph) → HoldGraph (λ x h. st.holds x l.fn.desk (graph l.fn.disk) h) l.fn.stores k → AreCounted l.tallies many l.q k;
      count : length l.stores ≡ many;
      end : l.q-end ≡ many;
      below : l.q ≤ many;
      parts : AreStores st.part l.stores;
      desk : SameDesk l.fn.desk l.desk;
      free : IsFree st.counted l.desk (graph l.disk);
      clean : Clean AnyFile (graph l.fn.disk) (graph l.disk);
      vertex : SameRoom l.fn.v l.v;
    }
