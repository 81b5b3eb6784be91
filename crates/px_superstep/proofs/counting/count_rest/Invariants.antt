use Rattle.std.proofs.Common.{◌≡◌, []}
use Rattle.px_meaning.specs.Graph.{Graph}
use Rattle.px_store.specs.Desks.{IsDone, SameDesk, SameRoom}
use Rattle.px_superstep.specs.Counting.{CountsOf}
use Rattle.px_superstep.proofs.counting.count_rest.Given as goal

abbrev pub invariant-loop-v : goal.invariant-loop-v
invariant-loop-v g l =
    let st = g.St.Store in
    let graph = g.D.Disk.shown in
    record {
      counts : (k : Graph) → st.scans l.fn.store l.fn.desk (graph l.fn.disk) [] k → CountsOf (λ a b. st.scans l.store l.desk (graph l.disk) a b) l.tally k;
      part : st.part l.store ≡ st.part l.fn.store;
      done : IsDone st.counted (st.part l.fn.store) l.fn.desk (graph l.fn.disk) l.desk (graph l.disk);
      desk : SameDesk l.fn.desk l.desk;
      vertex : SameRoom l.fn.v l.v;
    }

abbrev pub decreases-loop-v : goal.decreases-loop-v
decreases-loop-v g l = g.St.Store.left l.store
