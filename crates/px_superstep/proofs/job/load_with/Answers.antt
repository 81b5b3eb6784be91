use Rattle.std.proofs.Common.{ℕ, sym, ◌∙◌, ap, subst}
use Rattle.px_global_state.specs.declared.gs.Gs.{Gs}
use Rattle.px_load.specs.Loading.{HoldGraph}
use Rattle.px_load.proofs.ScanningSteps.{hold_kept}
use Rattle.px_superstep.specs.Counting.{AreCounted}
use Rattle.px_superstep.proofs.job.load_with.Goals as goal

pub returns-clause-loaded : goal.returns-clause-loaded
returns-clause-loaded g c = λ bytes left tells told.
    let l = c.in_ok-count.ensures.loaded bytes left tells in
    let hold : HoldGraph (λ x h. g.St.Store.holds x c.load.new.desk (g.GD.Disk.shown c.load.new.graph) h) c.load.new.stores l.graph = λ q st at. l.hold q st at told in
    let same = c.count_all.ensures.count in
    record {
      graph = l.graph;
      good = l.good;
      hold = hold_kept _ _ c.load.new.stores c.count_all.new.stores l.graph same c.in_ok-count_all.ensures.keeps hold;
      counted = ap (λ (n : Gs). n.count) c.first.ensures ∙ l.counted;
      tallied = subst (λ (n : ℕ). AreCounted c.count_all.new.tallies n n l.graph) (sym same) (c.in_ok-count_all.ensures.counted l.graph hold);
    }
