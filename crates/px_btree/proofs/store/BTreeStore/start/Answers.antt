use Rattle.std.proofs.Common.{◌∙◌, ap}
use Rattle.px_btree.specs.Open.{OpenTreeView}
use Rattle.px_btree.proofs.Outer.{done_after}
use Rattle.px_btree.proofs.store.BTreeStore.start.Goals as goal

pub returns-clause-done : goal.returns-clause-done
returns-clause-done g c =
    let same = ap (λ (t : OpenTreeView). t.tree.part) c.self.view_is ∙ ap (λ (t : OpenTreeView). t.tree.part) c.close.ensures.same in
    done_after c.start.result c.args.self.now.tree.part _ c.args.desk.now c.close.new.desk c.start.new.desk _ _ same (c.close.ensures.done (g.D.Disk.shown c.args.disk.now) c.requires) c.start.ensures.done
