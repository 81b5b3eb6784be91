use Rattle.std.proofs.Common.{◌≡◌, ◌∙◌, ap, sym, subst}
use Rattle.std.specs.Prelude.{None}
use Rattle.px_btree.specs.Tree.{TreeView}
use Rattle.px_btree.specs.Scan.{IsScan}
use Rattle.px_btree.specs.Open.{OpenTreeView}
use Rattle.px_btree.proofs.Outer.{done_after, if_ok_then, gives_then, scan_none}
use Rattle.px_btree.proofs.store.BTreeStore.next.Goals as goal

pub returns-clause-gives : goal.returns-clause-gives
returns-clause-gives g c =
    let s = g.D.Disk.shown c.args.disk.now in
    let tree = ap (λ (t : OpenTreeView). t.tree) c.self.view_is ∙ ap (λ (t : OpenTreeView). t.tree) c.close.ensures.same in
    let none : c.self.inside.leaf ≡ None = ap (λ (t : OpenTreeView). t.leaf) c.self.view_is ∙ ap (λ (t : OpenTreeView). t.leaf) c.close.ensures.same in
    if_ok_then c.next.result
    (λ given h a b scan. gives_then given _ _ a b _ _ (λ x y now. scan_none _ _ _ x y none now) (h a b (subst (λ (t : TreeView). IsScan t c.close.new.desk s a b) (sym tree) (c.close.ensures.scans s a b scan))))
    c.next.ensures.gives

pub returns-clause-done : goal.returns-clause-done
returns-clause-done g c =
    let same = ap (λ (t : OpenTreeView). t.tree.part) c.self.view_is ∙ ap (λ (t : OpenTreeView). t.tree.part) c.close.ensures.same in
    done_after c.next.result c.args.self.now.tree.part _ c.args.desk.now c.close.new.desk c.next.new.desk _ _ same (c.close.ensures.done (g.D.Disk.shown c.args.disk.now) c.requires.ready) c.next.ensures.done
