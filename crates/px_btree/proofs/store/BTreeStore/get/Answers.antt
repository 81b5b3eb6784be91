use Rattle.std.proofs.Common.{◌∙◌, ap}
use Rattle.px_btree.specs.Tree.{TreeView}
use Rattle.px_btree.specs.Open.{OpenTreeView}
use Rattle.px_btree.proofs.Outer.{get_done}
use Rattle.px_btree.proofs.store.BTreeStore.get.Goals as goal

pub returns-clause-done : goal.returns-clause-done
returns-clause-done g c =
    let s = g.D.Disk.shown c.args.disk.now in
    let one = ap (λ (t : TreeView). t.part) c.get_open.ensures.tree in
    let two = ap (λ (t : OpenTreeView). t.tree.part) c.self.view_is ∙ ap (λ (t : OpenTreeView). t.tree.part) c.close.ensures.same ∙ one in
    get_done c.get.result c.args.self.now.tree.part _ _ c.args.desk.now c.get_open.new.desk c.close.new.desk c.get.new.desk s _ one two (c.get_open.ensures.done s c.requires.ready) (c.close.ensures.done s) c.get.ensures.done

pub returns-in-Some-clause-found : goal.returns-in-Some-clause-found
returns-in-Some-clause-found g c = λ l is. c.in-Some.ensures.found (g.D.Disk.shown c.args.disk.now) l is

pub returns-in-Some-clause-holds : goal.returns-in-Some-clause-holds
returns-in-Some-clause-holds g c = λ l is. c.in-Some.ensures.holds (g.D.Disk.shown c.args.disk.now) l is

pub returns-in-Some-clause-scans : goal.returns-in-Some-clause-scans
returns-in-Some-clause-scans g c = λ a b is. c.in-Some.ensures.scans (g.D.Disk.shown c.args.disk.now) a b is
