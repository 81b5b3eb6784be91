use Rattle.std.proofs.Common.{◌∙◌, ap}
use Rattle.px_btree.specs.Tree.{TreeView}
use Rattle.px_btree.specs.Open.{OpenTreeView}
use Rattle.px_btree.proofs.Outer.{put_done}
use Rattle.px_btree.proofs.store.BTreeStore.put.Goals as goal

pub returns-then-put_open-clause-holds : goal.returns-then-put_open-clause-holds
returns-then-put_open-clause-holds g c = λ l is. c.put_open.ensures.put c.if-put_open.true (g.D.Disk.shown c.args.disk.now) l c.requires.room is

pub returns-clause-done : goal.returns-clause-done
returns-clause-done g c =
    let s = g.D.Disk.shown c.args.disk.now in
    let one = ap (λ (t : TreeView). t.part) c.put_open.ensures.tree in
    let two = ap (λ (t : OpenTreeView). t.tree.part) c.self.view_is ∙ ap (λ (t : OpenTreeView). t.tree.part) c.close.ensures.same ∙ one in
    put_done c.args.self.now.tree.part _ _ _ c.args.desk.now c.put_open.new.desk c.close.new.desk c.put.new.desk c.open_grown.new.desk s _ one two (c.put.ensures.part ∙ two) (c.put_open.ensures.done s c.requires.ready) (c.close.ensures.done s) c.in_ok-put.ensures.done
    (c.open_grown.ensures.done (g.D.Disk.shown c.put.new.disk))
