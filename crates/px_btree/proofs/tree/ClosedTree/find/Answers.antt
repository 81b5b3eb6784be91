use Rattle.std.proofs.Common.{subst}
use Rattle.px_btree.specs.Tree.{TreeView}
use Rattle.px_btree.specs.Find.{Goes}
use Rattle.px_btree.proofs.Marking.{root_finds}
use Rattle.px_btree.proofs.tree.ClosedTree.find.Goals as goal

pub returns-in_ok-spot-in-None-clause-finds : goal.returns-in_ok-spot-in-None-clause-finds
returns-in_ok-spot-in-None-clause-finds g c =
    let shown = g.D.Disk.shown in
    let s1 = shown c.near.new.disk in
    let s' = shown c.descend.new.disk in
    let goes = subst (λ (t : TreeView). Goes t.root t.depth c.near.new.cache s1 c.args.vid c.file-file.result c.in_ok-spot-in-None.spot c.descend.new.cache s') c.self.view_is c.in_ok-spot-in-None.ensures.goes in
    root_finds c.args.self.now c.file-file.result c.args.vid c.in_ok-spot-in-None.spot c.args.cache.now c.near.new.cache c.descend.new.cache (shown c.args.disk.now) s1 s' c.file-file.ensures.file c.in_ok-near.ensures.ok.touches.page_len
    c.in_ok-near.ensures.shows goes
