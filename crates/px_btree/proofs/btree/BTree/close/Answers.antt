use Rattle.std.proofs.Common.{◌*◌, ◌∙◌, ap, sym}
use Rattle.px_btree.specs.Open.{OpenTreeView}
use Rattle.px_btree.proofs.Opening.{closes, closes_scan}
use Rattle.px_btree.proofs.btree.BTree.close.Goals as goal

pub returns-in-Some-clause-holds : goal.returns-in-Some-clause-holds
returns-in-Some-clause-holds c =
    closes c.args.self.now c.file-file.result (c.file-file.ensures.file ∙ ap (λ (t : OpenTreeView). 8 * t.tree.part) c.self.view_is) c.in-Some.leaf c.args.desk.now c.close_leaf.new.cache
    (sym (ap (λ (t : OpenTreeView). t.leaf) c.self.view_is) ∙ c.in-Some.is) c.close_leaf.ensures.closed

pub returns-in-Some-clause-scans : goal.returns-in-Some-clause-scans
returns-in-Some-clause-scans c =
    closes_scan c.args.self.now c.file-file.result (c.file-file.ensures.file ∙ ap (λ (t : OpenTreeView). 8 * t.tree.part) c.self.view_is) c.in-Some.leaf c.args.desk.now c.close_leaf.new.cache
    (sym (ap (λ (t : OpenTreeView). t.leaf) c.self.view_is) ∙ c.in-Some.is) c.close_leaf.ensures.closed
