use Rattle.std.proofs.Common.{◌*◌, ◌∙◌, ap, sym}
use Rattle.px_btree.specs.Open.{OpenTreeView}
use Rattle.px_btree.specs.declared.btree.BTree.TheInside.{Inside}
use Rattle.px_btree.proofs.Opening.{opened}
use Rattle.px_btree.proofs.btree.BTree.open_grown.Goals as goal

pub returns-in-Some-clause-holds : goal.returns-in-Some-clause-holds
returns-in-Some-clause-holds c =
    let opens = c.open_leaf-self-inside-inside in
    let same = sym c.grown.ensures.same in
    opened c.args.self.now.tree _ c.file-file.result (ap (λ (t : OpenTreeView). t.tree) same ∙ sym (ap (λ (t : OpenTreeView). t.tree) c.self-2.view_is) ∙ sym (ap (λ (x : Inside). x.tree) c.self-inside.view_is))
    (c.file-file.ensures.file ∙ ap (λ (t : OpenTreeView). 8 * t.tree.part) c.self.view_is) c.in-Some.mark opens.result c.args.desk.now opens.new.cache (ap (λ (t : OpenTreeView). t.tree.mark) same ∙ c.in-Some.ensures.mark) opens.ensures.opened opens.ensures.none
