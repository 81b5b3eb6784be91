use Rattle.std.proofs.Common.{◌*◌, ◌∙◌, ap, sym}
use Rattle.std.proofs.lemmas.Option.{IfSome_then}
use Rattle.px_btree.specs.Open.{OpenTreeView}
use Rattle.px_btree.proofs.Opening.{stored_gives, stored_stays, scan_stays}
use Rattle.px_btree.proofs.btree.BTree.get_open.Goals as goal

pub returns-in-Some-clause-found : goal.returns-in-Some-clause-found
returns-in-Some-clause-found c =
    let way = c.get_leaf-given in
    IfSome_then way.result way.ensures.given (λ b gives s l is.
    stored_gives c.args.self.now c.file-file.result (c.file-file.ensures.file ∙ ap (λ (t : OpenTreeView). 8 * t.tree.part) c.self.view_is) c.in-Some.leaf c.args.desk.now c.args.vid b way.new.into.vertex
    c.in-Some.ensures.is c.in-Some.ensures.order gives s l is)

pub returns-in-Some-clause-holds : goal.returns-in-Some-clause-holds
returns-in-Some-clause-holds c = λ s l is.
    let way = c.get_leaf-given in
    stored_stays c.args.self.now c.self.inside.tree c.file-file.result (sym (ap (λ (t : OpenTreeView). t.tree) c.self.view_is)) (c.file-file.ensures.file ∙ ap (λ (t : OpenTreeView). 8 * t.tree.part) c.self.view_is) c.in-Some.leaf way.new.leaf c.args.desk.now way.new.cache
    c.in-Some.ensures.is way.ensures.mark way.ensures.leaf way.ensures.same s l is

pub returns-in-Some-clause-scans : goal.returns-in-Some-clause-scans
returns-in-Some-clause-scans c = λ s a b is.
    let way = c.get_leaf-given in
    scan_stays c.args.self.now c.self.inside.tree c.file-file.result (sym (ap (λ (t : OpenTreeView). t.tree) c.self.view_is)) (c.file-file.ensures.file ∙ ap (λ (t : OpenTreeView). 8 * t.tree.part) c.self.view_is) c.in-Some.leaf way.new.leaf c.args.desk.now way.new.cache
    c.in-Some.ensures.is way.ensures.mark way.ensures.leaf way.ensures.same s a b is
