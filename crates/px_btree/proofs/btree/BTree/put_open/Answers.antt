use Rattle.std.proofs.Common.{◌≤◌, ◌+◌, ◌*◌, ◌∙◌, ap, sym, subst, refl, length, ℕ}
use Rattle.px_meaning.specs.Graph.{Vertex, put}
use Rattle.px_pages.specs.Entry.{entry}
use Rattle.std.specs.Prelude.{Some}
use Rattle.px_store.specs.declared.shared.Desk.{Desk}
use Rattle.px_btree.specs.Tree.{IsItem}
use Rattle.px_btree.specs.Open.{OpenTreeView, IsStored}
use Rattle.px_btree.proofs.Putting.{body_room}
use Rattle.px_btree.proofs.Opening.{stored_puts, stored_stays}
use Rattle.px_btree.proofs.btree.BTree.put_open.Goals as goal

pub returns-in-Some-clause-put : goal.returns-in-Some-clause-put
returns-in-Some-clause-put c = λ yes s l room is.
    let t = c.args.self.now in
    let u = c.self.inside.tree in
    let d = c.args.desk.now in
    let way = c.put_leaf-done in
    let o' = way.new.leaf in
    let body = c.body.result.now in
    let e = entry c.vid-vid.result 1 body in
    let fits = body_room c.args.v.now.vertex c.args.v.now.room body c.body.ensures.body c.body.ensures.within.size in
    let item : IsItem s.page_len e = record { tag = refl; body = c.body.ensures.valid; room = subst (λ (n : ℕ). 13 + length body ≤ n) room fits } in
    let now = stored_puts t u c.file-file.result (sym (ap (λ (t : OpenTreeView). t.tree) c.self.view_is)) (c.file-file.ensures.file ∙ ap (λ (t : OpenTreeView). 8 * t.tree.part) c.self.view_is) c.in-Some.leaf o' d way.new.cache e
    c.in-Some.ensures.is way.ensures.mark c.in-Some.ensures.order (way.ensures.put yes) s l item is in
    let t' : OpenTreeView = record { tree = u; leaf = Some o' } in
    let d' : Desk = record d { cache = way.new.cache } in
    subst (λ (k : ℕ). IsStored t' d' s (put k c.args.v.now.vertex l)) c.vid-vid.ensures (subst (λ (x : Vertex). IsStored t' d' s (put c.vid-vid.result x l)) c.body.ensures.spells now)

pub returns-in-Some-clause-holds : goal.returns-in-Some-clause-holds
returns-in-Some-clause-holds c = λ no s l is.
    let way = c.put_leaf-done in
    stored_stays c.args.self.now c.self.inside.tree c.file-file.result (sym (ap (λ (t : OpenTreeView). t.tree) c.self.view_is)) (c.file-file.ensures.file ∙ ap (λ (t : OpenTreeView). 8 * t.tree.part) c.self.view_is) c.in-Some.leaf way.new.leaf c.args.desk.now way.new.cache
    c.in-Some.ensures.is way.ensures.mark (way.ensures.leaf no) (way.ensures.same no) s l is
