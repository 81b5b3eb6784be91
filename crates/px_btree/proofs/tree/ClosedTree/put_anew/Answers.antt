use Rattle.std.proofs.Common.{◌+◌, ◌-◌, ◌≤◌, sym, ap, subst, refl, true, ℕ, length, arith}
use Rattle.std.proofs.lemmas.Result.{on_ok_weaker}
use Rattle.std.specs.Prelude.{Option, Some, None}
use Rattle.px_meaning.specs.Graph.{Vertex, put}
use Rattle.px_pages.specs.Entry.{entry}
use Rattle.px_pages.specs.declared.inner.Child.{Child}
use Rattle.px_cache.specs.View.{OthersShown}
use Rattle.px_store.specs.Desks.{IsDone}
use Rattle.px_store.proofs.Apart.{done_by, done_then}
use Rattle.px_record.specs.Body.{vertex_of}
use Rattle.px_btree.specs.Tree.{TreeView, IsHeld, IsItem}
use Rattle.px_btree.specs.Rise.{PutsBelow, Owes}
use Rattle.px_btree.proofs.Putting.{body_room}
use Rattle.px_btree.proofs.Growing.{put_stack, put_count, held_after, owes_after}
use Rattle.px_btree.proofs.tree.ClosedTree.put_anew.Goals as goal

pub returns-in-None-clause-holds : goal.returns-in-None-clause-holds
returns-in-None-clause-holds g c = λ l held.
    let shown = g.D.Disk.shown in
    let t = c.args.self.now in
    let d = c.args.desk.now in
    let s = shown c.args.disk.now in
    let s' = shown c.put_below.new.disk in
    let c' = c.put_below.new.cache in
    let d' = record d { cache = c' } in
    let e = entry c.vid-vid.result 1 c.body.result.now in
    let end = c.put_below.new.end in
    let n = c.count.new.self.leaves in
    let fits = body_room c.args.v.now.vertex c.args.v.now.room c.body.result.now c.body.ensures.body c.body.ensures.within.size in
    let item : IsItem s.page_len e = record { tag = refl; body = c.body.ensures.valid; room = subst (λ (n : ℕ). 13 + length c.body.result.now ≤ n) c.requires.room fits } in
    let puts = subst (λ (o : Option Child). PutsBelow e (c.self.inside.depth - 1) c.self.inside.root c.file-file.result o c.self.inside.pages end d.cache s c' s') c.in-None.is c.in_ok-owed.ensures.put in
    let stack = put_stack t d s l held e None (c.self.inside.depth - 1) c.self.inside.root c.file-file.result c.self.inside.pages end c' s' puts (ap (λ (u : TreeView). u.root) c.self.view_is) c.file-file.ensures.file (omega (arith, c.file-file.ensures.least, ap (λ (u : TreeView). u.depth) c.self.view_is)) (ap (λ (u : TreeView). u.pages) c.self.view_is) c.requires.ready.few item in
    let count = put_count t d s l held e None end n c' s' stack c.requires.ready.few c.count.ensures.same c.count.ensures.more in
    let now = held_after t d d' s s' l e end n c.requires.no_mark held item c.in_ok-owed.ensures.ok.touches.page_len stack count in
    let now' = subst (λ (u : TreeView). IsHeld u d' s' (put c.vid-vid.result (vertex_of c.body.result.now) l)) (sym c.count.ensures.others) now in
    subst (λ (k : ℕ). IsHeld c.count.new.self d' s' (put k c.args.v.now.vertex l)) c.vid-vid.ensures
    (subst (λ (x : Vertex). IsHeld c.count.new.self d' s' (put c.vid-vid.result x l)) c.body.ensures.spells now')

pub returns-in-Some-clause-holds : goal.returns-in-Some-clause-holds
returns-in-Some-clause-holds g c = on_ok_weaker c.grow.result (λ grown l held.
    let shown = g.D.Disk.shown in
    let t = c.args.self.now in
    let d = c.args.desk.now in
    let s = shown c.args.disk.now in
    let s' = shown c.put_below.new.disk in
    let c' = c.put_below.new.cache in
    let d' = record d { cache = c' } in
    let e = entry c.vid-vid.result 1 c.body.result.now in
    let end = c.put_below.new.end in
    let n = c.count.new.self.leaves in
    let right = c.in-Some.right in
    let fits = body_room c.args.v.now.vertex c.args.v.now.room c.body.result.now c.body.ensures.body c.body.ensures.within.size in
    let item : IsItem s.page_len e = record { tag = refl; body = c.body.ensures.valid; room = subst (λ (n : ℕ). 13 + length c.body.result.now ≤ n) c.requires.room fits } in
    let puts = subst (λ (o : Option Child). PutsBelow e (c.self.inside.depth - 1) c.self.inside.root c.file-file.result o c.self.inside.pages end d.cache s c' s') c.in-Some.is c.in_ok-owed.ensures.put in
    let stack = put_stack t d s l held e (Some right) (c.self.inside.depth - 1) c.self.inside.root c.file-file.result c.self.inside.pages end c' s' puts (ap (λ (u : TreeView). u.root) c.self.view_is) c.file-file.ensures.file (omega (arith, c.file-file.ensures.least, ap (λ (u : TreeView). u.depth) c.self.view_is)) (ap (λ (u : TreeView). u.pages) c.self.view_is) c.requires.ready.few item in
    let count = put_count t d s l held e (Some right) end n c' s' stack c.requires.ready.few c.count.ensures.same c.count.ensures.more in
    let owes = owes_after t d d' s s' l e right end n c.requires.no_mark held item c.in_ok-owed.ensures.ok.touches.page_len stack count in
    let owes' = subst (λ (u : TreeView). Owes u right d' s' (put c.vid-vid.result (vertex_of c.body.result.now) l)) (sym c.count.ensures.others) owes in
    let owed = subst (λ (k : ℕ). Owes c.count.new.self right d' s' (put k c.args.v.now.vertex l)) c.vid-vid.ensures
    (subst (λ (x : Vertex). Owes c.count.new.self right d' s' (put c.vid-vid.result x l)) c.body.ensures.spells owes') in
    grown (put c.args.v.now.vid c.args.v.now.vertex l) owed) c.grow.ensures.holds

pub returns-in-Some-clause-done : goal.returns-in-Some-clause-done
returns-in-Some-clause-done g c = on_ok_weaker c.grow.result (λ grown.
    let shown = g.D.Disk.shown in
    let t = c.args.self.now in
    let d = c.args.desk.now in
    let s = shown c.args.disk.now in
    let s' = shown c.put_below.new.disk in
    let c' = c.put_below.new.cache in
    let is = c.in_ok-owed.ensures in
    let first = done_by true t.part d c' s s' c.requires.ready is.stays is.ok (subst (λ (n : ℕ). OthersShown n d.cache s c' s') c.file-file.ensures.file is.others) in
    let part = ap (λ (u : TreeView). u.part) c.count.ensures.others in
    done_then true t.part d (record d { cache = c' }) c.grow.new.desk s s' (shown c.grow.new.disk) first (subst (λ (q : ℕ). IsDone true q (record d { cache = c' }) s' c.grow.new.desk (shown c.grow.new.disk)) part grown)) c.grow.ensures.done
