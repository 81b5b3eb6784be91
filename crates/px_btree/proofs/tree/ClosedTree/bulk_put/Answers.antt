use Rattle.std.proofs.Common.{◌≡◌, ◌≤◌, ◌+◌, ◌-◌, ◌*◌, ◌^◌, ◌∙◌, ◌++◌, ◌∷◌, true, min, sym, ap, subst, refl, List, ℕ, [], length, get_or, arith}
use Rattle.px_frames.specs.Lending.{fitted}
use Rattle.px_meaning.specs.Graph.{Vertex}
use Rattle.px_pages.specs.Entry.{entry}
use Rattle.px_cache.specs.View.{OthersShown, written_frame}
use Rattle.px_frames.proofs.Places.{fitted_same}
use Rattle.px_cache.proofs.Shows.{write_others}
use Rattle.px_cache.proofs.Pins.{same-mark}
use Rattle.px_store.specs.Desks.{AllBelow}
use Rattle.px_store.proofs.Apart.{done_by, desk_by}
use Rattle.px_btree.specs.Tree.{TreeView, IsItem}
use Rattle.px_btree.specs.Fill.{IsFilling}
use Rattle.px_btree.proofs.Putting.{body_room}
use Rattle.px_btree.proofs.Filling.{filled_more}
use Rattle.px_btree.proofs.tree.ClosedTree.bulk_put.Goals as goal

pub returns-clause-fills : goal.returns-clause-fills
returns-clause-fills g c = λ l all filling.
    let shown = g.D.Disk.shown in
    let s = shown c.args.disk.now in
    let s' = shown c.open_leaf.new.disk in
    let t = c.open_leaf.new.self in
    let c' = c.open_leaf.new.cache in
    let i = c.in_ok-i.i in
    let leaf = c.in_ok-i.ensures in
    let v = c.args.v.now in
    let body = c.body-body.result.now in
    let e = entry c.vid-vid.result 1 body in
    let fits = body_room v.vertex v.room body c.body-body.ensures.body c.body-body.ensures.within.size in
    let this : IsItem s.page_len e = record { tag = refl; body = c.body-body.ensures.valid; room = subst (λ (n : ℕ). 13 + length body ≤ n) c.requires.room fits } in
    let way = leaf.open l e refl this (subst (λ (k : ℕ). AllBelow k l) (sym c.vid-vid.ensures) all) filling in
    let page = c.append_in.new.page in
    let b : fitted (get_or c'.frames i []) page ≡ page = fitted_same (get_or c'.frames i []) page (c.append_in.auto.page ∙ ap length c.frame_mut.ensures.value) in
    let more = filled_more t c' s' l e i (min (t.togo + 1) (2 ^ 64 - 1)) c.frame_mut.result.now page way (subst (λ (n : ℕ). IsItem n e) (sym leaf.ok.touches.page_len) this)
    (omega (arith, leaf.stays.size, c.requires.ready.few)) c.frame_mut.ensures.whole c.frame_mut.ensures.value c.append_in.ensures refl in
    let new = written_frame c' i (fitted (get_or c'.frames i []) page) in
    subst (λ (u : TreeView). IsFilling u new s' (l ++ (v.vid, v.vertex) ∷ [])) (sym c.count_read.ensures)
    (subst (λ (x : List ℕ). IsFilling (record t { togo = min (t.togo + 1) (2 ^ 64 - 1) }) (written_frame c' i x) s' (l ++ (v.vid, v.vertex) ∷ [])) (sym b)
    (subst (λ (k : ℕ). IsFilling (record t { togo = min (t.togo + 1) (2 ^ 64 - 1) }) (written_frame c' i page) s' (l ++ (k, v.vertex) ∷ [])) c.vid-vid.ensures
    (subst (λ (x : Vertex). IsFilling (record t { togo = min (t.togo + 1) (2 ^ 64 - 1) }) (written_frame c' i page) s' (l ++ (c.vid-vid.result, x) ∷ [])) c.body-body.ensures.spells more)))

pub returns-clause-done : goal.returns-clause-done
returns-clause-done g c =
    let shown = g.D.Disk.shown in
    let leaf = c.in_ok-i.ensures in
    let d = c.args.desk.now in
    let s = shown c.args.disk.now in
    let s' = shown c.open_leaf.new.disk in
    let c' = c.open_leaf.new.cache in
    let i = c.in_ok-i.i in
    let q = c.args.self.now.part in
    let b = fitted (get_or c'.frames i []) c.append_in.new.page in
    let others : OthersShown (8 * q) d.cache s (written_frame c' i b) s' = λ h ps other sh. write_others c' s' i (8 * q) leaf.holds.0 b leaf.holds.1 h ps other (leaf.others h ps other sh) in
    done_by true q d (written_frame c' i b) s s' c.requires.ready (same-mark d.cache c' i b leaf.stays) leaf.ok others

pub returns-clause-desk : goal.returns-clause-desk
returns-clause-desk g c = desk_by c.args.desk.now _ (same-mark _ c.open_leaf.new.cache c.in_ok-i.i _ c.open_leaf.ensures.stays)
