use Rattle.std.proofs.Common.{◌≡◌, ◌≤◌, ◌+◌, ◌*◌, ◌∙◌, true, sym, ap, subst, refl, List, ℕ, [], length, get_or, set}
use Rattle.std.specs.Prelude.{Some}
use Rattle.px_frames.specs.Lending.{fitted}
use Rattle.px_meaning.specs.Graph.{Vertex, put}
use Rattle.px_pages.specs.Entry.{entry}
use Rattle.px_cache.specs.View.{OthersShown, Shows, written_frame}
use Rattle.px_frames.proofs.Places.{fitted_same}
use Rattle.px_cache.proofs.Pins.{same-mark}
use Rattle.px_cache.proofs.Shows.{write_shows, write_others}
use Rattle.px_store.proofs.Apart.{done_by, desk_by}
use Rattle.px_btree.specs.Search.{IsPlaceOf}
use Rattle.px_btree.specs.Tree.{IsHeld, IsItem, leaves_of}
use Rattle.px_btree.specs.Find.{leaf_at, mark_at}
use Rattle.px_btree.specs.Put.{placed}
use Rattle.px_btree.proofs.Putting.{held_put, starts_of, set_same, body_room}
use Rattle.px_btree.proofs.Marking.{spot_in, spot_mark, mark_changed, front_placed, held_marked}
use Rattle.px_btree.proofs.tree.ClosedTree.put_here.Goals as goal

pub returns-clause-put : goal.returns-clause-put
returns-clause-put g c = λ there l held.
    let shown = g.D.Disk.shown in
    let t = c.args.self.now in
    let d = c.args.desk.now in
    let s = shown c.args.disk.now in
    let s' = shown c.locate.new.disk in
    let c' = c.locate.new.cache in
    let spot = c.in_ok-spot.spot in
    let i = spot.frame in
    let tree = held.tree in
    let v = c.vid-vid.result in
    let is = spot_in t d s held.levels v spot c' s' c.requires.ready.few tree c.in_ok-spot.ensures.finds in
    let e = entry v 1 c.body.result.now in
    let old = c.frame_mut-leaf.result.now in
    let new = c.put_tuple_at.new.page in
    let at = is.reaches.bytes ∙ ap (λ (x : List ℕ). Some x) (sym c.frame_mut-leaf.ensures.value) in
    let page = (leaf_at v held.levels).page in
    let b : fitted (get_or c'.frames i []) new ≡ new = fitted_same (get_or c'.frames i []) new (c.put_tuple_at.auto.page ∙ ap length c.frame_mut-leaf.ensures.value) in
    let shows = subst (λ (x : List ℕ). Shows (written_frame c' i x) s' (8 * t.part) (set tree.ps page new)) (sym b) (write_shows c' s' i (8 * t.part) page new c.frame_mut-leaf.ensures.whole is.reaches.holds tree.ps is.reaches.shows) in
    let fits = body_room c.args.v.now.vertex c.args.v.now.room c.body.result.now c.body.ensures.body c.body.ensures.within.size in
    let item : IsItem s.page_len e = record { tag = refl; body = c.body.ensures.valid; room = subst (λ (n : ℕ). 13 + length c.body.result.now ≤ n) c.requires.room fits } in
    let place = subst (λ (x : List ℕ). IsPlaceOf v spot.place x) (sym c.frame_mut-leaf.ensures.value) is.place in
    let starts = starts_of v 0 (leaves_of held.levels) tree.first in
    let mark = mark_changed v (placed e) held.levels spot starts (front_placed e (leaf_at v held.levels).es) (spot_mark v _ held.levels spot c' s' tree.ps is) in
    let d' = record d { cache = written_frame c' i (fitted (get_or c'.frames i []) new) } in
    let t' = c.locate.new.self in
    let put' = held_put t t' d d' s s' l e old new held item starts c.in_ok-spot.ensures.ok.touches.page_len at (c.put_tuple_at.ensures.put there place) shows (Some (mark_at v spot)) mark c.in_ok-spot.ensures.marks in
    subst (λ (k : ℕ). IsHeld t' d' s' (put k c.args.v.now.vertex l)) c.vid-vid.ensures (subst (λ (x : Vertex). IsHeld t' d' s' (put v x l)) c.body.ensures.spells put')

pub returns-clause-holds : goal.returns-clause-holds
returns-clause-holds g c = λ not l held.
    let shown = g.D.Disk.shown in
    let t = c.args.self.now in
    let d = c.args.desk.now in
    let s = shown c.args.disk.now in
    let s' = shown c.locate.new.disk in
    let c' = c.locate.new.cache in
    let spot = c.in_ok-spot.spot in
    let i = spot.frame in
    let tree = held.tree in
    let v = c.vid-vid.result in
    let is = spot_in t d s held.levels v spot c' s' c.requires.ready.few tree c.in_ok-spot.ensures.finds in
    let page = (leaf_at v held.levels).page in
    let new = c.put_tuple_at.new.page in
    let at = is.reaches.bytes ∙ ap (λ (x : List ℕ). Some x) (sym c.frame_mut-leaf.ensures.value) in
    let same = c.put_tuple_at.ensures.same not in
    let b : fitted (get_or c'.frames i []) new ≡ new = fitted_same (get_or c'.frames i []) new (c.put_tuple_at.auto.page ∙ ap length c.frame_mut-leaf.ensures.value) in
    let shows = write_shows c' s' i (8 * t.part) page new c.frame_mut-leaf.ensures.whole is.reaches.holds tree.ps is.reaches.shows in
    let back : set tree.ps page new ≡ tree.ps = ap (λ (x : List ℕ). set tree.ps page x) same ∙ set_same tree.ps page c.frame_mut-leaf.result.now at in
    let shows' = subst (λ (x : List ℕ). Shows (written_frame c' i x) s' (8 * t.part) tree.ps) (sym b) (subst (λ (ps : List (List ℕ)). Shows (written_frame c' i new) s' (8 * t.part) ps) back shows) in
    let d' = record d { cache = written_frame c' i (fitted (get_or c'.frames i []) new) } in
    held_marked t _ d d' s s' l (mark_at v spot) held c.in_ok-spot.ensures.ok.touches.page_len shows' (spot_mark v _ held.levels spot c' s' tree.ps is) c.in_ok-spot.ensures.marks

pub returns-clause-done : goal.returns-clause-done
returns-clause-done g c =
    let shown = g.D.Disk.shown in
    let way = c.in_ok-spot.ensures in
    let t = c.args.self.now in
    let d = c.args.desk.now in
    let s = shown c.args.disk.now in
    let s' = shown c.locate.new.disk in
    let c' = c.locate.new.cache in
    let spot = c.in_ok-spot.spot in
    let b = fitted (get_or c'.frames spot.frame []) c.put_tuple_at.new.page in
    let others : OthersShown (8 * t.part) d.cache s (written_frame c' spot.frame b) s' = λ h ps other sh. write_others c' s' spot.frame (8 * t.part) spot.page b way.holds h ps other (way.others h ps other sh) in
    done_by true t.part d (written_frame c' spot.frame b) s s' c.requires.ready (same-mark _ _ spot.frame _ way.stays) way.ok others

pub returns-clause-desk : goal.returns-clause-desk
returns-clause-desk g c = desk_by c.args.desk.now _ (same-mark _ c.locate.new.cache c.in_ok-spot.spot.frame _ c.locate.ensures.stays)
