use Rattle.std.proofs.Common.{◌≡◌, ◌*◌, ◌∙◌, true, sym, ap, subst, List, ℕ, [], length, get_or, set}
use Rattle.std.specs.Prelude.{Some, is_some}
use Rattle.px_frames.specs.Lending.{fitted}
use Rattle.px_meaning.specs.Graph.{Graph, lookup}
use Rattle.px_pages.specs.Entry.{Entry}
use Rattle.px_pages.specs.Page.{tuples_of}
use Rattle.px_cache.specs.View.{OthersShown, Shows, written_frame}
use Rattle.px_frames.proofs.Places.{fitted_same}
use Rattle.px_cache.proofs.Pins.{same-mark}
use Rattle.px_cache.proofs.Shows.{write_shows, write_others}
use Rattle.px_store.proofs.Apart.{done_by, desk_by}
use Rattle.px_btree.specs.Search.{IsPlaceOf, found}
use Rattle.px_btree.specs.Tree.{AreKeys, leaves_of}
use Rattle.px_btree.specs.Find.{leaf_at, mark_at}
use Rattle.px_btree.specs.Put.{removed}
use Rattle.px_btree.proofs.Items.{leaves_level}
use Rattle.px_btree.proofs.Places.{piece_keys}
use Rattle.px_btree.proofs.Putting.{held_removed, starts_of, there_is}
use Rattle.px_btree.proofs.Marking.{spot_in, spot_mark, mark_changed, front_removed}
use Rattle.px_btree.proofs.tree.ClosedTree.remove.Goals as goal

pub returns-clause-found : goal.returns-clause-found
returns-clause-found g c = λ l held.
    let shown = g.D.Disk.shown in
    let s = shown c.args.disk.now in
    let tree = held.tree in
    let v = c.args.vid in
    let spot = c.in_ok-spot.spot in
    let is = spot_in c.args.self.now c.args.desk.now s held.levels v spot c.locate.new.cache (shown c.locate.new.disk) c.requires.few tree c.in_ok-spot.ensures.finds in
    let leaf = leaf_at v held.levels in
    let keys = piece_keys v s.page_len true tree.ps (leaves_of held.levels) (leaves_level s.page_len tree.ps held.levels tree.stack) in
    let es_is : tuples_of c.frame_mut.result.now ≡ leaf.es = ap tuples_of c.frame_mut.ensures.value ∙ is.reaches.tuples in
    let place = subst (λ (x : List ℕ). IsPlaceOf v spot.place x) (sym c.frame_mut.ensures.value) is.place in
    c.remove_tuple_at.ensures.there leaf.low keys.0 place (subst (λ (l : List Entry). AreKeys leaf.low l keys.0) (sym es_is) keys.1) ∙ ap (λ (es : List Entry). is_some (found v es)) es_is
    ∙ there_is v s.page_len tree.ps held.levels tree.stack ∙ ap (λ (k : Graph). is_some (lookup v k)) (sym held.is)

pub returns-clause-holds : goal.returns-clause-holds
returns-clause-holds g c = λ l held.
    let shown = g.D.Disk.shown in
    let t = c.args.self.now in
    let d = c.args.desk.now in
    let s = shown c.args.disk.now in
    let s' = shown c.locate.new.disk in
    let c' = c.locate.new.cache in
    let spot = c.in_ok-spot.spot in
    let i = spot.frame in
    let tree = held.tree in
    let v = c.args.vid in
    let is = spot_in t d s held.levels v spot c' s' c.requires.few tree c.in_ok-spot.ensures.finds in
    let page = (leaf_at v held.levels).page in
    let new = c.remove_tuple_at.new.page in
    let at = is.reaches.bytes ∙ ap (λ (x : List ℕ). Some x) (sym c.frame_mut.ensures.value) in
    let b : fitted (get_or c'.frames i []) new ≡ new = fitted_same (get_or c'.frames i []) new (c.remove_tuple_at.auto.page ∙ ap length c.frame_mut.ensures.value) in
    let shows = subst (λ (x : List ℕ). Shows (written_frame c' i x) s' (8 * t.part) (set tree.ps page new)) (sym b) (write_shows c' s' i (8 * t.part) page new c.frame_mut.ensures.whole is.reaches.holds tree.ps is.reaches.shows) in
    let place = subst (λ (x : List ℕ). IsPlaceOf v spot.place x) (sym c.frame_mut.ensures.value) is.place in
    let starts = starts_of v 0 (leaves_of held.levels) tree.first in
    let mark = mark_changed v (removed v) held.levels spot starts (front_removed v s.page_len tree.ps held.levels tree.stack) (spot_mark v _ held.levels spot c' s' tree.ps is) in
    let d' = record d { cache = written_frame c' i (fitted (get_or c'.frames i []) new) } in
    held_removed t _ d d' s s' l v c.frame_mut.result.now new held c.in_ok-spot.ensures.ok.touches.page_len at (c.remove_tuple_at.ensures.gone place) shows (Some (mark_at v spot)) mark c.in_ok-spot.ensures.marks

pub returns-clause-done : goal.returns-clause-done
returns-clause-done g c =
    let shown = g.D.Disk.shown in
    let way = c.in_ok-spot.ensures in
    let t = c.args.self.now in
    let d = c.args.desk.now in
    let s = shown c.args.disk.now in
    let s' = shown c.locate.new.disk in
    let c' = c.locate.new.cache in
    let spot = c.in_ok-spot.spot in
    let b = fitted (get_or c'.frames spot.frame []) c.remove_tuple_at.new.page in
    let others : OthersShown (8 * t.part) d.cache s (written_frame c' spot.frame b) s' = λ h ps other sh. write_others c' s' spot.frame (8 * t.part) spot.page b way.holds h ps other (way.others h ps other sh) in
    done_by true t.part d (written_frame c' spot.frame b) s s' c.requires (same-mark _ _ spot.frame _ way.stays) way.ok others

pub returns-clause-desk : goal.returns-clause-desk
returns-clause-desk g c = desk_by c.args.desk.now _ (same-mark _ c.locate.new.cache c.in_ok-spot.spot.frame _ c.locate.ensures.stays)
