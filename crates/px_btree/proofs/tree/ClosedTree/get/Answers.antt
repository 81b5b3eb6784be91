use Rattle.std.proofs.Common.{◌≡◌, ◌∙◌, true, sym, ap, subst, ℕ, List, length}
use Rattle.std.specs.Prelude.{is_some}
use Rattle.px_meaning.specs.Graph.{Graph, lookup, vertex_or_fresh}
use Rattle.px_pages.specs.Page.{tuples_of}
use Rattle.px_store.proofs.Apart.{done_by, desk_by}
use Rattle.px_btree.specs.Search.{IsPlaceOf}
use Rattle.px_btree.specs.Tree.{AreItems, items, leaves_of}
use Rattle.px_btree.specs.Find.{leaf_at, mark_at}
use Rattle.px_btree.proofs.Items.{lookup_leaf, items_at, leaves_level}
use Rattle.px_btree.proofs.Places.{piece_keys}
use Rattle.px_btree.proofs.Marking.{spot_in, spot_mark, held_marked, scan_marked}
use Rattle.px_btree.proofs.tree.ClosedTree.get.Goals as goal

pub returns-clause-found : goal.returns-clause-found
returns-clause-found g c = λ l held.
    let shown = g.D.Disk.shown in
    let s = shown c.args.disk.now in
    let tree = held.tree in
    let v = c.args.vid in
    let spot = c.in_ok-spot.spot in
    let is = spot_in c.args.self.now c.args.desk.now s held.levels v spot c.locate.new.cache (shown c.locate.new.disk) c.requires.ready.few tree c.in_ok-spot.ensures.finds in
    let len : length c.frame.result.now ≡ s.page_len = c.frame.ensures.len ∙ c.in_ok-spot.ensures.stays.len ∙ c.requires.ready.len in
    let leaf = leaf_at v held.levels in
    let keys = piece_keys v s.page_len true tree.ps (leaves_of held.levels) (leaves_level s.page_len tree.ps held.levels tree.stack) in
    let all : AreItems (length c.frame.result.now) leaf.es = subst (λ (n : ℕ). AreItems n leaf.es) (sym len) (items_at v s.page_len (leaves_of held.levels) tree.items) in
    let place = subst (λ (b : List ℕ). IsPlaceOf v spot.place b) (sym c.frame.ensures.bytes) is.place in
    let taken = c.take_into.ensures.found leaf.es leaf.low keys.0 place (ap tuples_of c.frame.ensures.bytes ∙ is.reaches.tuples) keys.1 all in
    let same : lookup v (items leaf.es) ≡ lookup v l = sym (lookup_leaf v s.page_len tree.ps held.levels tree.stack) ∙ ap (λ (k : Graph). lookup v k) (sym held.is) in
    (taken.0 ∙ ap is_some same, taken.1 ∙ ap vertex_or_fresh same)

pub returns-clause-holds : goal.returns-clause-holds
returns-clause-holds g c = λ l held.
    let shown = g.D.Disk.shown in
    let t = c.args.self.now in
    let d = c.args.desk.now in
    let s = shown c.args.disk.now in
    let s' = shown c.locate.new.disk in
    let c' = c.locate.new.cache in
    let v = c.args.vid in
    let spot = c.in_ok-spot.spot in
    let is = spot_in t d s held.levels v spot c' s' c.requires.ready.few held.tree c.in_ok-spot.ensures.finds in
    let fits = spot_mark v _ held.levels spot c' s' held.tree.ps is in
    held_marked t _ d (record d { cache = c' }) s s' l (mark_at v spot) held c.in_ok-spot.ensures.ok.touches.page_len is.reaches.shows fits c.in_ok-spot.ensures.marks

pub returns-clause-scans : goal.returns-clause-scans
returns-clause-scans g c = λ a b scan.
    let shown = g.D.Disk.shown in
    let t = c.args.self.now in
    let d = c.args.desk.now in
    let s = shown c.args.disk.now in
    let s' = shown c.locate.new.disk in
    let c' = c.locate.new.cache in
    let v = c.args.vid in
    let spot = c.in_ok-spot.spot in
    let is = spot_in t d s scan.levels v spot c' s' c.requires.ready.few scan.tree c.in_ok-spot.ensures.finds in
    let fits = spot_mark v _ scan.levels spot c' s' scan.tree.ps is in
    scan_marked t _ d (record d { cache = c' }) s s' a b (mark_at v spot) scan c.in_ok-spot.ensures.ok.touches.page_len is.reaches.shows fits c.in_ok-spot.ensures.marks

pub returns-clause-done : goal.returns-clause-done
returns-clause-done g c =
    let shown = g.D.Disk.shown in
    let way = c.in_ok-spot.ensures in
    done_by true c.args.self.now.part c.args.desk.now c.locate.new.cache (shown c.args.disk.now) (shown c.locate.new.disk) c.requires.ready way.stays way.ok way.others

pub returns-clause-desk : goal.returns-clause-desk
returns-clause-desk g c = desk_by c.args.desk.now c.locate.new.cache c.locate.ensures.stays
