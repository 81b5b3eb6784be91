-- The place of the last call.
use Rattle.std.proofs.Common.{◌≡◌, ◌<◌, ◌≤◌, ◌+◌, ◌*◌, ◌⊎◌, ℕ, suc, Bool, true, List, [], ◌∷◌, length, take, get_or, refl, sym, ◌∙◌, ap, subst, arith, inl, inr}
use Rattle.std.proofs.lemmas.Bool.{cases_lt, cases_eq}
use Rattle.std.proofs.lemmas.List.Sums.{prefix_len-le-length}
use Rattle.std.proofs.lemmas.Option.{slice_get_within}
use Rattle.std.specs.Prelude.{Option, Some, None, slice_get, option_map, is_some}
use Rattle.std.specs.List.{prefix_len}
use Rattle.px_core.specs.Shown.{Shown}
use Rattle.px_pages.specs.Entry.{Entry}
use Rattle.px_pages.specs.Page.{tuples_of, entry_of, used_of, link_of, writer_of}
use Rattle.px_pages.specs.Place.{IsPlace, IsFront, is_below}
use Rattle.px_pages.specs.declared.reader.Tuple.{Tuple}
use Rattle.px_pages.specs.declared.place.Place.{Place}
use Rattle.px_pages.proofs.Writing.{made_link}
use Rattle.px_meaning.specs.Graph.{Graph}
use Rattle.px_cache.specs.declared.note.Note.{Note}
use Rattle.px_cache.specs.View.{CacheView, Shows, ShownAfterLoad, SaysPage, Holds}
use Rattle.px_cache.proofs.Lists.{some_is}
use Rattle.px_store.specs.declared.shared.Desk.{Desk}
use Rattle.px_btree.specs.Search.{IsPlaceOf}
use Rattle.px_btree.specs.Tree.{Piece, HoldsPage, AreKeys, IsLevel, IsStack, FirstIs, IsMark, MarkFits, TreeView, IsTree, IsHeld, leaves_of, link_to}
use Rattle.px_btree.specs.Find.{piece_at, leaf_at, pick, IsAt, Reaches, IsSpot, Goes, Finds, mark_at}
use Rattle.px_btree.specs.Put.{placed, removed, gone, with_tuples, changed, changed_leaf}
use Rattle.px_btree.specs.Scan.{IsScan, ToCome}
use Rattle.px_btree.specs.declared.tree.Mark.{Mark}
use Rattle.px_btree.specs.declared.locate.Spot.{Spot}
use Rattle.px_btree.proofs.Levels.{level_at, page_tuples}
use Rattle.px_btree.proofs.Items.{leaves_level, tree_at, tree_kept}
use Rattle.px_btree.proofs.Putting.{leaves_changed, gone_at, StartsBelow}
use Rattle.px_btree.proofs.Places.{past, stops, piece_keys}
use Rattle.px_btree.proofs.Orders.{not_below, below, not_equal, equal}

-- how many tuples are below a key
pub below_more : (k v : ℕ) (es : List Entry) → k ≤ v → prefix_len (is_below k) es ≤ prefix_len (is_below v) es
below_more k v [] le = omega arith
below_more k v (e ∷ es) le = elim (cases_lt e.key k) [
  | inl lt ↦ omega (arith, past k e es lt, past v e es (omega (arith, lt, le)), below_more k v es le)
  | inr ge ↦ omega (arith, stops k e es ge)
]

-- of a leaf before another, a tuple that is not below a vid has a key below the least one of the other
pub stops_below : (v low : ℕ) (es : List Entry) (y : Piece) (ys : List Piece) → AreKeys low es (y ∷ ys) → prefix_len (is_below v) es < length es → v < y.low
stops_below v low [] y ys keys more = absurd (omega (arith, more))
stops_below v low (e ∷ es) y ys keys more = elim (cases_lt e.key v) [
  | inl lt ↦ stops_below v (e.key + 1) es y ys keys.2 (omega (arith, more, past v e es lt))
  | inr ge ↦ omega (arith, ge, keys.1)
]

pub made_next : (len : ℕ) (ps : List (List ℕ)) (x : Piece) (xs : List Piece) (b : List ℕ) → HoldsPage len 3 (link_to xs) ps x.page x.es → slice_get ps x.page ≡ Some b → link_of b ≡ link_to xs
made_next len ps x xs b is at =
    let mine : is.page ≡ b = some_is (sym is.at ∙ at) in
    ap link_of (sym mine) ∙ made_link (writer_of len x.es) 3 (link_to xs) x.es is.page is.made

-- a vid above another lies in the same leaf, where that has a tuple that is not below it, or is the last one
pub same_leaf : (k v len : ℕ) (ps : List (List ℕ)) (xs : List Piece) (b : List ℕ) → IsLevel len true ps xs → k ≤ v → slice_get ps (piece_at k xs).page ≡ Some b
    → (prefix_len (is_below v) (piece_at k xs).es < length (piece_at k xs).es) ⊎ (link_of b ≡ 0) → piece_at v xs ≡ piece_at k xs
same_leaf k v len ps [] b is le at ends = refl
same_leaf k v len ps (x ∷ []) b is le at ends = refl
same_leaf k v len ps (x ∷ y ∷ ys) b is le at ends = elim (cases_lt k y.low) [
  | inl lt ↦
      let here : piece_at k (x ∷ y ∷ ys) ≡ x = ap (λ (c : Bool). pick c x (piece_at k (y ∷ ys))) (below k y.low lt) in
      let at' : slice_get ps x.page ≡ Some b = ap (λ (z : Piece). slice_get ps z.page) (sym here) ∙ at in
      let less : v < y.low = elim ends [
        | inl more ↦ stops_below v x.low x.es y ys is.1 (subst (λ (z : Piece). prefix_len (is_below v) z.es < length z.es) here more)
        | inr none ↦ absurd (omega (arith, none, made_next len ps x (y ∷ ys) b is.0 at'))
      ] in
      ap (λ (c : Bool). pick c x (piece_at v (y ∷ ys))) (below v y.low less) ∙ sym here
  | inr ge ↦
      let here : piece_at k (x ∷ y ∷ ys) ≡ piece_at k (y ∷ ys) = ap (λ (c : Bool). pick c x (piece_at k (y ∷ ys))) (not_below k y.low ge) in
      ap (λ (c : Bool). pick c x (piece_at v (y ∷ ys))) (not_below v y.low (omega (arith, ge, le)))
      ∙ same_leaf k v len ps (y ∷ ys) b is.4 le (ap (λ (z : Piece). slice_get ps z.page) (sym here) ∙ at)
      (subst (λ (z : Piece). (prefix_len (is_below v) z.es < length z.es) ⊎ (link_of b ≡ 0)) here ends) ∙ sym here
]

-- the leaf in which a vid lies is a page of the file
pub leaf_page : (v n len : ℕ) (ps : List (List ℕ)) (xs : List Piece) → FirstIs n xs → IsLevel len true ps xs → (link : ℕ) × HoldsPage len 3 link ps (piece_at v xs).page (piece_at v xs).es
leaf_page v n len ps [] first is = absurd first
leaf_page v n len ps (x ∷ xs) first is = level_at v len true ps x xs is

-- a tuple at a place is one of the page
tuple_within : (o : Option Tuple) (page : List ℕ) (ts : List Entry) (i : ℕ) → option_map (λ (t : Tuple). entry_of t page) o ≡ slice_get ts i → is_some o ≡ true → i < length ts
tuple_within None page ts i is some = absurd (cc some)
tuple_within (Some t) page ts i is some = slice_get_within ts i (entry_of t page) (sym is)

-- the pages of a tree, and the place of its last call: where a load of that page leaves the tree shown
pub mark_within : (n len : ℕ) (ps : List (List ℕ)) (levels : List (List Piece)) (m : Mark) → IsStack len ps levels → FirstIs n (leaves_of levels) → MarkFits (Some m) levels → m.page < length ps
mark_within n len ps levels m stack first fits =
    let here = leaf_page m.key n len ps (leaves_of levels) first (leaves_level len ps levels stack) in
    slice_get_within ps m.page here.1.page (ap (slice_get ps) (sym fits.page) ∙ here.1.at)

pub mark_shows : (n len f : ℕ) (ps : List (List ℕ)) (levels : List (List Piece)) (m : Mark) (c c' : CacheView) (s s' : Shown) → IsStack len ps levels → FirstIs n (leaves_of levels) → MarkFits (Some m) levels
    → ShownAfterLoad f m.page c s c' s' → Shows c s f ps → Shows c' s' f ps
mark_shows n len f ps levels m c c' s s' stack first fits load sh = load f ps (λ e. mark_within n len ps levels m stack first fits) sh

-- a vid is found from the place of a smaller one
pub near_spot : (v n len f i : ℕ) (m : Mark) (place : Place) (page : List ℕ) (c c' : CacheView) (s s' : Shown) (ps : List (List ℕ)) (levels : List (List Piece)) → Shows c s f ps → IsStack len ps levels → FirstIs n (leaves_of levels)
    → MarkFits (Some m) levels → m.key ≤ v → ShownAfterLoad f m.page c s c' s' → Holds c'.notes i f m.page → page ≡ get_or c'.frames i []
    → (IsFront m.place.index m.place.at page → IsPlace place page)
    → (IsFront m.place.index m.place.at page → m.place.index ≤ prefix_len (is_below v) (tuples_of page) → place.index ≡ prefix_len (is_below v) (tuples_of page))
    → (is_some place.tuple ≡ true) ⊎ (link_of page ≡ 0) → IsSpot v f levels (record { frame = i; page = m.page; place = place }) c' s' ps
near_spot v n len f i m place page c c' s s' ps levels sh stack first fits le load holds is goes begins ends =
    let xs = leaves_of levels in
    let x = piece_at m.key xs in
    let level = leaves_level len ps levels stack in
    let here = leaf_page m.key n len ps xs first level in
    let shows = mark_shows n len f ps levels m c c' s s' stack first fits load sh in
    let read : slice_get ps m.page ≡ Some (get_or c'.frames i []) = shows.held i m.page holds in
    let at : slice_get ps x.page ≡ Some page = ap (slice_get ps) fits.page ∙ read ∙ ap (λ (b : List ℕ). Some b) (sym is) in
    let ts : tuples_of page ≡ x.es = page_tuples len 3 here.0 x.page ps x.es page here.1 at in
    let count : prefix_len (is_below m.key) x.es ≤ length x.es = prefix_len-le-length (is_below m.key) x.es in
    let front : IsFront m.place.index m.place.at page = record {
      index = omega (arith, fits.index, count, ap length ts);
      at = fits.at ∙ ap (λ (es : List Entry). used_of (take m.place.index es)) (sym ts);
    } in
    let more : m.place.index ≤ prefix_len (is_below v) (tuples_of page) = omega (arith, fits.index, below_more m.key v x.es le, ap (prefix_len (is_below v)) ts) in
    let placed = goes front in
    let index = begins front more in
    let stop : (prefix_len (is_below v) x.es < length x.es) ⊎ (link_of page ≡ 0) = elim ends [
      | inl some ↦ inl (omega (arith, tuple_within place.tuple page (tuples_of page) place.index placed.tuple some, index, ap (prefix_len (is_below v)) ts, ap length ts))
      | inr last ↦ inr last
    ] in
    let same : leaf_at v levels ≡ x = same_leaf m.key v len ps xs page level le at stop in
    record {
      reaches = record {
        shows = shows;
        holds = subst (λ (p : ℕ). Holds c'.notes i f p) (sym fits.page ∙ ap (λ (z : Piece). z.page) (sym same)) holds;
        bytes = ap (λ (z : Piece). slice_get ps z.page) same ∙ at ∙ ap (λ (b : List ℕ). Some b) is;
        tuples = ap tuples_of (sym is) ∙ ts ∙ ap (λ (z : Piece). z.es) (sym same);
      };
      page = ap (λ (z : Piece). z.page) same ∙ fits.page;
      place = subst (λ (b : List ℕ). IsPlaceOf v place b) is (record { place = placed; first = index });
    }

-- from the root, after the search from there
pub root_finds : (t : TreeView) (f v : ℕ) (spot : Spot) (c c1 c' : CacheView) (s s1 s' : Shown) → f ≡ 8 * t.part → s1.page_len ≡ s.page_len
    → ((ps : List (List ℕ)) (levels : List (List Piece)) → Shows c s (8 * t.part) ps → IsStack s.page_len ps levels → FirstIs 0 (leaves_of levels) → MarkFits t.mark levels → Shows c1 s1 (8 * t.part) ps)
    → Goes t.root t.depth c1 s1 v f spot c' s' → Finds t c s v spot c' s'
root_finds t f v spot c c1 c' s s1 s' file len kept goes = λ ps levels sh at depth first fits.
    let sh1 : Shows c1 s1 (8 * t.part) ps = kept ps levels sh at.stack first fits in
    subst (λ (n : ℕ). IsSpot v n levels spot c' s' ps) file
    (goes ps levels (subst (λ (n : ℕ). Shows c1 s1 n ps) (sym file) sh1) (subst (λ (n : ℕ). IsAt v n ps levels t.root) (sym len) at) depth)

-- a frame holds one page
one_page : (o : Option Note) (f p q : ℕ) → SaysPage o f p → SaysPage o f q → p ≡ q
one_page None f p q a b = absurd a
one_page (Some n) f p q a b = sym a.2 ∙ b.2

pub down_spot : (v f i p : ℕ) (place : Place) (page : List ℕ) (c : CacheView) (s : Shown) (ps : List (List ℕ)) (levels : List (List Piece)) → Reaches v f levels i c s ps → Holds c.notes i f p → page ≡ get_or c.frames i []
    → IsPlace place page → place.index ≡ prefix_len (is_below v) (tuples_of page) → IsSpot v f levels (record { frame = i; page = p; place = place }) c s ps
down_spot v f i p place page c s ps levels reaches holds is placed first = record {
  reaches = reaches;
  page = one_page (slice_get c.notes i) f (leaf_at v levels).page p reaches.holds holds;
  place = subst (λ (b : List ℕ). IsPlaceOf v place b) is (record { place = placed; first = first });
}

-- the spot of a vid in a tree
pub spot_in : (t : TreeView) (d : Desk) (s : Shown) (levels : List (List Piece)) (v : ℕ) (spot : Spot) (c' : CacheView) (s' : Shown) → length d.cache.notes ≤ 65536 → (is : IsTree t d s levels)
    → Finds t d.cache s v spot c' s' → IsSpot v (8 * t.part) levels spot c' s' is.ps
spot_in t d s levels v spot c' s' few is finds = finds is.ps levels is.shows (tree_at t d s levels v few is) is.depth is.first is.mark

-- the place of a call
pub spot_mark : (v f : ℕ) (levels : List (List Piece)) (spot : Spot) (c : CacheView) (s : Shown) (ps : List (List ℕ)) → IsSpot v f levels spot c s ps → IsMark (mark_at v spot) (leaf_at v levels)
spot_mark v f levels spot c s ps is =
    let ts = is.reaches.tuples in
    record {
      page = is.page;
      index = is.place.first ∙ ap (prefix_len (is_below v)) ts;
      at = is.place.place.at ∙ ap (λ (es : List Entry). used_of (take spot.place.index es)) ts;
    }

-- the tree with another place
abbrev pub tree_marked : (t : TreeView) (d : Desk) (s : Shown) (levels : List (List Piece)) (m : Mark) → (is : IsTree t d s levels) → MarkFits (Some m) levels → IsTree (record t { mark = Some m }) d s levels
tree_marked t d s levels m is fits = record {
  ps = is.ps;
  shows = is.shows;
  len = is.len;
  stack = is.stack;
  depth = is.depth;
  pages = is.pages;
  leaves = is.leaves;
  apart = is.apart;
  first = is.first;
  root = is.root;
  items = is.items;
  bushy = is.bushy;
  mark = fits;
}

pub held_marked : (t t' : TreeView) (d d' : Desk) (s s' : Shown) (l : Graph) (m : Mark) → (held : IsHeld t d s l) → s'.page_len ≡ s.page_len → Shows d'.cache s' (8 * t.part) held.tree.ps → MarkFits (Some m) held.levels
    → t' ≡ record t { mark = Some m } → IsHeld t' d' s' l
held_marked t t' d d' s s' l m held len shows fits same =
    let now : IsHeld (record t { mark = Some m }) d' s' l = record {
      levels = held.levels;
      tree = tree_marked t d' s' held.levels m (tree_kept t d d' s s' held.levels held.tree len shows) fits;
      is = held.is;
    } in
    subst (λ (u : TreeView). IsHeld u d' s' l) (sym same) now

pub scan_marked : (t t' : TreeView) (d d' : Desk) (s s' : Shown) (a b : Graph) (m : Mark) → (scan : IsScan t d s a b) → s'.page_len ≡ s.page_len → Shows d'.cache s' (8 * t.part) scan.tree.ps → MarkFits (Some m) scan.levels
    → t' ≡ record t { mark = Some m } → IsScan t' d' s' a b
scan_marked t t' d d' s s' a b m scan len shows fits same =
    let now : IsScan (record t { mark = Some m }) d' s' a b = record {
      levels = scan.levels;
      tree = tree_marked t d' s' scan.levels m (tree_kept t d d' s s' scan.levels scan.tree len shows) fits;
      front = scan.front;
      back = scan.back;
      split = scan.split;
      togo = scan.togo;
      whole = scan.whole;
      rest = subst (λ (n : ℕ). ToCome n t.here t.at scan.tree.ps scan.back b) (sym len) scan.rest;
    } in
    subst (λ (u : TreeView). IsScan u d' s' a b) (sym same) now

-- the tree without one
pub held_forgot : (t : TreeView) (d : Desk) (s : Shown) (l : Graph) → IsHeld t d s l → IsHeld (record t { mark = None }) d s l
held_forgot t d s l held =
    let is = held.tree in
    record {
      levels = held.levels;
      tree = record {
        ps = is.ps;
        shows = is.shows;
        len = is.len;
        stack = is.stack;
        depth = is.depth;
        pages = is.pages;
        leaves = is.leaves;
        apart = is.apart;
        first = is.first;
        root = is.root;
        items = is.items;
        bushy = is.bushy;
        mark = tt;
      };
      is = held.is;
    }

-- the tuples below a key stay as they are
pub record KeepsFront (v : ℕ) (f : List Entry → List Entry) (es : List Entry) : Type 0 where
  pub count : prefix_len (is_below v) (f es) ≡ prefix_len (is_below v) es
  pub front : take (prefix_len (is_below v) es) (f es) ≡ take (prefix_len (is_below v) es) es

pub behind : (v : ℕ) (f : List Entry → List Entry) (e : Entry) (es : List Entry) → e.key < v → f (e ∷ es) ≡ e ∷ f es → KeepsFront v f es → KeepsFront v f (e ∷ es)
behind v f e es lt is rest =
    let n = past v e es lt in
    record {
      count = ap (prefix_len (is_below v)) is ∙ past v e (f es) lt ∙ ap suc rest.count ∙ sym n;
      front = ap (λ (k : ℕ). take k (f (e ∷ es))) n ∙ ap (take (suc (prefix_len (is_below v) es))) is ∙ ap (λ (l : List Entry). e ∷ l) rest.front ∙ ap (λ (k : ℕ). take k (e ∷ es)) (sym n);
    }

pub at_front : (v : ℕ) (f : List Entry → List Entry) (es : List Entry) → prefix_len (is_below v) es ≡ 0 → prefix_len (is_below v) (f es) ≡ 0 → KeepsFront v f es
at_front v f es none still = record { count = still ∙ sym none; front = ap (λ (k : ℕ). take k (f es)) none ∙ ap (λ (k : ℕ). take k es) (sym none) }

pub front_placed : (e : Entry) (es : List Entry) → KeepsFront e.key (placed e) es
front_placed e [] = at_front e.key (placed e) [] refl (stops e.key e [] (omega arith))
front_placed e (d ∷ es) = elim (cases_lt d.key e.key) [
  | inl lt ↦
      let is : placed e (d ∷ es) ≡ d ∷ placed e es = rw (not_below e.key d.key (omega (arith, lt)), not_equal e.key d.key (λ same. omega (arith, lt, same))) refl in
      behind e.key (placed e) d es lt is (front_placed e es)
  | inr ge ↦ at_front e.key (placed e) (d ∷ es) (stops e.key d es ge) (elim (cases_eq e.key d.key) [
    | inl same ↦ rw (not_below e.key d.key (omega (arith, same)), equal e.key d.key same) (stops e.key e es (omega arith))
    | inr other ↦ rw (below e.key d.key (omega (arith, ge, other))) (stops e.key e (d ∷ es) (omega arith))
  ])
]

none_less : (v low : ℕ) (es : List Entry) (xs : List Piece) → AreKeys low es xs → v ≤ low → prefix_len (is_below v) es ≡ 0
none_less v low [] xs keys le = refl
none_less v low (e ∷ es) xs keys le = stops v e es (omega (arith, le, keys.0))

pub front_gone : (v low : ℕ) (es : List Entry) (xs : List Piece) → AreKeys low es xs → KeepsFront v (gone v) es
front_gone v low [] xs keys = at_front v (gone v) [] refl refl
front_gone v low (e ∷ es) xs keys = elim (cases_lt e.key v) [
  | inl lt ↦
      let is : gone v (e ∷ es) ≡ e ∷ gone v es = rw (below e.key v lt) refl in
      behind v (gone v) e es lt is (front_gone v (e.key + 1) es xs keys.2)
  | inr ge ↦ at_front v (gone v) (e ∷ es) (stops v e es ge) (elim (cases_eq v e.key) [
    | inl same ↦ rw (not_below e.key v ge, equal v e.key same) (none_less v (e.key + 1) es xs keys.2 (omega (arith, same)))
    | inr other ↦ rw (not_below e.key v ge, not_equal v e.key other) (stops v e es ge)
  ])
]

pub front_removed : (v len : ℕ) (ps : List (List ℕ)) (levels : List (List Piece)) → IsStack len ps levels → KeepsFront v (removed v) (leaf_at v levels).es
front_removed v len ps levels is =
    let es = (leaf_at v levels).es in
    let level = leaves_level len ps levels is in
    let keys = piece_keys v len true ps (leaves_of levels) level in
    let keeps = front_gone v (leaf_at v levels).low es keys.0 keys.1 in
    let same : removed v es ≡ gone v es = sym (gone_at v len ps (leaves_of levels) level) in
    record { count = ap (prefix_len (is_below v)) same ∙ keeps.count; front = ap (take (prefix_len (is_below v) es)) same ∙ keeps.front }

-- the leaf in which the vid lies, after its tuples changed
pub changed_head : (v : ℕ) (f : List Entry → List Entry) (y : Piece) (ys : List Piece) → (z : Piece) × (zs : List Piece) × (changed v f (y ∷ ys) ≡ z ∷ zs) × (z.low ≡ y.low)
changed_head v f y [] = (with_tuples f y, [], refl, refl)
changed_head v f y (x ∷ xs) = elim (cases_lt v x.low) [
  | inl lt ↦ (with_tuples f y, x ∷ xs, rw (below v x.low lt) refl, refl)
  | inr ge ↦ (y, changed v f (x ∷ xs), rw (not_below v x.low ge) refl, refl)
]

pub piece_changed : (v : ℕ) (f : List Entry → List Entry) (xs : List Piece) → StartsBelow v xs → piece_at v (changed v f xs) ≡ with_tuples f (piece_at v xs)
piece_changed v f [] starts = absurd starts
piece_changed v f (x ∷ []) starts = refl
piece_changed v f (x ∷ y ∷ ys) starts = elim (cases_lt v y.low) [
  | inl lt ↦
      let is : changed v f (x ∷ y ∷ ys) ≡ with_tuples f x ∷ y ∷ ys = rw (below v y.low lt) refl in
      ap (piece_at v) is ∙ rw (below v y.low lt) refl
  | inr ge ↦
      let is : changed v f (x ∷ y ∷ ys) ≡ x ∷ changed v f (y ∷ ys) = rw (not_below v y.low ge) refl in
      let head = changed_head v f y ys in
      let past_x : piece_at v (x ∷ head.0 ∷ head.1) ≡ piece_at v (head.0 ∷ head.1) = ap (λ (b : Bool). pick b x (piece_at v (head.0 ∷ head.1))) (not_below v head.0.low (omega (arith, ge, head.3))) in
      let past_too : piece_at v (x ∷ y ∷ ys) ≡ piece_at v (y ∷ ys) = ap (λ (b : Bool). pick b x (piece_at v (y ∷ ys))) (not_below v y.low ge) in
      ap (piece_at v) is ∙ ap (λ (l : List Piece). piece_at v (x ∷ l)) head.2 ∙ past_x ∙ ap (piece_at v) (sym head.2) ∙ piece_changed v f (y ∷ ys) ge ∙ ap (with_tuples f) (sym past_too)
]

-- the place of a call that changed its leaf
pub mark_changed : (v : ℕ) (f : List Entry → List Entry) (levels : List (List Piece)) (spot : Spot) → StartsBelow v (leaves_of levels) → KeepsFront v f (leaf_at v levels).es → IsMark (mark_at v spot) (leaf_at v levels)
    → MarkFits (Some (mark_at v spot)) (changed_leaf v f levels)
mark_changed v f levels spot starts keeps is =
    let x = leaf_at v levels in
    let at : leaf_at v (changed_leaf v f levels) ≡ with_tuples f x = ap (piece_at v) (leaves_changed v f levels) ∙ piece_changed v f (leaves_of levels) starts in
    let new : IsMark (mark_at v spot) (with_tuples f x) = record {
      page = is.page;
      index = is.index ∙ sym keeps.count;
      at = is.at ∙ ap used_of (ap (λ (k : ℕ). take k x.es) is.index ∙ sym keeps.front ∙ ap (λ (k : ℕ). take k (f x.es)) (sym is.index));
    } in
    subst (λ (z : Piece). IsMark (mark_at v spot) z) (sym at) new
