-- A leaf of a tree is opened, put to and closed.
use Rattle.std.proofs.Common.{◌≡◌, ◌<◌, ◌≤◌, ◌+◌, ◌*◌, ◌⊎◌, ℕ, zero, suc, Bool, true, ◌==◌, List, [], ◌∷◌, length, take, set, get_or, refl, sym, ◌∙◌, ap, subst, arith, inl, inr, set-set, get_or-set_same}
use Rattle.std.proofs.lemmas.Bool.{cases_lt, cases_eq}
use Rattle.std.proofs.lemmas.List.Sums.{prefix_len-le-length}
use Rattle.std.specs.Prelude.{if◌then◌else◌, ◌&&◌, IfSome, IfNone, Option, Some, None, slice_get, is_some}
use Rattle.std.specs.List.{prefix_len}
use Rattle.px_core.specs.Shown.{Shown}
use Rattle.px_meaning.specs.Graph.{Vertex, Graph, lookup, vertex_or_fresh, put}
use Rattle.px_pages.specs.Entry.{Entry}
use Rattle.px_pages.specs.Page.{IsMade, writer_of, tuples_of, used_of, link_of}
use Rattle.px_pages.specs.Place.{IsPlace, IsFront, is_below}
use Rattle.px_pages.specs.declared.place.Place.{Place}
use Rattle.px_pages.proofs.Writing.{made_tuples}
use Rattle.px_record.specs.Body.{vertex_of}
use Rattle.px_cache.specs.declared.note.Note.{Note}
use Rattle.px_cache.specs.View.{CacheView, Shows, Holds, written_frame, mark}
use Rattle.px_cache.proofs.Lists.{some_is}
use Rattle.px_cache.proofs.Shows.{holds_within, mark_holds, write_shows}
use Rattle.px_store.specs.declared.shared.Desk.{Desk}
use Rattle.px_btree.specs.Tree.{Piece, TreeView, AreKeys, AreItems, IsLevel, IsMark, MarkFits, IsTree, IsHeld, IsItem, items, leaves_of}
use Rattle.px_btree.specs.Find.{piece_at, leaf_at, pick}
use Rattle.px_btree.specs.Put.{placed, with_tuples, changed, changed_leaf}
use Rattle.px_btree.specs.Scan.{IsScan, is_held}
use Rattle.px_btree.specs.Apart.{KeepsApart, closed}
use Rattle.px_btree.specs.Open.{IsOpenFrom, EndsHere, closed_in, shut, shut_in, IsLeafIn, IsAlone, PutsApart, GivesApart, PutsOpen, GivesOpen, OpensAt, OpenFits, OpenTreeView, IsStored, IsStoredScan}
use Rattle.px_btree.specs.declared.tree.Mark.{Mark}
use Rattle.px_btree.specs.declared.apart.Apart.{Apart}
use Rattle.px_btree.specs.declared.open_leaf.OpenLeaf.{OpenLeaf}
use Rattle.px_btree.proofs.OpenPage.{open_at}
use Rattle.px_btree.proofs.Orders.{not_below, below, not_equal, equal}
use Rattle.px_btree.proofs.Places.{stops, piece_keys}
use Rattle.px_btree.proofs.Levels.{page_tuples}
use Rattle.px_btree.proofs.Items.{leaves_level, tree_kept, items_at, lookup_leaf}
use Rattle.px_btree.proofs.Putting.{leaves_changed, StartsBelow, starts_of, held_put, set_same}
use Rattle.px_btree.proofs.Marking.{KeepsFront, behind, at_front, stops_below, made_next, leaf_page, changed_head, same_leaf}

-- a frame is written twice
mark_twice : (ns : List Note) (i : ℕ) → mark (mark ns i) i ≡ mark ns i
mark_twice [] i = refl
mark_twice (n ∷ ns) zero = refl
mark_twice (n ∷ ns) (suc i) = ap (λ (l : List Note). n ∷ l) (mark_twice ns i)

pub write_twice : (c : CacheView) (i : ℕ) (x y : List ℕ) → written_frame (written_frame c i x) i y ≡ written_frame c i y
write_twice c i x y =
    ap (λ (ns : List Note). let d : CacheView = record c { notes = ns; frames = set (set c.frames i x) i y } in d) (mark_twice c.notes i)
    ∙ ap (λ (fs : List (List ℕ)). let d : CacheView = record c { notes = mark c.notes i; frames = fs } in d) (set-set c.frames i x y)

-- the cache with the open leaf closed, after its frame was written
pub shut_twice : (o o' : OpenLeaf) (c : CacheView) (x : List ℕ) → o'.frame ≡ o.frame → get_or (set c.frames o.frame x) o.frame [] ≡ x → shut o' (written_frame c o.frame x) ≡ written_frame c o.frame (closed o'.apart x)
shut_twice o o' c x same at =
    ap (λ (i : ℕ). written_frame (written_frame c o.frame x) i (closed o'.apart (get_or (set c.frames o.frame x) i []))) same
    ∙ ap (λ (b : List ℕ). written_frame (written_frame c o.frame x) o.frame (closed o'.apart b)) at ∙ write_twice c o.frame x (closed o'.apart x)

pub written_at : (c : CacheView) (i f p : ℕ) (x : List ℕ) → length c.notes ≡ length c.frames → Holds c.notes i f p → get_or (set c.frames i x) i [] ≡ x
written_at c i f p x whole holds = get_or-set_same c.frames i x [] (omega (arith, whole, holds_within c.notes i f p holds))

-- a tuple was put into an open leaf
pub puts_open : (e : Entry) (f : ℕ) (o o' : OpenLeaf) (c : CacheView) (new : List ℕ) → length c.notes ≡ length c.frames → o'.frame ≡ o.frame → o'.mark ≡ o.mark → o'.from ≡ e.key + 1 → o.from ≤ e.key → IsLeafIn f o c
    → PutsApart e o.apart o'.apart (get_or c.frames o.frame []) new → PutsOpen e f o o' c (written_frame c o.frame new)
puts_open e f o o' c new whole frame marks from le is puts =
    let at = written_at c o.frame f o.mark.page new whole is.0 in
    let holds : Holds (mark c.notes o.frame) o.frame f o.mark.page = mark_holds c.notes o.frame o.frame f o.mark.page is.0 in
    let next : IsOpenFrom (e.key + 1) o'.apart (get_or (set c.frames o.frame new) o.frame []) = subst (λ (b : List ℕ). IsOpenFrom (e.key + 1) o'.apart b) (sym at) puts.next in
    let next' : IsOpenFrom o'.from o'.apart (get_or (set c.frames o.frame new) o'.frame []) =
    subst (λ (i : ℕ). IsOpenFrom o'.from o'.apart (get_or (set c.frames o.frame new) i [])) (sym frame) (subst (λ (v : ℕ). IsOpenFrom v o'.apart (get_or (set c.frames o.frame new) o.frame [])) (sym from) next) in
    record {
      whole = whole;
      page = closed o'.apart new;
      leaf = (
        subst (λ (m : Mark). Holds (mark c.notes o.frame) o'.frame f m.page) (sym marks) (subst (λ (i : ℕ). Holds (mark c.notes o.frame) i f o.mark.page) (sym frame) holds),
        omega (arith, ap (λ (m : Mark). m.key) marks, is.1, le, from),
        next',
      );
      shut = shut_twice o o' c new frame at;
      turned = puts.turned;
      ends = puts.ends;
    }

-- or it was not, and the leaf is open for the vids from its own on
pub stays_open : (v f : ℕ) (o o' : OpenLeaf) (c : CacheView) (new : List ℕ) → length c.notes ≡ length c.frames → o'.frame ≡ o.frame → o'.mark ≡ o.mark → o'.from ≡ v → o.from ≤ v → IsLeafIn f o c
    → IsOpenFrom v o'.apart new → IsLeafIn f o' (written_frame c o.frame new)
stays_open v f o o' c new whole frame marks from le is is' =
    let at = written_at c o.frame f o.mark.page new whole is.0 in
    let holds : Holds (mark c.notes o.frame) o.frame f o.mark.page = mark_holds c.notes o.frame o.frame f o.mark.page is.0 in (
      subst (λ (m : Mark). Holds (mark c.notes o.frame) o'.frame f m.page) (sym marks) (subst (λ (i : ℕ). Holds (mark c.notes o.frame) i f o.mark.page) (sym frame) holds),
      omega (arith, ap (λ (m : Mark). m.key) marks, is.1, le, from),
      subst (λ (i : ℕ). IsOpenFrom o'.from o'.apart (get_or (set c.frames o.frame new) i [])) (sym frame)
          (subst (λ (w : ℕ). IsOpenFrom w o'.apart (get_or (set c.frames o.frame new) o.frame [])) (sym from) (subst (λ (b : List ℕ). IsOpenFrom v o'.apart b) (sym at) is')),
    )

pub stays_shut : (f : ℕ) (o o' : OpenLeaf) (c : CacheView) (new : List ℕ) → length c.notes ≡ length c.frames → o'.frame ≡ o.frame → IsLeafIn f o c
    → closed o'.apart new ≡ closed_in o c → shut o' (written_frame c o.frame new) ≡ shut o c
stays_shut f o o' c new whole frame is same =
    shut_twice o o' c new frame (written_at c o.frame f o.mark.page new whole is.0) ∙ ap (written_frame c o.frame) same

-- as a function that writes the frame says it
module _ (f : ℕ) (o o' : OpenLeaf) (c : CacheView) (i : ℕ) (page new b : List ℕ) (same : i ≡ o.frame) (page_is : page ≡ get_or c.frames i []) (b_is : b ≡ new) (whole : length c.notes ≡ length c.frames)
    (frame : o'.frame ≡ o.frame) (marks : o'.mark ≡ o.mark) (is : IsLeafIn f o c) where
  page_at : page ≡ get_or c.frames o.frame []
  page_at = page_is ∙ ap (λ (j : ℕ). get_or c.frames j []) same

  now : written_frame c o.frame new ≡ written_frame c i b
  now = ap (λ (j : ℕ). written_frame c j new) (sym same) ∙ ap (written_frame c i) (sym b_is)

  old_open : IsOpenFrom o.from o.apart page
  old_open = subst (λ (x : List ℕ). IsOpenFrom o.from o.apart x) (sym page_at) is.2

  pub leaf_puts : (e : Entry) → o'.from ≡ e.key + 1 → o.from ≤ e.key → ((from : ℕ) → from ≤ e.key → IsOpenFrom from o.apart page → PutsApart e o.apart o'.apart page new) → PutsOpen e f o o' c (written_frame c i b)
  leaf_puts e from le puts =
      let put' : PutsApart e o.apart o'.apart (get_or c.frames o.frame []) new = subst (λ (x : List ℕ). PutsApart e o.apart o'.apart x new) page_at (puts o.from le old_open) in
      subst (λ (c' : CacheView). PutsOpen e f o o' c c') now (puts_open e f o o' c new whole frame marks from le is put')

  pub leaf_stays : (v : ℕ) → o'.from ≡ v → o.from ≤ v → ((from : ℕ) → from ≤ v → IsOpenFrom from o.apart page → IsOpenFrom v o'.apart new) → IsLeafIn f o' (written_frame c i b)
  leaf_stays v from le next = subst (λ (c' : CacheView). IsLeafIn f o' c') now (stays_open v f o o' c new whole frame marks from le is (next o.from le old_open))

  pub leaf_shut : closed o'.apart new ≡ closed o.apart page → shut o' (written_frame c i b) ≡ shut o c
  leaf_shut shuts = ap (shut o') (sym now) ∙ stays_shut f o o' c new whole frame is (shuts ∙ ap (closed o.apart) page_at)

-- the vertex of a vid was given out of the page of an open leaf
pub leaf_gives : (v f : ℕ) (there : Bool) (x : Vertex) (o : OpenLeaf) (c : CacheView) (i : ℕ) (page : List ℕ) → i ≡ o.frame → page ≡ get_or c.frames i [] → length c.notes ≡ length c.frames → o.from ≤ v → IsLeafIn f o c
    → ((from : ℕ) → from ≤ v → IsOpenFrom from o.apart page → GivesApart v there x (closed o.apart page)) → GivesOpen v there x o c
leaf_gives v f there x o c i page same page_is whole le is gives =
    let at : page ≡ get_or c.frames o.frame [] = page_is ∙ ap (λ (j : ℕ). get_or c.frames j []) same in
    record {
      whole = whole;
      given = subst (λ (b : List ℕ). GivesApart v there x (closed o.apart b)) at (gives o.from le (subst (λ (b : List ℕ). IsOpenFrom o.from o.apart b) (sym at) is.2));
    }

-- the page of a frame was opened
pub opens_at : (f i : ℕ) (m : Mark) (place : Place) (a : Apart) (c : CacheView) (page new b : List ℕ) → page ≡ get_or c.frames i [] → b ≡ new → length c.notes ≡ length c.frames → Holds c.notes i f m.page
    → (IsFront m.place.index m.place.at page → IsPlace place page)
    → (IsFront m.place.index m.place.at page → m.place.index ≤ prefix_len (is_below m.key) (tuples_of page) → place.index ≡ prefix_len (is_below m.key) (tuples_of page))
    → ((n k l : ℕ) (es : List Entry) → IsMade (writer_of n es) k l es page → IsPlace place page → KeepsApart n k l place.index es a new)
    → ((n k l : ℕ) (es : List Entry) → IsMade (writer_of n es) k l es page → IsPlace place page → closed a new ≡ page)
    → OpensAt f m (record { frame = i; mark = m; from = m.key; apart = a }) c (written_frame c i b)
opens_at f i m place a c page new b page_is b_is whole holds finds first keeps shuts =
    let o : OpenLeaf = record { frame = i; mark = m; from = m.key; apart = a } in
    let now : written_frame c i new ≡ written_frame c i b = ap (written_frame c i) (sym b_is) in
    let at = written_at c i f m.page new whole holds in
    record {
      whole = whole;
      mark = refl;
      holds = holds;
      leaf = λ n k l es made' front' index.
          let made = subst (λ (x : List ℕ). IsMade (writer_of n es) k l es x) (sym page_is) made' in
          let front = subst (λ (x : List ℕ). IsFront m.place.index m.place.at x) (sym page_is) front' in
          let ts : tuples_of page ≡ es = made_tuples (writer_of n es) k l es page made in
          let is_place = finds front in
          let place_index : place.index ≡ prefix_len (is_below m.key) es = first front (omega (arith, index, ap (prefix_len (is_below m.key)) ts)) ∙ ap (prefix_len (is_below m.key)) ts in
          let kept = subst (λ (j : ℕ). KeepsApart n k l j es a new) place_index (keeps n k l es made is_place) in
          let next : IsOpenFrom m.key a (get_or (set c.frames i new) i []) = subst (λ (x : List ℕ). IsOpenFrom m.key a x) (sym at) (open_at m.key n k l es a new kept) in
          let leaf : IsLeafIn f o (written_frame c i new) = (mark_holds c.notes i i f m.page holds, omega arith, next) in
          let closes : shut o (written_frame c i new) ≡ written_frame c i (get_or c.frames i []) =
          shut_twice o o c new refl at ∙ ap (written_frame c i) (shuts n k l es made is_place ∙ page_is) in
          (subst (λ (c' : CacheView). IsLeafIn f o c') now leaf, ap (shut o) (sym now) ∙ closes);
    }

-- no other frame holds the open leaf of a tree
pub alone : (t : TreeView) (o : OpenLeaf) (d : Desk) (s : Shown) (ps : List (List ℕ)) → IsLeafIn (8 * t.part) o d.cache → Shows (shut o d.cache) s (8 * t.part) ps → IsAlone (8 * t.part) o d.cache
alone t o d s ps is shows = λ i h.
    let f = 8 * t.part in
    shows.once i o.frame o.mark.page (mark_holds d.cache.notes o.frame i f o.mark.page h) (mark_holds d.cache.notes o.frame o.frame f o.mark.page is.0)

-- which pages are held
pub held_mark : (ns : List Note) (i f p : ℕ) → is_held (mark ns i) f p ≡ is_held ns f p
held_mark [] i f p = refl
held_mark (n ∷ ns) zero f p = refl
held_mark (n ∷ ns) (suc i) f p = ap (λ (b : Bool). if n.used && (n.file == f && n.page == p) then true else b) (held_mark ns i f p)

-- the tuples below a key stay as they are where a greater one is put
front_placed : (k : ℕ) (e : Entry) (es : List Entry) → k ≤ e.key → KeepsFront k (placed e) es
front_placed k e [] le = at_front k (placed e) [] refl (stops k e [] le)
front_placed k e (d ∷ es) le = elim (cases_lt d.key k) [
  | inl lt ↦
      let is : placed e (d ∷ es) ≡ d ∷ placed e es = rw (not_below e.key d.key (omega (arith, lt, le)), not_equal e.key d.key (λ same. omega (arith, lt, le, same))) refl in
      behind k (placed e) d es lt is (front_placed k e es le)
  | inr ge ↦ at_front k (placed e) (d ∷ es) (stops k d es ge) (elim (cases_lt e.key d.key) [
    | inl lt ↦ rw (below e.key d.key lt) (stops k e (d ∷ es) le)
    | inr ge' ↦ elim (cases_eq e.key d.key) [
      | inl same ↦ rw (not_below e.key d.key ge', equal e.key d.key same) (stops k e es le)
      | inr other ↦ rw (not_below e.key d.key ge', not_equal e.key d.key other) (stops k d (placed e es) ge)
    ]
  ])
]

-- the leaf of a smaller vid, where a greater one's is the same and was changed
piece_changed : (k v len : ℕ) (f : List Entry → List Entry) (ps : List (List ℕ)) (xs : List Piece) (b : List ℕ) → StartsBelow v xs → IsLevel len true ps xs → k ≤ v → slice_get ps (piece_at k xs).page ≡ Some b
    → (prefix_len (is_below v) (piece_at k xs).es < length (piece_at k xs).es) ⊎ (link_of b ≡ 0) → piece_at k (changed v f xs) ≡ with_tuples f (piece_at k xs)
piece_changed k v len f ps [] b starts is le at ends = absurd starts
piece_changed k v len f ps (x ∷ []) b starts is le at ends = refl
piece_changed k v len f ps (x ∷ y ∷ ys) b starts is le at ends = elim (cases_lt k y.low) [
  | inl lt ↦
      let here : piece_at k (x ∷ y ∷ ys) ≡ x = ap (λ (c : Bool). pick c x (piece_at k (y ∷ ys))) (below k y.low lt) in
      let at' : slice_get ps x.page ≡ Some b = ap (λ (z : Piece). slice_get ps z.page) (sym here) ∙ at in
      let less : v < y.low = elim ends [
        | inl more ↦ stops_below v x.low x.es y ys is.1 (subst (λ (z : Piece). prefix_len (is_below v) z.es < length z.es) here more)
        | inr none ↦ absurd (omega (arith, none, made_next len ps x (y ∷ ys) b is.0 at'))
      ] in
      let new : changed v f (x ∷ y ∷ ys) ≡ with_tuples f x ∷ y ∷ ys = rw (below v y.low less) refl in
      ap (piece_at k) new ∙ ap (λ (c : Bool). pick c (with_tuples f x) (piece_at k (y ∷ ys))) (below k y.low lt) ∙ ap (with_tuples f) (sym here)
  | inr ge ↦
      let here : piece_at k (x ∷ y ∷ ys) ≡ piece_at k (y ∷ ys) = ap (λ (c : Bool). pick c x (piece_at k (y ∷ ys))) (not_below k y.low ge) in
      let on : y.low ≤ v = omega (arith, ge, le) in
      let new : changed v f (x ∷ y ∷ ys) ≡ x ∷ changed v f (y ∷ ys) = rw (not_below v y.low on) refl in
      let head = changed_head v f y ys in
      let past_x : piece_at k (x ∷ head.0 ∷ head.1) ≡ piece_at k (head.0 ∷ head.1) = ap (λ (c : Bool). pick c x (piece_at k (head.0 ∷ head.1))) (not_below k head.0.low (omega (arith, ge, head.3))) in
      ap (piece_at k) new ∙ ap (λ (l : List Piece). piece_at k (x ∷ l)) head.2 ∙ past_x ∙ ap (piece_at k) (sym head.2)
      ∙ piece_changed k v len f ps (y ∷ ys) b on is.4 le (ap (λ (z : Piece). slice_get ps z.page) (sym here) ∙ at) (subst (λ (z : Piece). (prefix_len (is_below v) z.es < length z.es) ⊎ (link_of b ≡ 0)) here ends)
      ∙ ap (with_tuples f) (sym here)
]

-- the place of the last call stays where a greater vid is put into its leaf
mark_stays : (m : Mark) (f : List Entry → List Entry) (levels : List (List Piece)) (v : ℕ) → leaf_at m.key (changed_leaf v f levels) ≡ with_tuples f (leaf_at m.key levels) → KeepsFront m.key f (leaf_at m.key levels).es → MarkFits (Some m) levels
    → MarkFits (Some m) (changed_leaf v f levels)
mark_stays m f levels v at keeps is =
    let x = leaf_at m.key levels in
    let new : IsMark m (with_tuples f x) = record {
      page = is.page;
      index = is.index ∙ sym keeps.count;
      at = is.at ∙ ap used_of (ap (λ (k : ℕ). take k x.es) is.index ∙ sym keeps.front ∙ ap (λ (k : ℕ). take k (f x.es)) (sym is.index));
    } in
    subst (λ (z : Piece). IsMark m z) (sym at) new

-- the closed page of an open leaf of a tree is that of the leaf in which the vid of the last call lies
open_page : (t : TreeView) (m : Mark) (o : OpenLeaf) (d : Desk) (s : Shown) (l : Graph) → t.mark ≡ Some m → o.mark ≡ m → length d.cache.notes ≡ length d.cache.frames → IsLeafIn (8 * t.part) o d.cache
    → (held : IsHeld t (record d { cache = shut o d.cache }) s l)
    → MarkFits (Some m) held.levels × Holds (mark d.cache.notes o.frame) o.frame (8 * t.part) m.page × (slice_get held.tree.ps m.page ≡ Some (closed_in o d.cache))
open_page t m o d s l marked is_m whole leaf held =
    let f = 8 * t.part in
    let old = closed_in o d.cache in
    let c0 = shut o d.cache in
    let fits : MarkFits (Some m) held.levels = subst (λ (k : Option Mark). MarkFits k held.levels) marked held.tree.mark in
    let holds : Holds c0.notes o.frame f m.page = subst (λ (k : Mark). Holds c0.notes o.frame f k.page) is_m (mark_holds d.cache.notes o.frame o.frame f o.mark.page leaf.0) in
    let got : get_or c0.frames o.frame [] ≡ old = written_at d.cache o.frame f o.mark.page old whole leaf.0 in
    (fits, holds, held.tree.shows.held o.frame m.page holds ∙ ap (λ (b : List ℕ). Some b) got)

-- a vid lies in the leaf of this page, where the page ends behind it
page_ends : (m : Mark) (v : ℕ) (t : TreeView) (d : Desk) (s : Shown) (levels : List (List Piece)) (old : List ℕ) → (tree : IsTree t d s levels) → MarkFits (Some m) levels → slice_get tree.ps m.page ≡ Some old → m.key ≤ v → EndsHere v old
    → (slice_get tree.ps (leaf_at m.key levels).page ≡ Some old) × (tuples_of old ≡ (leaf_at m.key levels).es) × (leaf_at v levels ≡ leaf_at m.key levels) × (length old ≡ s.page_len)
    × ((prefix_len (is_below v) (leaf_at m.key levels).es < length (leaf_at m.key levels).es) ⊎ (link_of old ≡ 0))
page_ends m v t d s levels old tree fits read le ends =
    let xs = leaves_of levels in
    let x = piece_at m.key xs in
    let level = leaves_level s.page_len tree.ps levels tree.stack in
    let here = leaf_page m.key 0 s.page_len tree.ps xs tree.first level in
    let at : slice_get tree.ps x.page ≡ Some old = ap (slice_get tree.ps) fits.page ∙ read in
    let ts : tuples_of old ≡ x.es = page_tuples s.page_len 3 here.0 x.page tree.ps x.es old here.1 at in
    let ends' : (prefix_len (is_below v) x.es < length x.es) ⊎ (link_of old ≡ 0) = subst (λ (es : List Entry). (prefix_len (is_below v) es < length es) ⊎ (link_of old ≡ 0)) ts ends in
    (at, ts, same_leaf m.key v s.page_len tree.ps xs old level le at ends', ap (λ (b : List ℕ). length b) (some_is (sym at ∙ here.1.at)) ∙ here.1.made.page_len, ends')

-- the vertex of a vid was given out of the open leaf of a tree
open_gives : (t : TreeView) (o : OpenLeaf) (d : Desk) (s : Shown) (l : Graph) (v : ℕ) (there : Bool) (x : Vertex) → t.mark ≡ Some o.mark → IsLeafIn (8 * t.part) o d.cache → o.mark.key ≤ v → GivesOpen v there x o d.cache
    → IsHeld t (record d { cache = shut o d.cache }) s l → (there ≡ is_some (lookup v l)) × (x ≡ vertex_or_fresh (lookup v l))
open_gives t o d s l v there x marked leaf le gives held =
    let tree = held.tree in
    let levels = held.levels in
    let old = closed_in o d.cache in
    let open_is = open_page t o.mark o d s l marked refl gives.whole leaf held in
    let is = page_ends o.mark v t (record d { cache = shut o d.cache }) s levels old tree open_is.0 open_is.2 le gives.given.ends in
    let z = leaf_at v levels in
    let ts : tuples_of old ≡ z.es = is.1 ∙ ap (λ (y : Piece). y.es) (sym is.2) in
    let keys = piece_keys v s.page_len true tree.ps (leaves_of levels) (leaves_level s.page_len tree.ps levels tree.stack) in
    let keys' : AreKeys z.low (tuples_of old) keys.0 = subst (λ (es : List Entry). AreKeys z.low es keys.0) (sym ts) keys.1 in
    let all : AreItems (length old) (tuples_of old) =
    subst (λ (es : List Entry). AreItems (length old) es) (sym ts) (subst (λ (n : ℕ). AreItems n z.es) (sym is.3) (items_at v s.page_len (leaves_of levels) tree.items)) in
    let found = gives.given.found z.low keys.0 keys' all in
    let same : lookup v (items (tuples_of old)) ≡ lookup v l =
    ap (λ (es : List Entry). lookup v (items es)) ts ∙ sym (lookup_leaf v s.page_len tree.ps levels tree.stack) ∙ ap (λ (k : Graph). lookup v k) (sym held.is) in
    (found.0 ∙ ap is_some same, found.1 ∙ ap vertex_or_fresh same)

-- a vertex was put into the open leaf of a tree
pub held_open : (t : TreeView) (m : Mark) (o o' : OpenLeaf) (d : Desk) (c' : CacheView) (s : Shown) (l : Graph) (e : Entry) → t.mark ≡ Some m → o.mark ≡ m → IsLeafIn (8 * t.part) o d.cache → m.key ≤ e.key → IsItem s.page_len e
    → PutsOpen e (8 * t.part) o o' d.cache c' → IsHeld t (record d { cache = shut o d.cache }) s l → IsHeld t (record d { cache = shut o' c' }) s (put e.key (vertex_of e.body) l)
held_open t m o o' d c' s l e marked is_m leaf le item puts held =
    let f = 8 * t.part in
    let tree = held.tree in
    let levels = held.levels in
    let xs = leaves_of levels in
    let x = piece_at m.key xs in
    let old = closed_in o d.cache in
    let c0 = shut o d.cache in
    let level = leaves_level s.page_len tree.ps levels tree.stack in
    let open_is = open_page t m o d s l marked is_m puts.whole leaf held in
    let fits = open_is.0 in
    let holds = open_is.1 in
    let is = page_ends m e.key t (record d { cache = c0 }) s levels old tree fits open_is.2 le puts.ends in
    let at = is.0 in
    let same = is.2 in
    let ends = is.4 in
    let starts = starts_of e.key 0 xs tree.first in
    let at' : slice_get tree.ps (leaf_at e.key levels).page ≡ Some old = ap (λ (z : Piece). slice_get tree.ps z.page) same ∙ at in
    let p : m.page ≡ (leaf_at e.key levels).page = sym fits.page ∙ ap (λ (z : Piece). z.page) (sym same) in
    let twice : written_frame c0 o.frame puts.page ≡ shut o' c' = write_twice d.cache o.frame old puts.page ∙ sym puts.shut in
    let whole : length c0.notes ≡ length c0.frames = mark_whole d.cache o.frame old puts.whole in
    let shows : Shows (shut o' c') s f (set tree.ps (leaf_at e.key levels).page puts.page) =
    subst (λ (q : ℕ). Shows (shut o' c') s f (set tree.ps q puts.page)) p (subst (λ (c : CacheView). Shows c s f (set tree.ps m.page puts.page)) twice (write_shows c0 s o.frame f m.page puts.page whole holds tree.ps tree.shows)) in
    let moved : leaf_at m.key (changed_leaf e.key (placed e) levels) ≡ with_tuples (placed e) x =
    ap (piece_at m.key) (leaves_changed e.key (placed e) levels) ∙ piece_changed m.key e.key s.page_len (placed e) tree.ps xs old starts level le at ends in
    let fits' : MarkFits (Some m) (changed_leaf e.key (placed e) levels) = mark_stays m (placed e) levels e.key moved (front_placed m.key e x.es le) fits in
    held_put t t (record d { cache = c0 }) (record d { cache = shut o' c' }) s s l e old puts.page held item starts refl at' puts.turned shows t.mark
    (subst (λ (k : Option Mark). MarkFits k (changed_leaf e.key (placed e) levels)) (sym marked) fits') refl
  where
    mark_length : (ns : List Note) (i : ℕ) → length (mark ns i) ≡ length ns
    mark_length [] i = refl
    mark_length (n ∷ ns) zero = refl
    mark_length (n ∷ ns) (suc i) = ap suc (mark_length ns i)

    set_length : (xs : List (List ℕ)) (i : ℕ) (b : List ℕ) → length (set xs i b) ≡ length xs
    set_length [] i b = refl
    set_length (x ∷ xs) zero b = refl
    set_length (x ∷ xs) (suc i) b = ap suc (set_length xs i b)

    mark_whole : (c : CacheView) (i : ℕ) (b : List ℕ) → length c.notes ≡ length c.frames → length (mark c.notes i) ≡ length (set c.frames i b)
    mark_whole c i b whole = mark_length c.notes i ∙ whole ∙ sym (set_length c.frames i b)

-- the leaf of the last call was opened
pub opened_leaf : (t : TreeView) (m : Mark) (o : OpenLeaf) (d : Desk) (c' : CacheView) (s : Shown) (l : Graph) → t.mark ≡ Some m → OpensAt (8 * t.part) m o d.cache c' → IsHeld t d s l
    → IsStored (record { tree = t; leaf = Some o }) (record d { cache = c'; owner = Some t.part }) s l
opened_leaf t m o d c' s l marked opens held =
    let f = 8 * t.part in
    let tree = held.tree in
    let levels = held.levels in
    let xs = leaves_of levels in
    let x = piece_at m.key xs in
    let page = get_or d.cache.frames o.frame [] in
    let fits : MarkFits (Some m) levels = subst (λ (k : Option Mark). MarkFits k levels) marked tree.mark in
    let level = leaves_level s.page_len tree.ps levels tree.stack in
    let here = leaf_page m.key 0 s.page_len tree.ps xs tree.first level in
    let read : slice_get tree.ps m.page ≡ Some page = tree.shows.held o.frame m.page opens.holds in
    let at : slice_get tree.ps x.page ≡ Some page = ap (slice_get tree.ps) fits.page ∙ read in
    let ts : tuples_of page ≡ x.es = page_tuples s.page_len 3 here.0 x.page tree.ps x.es page here.1 at in
    let mine : here.1.page ≡ page = some_is (sym here.1.at ∙ at) in
    let made : IsMade (writer_of s.page_len x.es) 3 here.0 x.es page = subst (λ (b : List ℕ). IsMade (writer_of s.page_len x.es) 3 here.0 x.es b) mine here.1.made in
    let front : IsFront m.place.index m.place.at page = record {
      index = omega (arith, fits.index, prefix_len-le-length (is_below m.key) x.es, ap length ts);
      at = fits.at ∙ ap (λ (es : List Entry). used_of (take m.place.index es)) (sym ts);
    } in
    let both = opens.leaf s.page_len 3 here.0 x.es made front fits.index in
    let written : Shows (written_frame d.cache o.frame page) s f (set tree.ps m.page page) = write_shows d.cache s o.frame f m.page page opens.whole opens.holds tree.ps tree.shows in
    let same : set tree.ps m.page page ≡ tree.ps = set_same tree.ps m.page page read in
    let shows : Shows (shut o c') s f tree.ps = subst (λ (c : CacheView). Shows c s f tree.ps) (sym both.1) (subst (λ (ps : List (List ℕ)). Shows (written_frame d.cache o.frame page) s f ps) same written) in
    let d' : Desk = record d { cache = shut o c'; owner = Some t.part } in
    record {
      held = record { levels = levels; tree = tree_kept t d d' s s levels tree refl shows; is = held.is };
      fits = (refl, marked ∙ ap (λ (k : Mark). Some k) (sym opens.mark), both.0);
    }

-- what the functions of the tree say
pub in_file : (n f : ℕ) (o : OpenLeaf) (c : CacheView) → f ≡ n → IsLeafIn n o c → IsLeafIn f o c
in_file n f o c file is = subst (λ (k : ℕ). IsLeafIn k o c) (sym file) is

only_in : (n f : ℕ) (o : OpenLeaf) (c : CacheView) → f ≡ n → IsAlone n o c → IsAlone f o c
only_in n f o c file is = subst (λ (k : ℕ). IsAlone k o c) (sym file) is

pub closes : (t : OpenTreeView) (f : ℕ) → f ≡ 8 * t.tree.part → (o : OpenLeaf) (d : Desk) (c' : CacheView) → t.leaf ≡ Some o → (IsLeafIn f o d.cache → IsAlone f o d.cache → c' ≡ shut o d.cache)
    → (s : Shown) (l : Graph) → IsStored t d s l → IsHeld t.tree (record d { cache = c' }) s l
closes t f file o d c' some closed s l is =
    let fits : OpenFits (Some o) t.tree d = subst (λ (x : Option OpenLeaf). OpenFits x t.tree d) some is.fits in
    let held : IsHeld t.tree (shut_in (Some o) d) s l = subst (λ (x : Option OpenLeaf). IsHeld t.tree (shut_in x d) s l) some is.held in
    subst (λ (c : CacheView). IsHeld t.tree (record d { cache = c }) s l) (sym (closed (in_file (8 * t.tree.part) f o d.cache file fits.2) (only_in (8 * t.tree.part) f o d.cache file (alone t.tree o d s held.tree.ps fits.2 held.tree.shows)))) held

pub closes_scan : (t : OpenTreeView) (f : ℕ) → f ≡ 8 * t.tree.part → (o : OpenLeaf) (d : Desk) (c' : CacheView) → t.leaf ≡ Some o → (IsLeafIn f o d.cache → IsAlone f o d.cache → c' ≡ shut o d.cache)
    → (s : Shown) (a b : Graph) → IsStoredScan t d s a b → IsScan t.tree (record d { cache = c' }) s a b
closes_scan t f file o d c' some closed s a b is =
    let fits : OpenFits (Some o) t.tree d = subst (λ (x : Option OpenLeaf). OpenFits x t.tree d) some is.fits in
    let scan : IsScan t.tree (shut_in (Some o) d) s a b = subst (λ (x : Option OpenLeaf). IsScan t.tree (shut_in x d) s a b) some is.scan in
    subst (λ (c : CacheView). IsScan t.tree (record d { cache = c }) s a b) (sym (closed (in_file (8 * t.tree.part) f o d.cache file fits.2) (only_in (8 * t.tree.part) f o d.cache file (alone t.tree o d s scan.tree.ps fits.2 scan.tree.shows)))) scan

pub stored_puts : (t : OpenTreeView) (u : TreeView) (f : ℕ) → t.tree ≡ u → f ≡ 8 * t.tree.part → (o o' : OpenLeaf) (d : Desk) (c' : CacheView) (e : Entry) → t.leaf ≡ Some o → o'.mark ≡ o.mark → o.from ≤ e.key
    → (IsLeafIn f o d.cache → IsAlone f o d.cache → PutsOpen e f o o' d.cache c')
    → (s : Shown) (l : Graph) → IsItem s.page_len e → IsStored t d s l → IsStored (record { tree = u; leaf = Some o' }) (record d { cache = c' }) s (put e.key (vertex_of e.body) l)
stored_puts t u f tree file o o' d c' e some marks le puts s l item is =
    let fits : OpenFits (Some o) t.tree d = subst (λ (x : Option OpenLeaf). OpenFits x t.tree d) some is.fits in
    let held : IsHeld t.tree (shut_in (Some o) d) s l = subst (λ (x : Option OpenLeaf). IsHeld t.tree (shut_in x d) s l) some is.held in
    let put' = subst (λ (k : ℕ). PutsOpen e k o o' d.cache c') file (puts (in_file (8 * t.tree.part) f o d.cache file fits.2) (only_in (8 * t.tree.part) f o d.cache file (alone t.tree o d s held.tree.ps fits.2 held.tree.shows))) in
    let at : o.mark.key ≤ e.key = omega (arith, le, fits.2.1) in
    let now : IsStored (record { tree = t.tree; leaf = Some o' }) (record d { cache = c' }) s (put e.key (vertex_of e.body) l) = record {
      held = held_open t.tree o.mark o o' d c' s l e fits.1 refl fits.2 at item put' held;
      fits = (fits.0, fits.1 ∙ ap (λ (m : Mark). Some m) (sym marks), put'.leaf);
    } in
    subst (λ (v : TreeView). IsStored (record { tree = v; leaf = Some o' }) (record d { cache = c' }) s (put e.key (vertex_of e.body) l)) tree now

pub stored_stays : (t : OpenTreeView) (u : TreeView) (f : ℕ) → t.tree ≡ u → f ≡ 8 * t.tree.part → (o o' : OpenLeaf) (d : Desk) (c' : CacheView) → t.leaf ≡ Some o → o'.mark ≡ o.mark
    → (IsLeafIn f o d.cache → IsAlone f o d.cache → IsLeafIn f o' c')
    → (IsLeafIn f o d.cache → IsAlone f o d.cache → shut o' c' ≡ shut o d.cache)
    → (s : Shown) (l : Graph) → IsStored t d s l → IsStored (record { tree = u; leaf = Some o' }) (record d { cache = c' }) s l
stored_stays t u f tree file o o' d c' some marks leaf same s l is =
    let fits : OpenFits (Some o) t.tree d = subst (λ (x : Option OpenLeaf). OpenFits x t.tree d) some is.fits in
    let held : IsHeld t.tree (shut_in (Some o) d) s l = subst (λ (x : Option OpenLeaf). IsHeld t.tree (shut_in x d) s l) some is.held in
    let mine = in_file (8 * t.tree.part) f o d.cache file fits.2 in
    let only = only_in (8 * t.tree.part) f o d.cache file (alone t.tree o d s held.tree.ps fits.2 held.tree.shows) in
    let now : IsStored (record { tree = t.tree; leaf = Some o' }) (record d { cache = c' }) s l = record {
      held = subst (λ (c : CacheView). IsHeld t.tree (record d { cache = c }) s l) (sym (same mine only)) held;
      fits = (fits.0, fits.1 ∙ ap (λ (m : Mark). Some m) (sym marks), in_file f (8 * t.tree.part) o' c' (sym file) (leaf mine only));
    } in
    subst (λ (v : TreeView). IsStored (record { tree = v; leaf = Some o' }) (record d { cache = c' }) s l) tree now

pub opened : (t u : TreeView) (f : ℕ) → t ≡ u → f ≡ 8 * t.part → (m : Mark) (o : Option OpenLeaf) (d : Desk) (c' : CacheView) → t.mark ≡ Some m → IfSome o (λ o. OpensAt f m o d.cache c') → IfNone o (c' ≡ d.cache)
    → (s : Shown) (l : Graph) → IsHeld t d s l → IsStored (record { tree = u; leaf = o }) (record d { cache = c'; owner = Some u.part }) s l
opened t u f tree file m o d c' marked some none s l held = subst (λ (v : TreeView). IsStored (record { tree = v; leaf = o }) (record d { cache = c'; owner = Some v.part }) s l) tree (go o some none)
  where
    go : (o : Option OpenLeaf) → IfSome o (λ o. OpensAt f m o d.cache c') → IfNone o (c' ≡ d.cache) → IsStored (record { tree = t; leaf = o }) (record d { cache = c'; owner = Some t.part }) s l
    go None some none =
        let shows : Shows c' s (8 * t.part) held.tree.ps = subst (λ (c : CacheView). Shows c s (8 * t.part) held.tree.ps) (sym none) held.tree.shows in
        record {
          held = record { levels = held.levels; tree = tree_kept t d (record d { cache = c'; owner = Some t.part }) s s held.levels held.tree refl shows; is = held.is };
          fits = tt;
        }
    go (Some o) some none = opened_leaf t m o d c' s l marked (subst (λ (k : ℕ). OpensAt k m o d.cache c') file some) held

-- a call that left the leaf open, and gave a vertex out of it or not
pub scan_stays : (t : OpenTreeView) (u : TreeView) (f : ℕ) → t.tree ≡ u → f ≡ 8 * t.tree.part → (o o' : OpenLeaf) (d : Desk) (c' : CacheView) → t.leaf ≡ Some o → o'.mark ≡ o.mark
    → (IsLeafIn f o d.cache → IsAlone f o d.cache → IsLeafIn f o' c')
    → (IsLeafIn f o d.cache → IsAlone f o d.cache → shut o' c' ≡ shut o d.cache)
    → (s : Shown) (a b : Graph) → IsStoredScan t d s a b → IsStoredScan (record { tree = u; leaf = Some o' }) (record d { cache = c' }) s a b
scan_stays t u f tree file o o' d c' some marks leaf same s a b is =
    let fits : OpenFits (Some o) t.tree d = subst (λ (x : Option OpenLeaf). OpenFits x t.tree d) some is.fits in
    let scan : IsScan t.tree (shut_in (Some o) d) s a b = subst (λ (x : Option OpenLeaf). IsScan t.tree (shut_in x d) s a b) some is.scan in
    let mine = in_file (8 * t.tree.part) f o d.cache file fits.2 in
    let only = only_in (8 * t.tree.part) f o d.cache file (alone t.tree o d s scan.tree.ps fits.2 scan.tree.shows) in
    let now : IsStoredScan (record { tree = t.tree; leaf = Some o' }) (record d { cache = c' }) s a b = record {
      scan = subst (λ (c : CacheView). IsScan t.tree (record d { cache = c }) s a b) (sym (same mine only)) scan;
      fits = (fits.0, fits.1 ∙ ap (λ (m : Mark). Some m) (sym marks), in_file f (8 * t.tree.part) o' c' (sym file) (leaf mine only));
    } in
    subst (λ (v : TreeView). IsStoredScan (record { tree = v; leaf = Some o' }) (record d { cache = c' }) s a b) tree now

pub stored_gives : (t : OpenTreeView) (f : ℕ) → f ≡ 8 * t.tree.part → (o : OpenLeaf) (d : Desk) (v : ℕ) (there : Bool) (x : Vertex) → t.leaf ≡ Some o → o.from ≤ v → (IsLeafIn f o d.cache → IsAlone f o d.cache → GivesOpen v there x o d.cache)
    → (s : Shown) (l : Graph) → IsStored t d s l → (there ≡ is_some (lookup v l)) × (x ≡ vertex_or_fresh (lookup v l))
stored_gives t f file o d v there x some le gives s l is =
    let fits : OpenFits (Some o) t.tree d = subst (λ (y : Option OpenLeaf). OpenFits y t.tree d) some is.fits in
    let held : IsHeld t.tree (shut_in (Some o) d) s l = subst (λ (y : Option OpenLeaf). IsHeld t.tree (shut_in y d) s l) some is.held in
    let given = gives (in_file (8 * t.tree.part) f o d.cache file fits.2) (only_in (8 * t.tree.part) f o d.cache file (alone t.tree o d s held.tree.ps fits.2 held.tree.shows)) in
    open_gives t.tree o d s l v there x fits.1 fits.2 (omega (arith, le, fits.2.1)) given held
