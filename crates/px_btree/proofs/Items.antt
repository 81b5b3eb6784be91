-- The vertices that leaves hold.
use Rattle.std.proofs.Common.{◌≡◌, ◌<◌, ◌≤◌, ◌+◌, ◌*◌, ℕ, Bool, true, List, [], ◌∷◌, ◌++◌, length, refl, sym, ◌∙◌, ap, subst, arith, inl, inr}
use Rattle.std.proofs.lemmas.Bool.{cases_lt, cases_eq}
use Rattle.std.proofs.lemmas.List.{append-nil}
use Rattle.std.specs.Prelude.{Option, Some, None, if◌then◌else◌}
use Rattle.std.specs.Option.{option_map}
use Rattle.px_core.specs.Shown.{Shown}
use Rattle.px_pages.specs.Entry.{Entry}
use Rattle.px_pages.specs.Page.{PageReaderView}
use Rattle.px_meaning.specs.Graph.{lookup}
use Rattle.px_record.specs.Body.{vertex_of}
use Rattle.px_cache.proofs.Lists.{some_is}
use Rattle.px_cache.proofs.Shows.{shown_few}
use Rattle.px_store.specs.declared.shared.Desk.{Desk}
use Rattle.px_btree.specs.Search.{found}
use Rattle.px_btree.specs.Tree.{Piece, AreKeys, IsLevel, IsStack, IsItem, AreItems, items, tuples, leaves_of, TreeView, IsTree}
use Rattle.px_btree.specs.Find.{piece_at, page_at, leaf_at, IsAt, FromZero}
pub use Rattle.px_btree.specs.Staying.{leaves_level, tree_kept}
use Rattle.px_btree.proofs.Orders.{not_below, below, not_equal, equal}

-- a look-up among vertices is a search among tuples
pub lookup_found : (v : ℕ) (es : List Entry) → lookup v (items es) ≡ option_map (λ (e : Entry). vertex_of e.body) (found v es)
lookup_found v [] = refl
lookup_found v (e ∷ es) = elim (cases_eq v e.key) [
  | inl same ↦ rw (equal v e.key same) refl
  | inr other ↦ rw (not_equal v e.key other) (lookup_found v es)
]

pub found_item : (v len : ℕ) (es : List Entry) (e : Entry) → AreItems len es → found v es ≡ Some e → IsItem len e
found_item v len [] e all is = absurd (cc is)
found_item v len (d ∷ es) e all is = elim (cases_eq v d.key) [
  | inl same ↦ subst (λ (x : Entry). IsItem len x) (some_is (sym (ap (λ (b : Bool). if b then Some d else found v es) (equal v d.key same)) ∙ is)) all.0
  | inr other ↦ found_item v len es e all.1 (sym (ap (λ (b : Bool). if b then Some d else found v es) (not_equal v d.key other)) ∙ is)
]

-- a search in two lists
found_right : (v : ℕ) (es fs : List Entry) → found v es ≡ None → found v (es ++ fs) ≡ found v fs
found_right v [] fs none = refl
found_right v (e ∷ es) fs none = elim (cases_eq v e.key) [
  | inl same ↦ absurd (cc (sym none ∙ ap (λ (b : Bool). if b then Some e else found v es) (equal v e.key same)))
  | inr other ↦
      let rest : found v es ≡ None = sym (ap (λ (b : Bool). if b then Some e else found v es) (not_equal v e.key other)) ∙ none in
      rw (not_equal v e.key other) (found_right v es fs rest)
]

found_left : (v : ℕ) (es fs : List Entry) → found v fs ≡ None → found v (es ++ fs) ≡ found v es
found_left v [] fs none = none
found_left v (e ∷ es) fs none = elim (cases_eq v e.key) [
  | inl same ↦ rw (equal v e.key same) refl
  | inr other ↦ rw (not_equal v e.key other) (found_left v es fs none)
]

-- a vid below all keys of a page, and one above them
pub none_below : (v low : ℕ) (es : List Entry) (xs : List Piece) → v < low → AreKeys low es xs → found v es ≡ None
none_below v low [] xs lt keys = refl
none_below v low (e ∷ es) xs lt keys = rw (not_equal v e.key (λ same. omega (arith, lt, keys.0, same))) (none_below v (e.key + 1) es xs (omega (arith, lt, keys.0)) keys.2)

pub none_above : (v low : ℕ) (es : List Entry) (y : Piece) (ys : List Piece) → y.low ≤ v → AreKeys low es (y ∷ ys) → found v es ≡ None
none_above v low [] y ys le keys = refl
none_above v low (e ∷ es) y ys le keys = rw (not_equal v e.key (λ same. omega (arith, le, keys.1, same))) (none_above v (e.key + 1) es y ys le keys.2)

pub none_in_level : (v len : ℕ) (leaf : Bool) (ps : List (List ℕ)) (x : Piece) (xs : List Piece) → v < x.low → IsLevel len leaf ps (x ∷ xs) → found v (tuples (x ∷ xs)) ≡ None
none_in_level v len leaf ps x [] lt is = ap (found v) (append-nil x.es) ∙ none_below v x.low x.es [] lt is.1
none_in_level v len leaf ps x (y ∷ ys) lt is =
    found_right v x.es (tuples (y ∷ ys)) (none_below v x.low x.es (y ∷ ys) lt is.1) ∙ none_in_level v len leaf ps y ys (omega (arith, lt, is.2)) is.4

-- a vid stands in the leaf where it lies, or in none
pub level_found : (v len : ℕ) (leaf : Bool) (ps : List (List ℕ)) (xs : List Piece) → IsLevel len leaf ps xs → found v (tuples xs) ≡ found v (piece_at v xs).es
level_found v len leaf ps [] is = refl
level_found v len leaf ps (x ∷ []) is = ap (found v) (append-nil x.es)
level_found v len leaf ps (x ∷ y ∷ ys) is = elim (cases_lt v y.low) [
  | inl lt ↦ found_left v x.es (tuples (y ∷ ys)) (none_in_level v len leaf ps y ys lt is.4) ∙ rw (below v y.low lt) refl
  | inr ge ↦ found_right v x.es (tuples (y ∷ ys)) (none_above v x.low x.es y ys ge is.1) ∙ level_found v len leaf ps (y ∷ ys) is.4 ∙ rw (not_below v y.low ge) refl
]

pub lookup_leaf : (v len : ℕ) (ps : List (List ℕ)) (levels : List (List Piece)) → IsStack len ps levels → lookup v (items (tuples (leaves_of levels))) ≡ lookup v (items (leaf_at v levels).es)
lookup_leaf v len ps levels is =
    lookup_found v (tuples (leaves_of levels)) ∙ ap (option_map (λ (e : Entry). vertex_of e.body)) (level_found v len true ps (leaves_of levels) (leaves_level len ps levels is))
    ∙ sym (lookup_found v (leaf_at v levels).es)

-- the items of one leaf
items_right : (len : ℕ) (es fs : List Entry) → AreItems len (es ++ fs) → AreItems len fs
items_right len [] fs all = all
items_right len (e ∷ es) fs all = items_right len es fs all.1

items_left : (len : ℕ) (es fs : List Entry) → AreItems len (es ++ fs) → AreItems len es
items_left len [] fs all = tt
items_left len (e ∷ es) fs all = (all.0, items_left len es fs all.1)

pub items_at : (v len : ℕ) (xs : List Piece) → AreItems len (tuples xs) → AreItems len (piece_at v xs).es
items_at v len [] all = all
items_at v len (x ∷ []) all = items_left len x.es [] all
items_at v len (x ∷ y ∷ ys) all = elim (cases_lt v y.low) [
  | inl lt ↦ rw (below v y.low lt) (items_left len x.es (tuples (y ∷ ys)) all)
  | inr ge ↦ rw (not_below v y.low ge) (items_at v len (y ∷ ys) (items_right len x.es (tuples (y ∷ ys)) all))
]

-- a tree's root, from which the way down begins
pub tree_at : (t : TreeView) (d : Desk) (s : Shown) (levels : List (List Piece)) (v : ℕ) → length d.cache.notes ≤ 65536 → (is : IsTree t d s levels) → IsAt v s.page_len is.ps levels t.root
tree_at t d s levels v few is =
    let root = is.root in
    record {
      stack = is.stack;
      zero = subst FromZero (sym root.2) refl;
      page = ap (page_at v) root.2;
      few = omega (arith, shown_few d.cache s (8 * t.part) is.ps is.shows, few);
    }

-- a vertex that is there, and one that is not
pub there : (v len : ℕ) (es : List Entry) (e : Entry) → found v es ≡ Some e → lookup v (items es) ≡ Some (vertex_of e.body)
there v len es e is = lookup_found v es ∙ ap (option_map (λ (d : Entry). vertex_of d.body)) is

pub not_there : (v : ℕ) (es : List Entry) → found v es ≡ None → lookup v (items es) ≡ None
not_there v es is = lookup_found v es ∙ ap (option_map (λ (d : Entry). vertex_of d.body)) is

-- a tree whose cursor moved
abbrev pub tree_cursor : (t : TreeView) (d : Desk) (s : Shown) (levels : List (List Piece)) (a n : ℕ) (h : Option PageReaderView) → (is : IsTree t d s levels) → IsTree (record t { at = a; togo = n; here = h }) d s levels
tree_cursor t d s levels a n h is = record {
  ps = is.ps;
  shows = is.shows;
  len = is.len;
  stack = is.stack;
  depth = is.depth;
  pages = is.pages;
  leaves = is.leaves;
  apart = is.apart;
  first = is.first;
  root = is.root;
  items = is.items;
  bushy = is.bushy;
  mark = is.mark;
}
