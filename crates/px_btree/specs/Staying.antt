-- What is known of a tree while others use the desk, and that its vertices are a map: the laws of the trait.
use Rattle.std.specs.Prelude.{◌≡◌, ◌<◌, ◌+◌, ◌*◌, ℕ, true, List, [], ◌∷◌, ◌++◌, Option, Some, None}
use Rattle.std.proofs.Common.{refl, sym, subst}
use Rattle.std.proofs.Math.Nat.{lt_of_lt_of_le, lt_trans}
use Rattle.std.proofs.Math.Numerals.{lt-add-one}
use Rattle.px_core.specs.Shown.{Shown}
use Rattle.px_pages.specs.Entry.{Entry}
use Rattle.px_pages.specs.Page.{IsPageLen}
use Rattle.px_meaning.specs.Graph.{Graph, vids, AllAbove, IsAscending, IsMap}
use Rattle.px_cache.specs.View.{Shows}
use Rattle.px_store.specs.declared.shared.Desk.{Desk}
use Rattle.px_store.specs.Desks.{OwnKept, IsNotOwner}
use Rattle.px_store.proofs.Apart.{own_first}
use Rattle.px_btree.specs.Tree.{Piece, TreeView, IsTree, IsHeld, AreKeys, AreItems, BelowNext, IsLevel, IsStack, items, tuples, leaves_of}
use Rattle.px_btree.specs.Scan.{IsScan, ToCome}
use Rattle.px_btree.specs.Open.{OpenTreeView, IsStored, IsStoredScan, OpenFits, shut_in}
use Rattle.px_btree.specs.declared.open_leaf.OpenLeaf.{OpenLeaf}

pub leaves_level : (len : ℕ) (ps : List (List ℕ)) (levels : List (List Piece)) → IsStack len ps levels → IsLevel len true ps (leaves_of levels)
leaves_level len ps [] is = absurd is
leaves_level len ps (xs ∷ []) is = is
leaves_level len ps (xs ∷ ys ∷ rest) is = leaves_level len ps (ys ∷ rest) is.2

-- a tree whose file is shown as before
abbrev pub tree_kept : (t : TreeView) (d d' : Desk) (s s' : Shown) (levels : List (List Piece)) → (is : IsTree t d s levels) → s'.page_len ≡ s.page_len → Shows d'.cache s' (8 * t.part) is.ps → IsTree t d' s' levels
tree_kept t d d' s s' levels is len shows = record {
  ps = is.ps;
  shows = shows;
  len = subst IsPageLen (sym len) is.len;
  stack = subst (λ (n : ℕ). IsStack n is.ps levels) (sym len) is.stack;
  depth = is.depth;
  pages = is.pages;
  leaves = is.leaves;
  apart = is.apart;
  first = is.first;
  root = is.root;
  items = subst (λ (n : ℕ). AreItems n (tuples (leaves_of levels))) (sym len) is.items;
  bushy = is.bushy;
  mark = is.mark;
}

tree_stays : (t : TreeView) (d d' : Desk) (s s' : Shown) (l : Graph) → OwnKept t.part d s d' s' → s'.page_len ≡ s.page_len → IsNotOwner t.part d.owner → IsNotOwner t.part d'.owner → IsHeld t d s l → IsHeld t d' s' l
tree_stays t d d' s s' l kept len other other' held = record {
  levels = held.levels;
  tree = tree_kept t d d' s s' held.levels held.tree len (kept (8 * t.part) held.tree.ps (own_first t.part) held.tree.shows);
  is = held.is;
}

scan_stays : (t : TreeView) (d d' : Desk) (s s' : Shown) (a b : Graph) → OwnKept t.part d s d' s' → s'.page_len ≡ s.page_len → IsNotOwner t.part d.owner → IsNotOwner t.part d'.owner → IsScan t d s a b → IsScan t d' s' a b
scan_stays t d d' s s' a b kept len other other' scan = record {
  levels = scan.levels;
  tree = tree_kept t d d' s s' scan.levels scan.tree len (kept (8 * t.part) scan.tree.ps (own_first t.part) scan.tree.shows);
  front = scan.front;
  back = scan.back;
  split = scan.split;
  togo = scan.togo;
  whole = scan.whole;
  rest = subst (λ (n : ℕ). ToCome n t.here t.at scan.tree.ps scan.back b) (sym len) scan.rest;
}

scan_holds : (t : TreeView) (d : Desk) (s : Shown) (a b : Graph) → IsScan t d s a b → IsHeld t d s (a ++ b)
scan_holds t d s a b scan = record { levels = scan.levels; tree = scan.tree; is = scan.whole }

-- all keys are above the bound
above_tuples : (b low : ℕ) (es fs : List Entry) (xs : List Piece) → b < low → AreKeys low es xs → AllAbove b (vids (items fs)) → AllAbove b (vids (items (es ++ fs)))
above_tuples b low [] fs xs lt keys all = all
above_tuples b low (e ∷ es) fs xs lt keys all =
    let this : b < e.key = lt_of_lt_of_le lt keys.0 in
    (this, above_tuples b (e.key + 1) es fs xs (lt_trans this (lt-add-one e.key)) keys.2 all)

next_above : (v w : ℕ) (xs : List Piece) → v < w → BelowNext w xs → BelowNext v xs
next_above v w [] lt next = tt
next_above v w (x ∷ xs) lt next = lt_trans lt next

above_level : (b len : ℕ) (ps : List (List ℕ)) (xs : List Piece) → BelowNext b xs → IsLevel len true ps xs → AllAbove b (vids (items (tuples xs)))
above_level b len ps [] lt level = tt
above_level b len ps (x ∷ xs) lt level = above_tuples b x.low x.es (tuples xs) xs lt level.1 (above_level b len ps xs (next_above b x.low xs lt level.2) level.4)

ascending_page : (low len : ℕ) (ps : List (List ℕ)) (es : List Entry) (xs : List Piece) → AreKeys low es xs → IsLevel len true ps xs → IsAscending (vids (items (tuples xs))) → IsAscending (vids (items (es ++ tuples xs)))
ascending_page low len ps [] xs keys level up = up
ascending_page low len ps (e ∷ es) xs keys level up =
    (above_tuples e.key (e.key + 1) es (tuples xs) xs (lt-add-one e.key) keys.2 (above_level e.key len ps xs keys.1 level), ascending_page (e.key + 1) len ps es xs keys.2 level up)

ascending_level : (len : ℕ) (ps : List (List ℕ)) (xs : List Piece) → IsLevel len true ps xs → IsAscending (vids (items (tuples xs)))
ascending_level len ps [] level = tt
ascending_level len ps (x ∷ xs) level = ascending_page x.low len ps x.es xs level.1 level.4 (ascending_level len ps xs level.4)

tree_map : (t : TreeView) (d : Desk) (s : Shown) (l : Graph) → IsHeld t d s l → IsMap l
tree_map t d s l held = subst IsMap (sym held.is) (ascending_level s.page_len held.tree.ps (leaves_of held.levels) (leaves_level s.page_len held.tree.ps held.levels held.tree.stack))

-- a tree whose leaf is open owns the desk
not_open : (t : TreeView) (o : OpenLeaf) (d : Desk) → OpenFits (Some o) t d → IsNotOwner t.part d.owner → ⊥
not_open t o d fits not = subst (IsNotOwner t.part) fits.0 not refl

stored_with : (t : TreeView) (o : Option OpenLeaf) (d d' : Desk) (s s' : Shown) (l : Graph) → OwnKept t.part d s d' s' → s'.page_len ≡ s.page_len → IsNotOwner t.part d.owner → IsNotOwner t.part d'.owner
    → IsHeld t (shut_in o d) s l → OpenFits o t d → IsStored (record { tree = t; leaf = o }) d' s' l
stored_with t None d d' s s' l kept len other other' held fits = record { held = tree_stays t d d' s s' l kept len other other' held; fits = tt }
stored_with t (Some o) d d' s s' l kept len other other' held fits = absurd (not_open t o d fits other)

pub stored_stays : (t : OpenTreeView) (d d' : Desk) (s s' : Shown) (l : Graph) → OwnKept t.tree.part d s d' s' → s'.page_len ≡ s.page_len → IsNotOwner t.tree.part d.owner → IsNotOwner t.tree.part d'.owner
    → IsStored t d s l → IsStored t d' s' l
stored_stays t d d' s s' l kept len other other' is = stored_with t.tree t.leaf d d' s s' l kept len other other' is.held is.fits

place_with : (t : TreeView) (o : Option OpenLeaf) (d d' : Desk) (s s' : Shown) (a b : Graph) → OwnKept t.part d s d' s' → s'.page_len ≡ s.page_len → IsNotOwner t.part d.owner → IsNotOwner t.part d'.owner
    → IsScan t (shut_in o d) s a b → OpenFits o t d → IsStoredScan (record { tree = t; leaf = o }) d' s' a b
place_with t None d d' s s' a b kept len other other' scan fits = record { scan = scan_stays t d d' s s' a b kept len other other' scan; fits = tt }
place_with t (Some o) d d' s s' a b kept len other other' scan fits = absurd (not_open t o d fits other)

pub place_stays : (t : OpenTreeView) (d d' : Desk) (s s' : Shown) (a b : Graph) → OwnKept t.tree.part d s d' s' → s'.page_len ≡ s.page_len → IsNotOwner t.tree.part d.owner → IsNotOwner t.tree.part d'.owner
    → IsStoredScan t d s a b → IsStoredScan t d' s' a b
place_stays t d d' s s' a b kept len other other' is = place_with t.tree t.leaf d d' s s' a b kept len other other' is.scan is.fits

pub place_holds : (t : OpenTreeView) (d : Desk) (s : Shown) (a b : Graph) → IsStoredScan t d s a b → IsStored t d s (a ++ b)
place_holds t d s a b is = record { held = scan_holds t.tree (shut_in t.leaf d) s a b is.scan; fits = is.fits }

pub stored_map : (t : OpenTreeView) (d : Desk) (s : Shown) (l : Graph) → IsStored t d s l → IsMap l
stored_map t d s l is = tree_map t.tree (shut_in t.leaf d) s l is.held
