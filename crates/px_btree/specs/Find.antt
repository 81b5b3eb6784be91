-- Where a vid lies in a tree.
use Rattle.std.specs.Prelude.{◌≡◌, ◌<◌, ◌*◌, ◌^◌, drop, ℕ, List, [], ◌∷◌, length, slice_get, slice_index_or, Some}
use Rattle.px_core.specs.Shown.{Shown}
use Rattle.px_pages.specs.Page.{tuples_of}
use Rattle.px_cache.specs.View.{CacheView, Shows, Holds}
use Rattle.px_btree.specs.Search.{IsPlaceOf}
use Rattle.px_btree.specs.Tree.{Piece, IsStack, FirstIs, MarkFits, TreeView, leaves_of}
use Rattle.px_btree.specs.declared.tree.Mark.{Mark}
use Rattle.px_btree.specs.declared.locate.Spot.{Spot}
pub use Rattle.px_btree.specs.Tree.{no_piece, pick, piece_at}

-- its number, in the topmost level
abbrev pub page_at : ℕ → List (List Piece) → ℕ
page_at v [] = 0
page_at v (xs ∷ rest) = (piece_at v xs).page

abbrev pub leaf_at : ℕ → List (List Piece) → Piece
leaf_at v levels = piece_at v (leaves_of levels)

-- the topmost level begins with the least key 0
abbrev pub FromZero : List (List Piece) → Type 0
FromZero [] = ⊥
FromZero ([] ∷ rest) = ⊥
FromZero ((x ∷ xs) ∷ rest) = x.low ≡ 0

-- these pages are a tree, and the one at this place of the file is where the vid lies in the topmost level
pub record IsAt (v len : ℕ) (ps : List (List ℕ)) (levels : List (List Piece)) (p : ℕ) : Type 0 where
  pub stack : IsStack len ps levels
  pub zero : FromZero levels
  pub page : page_at v levels ≡ p
  pub few : length ps < 2 ^ 64

-- the way down came to this page, so many levels below the root
pub record CameTo (v k file len : ℕ) (levels : List (List Piece)) (page : ℕ) (c : CacheView) (s : Shown) (ps : List (List ℕ)) : Type 0 where
  pub shows : Shows c s file ps
  pub at : IsAt v len ps (drop k levels) page
  pub same : leaves_of (drop k levels) ≡ leaves_of levels

-- frame i holds the leaf in which a vid lies, and the file is shown as before
pub record Reaches (v file : ℕ) (levels : List (List Piece)) (i : ℕ) (c : CacheView) (s : Shown) (ps : List (List ℕ)) : Type 0 where
  pub shows : Shows c s file ps
  pub holds : Holds c.notes i file (leaf_at v levels).page
  pub bytes : slice_get ps (leaf_at v levels).page ≡ Some (slice_index_or c.frames i [])
  pub tuples : tuples_of (slice_index_or c.frames i []) ≡ (leaf_at v levels).es

-- the spot is that of a vid: the frame and the number of its leaf, and its place among the leaf's tuples
pub record IsSpot (v file : ℕ) (levels : List (List Piece)) (spot : Spot) (c : CacheView) (s : Shown) (ps : List (List ℕ)) : Type 0 where
  pub reaches : Reaches v file levels spot.frame c s ps
  pub page : (leaf_at v levels).page ≡ spot.page
  pub place : IsPlaceOf v spot.place (slice_index_or c.frames spot.frame [])

-- the place of a call that found this spot of its vid
abbrev pub mark_at : ℕ → Spot → Mark
mark_at v spot = record { page = spot.page; key = v; place = spot.place }

-- wherever a tree with this root and so many levels is shown, the spot of the vid is found
abbrev pub Goes : ℕ → ℕ → CacheView → Shown → ℕ → ℕ → Spot → CacheView → Shown → Type 0
Goes root depth c s v file spot c' s' =
    (ps : List (List ℕ)) (levels : List (List Piece)) → Shows c s file ps → IsAt v s.page_len ps levels root → length levels ≡ depth → IsSpot v file levels spot c' s' ps

-- so it is where the place of the last call fits the tree
abbrev pub Finds : TreeView → CacheView → Shown → ℕ → Spot → CacheView → Shown → Type 0
Finds t c s v spot c' s' =
    (ps : List (List ℕ)) (levels : List (List Piece)) → Shows c s (8 * t.part) ps → IsAt v s.page_len ps levels t.root → length levels ≡ t.depth → FirstIs 0 (leaves_of levels) → MarkFits t.mark levels
    → IsSpot v (8 * t.part) levels spot c' s' ps
