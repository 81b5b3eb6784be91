-- A tree as its levels of pages.
use Rattle.std.specs.Prelude.{◌≡◌, ◌<◌, ◌≤◌, ◌+◌, ◌*◌, ℕ, Bool, true, false, IsTrue, if◌then◌else◌, List, [], ◌∷◌, ◌++◌, map, length, take, nat_lt, slice_get, Option, Some, None}
use Rattle.std.specs.List.{prefix_len}
use Rattle.px_core.specs.Shown.{Shown}
use Rattle.px_pages.specs.Entry.{Entry}
use Rattle.px_pages.specs.Page.{PageReaderView, IsMade, IsPageLen, used_of, writer_of}
use Rattle.px_pages.specs.Place.{is_below}
use Rattle.px_meaning.specs.Graph.{Vertex, Graph, room_of}
use Rattle.px_record.specs.Body.{is_vertex_body, vertex_of}
use Rattle.px_cache.specs.View.{Shows}
use Rattle.px_store.specs.declared.shared.Desk.{Desk}
use Rattle.px_btree.specs.Search.{child}
use Rattle.px_btree.specs.declared.tree.Mark.{Mark}

-- a page of a level: the least key that may stand in it, its number, and its tuples
pub record Piece : Type 0 where
  pub low : ℕ
  pub page : ℕ
  pub es : List Entry

-- the page at this place is the one of this kind and link that holds the tuples
pub record HoldsPage (len page_kind page_link : ℕ) (ps : List (List ℕ)) (p : ℕ) (es : List Entry) : Type 0 where
  pub page : List ℕ
  pub at : slice_get ps p ≡ Some page
  pub made : IsMade (writer_of len es) page_kind page_link es page

-- the kinds of the pages: 3 is a leaf, 4 an inner page
abbrev pub kind_if : Bool → ℕ
kind_if leaf = if leaf then 3 else 4

-- the link to the next page of a level
abbrev pub link_to : List Piece → ℕ
link_to [] = 0
link_to (x ∷ xs) = x.page + 1

-- a key is below the least key of the next page
abbrev pub BelowNext : ℕ → List Piece → Type 0
BelowNext k [] = Unit {0}
BelowNext k (x ∷ xs) = k < x.low

-- the keys of a page ascend, from its least key on, and are below the next page's
abbrev pub AreKeys : ℕ → List Entry → List Piece → Type 0
AreKeys low [] xs = Unit {0}
AreKeys low (e ∷ es) xs = (low ≤ e.key) × BelowNext e.key xs × AreKeys (e.key + 1) es xs

-- an inner page begins with its least key
abbrev pub Begins : Bool → ℕ → List Entry → Type 0
Begins true low es = Unit {0}
Begins false low [] = ⊥
Begins false low (e ∷ es) = e.key ≡ low

-- the pages of one level, from left to right
abbrev pub IsLevel : ℕ → Bool → List (List ℕ) → List Piece → Type 0
IsLevel len leaf ps [] = Unit {0}
IsLevel len leaf ps (x ∷ xs) =
    HoldsPage len (kind_if leaf) (link_to xs) ps x.page x.es × AreKeys x.low x.es xs × BelowNext x.low xs × Begins leaf x.low x.es × IsLevel len leaf ps xs

-- the tuples of a level, from left to right
abbrev pub tuples : List Piece → List Entry
tuples [] = []
tuples (x ∷ xs) = x.es ++ tuples xs

-- the tuples that lead to the pages of a level
abbrev pub index : List Piece → List Entry
index xs = map (λ (x : Piece). child x.low x.page) xs

-- the levels from the topmost one down to the leaves: the tuples of one lead to the pages of the next
abbrev pub IsStack : ℕ → List (List ℕ) → List (List Piece) → Type 0
IsStack len ps [] = ⊥
IsStack len ps (xs ∷ []) = IsLevel len true ps xs
IsStack len ps (xs ∷ ys ∷ rest) = IsLevel len false ps xs × (tuples xs ≡ index ys) × IsStack len ps (ys ∷ rest)

-- every page has at least two tuples
abbrev pub HaveTwo : List Piece → Type 0
HaveTwo [] = Unit {0}
HaveTwo (x ∷ xs) = (2 ≤ length x.es) × HaveTwo xs

-- so has every page of the inner levels
abbrev pub AreBushy : List (List Piece) → Type 0
AreBushy [] = Unit {0}
AreBushy (xs ∷ []) = Unit {0}
AreBushy (xs ∷ ys ∷ rest) = HaveTwo xs × AreBushy (ys ∷ rest)

-- the numbers of all pages
abbrev pub numbers : List (List Piece) → List ℕ
numbers [] = []
numbers (xs ∷ rest) = map (λ (x : Piece). x.page) xs ++ numbers rest

-- no number stands in it
abbrev pub Lacks : ℕ → List ℕ → Type 0
Lacks n [] = Unit {0}
Lacks n (m ∷ ms) = (n ≡ m → ⊥) × Lacks n ms

-- no number stands there twice
abbrev pub AreApart : List ℕ → Type 0
AreApart [] = Unit {0}
AreApart (n ∷ ns) = Lacks n ns × AreApart ns

-- the lowest level
abbrev pub leaves_of : List (List Piece) → List Piece
leaves_of [] = []
leaves_of (xs ∷ []) = xs
leaves_of (xs ∷ ys ∷ rest) = leaves_of (ys ∷ rest)

abbrev pub no_piece : Piece
no_piece = record { low = 0; page = 0; es = [] }

abbrev pub pick : Bool → Piece → Piece → Piece
pick b x y = if b then x else y

-- the page of a level in which a vid lies: the last one whose least key is not above it
abbrev pub piece_at : ℕ → List Piece → Piece
piece_at v [] = no_piece
piece_at v (x ∷ []) = x
piece_at v (x ∷ y ∷ ys) = pick (nat_lt v y.low) x (piece_at v (y ∷ ys))

-- the place of a key in this leaf: behind the tuples below the key
pub record IsMark (m : Mark) (x : Piece) : Type 0 where
  pub page : x.page ≡ m.page
  pub index : m.place.index ≡ prefix_len (is_below m.key) x.es
  pub at : m.place.at ≡ used_of (take m.place.index x.es)

-- the place of the last call, where there is one, is that of its key in the leaf in which the key lies
abbrev pub MarkFits : Option Mark → List (List Piece) → Type 0
MarkFits None levels = Unit {0}
MarkFits (Some m) levels = IsMark m (piece_at m.key (leaves_of levels))

-- the first page of a level has this number, and the least key 0
abbrev pub FirstIs : ℕ → List Piece → Type 0
FirstIs n [] = ⊥
FirstIs n (x ∷ xs) = (x.page ≡ n) × (x.low ≡ 0)

-- a tuple of a leaf: a vertex within room
pub record IsItem (len : ℕ) (e : Entry) : Type 0 where
  pub tag : e.tag ≡ 1
  pub body : IsTrue (is_vertex_body e.body)
  pub room : 13 + length e.body ≤ room_of len

abbrev pub AreItems : ℕ → List Entry → Type 0
AreItems len [] = Unit {0}
AreItems len (e ∷ es) = IsItem len e × AreItems len es

abbrev pub item : Entry → ℕ × Vertex
item e = (e.key, vertex_of e.body)

abbrev pub items : List Entry → Graph
items es = map item es

-- a tree as its callers see it: its partition, the page of its root, its levels, the pages of its file, its leaves,
-- of its cursor the page, how many leaves it may still read with this one, and the reader in that page, and the place of the last call
pub record TreeView : Type 0 where
  pub part : ℕ
  pub root : ℕ
  pub depth : ℕ
  pub pages : ℕ
  pub leaves : ℕ
  pub at : ℕ
  pub togo : ℕ
  pub here : Option PageReaderView
  pub mark : Option Mark

-- the numbers of a tree of this partition with one empty leaf
abbrev pub started_in : ℕ → TreeView
started_in part = record { part = part; root = 0; depth = 1; pages = 1; leaves = 1; at = 0; togo = 0; here = None; mark = None }

-- THE INVARIANT. The file is shown with these pages, and they are a tree with these levels: each page of a level is what a writer made
-- of its tuples, linked to the next; the topmost level is the root alone, whose least key is 0; no page stands in two places, an inner page has two tuples at least,
-- and the place of the last call is one of the tree.
pub record IsTree (t : TreeView) (d : Desk) (s : Shown) (levels : List (List Piece)) : Type 0 where
  pub ps : List (List ℕ)
  pub shows : Shows d.cache s (8 * t.part) ps
  pub len : IsPageLen s.page_len
  pub stack : IsStack s.page_len ps levels
  pub depth : length levels ≡ t.depth
  pub pages : length ps ≡ t.pages
  pub leaves : length (leaves_of levels) ≡ t.leaves
  pub apart : AreApart (numbers levels)
  pub first : FirstIs 0 (leaves_of levels)
  pub root : (es : List Entry) × (rest : List (List Piece)) × (levels ≡ (record { low = 0; page = t.root; es = es } ∷ []) ∷ rest)
  pub items : AreItems s.page_len (tuples (leaves_of levels))
  pub bushy : AreBushy levels
  pub mark : MarkFits t.mark levels

-- it holds these vertices
pub record IsHeld (t : TreeView) (d : Desk) (s : Shown) (l : Graph) : Type 0 where
  pub levels : List (List Piece)
  pub tree : IsTree t d s levels
  pub is : l ≡ items (tuples (leaves_of levels))
