-- What a put does to the levels from a page's down to the leaves.
use Rattle.std.specs.Prelude.{◌≡◌, ◌⊎◌, ◌<◌, ◌≤◌, ◌+◌, ◌*◌, ℕ, nat_lt, List, [], ◌∷◌, ◌++◌, length, slice_get, Option, Some, None}
use Rattle.px_core.specs.Shown.{Shown}
use Rattle.px_meaning.specs.Graph.{Graph}
use Rattle.px_pages.specs.Entry.{Entry}
use Rattle.px_pages.specs.Page.{IsPageLen, IsMade, writer_of}
use Rattle.px_pages.specs.declared.inner.Child.{Child}
use Rattle.px_cache.specs.View.{CacheView, Shows}
use Rattle.px_store.specs.declared.shared.Desk.{Desk}
use Rattle.px_btree.specs.Search.{child}
use Rattle.px_btree.specs.Tree.{Piece, TreeView, IsStack, IsItem, AreItems, Lacks, AreApart, AreBushy, FirstIs, numbers, items, tuples, leaves_of}
use Rattle.px_btree.specs.Find.{IsAt, piece_at}
use Rattle.px_btree.specs.Put.{placed, changed}
use Rattle.px_btree.specs.Split.{cut, KeysHold}

-- all pages but those of these numbers stand where they stood
abbrev pub KeepsBut : List ℕ → List (List ℕ) → List (List ℕ) → Type 0
KeepsBut ns ps qs = (q : ℕ) (b : List ℕ) → Lacks q ns → slice_get ps q ≡ Some b → slice_get qs q ≡ Some b

-- the topmost level
abbrev pub top_of : List (List Piece) → List Piece
top_of [] = []
top_of (xs ∷ rest) = xs

-- two vids are on the same side of every least key
abbrev pub Alike : ℕ → ℕ → List Piece → Type 0
Alike v k [] = Unit {0}
Alike v k (x ∷ xs) = (nat_lt v x.low ≡ nat_lt k x.low) × Alike v k xs

-- a level with other tuples in one page
pub record TopChanged (xs ys : List Piece) : Type 0 where
  pub at : ℕ
  pub f : List Entry → List Entry
  pub is : ys ≡ changed at f xs

-- a level whose page in which the vid lies was cut, with this new page
pub record TopCut (o : Child) (v : ℕ) (xs ys : List Piece) : Type 0 where
  pub at : ℕ
  pub alike : Alike v at xs
  pub left : List Entry
  pub r : Entry
  pub right : List Entry
  pub is : ys ≡ cut at o.page left r right xs
  pub key : o.key ≡ r.key
  pub keys : KeysHold at (piece_at at xs) left r right
  pub above : (piece_at at xs).low < r.key

abbrev pub TopPut : Option Child → ℕ → List Piece → List Piece → Type 0
TopPut None v xs ys = TopChanged xs ys
TopPut (Some o) v xs ys = TopCut o v xs ys

-- no page and no leaf more, or one leaf more and some pages; with a new page at the top always the latter
abbrev pub Grows : Option Child → ℕ → ℕ → ℕ → ℕ → Type 0
Grows None pages more leaves now = ((more ≡ pages) × (now ≡ leaves)) ⊎ ((pages < more) × (now ≡ leaves + 1))
Grows (Some o) pages more leaves now = (pages < more) × (now ≡ leaves + 1)

-- the levels after a put of a tuple: they are a stack again, with the tuple in its leaves, and the topmost one may have one page more
pub record PutStack (e : Entry) (file len : ℕ) (o : Option Child) (end : ℕ) (ps : List (List ℕ)) (levels : List (List Piece)) (c : CacheView) (s : Shown) : Type 0 where
  pub qs : List (List ℕ)
  pub next : List (List Piece)
  pub shows : Shows c s file qs
  pub end_is : end ≡ length qs
  pub stack : IsStack len qs next
  pub top : TopPut o e.key (top_of levels) (top_of next)
  pub leaves : tuples (leaves_of next) ≡ placed e (tuples (leaves_of levels))
  pub depth : length next ≡ length levels
  pub apart : AreApart (numbers next)
  pub fresh : (q : ℕ) → q < length ps → Lacks q (numbers levels) → Lacks q (numbers next)
  pub kept : KeepsBut (numbers levels) ps qs
  pub grow : Grows o (length ps) (length qs) (length (leaves_of levels)) (length (leaves_of next))
  pub first : FirstIs 0 (leaves_of levels) → FirstIs 0 (leaves_of next)
  pub bushy : AreBushy levels → AreBushy next

-- so wherever levels are shown of which this page is the one in which the vid lies
abbrev pub PutsBelow : Entry → ℕ → ℕ → ℕ → Option Child → ℕ → ℕ → CacheView → Shown → CacheView → Shown → Type 0
PutsBelow e level page file o end end' c s c' s' =
    (ps : List (List ℕ)) (levels : List (List Piece)) → end ≡ length ps → length c.notes ≤ 65536 → Shows c s file ps → IsAt e.key s.page_len ps levels page → length levels ≡ level + 1 → AreApart (numbers levels) → IsItem s.page_len e
    → PutStack e file s.page_len o end' ps levels c' s'

-- the file is shown with one page more, a root over two pages
pub record WithRoot (len file left : ℕ) (right : Child) (ps : List (List ℕ)) (c : CacheView) (s : Shown) : Type 0 where
  pub page : List ℕ
  pub made : IsMade (writer_of len (child 0 left ∷ child right.key right.page ∷ [])) 4 0 (child 0 left ∷ child right.key right.page ∷ []) page
  pub shows : Shows c s file (ps ++ page ∷ [])

-- it holds these vertices, but its topmost level has two pages, and wants a root over them
pub record Owes (t : TreeView) (right : Child) (d : Desk) (s : Shown) (l : Graph) : Type 0 where
  pub ps : List (List ℕ)
  pub levels : List (List Piece)
  pub shows : Shows d.cache s (8 * t.part) ps
  pub len : IsPageLen s.page_len
  pub stack : IsStack s.page_len ps levels
  pub depth : length levels ≡ t.depth
  pub pages : length ps ≡ t.pages
  pub leaves : length (leaves_of levels) ≡ t.leaves
  pub apart : AreApart (numbers levels)
  pub first : FirstIs 0 (leaves_of levels)
  pub top : (a b : List Entry) × (rest : List (List Piece)) × (levels ≡ (record { low = 0; page = t.root; es = a } ∷ record { low = right.key; page = right.page; es = b } ∷ []) ∷ rest)
  pub above : 0 < right.key
  pub all : AreItems s.page_len (tuples (leaves_of levels))
  pub bushy : AreBushy levels
  pub mark : t.mark ≡ None
  pub is : l ≡ items (tuples (leaves_of levels))
