-- A tree is filled from left to right, and then its inner levels are made from the leaves up.
use Rattle.std.specs.Prelude.{◌≡◌, ◌<◌, ◌≤◌, ◌+◌, ◌-◌, ◌*◌, ◌==◌, ℕ, true, false, zero, suc, if◌then◌else◌, List, [], ◌∷◌, ◌++◌, map, length, drop, slice_index_or}
use Rattle.px_core.specs.Shown.{Shown}
use Rattle.px_meaning.specs.Graph.{Graph}
use Rattle.px_pages.specs.Entry.{Entry}
use Rattle.px_pages.specs.Page.{IsMade, IsPageLen, tuples_of, used_of, writer_of}
use Rattle.px_cache.specs.View.{CacheView, Shows, Holds}
use Rattle.px_btree.specs.Search.{child}
use Rattle.px_btree.specs.Tree.{Piece, TreeView, HoldsPage, AreKeys, Begins, IsLevel, IsStack, AreItems, FirstIs, AreApart, HaveTwo, AreBushy, numbers, items, tuples, leaves_of}
use Rattle.px_btree.specs.Put.{with_tuples}

-- where there is room, the tuple comes behind those of the page that a writer made
abbrev pub Appends : Entry → List ℕ → List ℕ → Type 0
Appends e old new =
    (len kind link : ℕ) (es : List Entry) → IsMade (writer_of len es) kind link es old → used_of (es ++ e ∷ []) ≤ len
    → IsMade (writer_of len (es ++ e ∷ [])) kind link (es ++ e ∷ []) new

abbrev pub IsEmptyPage : ℕ → ℕ → ℕ → List ℕ → Type 0
IsEmptyPage len kind link page = IsMade (writer_of len []) kind link [] page

-- the file is shown with these pages, and one behind them that a writer made of these tuples
pub record WithTuples (len page_kind page_link file : ℕ) (es : List Entry) (ps : List (List ℕ)) (c : CacheView) (s : Shown) : Type 0 where
  pub page : List ℕ
  pub made : IsMade (writer_of len es) page_kind page_link es page
  pub shows : Shows c s file (ps ++ page ∷ [])

abbrev pub first_key_of : List Entry → ℕ
first_key_of [] = 0
first_key_of (e ∷ es) = e.key

-- a frame holds the page, and it is that of the last load
abbrev pub IsIn : CacheView → ℕ → ℕ → Type 0
IsIn c file p = (i : ℕ) × Holds c.notes i file p

abbrev pub IsLast : CacheView → ℕ → ℕ → Type 0
IsLast c file p = (i : ℕ) × (c.hand ≡ i + 1) × Holds c.notes i file p

-- the numbers ascend one by one, from this one on
abbrev pub Counts : ℕ → List ℕ → Type 0
Counts n [] = Unit {0}
Counts n (m ∷ ms) = (m ≡ n) × Counts (n + 1) ms

abbrev pub pages_of : List Piece → List ℕ
pages_of xs = map (λ (x : Piece). x.page) xs

-- each page begins with its least key
abbrev pub AllBegin : List Piece → Type 0
AllBegin [] = Unit {0}
AllBegin (x ∷ xs) = Begins false x.low x.es × AllBegin xs

-- leaves with these vertices, which are the pages of the file in their order. The pages that may be read
-- for them are two for each leaf but the last, and one for each vertex of that.
pub record AreLeaves (t : TreeView) (c : CacheView) (s : Shown) (l : Graph) (front : List Piece) (last : Piece) : Type 0 where
  pub ps : List (List ℕ)
  pub shows : Shows c s (8 * t.part) ps
  pub len : IsPageLen s.page_len
  pub level : IsLevel s.page_len true ps (front ++ last ∷ [])
  pub pages : length ps ≡ t.leaves
  pub number : length front + 1 ≡ t.leaves
  pub counts : Counts 0 (pages_of (front ++ last ∷ []))
  pub first : FirstIs 0 (front ++ last ∷ [])
  pub is : l ≡ items (tuples (front ++ last ∷ []))
  pub items : AreItems s.page_len (tuples (front ++ last ∷ []))
  pub saved : 2 * length front + length last.es ≤ t.togo

-- it was started, and took these vertices in bulk
pub record IsFilling (t : TreeView) (c : CacheView) (s : Shown) (l : Graph) : Type 0 where
  pub front : List Piece
  pub last : Piece
  pub leaves : AreLeaves t c s l front last
  pub begins : AllBegin (drop 1 (front ++ last ∷ []))

abbrev pub with_last : Entry → Piece → Piece
with_last e x = with_tuples (λ (es : List Entry). es ++ e ∷ []) x

-- the frame holds the last leaf, in which the tuple may come behind all
pub record IsOpen (t : TreeView) (c : CacheView) (s : Shown) (l : Graph) (e : Entry) (i : ℕ) : Type 0 where
  pub front : List Piece
  pub last : Piece
  pub leaves : AreLeaves t c s l front last
  pub begins : AllBegin (drop 1 (front ++ with_last e last ∷ []))
  pub holds : Holds c.notes i (8 * t.part) last.page
  pub keys : AreKeys last.low (last.es ++ e ∷ []) []
  pub fits : used_of (last.es ++ e ∷ []) ≤ s.page_len

-- the least key of a page, as it is read: 0 of the first page of its level, and of another the key of its first tuple
abbrev pub low_in : ℕ → List (List ℕ) → ℕ → ℕ
low_in first ps n = if n == first then 0 else first_key_of (tuples_of (slice_index_or ps n []))

-- the tuples that lead to so many pages, from this one on
abbrev pub leads : ℕ → List (List ℕ) → ℕ → ℕ → List Entry
leads first ps n zero = []
leads first ps n (suc k) = child (low_in first ps n) n ∷ leads first ps (n + 1) k

-- the link of the last of some pages: none, if they lead to all
abbrev pub link_at : ℕ → ℕ → ℕ → ℕ
link_at from end page = if from == end then 0 else page + 1

-- inner pages, each linked to the next, and the last one so
abbrev pub AreInner : ℕ → ℕ → List (List ℕ) → List Piece → Type 0
AreInner len last_link ps [] = Unit {0}
AreInner len last_link ps (x ∷ []) = HoldsPage len 4 last_link ps x.page x.es
AreInner len last_link ps (x ∷ y ∷ ys) = HoldsPage len 4 (y.page + 1) ps x.page x.es × AreInner len last_link ps (y ∷ ys)

-- behind the pages `ps` the file has inner pages from number `end` to `page`, which lead to those from number `first` to `from`
pub record Indexes (len file first from end page : ℕ) (ps : List (List ℕ)) (c : CacheView) (s : Shown) : Type 0 where
  pub more : List (List ℕ)
  pub row : List Piece
  pub shows : Shows c s file (ps ++ more)
  pub pages : length (ps ++ more) ≡ page
  pub inner : AreInner len (link_at from end page) (ps ++ more) row
  pub counts : Counts end (pages_of row)
  pub number : end + length row ≡ page
  pub begins : AllBegin row
  pub two : HaveTwo row
  pub whole : tuples row ≡ leads first ps first (from - first)

-- all numbers are below this one
abbrev pub AllUnder : ℕ → List ℕ → Type 0
AllUnder n [] = Unit {0}
AllUnder n (m ∷ ms) = (m < n) × AllUnder n ms

-- the levels over the leaves so far: the topmost has the pages from number `first` to `end`
pub record IsBuilt (file len first end depth : ℕ) (l : Graph) (number : ℕ) (c : CacheView) (s : Shown) : Type 0 where
  pub ps : List (List ℕ)
  pub top : List Piece
  pub rest : List (List Piece)
  pub shows : Shows c s file ps
  pub pages : length ps ≡ end
  pub stack : IsStack len ps (top ∷ rest)
  pub counts : Counts first (pages_of top)
  pub width : first + length top ≡ end
  pub begins : AllBegin (drop 1 top)
  pub low : FirstIs first top
  pub under : AllUnder first (numbers rest)
  pub apart : AreApart (numbers rest)
  pub bushy : AreBushy (top ∷ rest)
  pub height : length (top ∷ rest) ≡ depth
  pub first_leaf : FirstIs 0 (leaves_of (top ∷ rest))
  pub number_leaves : length (leaves_of (top ∷ rest)) ≡ number
  pub is : l ≡ items (tuples (leaves_of (top ∷ rest)))
  pub items : AreItems len (tuples (leaves_of (top ∷ rest)))
