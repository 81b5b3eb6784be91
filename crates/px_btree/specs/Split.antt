-- A page without room for a tuple is cut in two, and the second part goes into a new page.
use Rattle.std.specs.Prelude.{◌≡◌, ◌<◌, ◌≤◌, ◌+◌, ℕ, Bool, if◌then◌else◌, nat_lt, List, [], ◌∷◌, ◌++◌, length, take, drop, slice_get, slice_set, Option, Some, None}
use Rattle.px_core.specs.Shown.{Shown}
use Rattle.px_pages.specs.Entry.{Entry, size_of}
use Rattle.px_meaning.specs.Graph.{room_of}
use Rattle.px_pages.specs.Page.{IsMade, tuples_of, used_of, entry_of, writer_of}
use Rattle.px_pages.specs.Place.{IsPlace, Turned}
use Rattle.px_pages.specs.Children.{AreChildren}
use Rattle.px_pages.specs.declared.inner.Child.{Child}
use Rattle.px_cache.specs.View.{CacheView, Shows}
use Rattle.px_btree.specs.Tree.{Piece, AreKeys, BelowNext}
use Rattle.px_btree.specs.Put.{placed, IsFullFor}
use Rattle.px_btree.specs.declared.split.Across.{Across}

-- the tuple lies across this byte of the page, between these two places
pub record IsAcross (a : Across) (limit : ℕ) (page : List ℕ) : Type 0 where
  pub before : IsPlace a.before page
  pub after : IsPlace a.after page
  pub next : a.after.index ≡ a.before.index + 1
  pub tuple : slice_get (tuples_of page) a.before.index ≡ Some (entry_of a.tuple page)
  pub low : a.before.at ≤ limit
  pub high : limit < a.after.at

-- the two parts of a page that is cut at this place, with a tuple more in the first or the second
abbrev pub left_part : Entry → ℕ → Bool → List Entry → List Entry
left_part e c first es = if first then placed e (take c es) else take c es

abbrev pub right_part : Entry → ℕ → Bool → List Entry → List Entry
right_part e c first es = if first then drop c es else placed e (drop c es)

-- the parts together are the tuples with the new one among them, both fit a page, the second begins above the least key, and of children each has two
pub record Halves (e : Entry) (len low c : ℕ) (first : Bool) (es : List Entry) : Type 0 where
  pub r : Entry
  pub right : List Entry
  pub right_is : right_part e c first es ≡ r ∷ right
  pub whole : placed e es ≡ left_part e c first es ++ r ∷ right
  pub above : low < r.key
  pub left_fits : used_of (left_part e c first es) ≤ len
  pub right_fits : used_of (right_part e c first es) ≤ len
  pub two : AreChildren es → length e.body ≡ 8 → (2 ≤ length (left_part e c first es)) × (2 ≤ length (right_part e c first es))

-- a tuple of this key has no room in a page that a writer made
pub record IsCrowded (e : Entry) (len kind link low : ℕ) (es : List Entry) (xs : List Piece) (page : List ℕ) : Type 0 where
  pub made : IsMade (writer_of len es) kind link es page
  pub keys : AreKeys low es xs
  pub least : low ≤ e.key
  pub room : size_of e ≤ room_of len
  pub full : len < used_of (placed e es)

-- the place cuts the page well for any tuple of this key
abbrev pub CutsFor : ℕ → ℕ → Bool → List ℕ → Type 0
CutsFor v c first page =
    (e : Entry) (len kind link low : ℕ) (es : List Entry) (xs : List Piece) → e.key ≡ v → IsCrowded e len kind link low es xs page → Halves e len low c first es

-- where its first part fits, the page is now that, with this link
abbrev pub IsFirst : Entry → ℕ → Bool → ℕ → List ℕ → List ℕ → Type 0
IsFirst e c first new_link old new =
    (len kind link : ℕ) (es : List Entry) → IsMade (writer_of len es) kind link es old → used_of (left_part e c first es) ≤ len
    → IsMade (writer_of len (left_part e c first es)) kind new_link (left_part e c first es) new

-- where its second part fits, the page is now that
abbrev pub IsSecond : Entry → ℕ → Bool → List ℕ → List ℕ → Type 0
IsSecond e c first old new =
    (len kind link : ℕ) (es : List Entry) → IsMade (writer_of len es) kind link es old → used_of (right_part e c first es) ≤ len
    → IsMade (writer_of len (right_part e c first es)) kind link (right_part e c first es) new

-- a page was cut: the first part links to page n, the second, which begins with key k, to where the page did
pub record Parts (e : Entry) (len kind link low n k : ℕ) (es : List Entry) (first second : List ℕ) : Type 0 where
  pub left : List Entry
  pub r : Entry
  pub right : List Entry
  pub whole : placed e es ≡ left ++ r ∷ right
  pub above : low < r.key
  pub key : k ≡ r.key
  pub first_is : IsMade (writer_of len left) kind (n + 1) left first
  pub second_is : IsMade (writer_of len (r ∷ right)) kind link (r ∷ right) second
  pub two : AreChildren es → length e.body ≡ 8 → (2 ≤ length left) × (2 ≤ length (r ∷ right))

-- the page at place p is shown cut so: its first part is in its place, and its second part is the new page n at the end
pub record CutShown (e : Entry) (p n file : ℕ) (ps : List (List ℕ)) (k : ℕ) (c : CacheView) (s : Shown) : Type 0 where
  pub old : List ℕ
  pub at : slice_get ps p ≡ Some old
  pub first : List ℕ
  pub second : List ℕ
  pub shows : Shows c s file (slice_set ps p first ++ second ∷ [])
  pub parts : (len kind link low : ℕ) (es : List Entry) (xs : List Piece) → IsCrowded e len kind link low es xs old → Parts e len kind link low n k es first second

-- a tuple was put into a page in its place
pub record PutHere (e : Entry) (p file : ℕ) (ps : List (List ℕ)) (end : ℕ) (c : CacheView) (s : Shown) : Type 0 where
  pub old : List ℕ
  pub at : slice_get ps p ≡ Some old
  pub new : List ℕ
  pub turned : Turned (placed e) old new
  pub shows : Shows c s file (slice_set ps p new)
  pub end_is : end ≡ length ps

-- or the page had no room and was cut
pub record PutCut (e : Entry) (p file : ℕ) (ps : List (List ℕ)) (o : Child) (end : ℕ) (c : CacheView) (s : Shown) : Type 0 where
  pub cut : CutShown e p (length ps) file ps o.key c s
  pub page : o.page ≡ length ps
  pub full : (old : List ℕ) → slice_get ps p ≡ Some old → IsFullFor e old
  pub end_is : end ≡ length ps + 1

abbrev pub PutShown : Entry → ℕ → ℕ → List (List ℕ) → Option Child → ℕ → CacheView → Shown → Type 0
PutShown e p file ps None end c s = PutHere e p file ps end c s
PutShown e p file ps (Some o) end c s = PutCut e p file ps o end c s

-- a piece of a level cut: the first part, and the second in page n, which begins with the tuple r
abbrev pub first_part : Piece → List Entry → Piece
first_part x left = record { low = x.low; page = x.page; es = left }

abbrev pub second_part : ℕ → Entry → List Entry → Piece
second_part n r right = record { low = r.key; page = n; es = r ∷ right }

-- the page of a level in which a vid lies, cut so
abbrev pub cut : ℕ → ℕ → List Entry → Entry → List Entry → List Piece → List Piece
cut v n left r right [] = []
cut v n left r right (x ∷ []) = first_part x left ∷ second_part n r right ∷ []
cut v n left r right (x ∷ y ∷ ys) =
    if nat_lt v y.low then first_part x left ∷ second_part n r right ∷ y ∷ ys else x ∷ cut v n left r right (y ∷ ys)

-- what is asked of the keys of the two parts, at the page in which the vid lies and whatever pages come after it
abbrev pub KeysHold : ℕ → Piece → List Entry → Entry → List Entry → Type 0
KeysHold v x left r right = (rest : List Piece) → BelowNext v rest → AreKeys x.low x.es rest → AreKeys x.low (left ++ r ∷ right) rest
