-- Places among the tuples of a page, and what an edit at one does.
use Rattle.std.specs.Prelude.{◌≡◌, ◌≤◌, ◌<◌, ◌+◌, ℕ, Bool, List, length, take, nat_lt, slice_get, option_map, IfSome}
use Rattle.px_pages.specs.Entry.{Entry}
use Rattle.px_pages.specs.Page.{IsMade, writer_of, tuples_of, used_of, entry_of}
use Rattle.px_pages.specs.declared.place.Place.{Place}

-- a place before a tuple of the page, or behind all
pub record IsPlace (place : Place) (page : List ℕ) : Type 0 where
  pub index : place.index ≤ length (tuples_of page)
  pub at : place.at ≡ used_of (take place.index (tuples_of page))
  pub tuple : option_map (λ t. entry_of t page) place.tuple ≡ slice_get (tuples_of page) place.index
  pub within : IfSome place.tuple (λ t. t.at + t.len ≤ length page)

-- so many tuples of the page stand before this byte
pub record IsFront (many end : ℕ) (page : List ℕ) : Type 0 where
  pub index : many ≤ length (tuples_of page)
  pub at : end ≡ used_of (take many (tuples_of page))

-- the key of a tuple is below this one
abbrev pub is_below : ℕ → Entry → Bool
is_below key e = nat_lt e.key key

-- what a writer made of some tuples is now what it makes of others, of the same kind and link
abbrev pub Turned : (List Entry → List Entry) → List ℕ → List ℕ → Type 0
Turned f old new =
    (len kind link : ℕ) (es : List Entry) → IsMade (writer_of len es) kind link es old
    → IsMade (writer_of len (f es)) kind link (f es) new

-- with so many bytes less and so many more, the tuples of a page that a writer made are too long for it
abbrev pub Overflows : ℕ → ℕ → List ℕ → Type 0
Overflows less more page =
    (len kind link : ℕ) (es : List Entry) → IsMade (writer_of len es) kind link es page → len + less < used_of es + more
