-- What a stream holds, where its disk tells.
use Rattle.std.specs.Prelude.{◌≡◌, ◌≤◌, ℕ, ◌+◌, if◌then◌else◌, nat_le, List, [], ◌∷◌, ◌++◌, length, take, drop}
use Rattle.px_core.specs.Shown.{Shown, Tells}
use Rattle.px_pages.specs.Entry.{Entry, entry}
use Rattle.px_meaning.specs.Graph.{room_of}
use Rattle.px_pages.specs.Page.{tuples_of, page_of}
use Rattle.px_stream.specs.Views.{WriterView, ReaderView}
use Rattle.px_stream.specs.declared.reader.Head.{Head}

-- the tuples of pages, one page after the other
abbrev pub all_tuples : List (List ℕ) → List Entry
all_tuples [] = []
all_tuples (page ∷ pages) = tuples_of page ++ all_tuples pages

-- each is the one page of this length, of kind 1 and without a link, that holds its tuples
abbrev pub AreStreamPages : ℕ → List (List ℕ) → Type 0
AreStreamPages page_len [] = Unit {0}
AreStreamPages page_len (page ∷ pages) = (page ≡ page_of page_len 1 0 (tuples_of page)) × AreStreamPages page_len pages

-- each tuple is within the room of a page of this length
abbrev pub AllFit : ℕ → List Entry → Type 0
AllFit page_len [] = Unit {0}
AllFit page_len (e ∷ es) = (13 + length e.body ≤ room_of page_len) × AllFit page_len es

-- the disk tells, and what the writer took since it began is this list: on the pages of its file from its first on, and in its frame
pub record Took (s : Shown) (w : WriterView) (l : List Entry) : Type 0 where
  pub told : List (List ℕ)
  pub tells : Tells s w.file told
  pub end : length told ≡ w.pages
  pub within : w.first ≤ w.pages
  pub made : AreStreamPages s.page_len (drop w.first told)
  pub tuples : l ≡ all_tuples (drop w.first told) ++ w.here
  pub fit : AllFit s.page_len l

-- the disk tells, and the pages of the file from the first on, up to before the last, hold this list
pub record Has (s : Shown) (file first last : ℕ) (l : List Entry) : Type 0 where
  pub told : List (List ℕ)
  pub tells : Tells s file told
  pub end : last ≤ length told
  pub made : AreStreamPages s.page_len (drop first (take last told))
  pub tuples : l ≡ all_tuples (drop first (take last told))
  pub fit : AllFit s.page_len l

-- so many pages of the file, from its front, do
abbrev pub Holds : Shown → ℕ → ℕ → List Entry → Type 0
Holds s file pages l = Has s file 0 pages l

-- the disk tells, and what the reader has still to give is this list
pub record ToGive (s : Shown) (r : ReaderView) (l : List Entry) : Type 0 where
  pub told : List (List ℕ)
  pub tells : Tells s r.file told
  pub end : r.pages ≤ length told
  pub tuples : l ≡ r.here ++ all_tuples (drop r.page (take r.pages told))
  pub fit : AllFit s.page_len l

-- the list begins with this tuple, and this holds of the rest
pub record Leads (e : Entry) (l : List Entry) (After : List Entry → Type 0) : Type 0 where
  pub rest : List Entry
  pub is : l ≡ e ∷ rest
  pub after : After rest

-- the body of the first tuple
abbrev pub first_body : List Entry → List ℕ
first_body [] = []
first_body (e ∷ es) = e.body

-- the body that goes into a buffer of this limit: one above it, which no writer wrote, is left out
abbrev pub body_within : ℕ → List ℕ → List ℕ
body_within limit body = if nat_le (length body) limit then body else []

-- the tuple with this head and body
abbrev pub tuple : Head → List ℕ → Entry
tuple h body = entry h.key h.tag body

-- this is the head of the first tuple left of the page in the reader's frame
pub record Shows (h : Head) (r : ReaderView) : Type 0 where
  pub rest : List Entry
  pub is : r.here ≡ tuple h (first_body r.here) ∷ rest

-- no tuple is left, neither of the page in the frame nor of the pages to come
pub record IsOver (r : ReaderView) : Type 0 where
  pub here : r.here ≡ []
  pub page : r.page ≡ r.pages

-- the page of this length and kind, without a link, that holds this one tuple
unfoldable pub lone_page : ℕ → ℕ → Entry → List ℕ
lone_page page_len kind e = page_of page_len kind 0 (e ∷ [])
