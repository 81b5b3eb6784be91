-- How many pages a call writes or reads.
use Rattle.std.specs.Prelude.{◌≡◌, ◌≤◌, ◌<◌, ℕ, ◌+◌, ◌-◌, ◌*◌, if◌then◌else◌, nat_le, List, [], ◌∷◌, ◌++◌, length}
use Rattle.px_core.specs.Counts.{bumped_by}
use Rattle.px_core.specs.Shown.{Shown, Touches, Only}
use Rattle.px_pages.specs.Entry.{Entry}
use Rattle.px_pages.specs.Page.{IsPageLen, used_of}
use Rattle.px_stream.specs.Views.{WriterView, ReaderView}

-- a tuple with a body of this length has room in the page in the frame
abbrev pub Fits : WriterView → ℕ → Type 0
Fits w body = used_of w.here + 13 + body ≤ w.page_len

-- how many pages are written before such a tuple is taken: that in the frame, where it has no room in it
abbrev pub pages_before : WriterView → ℕ → ℕ
pages_before w body = if nat_le (used_of w.here + 13 + body) w.page_len then 0 else 1

-- the tuples in the frame once this one is taken
abbrev pub here_after : WriterView → Entry → List Entry
here_after w e = if nat_le (used_of w.here + 13 + length e.body) w.page_len then w.here ++ e ∷ [] else e ∷ []

-- how many pages these tuples of the frame still need
abbrev pub pages_of : List Entry → ℕ
pages_of [] = 0
pages_of (e ∷ es) = 1

-- how many of its pages a reader has not read yet
abbrev pub unread : ReaderView → ℕ
unread r = r.pages - r.page

-- the most tuples that a reader can still give, over any disk
abbrev pub left : ReaderView → ℕ
left r = unread r * r.page_len + length r.here

-- it writes the same file, of pages of the same length, which is a valid one
pub record SameWriter (old new : WriterView) : Type 0 where
  pub file : new.file ≡ old.file
  pub page_len : new.page_len ≡ old.page_len
  pub valid : IsPageLen new.page_len

-- a writer's call worked: n pages were added to its file, and no fault was counted
pub record Wrote (n : ℕ) (a b : Shown) (old new : WriterView) : Type 0 where
  pub touches : Touches (Only old.file) a b
  pub no_fault : b.faults ≡ a.faults
  pub reads : b.reads ≡ a.reads
  pub writes : b.writes ≡ bumped_by n a.writes
  pub first : new.first ≡ old.first
  pub pages : new.pages ≡ bumped_by n old.pages
  -- the writes since the start are the pages
  pub since_start : (start : ℕ) → a.writes ≡ bumped_by old.pages start → b.writes ≡ bumped_by new.pages start

-- it reads the same file, of pages of the same length, which is a valid one
pub record SameReader (old new : ReaderView) : Type 0 where
  pub file : new.file ≡ old.file
  pub page_len : new.page_len ≡ old.page_len
  pub valid : IsPageLen new.page_len

-- a reader has gone on within its pages, none of which it read twice
pub record WentOn (a b : Shown) (old new : ReaderView) : Type 0 where
  pub file : new.file ≡ old.file
  pub pages : new.pages ≡ old.pages
  pub page_len : new.page_len ≡ old.page_len
  pub valid : IsPageLen new.page_len
  pub page : old.page ≤ new.page
  pub last : new.page ≤ new.pages
  pub left : left new ≤ left old
  pub unread : b.reads + unread new ≤ a.reads + unread old

-- no tuple of the page in the frame is left, and pages are
pub record IsBetween (r : ReaderView) : Type 0 where
  pub here : r.here ≡ []
  pub more : r.page < r.pages
