-- Pages of tuples.
use Rattle.std.specs.Prelude.{◌≡◌, ◌<◌, ◌≤◌, ℕ, ◌+◌, ◌-◌, ◌^◌, List, ◌∷◌, ◌++◌, length, take, drop, slice_index, replicate}
use Rattle.byteorder.specs.Endian.{big_bytes, big_number}
use Rattle.px_pages.specs.Entry.{Entry, AreEntries, bytes_of, entries_in}
use Rattle.px_pages.specs.declared.reader.Tuple.{Tuple}

-- the lengths that a page may have
abbrev pub IsPageLen : ℕ → Type 0
IsPageLen n = (256 ≤ n) × (n ≤ 1048576)

-- the bytes of a page's header
abbrev pub header_len : ℕ
header_len = 32

-- the fields of a page's header
abbrev pub kind_of : List ℕ → ℕ
kind_of page = slice_index page 0

abbrev pub count_of : List ℕ → ℕ
count_of page = big_number 4 (drop 4 page)

abbrev pub used_at : List ℕ → ℕ
used_at page = big_number 4 (drop 8 page)

abbrev pub link_of : List ℕ → ℕ
link_of page = big_number 8 (drop 12 page)

-- the tuples that a reader finds in any page
abbrev pub tuples_of : List ℕ → List Entry
tuples_of page = entries_in (count_of page) (drop header_len page)

-- the bytes that hold something, header included
abbrev pub used_of : List Entry → ℕ
used_of es = header_len + length (bytes_of es)

abbrev pub zeros : ℕ → List ℕ
zeros n = replicate {A = ℕ} n 0

-- the one page of this length, kind, link and tuples
abbrev pub page_of : ℕ → ℕ → ℕ → List Entry → List ℕ
page_of page_len kind link es =
    kind ∷ 0 ∷ 0 ∷ 0 ∷ big_bytes 4 (length es) ++ big_bytes 4 (used_of es) ++ big_bytes 8 link ++ zeros 12 ++ bytes_of es ++ zeros (page_len - used_of es)

-- where a writer stands: the tuples that it wrote, the bytes that hold something, the bytes of its page
pub record PageWriterView : Type 0 where
  pub count : ℕ
  pub used : ℕ
  pub len : ℕ

-- where a reader stands: the tuples that it has to give by the page's count, and where the next one begins
pub record PageReaderView : Type 0 where
  pub left : ℕ
  pub at : ℕ

-- the page is the one that a writer made of this kind, link and tuples
pub record IsMade (w : PageWriterView) (page_kind page_link : ℕ) (es : List Entry) (page : List ℕ) : Type 0 where
  pub bytes : page ≡ page_of w.len page_kind page_link es
  pub page_len : length page ≡ w.len
  pub count : w.count ≡ length es
  pub used : w.used ≡ used_of es
  pub fits : used_of es ≤ w.len
  pub len : IsPageLen w.len
  pub link : page_link < 2 ^ 64
  pub entries : AreEntries es

-- the page is as the writer's last call left it: all of it is told by its kind, its link and its tuples
abbrev pub IsWritten : PageWriterView → List ℕ → Type 0
IsWritten w page = IsMade w (kind_of page) (link_of page) (tuples_of page) page

-- what a reader has still to give
abbrev pub left_of : PageReaderView → List ℕ → List Entry
left_of r page = entries_in r.left (drop r.at page)

-- the tuple that was given
abbrev pub entry_of : Tuple → List ℕ → Entry
entry_of t page = record { key = t.key; tag = t.tag; body = take t.len (drop t.at page) }

-- where a writer stands that wrote these tuples into a page of this length
abbrev pub writer_of : ℕ → List Entry → PageWriterView
writer_of page_len es = record { count = length es; used = used_of es; len = page_len }
