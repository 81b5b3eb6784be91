-- Writers and readers, as their callers see them.
use Rattle.std.specs.Prelude.{◌≡◌, ℕ, List, [], length, Option, Some, None}
use Rattle.px_pages.specs.Entry.{Entry}
use Rattle.px_pages.specs.Page.{IsWritten, PageWriterView, PageReaderView, left_of, kind_of, link_of}

-- a writer as the file that it writes, the page at which its list begins, the page that it writes next, their length, and the tuples that it has yet to write
pub record WriterView : Type 0 where
  pub file : ℕ
  pub first : ℕ
  pub pages : ℕ
  pub page_len : ℕ
  pub here : List Entry

-- a reader as the file that it reads, the page that it reads next, the page that it ends before, their length, and the tuples left of the page in its frame
pub record ReaderView : Type 0 where
  pub file : ℕ
  pub page : ℕ
  pub pages : ℕ
  pub page_len : ℕ
  pub here : List Entry

-- the tuples left of the page in a frame, where a page is in it
abbrev pub here_of : Option PageReaderView → List ℕ → List Entry
here_of None frame = []
here_of (Some r) frame = left_of r frame

-- the frame is the page that this page writer made, of kind 1 and without a link
pub record IsPage (w : PageWriterView) (frame : List ℕ) : Type 0 where
  pub len : w.len ≡ length frame
  pub made : IsWritten w frame
  pub kind : kind_of frame ≡ 1
  pub link : link_of frame ≡ 0
