-- One writer for each partition, each with a file of its own, one behind the other.
use Rattle.std.specs.Prelude.{◌≡◌, ◌≤◌, ◌<◌, ℕ, ◌+◌, ◌^◌, List, length, map, Option, Some, None, slice_index_or}
use Rattle.px_core.specs.Parts.{to_part}
use Rattle.px_core.specs.Shown.{Shown}
use Rattle.px_meaning.specs.Merge.{Pairs}
use Rattle.px_pages.specs.Page.{IsPageLen}
use Rattle.px_stream.specs.Stream.{Took, Holds}
use Rattle.px_stream.specs.Views.{WriterView}
use Rattle.px_connectors.specs.Messages.{tagged}

-- the file of the first partition, the length of the frames, the writer of each partition, and how many pages each file had when its writers were finished last
pub record WritersView : Type 0 where
  pub first : ℕ
  pub frame_len : ℕ
  pub writers : List (Option WriterView)
  pub pages : List ℕ

-- the number of partitions
abbrev pub parts_in : WritersView → ℕ
parts_in v = length v.writers

-- the file of a partition, from the first one's on
pub record IsPartFile (first f : ℕ) : Type 0 where
  pub low : first ≤ f
  pub high : f < first + 16

-- there is a writer, of which this holds
abbrev pub OfWriter : (WriterView → Type 0) → Option WriterView → Type 0
OfWriter P None = ⊥
OfWriter P (Some w) = P w

-- the file of the writer
abbrev pub IsFileOf : Option WriterView → ℕ → Type 0
IsFileOf o f = OfWriter (λ w. f ≡ w.file) o

-- the writer of a partition
abbrev pub writer_at : WritersView → ℕ → Option WriterView
writer_at v q = slice_index_or v.writers q None

-- this holds of each writer and the number of its partition
abbrev pub EachWriter : (ℕ → WriterView → Type 0) → List (Option WriterView) → Type 0
EachWriter P ws = (q : ℕ) → q < length ws → OfWriter (P q) (slice_index_or ws q None)

-- the writer of partition q writes the file q behind the first, in pages of this length
pub record WritesPart (first len q : ℕ) (w : WriterView) : Type 0 where
  pub file : w.file ≡ first + q
  pub page_len : w.page_len ≡ len

-- what holds of all such writers
pub record AreWriters (v : WritersView) : Type 0 where
  pub some : 1 ≤ parts_in v
  pub most : parts_in v ≤ 16
  pub last : v.first + 16 ≤ 2 ^ 31
  pub len : IsPageLen v.frame_len
  pub each : EachWriter (WritesPart v.first v.frame_len) v.writers

-- the disk tells, and all that the writer took, from the front of its file on, is this list of pairs
pub record TookAll (s : Shown) (tag : ℕ) (w : WriterView) (l : Pairs) : Type 0 where
  pub front : w.first ≡ 0
  pub took : Took s w (map (tagged tag) l)

-- each writer took the pairs of its partition, in order
pub record TookParts (s : Shown) (tag : ℕ) (v : WritersView) (l : Pairs) : Type 0 where
  pub are : AreWriters v
  pub each : EachWriter (λ q w. TookAll s tag w (to_part (parts_in v) q l)) v.writers

-- so many files, from the first on, each of so many pages, hold the pairs of their partitions, in order
pub record HoldParts (s : Shown) (tag first parts : ℕ) (pages : List ℕ) (l : Pairs) : Type 0 where
  pub most : parts ≤ 16
  pub each : (q : ℕ) → q < parts → Holds s (first + q) (slice_index_or pages q 0) (map (tagged tag) (to_part parts q l))

-- what no call but one that turns to other files changes
pub record SameWriters (old new : WritersView) : Type 0 where
  pub first : new.first ≡ old.first
  pub parts : parts_in new ≡ parts_in old
  pub frame_len : new.frame_len ≡ old.frame_len
