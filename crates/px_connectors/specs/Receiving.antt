-- One reader for each sender, over the files to one receiver.
use Rattle.std.specs.Prelude.{◌≡◌, ◌≢◌, ◌<◌, ℕ, ◌+◌, ◌*◌, ◌/◌, ◌%◌, ◌^◌, List, [], ◌∷◌, length, map, Option, Some, None, slice_get, slice_index_or}
use Rattle.px_core.specs.Shown.{Shown}
use Rattle.px_meaning.specs.Merge.{Pairs}
use Rattle.px_stream.specs.Counts.{left}
use Rattle.px_stream.specs.Stream.{ToGive, Holds, IsOver}
use Rattle.px_stream.specs.Views.{ReaderView}
use Rattle.px_connectors.specs.Messages.{tagged}
use Rattle.px_connectors.specs.Views.{IsConnectorFile}

-- bit i of a number
abbrev pub bit : ℕ → ℕ → ℕ
bit number i = number / 2 ^ i % 2

-- there is a reader, of which this holds
abbrev pub OfReader : (ReaderView → Type 0) → Option ReaderView → Type 0
OfReader P None = ⊥
OfReader P (Some r) = P r

-- this holds of each reader and the number of its sender
abbrev pub EachReader : (ℕ → ReaderView → Type 0) → List (Option ReaderView) → Type 0
EachReader P rs = (p : ℕ) (o : Option ReaderView) → slice_get rs p ≡ Some o → OfReader (P p) o

-- it reads a file of some sender, in pages of this length
pub record IsReader (len : ℕ) (r : ReaderView) : Type 0 where
  pub file : IsConnectorFile r.file
  pub page_len : r.page_len ≡ len

abbrev pub AreReaders : ℕ → List (Option ReaderView) → Type 0
AreReaders len rs = EachReader (λ p r. IsReader len r) rs

-- a tuple of the page in its frame is left
abbrev pub HasTuple : ReaderView → Type 0
HasTuple r = r.here ≢ []

-- there is such a reader for this sender
pub record HasAt (p : ℕ) (rs : List (Option ReaderView)) : Type 0 where
  pub below : p < length rs
  pub has : (o : Option ReaderView) → slice_get rs p ≡ Some o → OfReader HasTuple o

-- none has a tuple left
abbrev pub AllOver : List (Option ReaderView) → Type 0
AllOver rs = EachReader (λ p r. IsOver r) rs

-- the disk tells, and these are the pairs that it has still to give
pub record GivesPairs (s : Shown) (l : Pairs) (r : ReaderView) : Type 0 where
  pub file : IsConnectorFile r.file
  pub gives : ToGive s r (map (tagged 0) l)

-- so it is of each sender
abbrev pub GiveAll : Shown → List (Option ReaderView) → (ℕ → Pairs) → Type 0
GiveAll s rs ls = EachReader (λ p r. GivesPairs s (ls p) r) rs

-- the files from so many senders to a receiver hold these lists
pub record FilesHold (s : Shown) (receiver parts : ℕ) (pages : List (List ℕ)) (ls : ℕ → Pairs) : Type 0 where
  pub each : (p : ℕ) → p < parts → Holds s (256 + 16 * p + receiver) (slice_index_or (slice_index_or pages p []) receiver 0) (map (tagged 0) (ls p))

-- the most tuples that are left, over any disk
abbrev pub left_in : Option ReaderView → ℕ
left_in None = 0
left_in (Some r) = left r

abbrev pub all_left : List (Option ReaderView) → ℕ
all_left [] = 0
all_left (o ∷ os) = left_in o + all_left os
