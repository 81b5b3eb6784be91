-- A plain connector, which sends or receives.
use Rattle.std.specs.Prelude.{◌≡◌, ◌<◌, ℕ, ◌+◌, ◌*◌, List, [], length, Option, Some, None, slice_index_or}
use Rattle.px_core.specs.Shown.{Shown}
use Rattle.px_meaning.specs.Merge.{Pairs}
use Rattle.px_connectors.specs.Receiving.{AreReaders, GiveAll, all_left}
use Rattle.px_connectors.specs.Views.{ConnectorView}
use Rattle.px_connectors.specs.Writers.{WritersView, AreWriters, parts_in, TookParts, HoldParts}
use Rattle.px_connectors.specs.declared.readers.PartReaders.{PartReaders}

-- a plain connector as its share, with the frames that were taken from it, its partitions, the writers of the sender that was begun last or the readers of an open receiver, that sender, and how many pages each file of each sender had when that sender was finished last
pub record PartitioningView : Type 0 where
  pub size : ℕ
  pub frames : ℕ
  pub frame_len : ℕ
  pub parts : ℕ
  pub writers : Option WritersView
  pub readers : Option PartReaders
  pub sender : ℕ
  pub pages : List (List ℕ)

abbrev pub view_of : PartitioningView → ConnectorView
view_of c = record { parts = c.parts; sender = c.sender; frame_len = c.frame_len; size = c.size; frames = c.frames }

-- there are writers, of which this holds
abbrev pub OfWriters : (WritersView → Type 0) → Option WritersView → Type 0
OfWriters P None = ⊥
OfWriters P (Some w) = P w

-- there are readers, of which this holds
abbrev pub OfReaders : (PartReaders → Type 0) → Option PartReaders → Type 0
OfReaders P None = ⊥
OfReaders P (Some r) = P r

-- writers of so many partitions, over frames of this length
pub record AreSending (parts len : ℕ) (w : WritersView) : Type 0 where
  pub are : AreWriters w
  pub parts_are : parts_in w ≡ parts
  pub frame_len : w.frame_len ≡ len

-- so many readers, over frames of this length
pub record AreReceiving (parts len : ℕ) (r : PartReaders) : Type 0 where
  pub are : AreReaders len r.readers.items
  pub parts_are : length r.readers.items ≡ parts

-- either writers have the frames or readers have them
abbrev pub OnOneSide : ℕ → ℕ → Option WritersView → Option PartReaders → Type 0
OnOneSide parts len (Some w) None = AreSending parts len w
OnOneSide parts len None (Some r) = AreReceiving parts len r
OnOneSide parts len None None = ⊥
OnOneSide parts len (Some w) (Some r) = ⊥

-- the disk tells, the sender is begun, and its writers took these pairs so far
pub record IsBegun (s : Shown) (p : ℕ) (l : Pairs) (w : WritersView) : Type 0 where
  pub first : w.first ≡ 256 + 16 * p
  pub took : TookParts s 0 w l

pub record Sends (c : PartitioningView) (s : Shown) (p : ℕ) (l : Pairs) : Type 0 where
  pub is : p ≡ c.sender
  pub begun : OfWriters (IsBegun s p l) c.writers

-- the disk tells, the sender is finished, and its files hold the pairs that it put: each those to its receiver, in order
pub record HasSent (c : PartitioningView) (s : Shown) (p : ℕ) (l : Pairs) : Type 0 where
  pub below : p < c.parts
  pub holds : HoldParts s 0 (256 + 16 * p) c.parts (slice_index_or c.pages p []) l

-- the disk tells, a receiver is open, and each sender has these pairs to it left
abbrev pub Receives : PartitioningView → Shown → (ℕ → Pairs) → Type 0
Receives c s ls = OfReaders (λ r. GiveAll s r.readers.items ls) c.readers

-- the most pairs that the open receiver may still be given
abbrev pub left_to_give : Option PartReaders → ℕ
left_to_give None = 0
left_to_give (Some r) = all_left r.readers.items
