-- Requests, as their callers see them.
use Rattle.std.specs.Prelude.{◌≡◌, ◌<◌, ℕ, ◌+◌, List, map, slice_index_or}
use Rattle.px_core.specs.Parts.{to_part}
use Rattle.px_core.specs.Shown.{Shown}
use Rattle.px_meaning.specs.Merge.{Pairs}
use Rattle.px_pages.specs.Entry.{Entry}
use Rattle.px_stream.specs.Stream.{Holds}
use Rattle.px_connectors.specs.Messages.{tagged}
use Rattle.px_connectors.specs.Writers.{WritersView, parts_in, IsPartFile, TookParts}

-- receiver q has file 160 + q
abbrev pub IsRequestFile : ℕ → Type 0
IsRequestFile f = IsPartFile 160 f

-- the length of the frames, the places of the share that they came from, the number of frames that were in it, and the writers of the receivers
pub record RequestsView : Type 0 where
  pub frame_len : ℕ
  pub size : ℕ
  pub frames : ℕ
  pub writers : WritersView

-- the number of receivers
abbrev pub receivers : RequestsView → ℕ
receivers r = parts_in r.writers

-- what no call changes
pub record SameRequests (old new : RequestsView) : Type 0 where
  pub receivers_stay : receivers new ≡ receivers old
  pub frame_len : new.frame_len ≡ old.frame_len
  pub size : new.size ≡ old.size
  pub frames : new.frames ≡ old.frames

-- pairs as the tuples of requests
abbrev pub requests : Pairs → List Entry
requests l = map (tagged 2) l

-- the disk tells, and these were requested since the start, in this order
pub record Asked (s : Shown) (r : RequestsView) (l : Pairs) : Type 0 where
  pub first : r.writers.first ≡ 160
  pub took : TookParts s 2 r.writers l

-- how many pages the file of a receiver had when it was finished last
abbrev pub pages_of : RequestsView → ℕ → ℕ
pages_of r q = slice_index_or r.writers.pages q 0

-- the files hold these requests: each those to its receiver, in order, on so many pages
pub record AskedOf (s : Shown) (r : RequestsView) (l : Pairs) : Type 0 where
  pub each : (q : ℕ) → q < receivers r → Holds s (160 + q) (pages_of r q) (requests (to_part (receivers r) q l))
