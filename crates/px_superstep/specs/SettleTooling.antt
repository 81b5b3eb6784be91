-- What a partition is settled with, and the frames of the bank that it is made of.
use Rattle.std.specs.Prelude.{◌≡◌, ◌≤◌, ℕ, ◌+◌, length}
use Rattle.px_frames.specs.Buffer.{SameRoom as SameBuf}
use Rattle.px_meaning.specs.Graph.{room_of}
use Rattle.px_program.specs.Groups.{GroupMade, made_of}
use Rattle.px_store.specs.Desks.{SameRoom}
use Rattle.px_superstep.specs.Files.{update_file}
use Rattle.px_superstep.specs.Lending.{IsEnough}
use Rattle.px_superstep.specs.Tooling.{IsShort}
use Rattle.px_superstep.specs.declared.benches.Lent.{Lent}
use Rattle.px_superstep.specs.declared.applying.SettleTools.{SettleTools}

-- the tools fit pages of this length
pub record FitPages {G : Type 0} (made : G → GroupMade) (len : ℕ) (t : SettleTools G) : Type 0 where
  pub group_len : (made t.group).frame_len ≡ len
  pub updates_len : t.updates.page_len ≡ len
  pub requests_len : t.requests.page_len ≡ len
  pub vids_len : t.vids.page_len ≡ len
  pub first_room : t.first.room ≡ room_of len
  pub second_room : t.second.room ≡ room_of len
  pub verdict_limit : 13 + t.verdict.limit ≡ room_of len
  pub spare_limit : 13 + t.spare.limit ≡ room_of len

-- the tools of partition q, made of what was lent: two vertices and two buffers in frames of work, two readers and a writer in frames of streams
pub record AreSettleTools {G : Type 0} (made : G → GroupMade) (q to : ℕ) (lent : Lent) (t : SettleTools G) : Type 0 where
  pub group : made t.group ≡ made_of lent.group lent.table 2 3
  pub fit : FitPages made lent.work.frame_len t
  pub updates : t.updates.file ≡ update_file q
  pub requests : t.requests.file ≡ 160 + q
  pub vids : t.vids.file ≡ to
  pub first_len : t.first.frame_len ≡ lent.work.frame_len
  pub second_len : t.second.frame_len ≡ lent.work.frame_len
  pub verdict_len : t.verdict.frame_len ≡ lent.work.frame_len
  pub spare_len : t.spare.frame_len ≡ lent.work.frame_len
  pub work : IsShort 4 lent.work t.work
  pub join : t.join ≡ lent.join
  pub streams : IsShort 3 lent.streams t.streams

-- they are the tools of partition q over pages of this length
pub record AreSettleToolsFor {G : Type 0} (made : G → GroupMade) (q to len : ℕ) (t : SettleTools G) : Type 0 where
  pub fit : FitPages made len t
  pub own_first : (made t.group).first ≡ 2
  pub own_second : (made t.group).second ≡ 3
  pub updates : t.updates.file ≡ update_file q
  pub requests : t.requests.file ≡ 160 + q
  pub vids : t.vids.file ≡ to

-- what no settling changes of them
pub record SameSettleTools {G : Type 0} (made : G → GroupMade) (old new : SettleTools G) : Type 0 where
  pub group : made new.group ≡ made old.group
  pub updates_len : new.updates.page_len ≡ old.updates.page_len
  pub requests_len : new.requests.page_len ≡ old.requests.page_len
  pub vids_len : new.vids.page_len ≡ old.vids.page_len
  pub first : SameRoom old.first new.first
  pub second : SameRoom old.second new.second
  pub verdict : SameBuf old.verdict new.verdict
  pub spare : SameBuf old.spare new.spare
  pub work : new.work ≡ old.work
  pub join : new.join ≡ old.join
  pub streams : new.streams ≡ old.streams

-- they can be closed: there is a place for each frame, of the right length
pub record CanCloseSettle {G : Type 0} (t : SettleTools G) : Type 0 where
  pub first : t.first.frame_len ≡ t.work.frame_len
  pub second : t.second.frame_len ≡ t.work.frame_len
  pub verdict : t.verdict.frame_len ≡ t.work.frame_len
  pub spare : t.spare.frame_len ≡ t.work.frame_len
  pub updates : t.updates.page_len ≡ t.streams.frame_len
  pub requests : t.requests.page_len ≡ t.streams.frame_len
  pub vids : t.vids.page_len ≡ t.streams.frame_len
  pub work : length t.work.frames + 4 ≤ t.work.size
  pub streams : length t.streams.frames + 3 ≤ t.streams.size

-- what they give back
pub record IsSettleClosed {G : Type 0} (made : G → GroupMade) (t : SettleTools G) (lent : Lent) : Type 0 where
  pub join : lent.join ≡ t.join
  pub group_size : lent.group.size ≡ (made t.group).size
  pub group_len : lent.group.frame_len ≡ (made t.group).frame_len
  pub group_frames : length lent.group.frames ≡ (made t.group).frames
  pub table : lent.table.capacity ≡ (made t.group).capacity
  pub work : IsShort 4 lent.work t.work
  pub streams : IsShort 3 lent.streams t.streams
