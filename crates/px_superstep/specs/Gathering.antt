-- What a delivery to one partition works with, and the frames of the bank that it is made of.
use Rattle.std.specs.Prelude.{◌≡◌, ◌≤◌, ℕ, ◌+◌, length}
use Rattle.px_frames.specs.Buffer.{SameRoom}
use Rattle.px_meaning.specs.Graph.{room_of}
use Rattle.px_program.specs.Groups.{GroupMade, made_of}
use Rattle.px_superstep.specs.Tooling.{IsShort}
use Rattle.px_superstep.specs.declared.benches.Lent.{Lent}
use Rattle.px_superstep.specs.declared.gather.GatherTools.{GatherTools}

-- a writer of this file in a frame of streams, a buffer for a payload in one of work, and a group
pub record AreGatherTools {G : Type 0} (made : G → GroupMade) (to : ℕ) (lent : Lent) (t : GatherTools G) : Type 0 where
  pub group : made t.group ≡ made_of lent.group lent.table 2 3
  pub file : t.writer.file ≡ to
  pub writer_len : t.writer.page_len ≡ lent.work.frame_len
  pub limit : 13 + t.buf.limit ≡ room_of lent.work.frame_len
  pub buf_len : t.buf.frame_len ≡ lent.work.frame_len
  pub join : t.join ≡ lent.join
  pub work : IsShort 1 lent.work t.work
  pub streams : IsShort 1 lent.streams t.streams

-- they are for pages of this length
pub record AreGatherToolsFor {G : Type 0} (made : G → GroupMade) (len : ℕ) (t : GatherTools G) : Type 0 where
  pub group_len : (made t.group).frame_len ≡ len
  pub writer_len : t.writer.page_len ≡ len
  pub limit : 13 + t.buf.limit ≡ room_of len
  pub first : (made t.group).first ≡ 2
  pub second : (made t.group).second ≡ 3

-- what no delivery changes of them
pub record SameGatherTools {G : Type 0} (made : G → GroupMade) (old new : GatherTools G) : Type 0 where
  pub group : made new.group ≡ made old.group
  pub writer_len : new.writer.page_len ≡ old.writer.page_len
  pub buf : SameRoom old.buf new.buf
  pub join : new.join ≡ old.join
  pub work : new.work ≡ old.work
  pub streams : new.streams ≡ old.streams

-- they can be given back: there is a place for each frame, of the right length
pub record CanGiveBack {G : Type 0} (t : GatherTools G) : Type 0 where
  pub buf : t.buf.frame_len ≡ t.work.frame_len
  pub writer : t.writer.page_len ≡ t.streams.frame_len
  pub work : length t.work.frames + 1 ≤ t.work.size
  pub streams : length t.streams.frames + 1 ≤ t.streams.size

-- what is given back
pub record AreGivenBack {G : Type 0} (made : G → GroupMade) (t : GatherTools G) (lent : Lent) : Type 0 where
  pub join : lent.join ≡ t.join
  pub group_size : lent.group.size ≡ (made t.group).size
  pub group_len : lent.group.frame_len ≡ (made t.group).frame_len
  pub group_frames : length lent.group.frames ≡ (made t.group).frames
  pub table : lent.table.capacity ≡ (made t.group).capacity
  pub work : IsShort 1 lent.work t.work
  pub streams : IsShort 1 lent.streams t.streams
