-- What a compute phase works with, and the frames of the bank that it is made of.
use Rattle.std.specs.Prelude.{◌≡◌, ◌≤◌, ℕ, ◌+◌, length}
use Rattle.px_frames.specs.Shares.{ShareView}
use Rattle.px_program.specs.Groups.{GroupMade, made_of}
use Rattle.px_store.specs.Joins.{JoinView}
use Rattle.px_compute_op.specs.Phase.{IsBench, SameBench}
use Rattle.px_superstep.specs.Files.{update_file}
use Rattle.px_superstep.specs.Lending.{IsEnough}
use Rattle.px_superstep.specs.declared.benches.Lent.{Lent}
use Rattle.px_superstep.specs.declared.tools.Tools.{Tools}

-- of a share, n frames are taken
pub record IsShort (n : ℕ) (share rest : ShareView) : Type 0 where
  pub size : rest.size ≡ share.size
  pub frame_len : rest.frame_len ≡ share.frame_len
  pub frames : length rest.frames + n ≡ length share.frames

-- the tools of partition q, made of what was lent: of a vertex, a message and a spare in frames of work, and a writer in one of streams
pub record AreTools {J G : Type 0} (view : J → JoinView) (made : G → GroupMade) (q : ℕ) (lent : Lent) (t : Tools J G) : Type 0 where
  pub join_size : (view t.join).size ≡ lent.join.size
  pub join_len : (view t.join).frame_len ≡ lent.join.frame_len
  pub join_frames : (view t.join).frames ≡ length lent.join.frames
  pub group : made t.bench.group ≡ made_of lent.group lent.table 2 3
  pub bench : IsBench made lent.work.frame_len t.bench
  pub updates : t.bench.updates.file ≡ update_file q
  pub message_len : t.bench.message.frame_len ≡ lent.work.frame_len
  pub spare_len : t.bench.spare.frame_len ≡ lent.work.frame_len
  pub work : IsShort 3 lent.work t.work
  pub streams : IsShort 1 lent.streams t.streams

-- what no phase changes of them
pub record SameTools {J G : Type 0} (view : J → JoinView) (made : G → GroupMade) (old new : Tools J G) : Type 0 where
  pub join_size : (view new.join).size ≡ (view old.join).size
  pub join_len : (view new.join).frame_len ≡ (view old.join).frame_len
  pub join_frames : (view new.join).frames ≡ (view old.join).frames
  pub bench : SameBench made old.bench new.bench
  pub work : new.work ≡ old.work
  pub streams : new.streams ≡ old.streams

-- they can be closed: there is a place for each frame, of the right length
pub record CanClose {J G : Type 0} (t : Tools J G) : Type 0 where
  pub vertex : t.bench.vertex.frame_len ≡ t.work.frame_len
  pub message : t.bench.message.frame_len ≡ t.work.frame_len
  pub spare : t.bench.spare.frame_len ≡ t.work.frame_len
  pub updates : t.bench.updates.page_len ≡ t.streams.frame_len
  pub work : length t.work.frames + 3 ≤ t.work.size
  pub streams : length t.streams.frames + 1 ≤ t.streams.size

-- what they give back
pub record IsClosed {J G : Type 0} (view : J → JoinView) (made : G → GroupMade) (t : Tools J G) (lent : Lent) : Type 0 where
  pub join_size : lent.join.size ≡ (view t.join).size
  pub join_len : lent.join.frame_len ≡ (view t.join).frame_len
  pub join_frames : length lent.join.frames ≡ (view t.join).frames
  pub group_size : lent.group.size ≡ (made t.bench.group).size
  pub group_len : lent.group.frame_len ≡ (made t.bench.group).frame_len
  pub group_frames : length lent.group.frames ≡ (made t.bench.group).frames
  pub table : lent.table.capacity ≡ (made t.bench.group).capacity
  pub work : IsShort 3 lent.work t.work
  pub streams : IsShort 1 lent.streams t.streams

-- they are the tools of partition q over pages of this length
pub record AreToolsFor {J G : Type 0} (view : J → JoinView) (made : G → GroupMade) (q len : ℕ) (t : Tools J G) : Type 0 where
  pub join_len : (view t.join).frame_len ≡ len
  pub bench : IsBench made len t.bench
  pub first : (made t.bench.group).first ≡ 2
  pub second : (made t.bench.group).second ≡ 3
  pub updates : t.bench.updates.file ≡ update_file q
