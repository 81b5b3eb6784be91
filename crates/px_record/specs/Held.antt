-- A vertex in a frame.
use Rattle.std.specs.Prelude.{◌≡◌, ◌≤◌, ℕ, ◌+◌, true, List, length}
use Rattle.px_meaning.specs.Graph.{Vertex, vertex_size, room_of}
use Rattle.px_record.specs.Body.{IsVertex, is_vertex_body}

-- a vertex and its vid, the most that its size may be, and the length of the frame that holds it
pub record HeldVertex : Type 0 where
  pub vid : ℕ
  pub vertex : Vertex
  pub room : ℕ
  pub frame_len : ℕ

-- room is what each of two records may have of a frame of this length
pub record IsRoomOf (room len : ℕ) : Type 0 where
  pub half : room ≡ room_of len
  pub least : 256 ≤ len
  pub most : len ≤ 1048576

-- what is true of every vertex that is held
pub record IsWithin (held : HeldVertex) : Type 0 where
  pub size : vertex_size held.vertex ≤ held.room
  pub least : 112 ≤ held.room
  pub most : held.room ≤ 524272
  pub fits : IsVertex held.vertex

-- what no call on a record changes but those that name a vid: the vid, room and the frame's length
pub record SameRecord (old new : HeldVertex) : Type 0 where
  pub vid : new.vid ≡ old.vid
  pub room : new.room ≡ old.room
  pub frame_len : new.frame_len ≡ old.frame_len

-- bytes that are a vertex within room
pub record IsBody (room : ℕ) (bytes : List ℕ) : Type 0 where
  pub spells : is_vertex_body bytes ≡ true
  pub size : 13 + length bytes ≤ room
