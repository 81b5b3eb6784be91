-- The header of a vertex body.
use Rattle.std.specs.Prelude.{◌≡◌, ◌≤◌, ℕ, ◌==◌, IsTrue, List, length, take, slice_index}
use Rattle.px_meaning.specs.Graph.{Vertex, size_of}
use Rattle.px_record.specs.declared.body.Header.{Header}
use Rattle.px_record.specs.Body.{body_of, body_len, vertex_in, value_len_of, edge_count_of, is_vertex_body, AreEdges}
use Rattle.px_record.specs.Held.{IsRoomOf}

-- the bytes are a vertex body, and this is its header
pub record IsHeaderOf (header : Header) (body : List ℕ) : Type 0 where
  pub valid : IsTrue (is_vertex_body body)
  pub halt : header.halt ≡ (slice_index body 0 == 1)
  pub value : header.value ≡ value_len_of body
  pub edges : header.edges ≡ edge_count_of body
  pub len : body_len header.value header.edges ≡ length body

-- the vertex with this header that begins the bytes
abbrev pub vertex_at : Header → List ℕ → Vertex
vertex_at header bytes = vertex_in header.halt header.value header.edges bytes

-- the frame begins with the bytes of the vertex with this header, which fits
pub record IsHeld (header : Header) (room : ℕ) (frame : List ℕ) : Type 0 where
  pub body : take (body_len header.value header.edges) frame ≡ body_of (vertex_at header frame)
  pub edges : AreEdges (vertex_at header frame).edges
  pub size : size_of header.value header.edges ≤ room
  pub share : IsRoomOf room (length frame)
