-- The bytes of a vertex.
use Rattle.std.specs.Prelude.{ℕ, zero, suc, ◌+◌, ◌*◌, ◌^◌, ◌<◌, Bool, ◌&&◌, ◌==◌, nat_lt, if◌then◌else◌, List, [], ◌∷◌, ◌++◌, length, take, drop, slice_index}
use Rattle.byteorder.specs.Endian.{big_bytes, big_number}
use Rattle.px_meaning.specs.Graph.{Vertex}

abbrev pub halt_byte : Bool → ℕ
halt_byte halt = if halt then 1 else 0

-- what stands before the value: halt, the length of the value, the number of edges
abbrev pub header_bytes : Bool → ℕ → ℕ → List ℕ
header_bytes halt value edges = halt_byte halt ∷ big_bytes 4 value ++ big_bytes 4 edges

-- a target, then a weight
abbrev pub edge_bytes : ℕ × ℕ → List ℕ
edge_bytes edge = big_bytes 8 edge.0 ++ big_bytes 4 edge.1

abbrev pub edges_bytes : List (ℕ × ℕ) → List ℕ
edges_bytes [] = []
edges_bytes (edge ∷ edges) = edge_bytes edge ++ edges_bytes edges

-- the bytes that a vertex is stored as
unfoldable pub body_of : Vertex → List ℕ
body_of x = header_bytes x.halt (length x.value) (length x.edges) ++ x.value ++ edges_bytes x.edges

-- the edge at the front of the bytes
abbrev pub edge_at : List ℕ → ℕ × ℕ
edge_at bytes = (big_number 8 bytes, big_number 4 (drop 8 bytes))

-- so many edges at the front of the bytes
abbrev pub edges_in : ℕ → List ℕ → List (ℕ × ℕ)
edges_in zero bytes = []
edges_in (suc n) bytes = edge_at bytes ∷ edges_in n (drop 12 bytes)

-- the vertex with so many bytes of value and so many edges that begins the bytes
abbrev pub vertex_in : Bool → ℕ → ℕ → List ℕ → Vertex
vertex_in halt value edges bytes = record { halt = halt; value = take value (drop 9 bytes); edges = edges_in edges (drop value (drop 9 bytes)) }

-- the lengths that a body's header gives
abbrev pub value_len_of : List ℕ → ℕ
value_len_of body = big_number 4 (drop 1 body)

abbrev pub edge_count_of : List ℕ → ℕ
edge_count_of body = big_number 4 (drop 5 body)

-- how many bytes a vertex has as a body
abbrev pub body_len : ℕ → ℕ → ℕ
body_len value edges = 9 + value + 12 * edges

-- whether the bytes are those of a vertex: halt is 0 or 1, and the lengths add up
unfoldable pub is_vertex_body : List ℕ → Bool
is_vertex_body body = nat_lt (slice_index body 0) 2 && (body_len (value_len_of body) (edge_count_of body) == length body)

-- the vertex that such bytes spell
unfoldable pub vertex_of : List ℕ → Vertex
vertex_of body = vertex_in (slice_index body 0 == 1) (value_len_of body) (edge_count_of body) body

-- bytes, and no larger numbers
abbrev pub AreBytes : List ℕ → Type 0
AreBytes xs = (i : ℕ) → slice_index xs i < 256

-- what fits the fields of the edges
abbrev pub AreEdges : List (ℕ × ℕ) → Type 0
AreEdges [] = Unit {0}
AreEdges (edge ∷ edges) = (edge.0 < 2 ^ 64) × (edge.1 < 2 ^ 32) × AreEdges edges

-- what fits the fields of a body
pub record IsVertex (x : Vertex) : Type 0 where
  pub value : length x.value < 2 ^ 32
  pub edge_count : length x.edges < 2 ^ 32
  pub edges : AreEdges x.edges
