-- The bytes of a vertex within room.
use Rattle.std.proofs.Common.{◌≡◌, ℕ, ◌+◌, ◌==◌, List, length, drop, slice_index, true, false, Option, Some, None, ap, arith}
use Rattle.std.specs.Prelude.{IfSome}
use Rattle.std.specs.Option.{option_map}
use Rattle.std.proofs.lemmas.Bool.{le-ltb}
use Rattle.px_meaning.specs.Graph.{Vertex, vertex_size}
use Rattle.px_meaning.specs.Step.{is_wide}
use Rattle.px_record.specs.Body.{body_of, is_vertex_body, vertex_of, value_len_of, edge_count_of}
use Rattle.px_record.specs.Held.{HeldVertex, IsWithin, IsBody}
use Rattle.px_record.proofs.Bytes.{length-edges_in}
use Rattle.px_record.proofs.Laws.{length-body_of, length-value_in, IsShape-from_test}

pub body_held : (v : HeldVertex) (bytes : List ℕ) → IsWithin v → bytes ≡ body_of v.vertex → is_vertex_body bytes ≡ true → IsBody v.room bytes
body_held v bytes within is valid = record { spells = valid; size = omega (arith, within.size, ap length is, length-body_of v.vertex) }

-- a body's size is the vertex's
pub body_size : (bytes : List ℕ) → is_vertex_body bytes ≡ true → vertex_size (vertex_of bytes) ≡ 13 + length bytes
unfolding vertex_of
body_size bytes is =
    let shape = IsShape-from_test bytes is in
    let value = length-value_in (slice_index bytes 0 == 1) (value_len_of bytes) (edge_count_of bytes) bytes (omega (arith, shape.len)) in
    let edges = length-edges_in (edge_count_of bytes) (drop (value_len_of bytes) (drop 9 bytes)) in
    omega (arith, shape.len, value, edges)

-- a vertex that is read from such bytes is not above room
pub fit_one : {B : Type 0} (room : ℕ) (bytes : B → List ℕ) (o : Option B) (x : Vertex) → option_map (λ b. vertex_of (bytes b)) o ≡ Some x → IfSome o (λ b. IsBody room (bytes b)) → is_wide room x ≡ false
fit_one room bytes None x is held = absurd (cc)
fit_one room bytes (Some b) x is held =
    let here : vertex_of (bytes b) ≡ x = cc in
    le-ltb room (vertex_size x) (omega (arith, held.size, body_size (bytes b) held.spells, ap vertex_size here))
