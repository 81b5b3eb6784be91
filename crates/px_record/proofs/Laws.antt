-- Vertices and the bytes that they are stored as.
use Rattle.std.proofs.Common.{◌≡◌, ℕ, zero, suc, ◌+◌, ◌*◌, ◌<◌, ◌≤◌, Bool, true, false, ◌&&◌, ◌==◌, nat_lt, List, [], ◌∷◌, ◌++◌, length, take, drop, slice_index, refl, sym, ap, ◌∙◌, arith}
use Rattle.std.proofs.lemmas.Bool.Decides.{nat_tests}
use Rattle.std.proofs.Math.Seq.{take-add}
use Rattle.std.proofs.lemmas.List.{append_assoc, append-nil, take_at, drop_at, drop-drop, take_all, length-append, length-drop, length-take-le, take-append-drop}
use Rattle.byteorder.specs.Endian.{big_bytes}
use Rattle.byteorder.specs.Numbers.{big_from-lt, big_number-reads_back}
use Rattle.px_meaning.specs.Graph.{Vertex}
use Rattle.px_record.specs.Body.{halt_byte, header_bytes, edges_bytes, body_of, edges_in, vertex_in, value_len_of, edge_count_of, body_len, is_vertex_body, vertex_of, AreBytes, AreEdges, IsVertex}
use Rattle.px_record.proofs.Bytes.{big_bytes-number, length-edges_in, length-edges_bytes, edges_bytes-in, edges_in-bytes, bytes-drop, AreEdges-in}

pub length-body_of : (x : Vertex) → length (body_of x) ≡ body_len (length x.value) (length x.edges)
unfolding body_of
length-body_of x = omega (arith, length-append x.value (edges_bytes x.edges), length-edges_bytes x.edges)

-- a vertex in front of anything is found again
pub vertex_in-body : (x : Vertex) (rest : List ℕ) → AreEdges x.edges → vertex_in x.halt (length x.value) (length x.edges) (body_of x ++ rest) ≡ x
unfolding body_of
vertex_in-body x rest fit =
    let tail : List ℕ = edges_bytes x.edges ++ rest in
    let whole : drop 9 (body_of x ++ rest) ≡ x.value ++ tail = append_assoc x.value (edges_bytes x.edges) rest in
    let value : take (length x.value) (drop 9 (body_of x ++ rest)) ≡ x.value =
    ap (take (length x.value)) whole ∙ take_at x.value tail (length x.value) refl in
    let after : drop (length x.value) (drop 9 (body_of x ++ rest)) ≡ tail =
    ap (drop (length x.value)) whole ∙ drop_at x.value tail (length x.value) refl in
    let edges : edges_in (length x.edges) (drop (length x.value) (drop 9 (body_of x ++ rest))) ≡ x.edges =
    ap (edges_in (length x.edges)) after ∙ edges_in-bytes x.edges rest fit in
    ap (λ (v : List ℕ). record { halt = x.halt; value = v; edges = edges_in (length x.edges) (drop (length x.value) (drop 9 (body_of x ++ rest))) }) value
    ∙ ap (λ (es : List (ℕ × ℕ)). record { halt = x.halt; value = x.value; edges = es }) edges

halt_byte-lt : (b : Bool) → halt_byte b < 2
halt_byte-lt true = omega arith
halt_byte-lt false = omega arith

halt_byte-one : (b : Bool) → (halt_byte b == 1) ≡ b
halt_byte-one true = refl
halt_byte-one false = refl

one-halt_byte : (n : ℕ) → n < 2 → halt_byte (n == 1) ≡ n
one-halt_byte zero small = refl
one-halt_byte (suc zero) small = refl
one-halt_byte (suc (suc n)) small = absurd (omega arith)

value_len_of-body : (x : Vertex) → IsVertex x → value_len_of (body_of x) ≡ length x.value
unfolding body_of
value_len_of-body x is = big_number-reads_back 4 (length x.value) (big_bytes 4 (length x.edges) ++ x.value ++ edges_bytes x.edges) is.value

edge_count_of-body : (x : Vertex) → IsVertex x → edge_count_of (body_of x) ≡ length x.edges
unfolding body_of
edge_count_of-body x is = big_number-reads_back 4 (length x.edges) (x.value ++ edges_bytes x.edges) is.edge_count

-- the bytes of a vertex spell that vertex
pub vertex_of-body_of : (x : Vertex) → IsVertex x → vertex_of (body_of x) ≡ x
unfolding body_of vertex_of
vertex_of-body_of x is =
    let halt = halt_byte-one x.halt in
    let value = value_len_of-body x is in
    let edges = edge_count_of-body x is in
    let here : vertex_in x.halt (length x.value) (length x.edges) (body_of x) ≡ x =
    ap (vertex_in x.halt (length x.value) (length x.edges)) (sym (append-nil (body_of x))) ∙ vertex_in-body x [] is.edges in
    ap (λ (h : Bool). vertex_in h (value_len_of (body_of x)) (edge_count_of (body_of x)) (body_of x)) halt
    ∙ ap (λ (v : ℕ). vertex_in x.halt v (edge_count_of (body_of x)) (body_of x)) value
    ∙ ap (λ (e : ℕ). vertex_in x.halt (length x.value) e (body_of x)) edges ∙ here

both : (a b : Bool) → a ≡ true → b ≡ true → (a && b) ≡ true
both a b p q = rw (p, q) refl

-- the bytes of a vertex are a vertex body
pub is_vertex_body-body_of : (x : Vertex) → IsVertex x → is_vertex_body (body_of x) ≡ true
unfolding body_of is_vertex_body
is_vertex_body-body_of x is =
    let small = halt_byte-lt x.halt in
    let value = value_len_of-body x is in
    let edges = edge_count_of-body x is in
    let len = length-body_of x in
    let first : nat_lt (slice_index (body_of x) 0) 2 ≡ true = grind (arith, nat_tests) in
    let add : body_len (value_len_of (body_of x)) (edge_count_of (body_of x)) ≡ length (body_of x) = omega (arith, value, edges, len) in
    let second : (body_len (value_len_of (body_of x)) (edge_count_of (body_of x)) == length (body_of x)) ≡ true = grind (arith, nat_tests) in
    both _ _ first second

-- what the test says
pub record IsShape (body : List ℕ) : Type 0 where
  pub halt : slice_index body 0 < 2
  pub len : body_len (value_len_of body) (edge_count_of body) ≡ length body

pub IsShape-from_test : (body : List ℕ) → is_vertex_body body ≡ true → IsShape body
unfolding is_vertex_body
IsShape-from_test body is = record { halt = grind (arith, nat_tests); len = grind (arith, nat_tests) }

-- so many bytes of value, and so many edges
pub length-value_in : (halt : Bool) (value edges : ℕ) (bytes : List ℕ) → 9 + value ≤ length bytes → length (vertex_in halt value edges bytes).value ≡ value
length-value_in halt value edges bytes long = length-take-le value (drop 9 bytes) (omega (arith, length-drop 9 bytes))

-- the vertex in some bytes fits the fields of a body
pub IsVertex-of_body : (body : List ℕ) → AreBytes body → is_vertex_body body ≡ true → IsVertex (vertex_of body)
unfolding vertex_of
IsVertex-of_body body all is =
    let shape = IsShape-from_test body is in
    let value = big_from-lt 0 4 (drop 1 body) (bytes-drop 1 body all) in
    let edges = big_from-lt 0 4 (drop 5 body) (bytes-drop 5 body all) in
    let len = length-value_in (slice_index body 0 == 1) (value_len_of body) (edge_count_of body) body (omega (arith, shape.len)) in
    let count = length-edges_in (edge_count_of body) (drop (value_len_of body) (drop 9 body)) in
    record {
      value = omega (arith, len, value);
      edge_count = omega (arith, count, edges);
      edges = AreEdges-in (edge_count_of body) (drop (value_len_of body) (drop 9 body)) (bytes-drop (value_len_of body) (drop 9 body) (bytes-drop 9 body all));
    }

cut : (b : List ℕ) (v n : ℕ) → 9 + v + n ≡ length b → (take 1 b ++ take 4 (drop 1 b) ++ take 4 (drop 5 b)) ++ take v (drop 9 b) ++ take n (drop v (drop 9 b)) ≡ b
cut b v n len =
    let front : take 1 b ++ take 4 (drop 1 b) ++ take 4 (drop 5 b) ≡ take 9 b =
    ap (λ (l : List ℕ). l ++ take 4 (drop 5 b)) (sym (take-add 1 4 b)) ∙ sym (take-add 5 4 b) in
    let after : drop v (drop 9 b) ≡ drop (9 + v) b = drop-drop v 9 b in
    let rest : take n (drop v (drop 9 b)) ≡ drop (9 + v) b =
    ap (take n) after ∙ take_all n (drop (9 + v) b) (omega (arith, length-drop (9 + v) b)) in
    ap (λ (l : List ℕ). l ++ take v (drop 9 b) ++ take n (drop v (drop 9 b))) front
    ∙ ap (λ (l : List ℕ). take 9 b ++ take v (drop 9 b) ++ l) rest
    ∙ ap (λ (l : List ℕ). l ++ drop (9 + v) b) (sym (take-add 9 v b)) ∙ take-append-drop (9 + v) b

first_byte : (b : List ℕ) → 1 ≤ length b → take 1 b ≡ slice_index b 0 ∷ []
first_byte [] long = absurd (omega arith)
first_byte (x ∷ xs) long = refl

-- the bytes of what is found in bytes with this header, which are all there are
found : (b : List ℕ) (v e : ℕ) → AreBytes b → slice_index b 0 < 2 → body_len v e ≡ length b → v ≡ value_len_of b → e ≡ edge_count_of b
    → header_bytes (slice_index b 0 == 1) v e ++ take v (drop 9 b) ++ edges_bytes (edges_in e (drop v (drop 9 b))) ≡ b
found b v e all small len value edges =
    let halt : halt_byte (slice_index b 0 == 1) ∷ [] ≡ take 1 b =
    ap (λ (h : ℕ). h ∷ []) (one-halt_byte (slice_index b 0) small) ∙ sym (first_byte b (omega arith)) in
    let first : big_bytes 4 v ≡ take 4 (drop 1 b) =
    ap (big_bytes 4) value ∙ big_bytes-number 4 (drop 1 b) (omega (arith, length-drop 1 b)) (bytes-drop 1 b all) in
    let second : big_bytes 4 e ≡ take 4 (drop 5 b) =
    ap (big_bytes 4) edges ∙ big_bytes-number 4 (drop 5 b) (omega (arith, length-drop 5 b)) (bytes-drop 5 b all) in
    let rest = drop v (drop 9 b) in
    let long : 12 * e ≤ length rest = omega (arith, length-drop v (drop 9 b), length-drop 9 b) in
    let third = edges_bytes-in e rest long (bytes-drop v (drop 9 b) (bytes-drop 9 b all)) in
    ap (λ (l : List ℕ). (l ++ big_bytes 4 v ++ big_bytes 4 e) ++ take v (drop 9 b) ++ edges_bytes (edges_in e rest)) halt
    ∙ ap (λ (l : List ℕ). (take 1 b ++ l ++ big_bytes 4 e) ++ take v (drop 9 b) ++ edges_bytes (edges_in e rest)) first
    ∙ ap (λ (l : List ℕ). (take 1 b ++ take 4 (drop 1 b) ++ l) ++ take v (drop 9 b) ++ edges_bytes (edges_in e rest)) second
    ∙ ap (λ (l : List ℕ). (take 1 b ++ take 4 (drop 1 b) ++ take 4 (drop 5 b)) ++ take v (drop 9 b) ++ l) third
    ∙ cut b v (12 * e) len

-- a vertex body is the bytes of the vertex that it spells
pub body_of-vertex_of : (body : List ℕ) → AreBytes body → is_vertex_body body ≡ true → body_of (vertex_of body) ≡ body
unfolding body_of vertex_of
body_of-vertex_of body all is =
    let shape = IsShape-from_test body is in
    let v = value_len_of body in
    let e = edge_count_of body in
    let rest = drop v (drop 9 body) in
    let len = length-value_in (slice_index body 0 == 1) v e body (omega (arith, shape.len)) in
    let count = length-edges_in e rest in
    let tail : List ℕ = take v (drop 9 body) ++ edges_bytes (edges_in e rest) in
    ap (λ (n : ℕ). header_bytes (slice_index body 0 == 1) n (length (edges_in e rest)) ++ take v (drop 9 body) ++ edges_bytes (edges_in e rest)) len
    ∙ ap (λ (n : ℕ). header_bytes (slice_index body 0 == 1) v n ++ take v (drop 9 body) ++ edges_bytes (edges_in e rest)) count
    ∙ found body v e all shape.halt shape.len refl refl
