-- A vertex in a frame, before and after each change.
use Rattle.std.proofs.Common.{◌≡◌, ℕ, ◌+◌, ◌*◌, ◌^◌, ◌<◌, ◌≤◌, Bool, true, false, List, [], ◌∷◌, ◌++◌, length, take, drop, slice_index, slice_get, Some, ◌==◌, refl, sym, ap, subst, ◌∙◌, arith}
use Rattle.std.proofs.Math.Seq.{take-add}
use Rattle.std.proofs.lemmas.List.{append_assoc, append-nil, take_at, take_all, take-take, drop_at, drop_all, drop-drop, length-append, length-drop, length-take-le, length_push, take-append-drop}
use Rattle.px_frames.specs.Lending.{fitted}
use Rattle.px_meaning.specs.Graph.{Vertex, fresh, vertex_size}
use Rattle.px_record.specs.declared.body.Header.{Header}
use Rattle.px_record.specs.Body.{header_bytes, edge_bytes, edges_bytes, body_of, body_len, value_len_of, edge_count_of, vertex_of, is_vertex_body, edge_at, edges_in, vertex_in, AreBytes, AreEdges, IsVertex}
use Rattle.px_record.specs.Held.{HeldVertex, IsRoomOf, IsWithin}
use Rattle.px_record.specs.Headers.{vertex_at, IsHeld, IsHeaderOf}
use Rattle.px_record.proofs.Bytes.{slice_get-edges_in, length-edges_in, length-edges_bytes, edges_bytes-push, edges_bytes-in, AreEdges-push, AreEdges-in}
use Rattle.px_record.proofs.Laws.{length-body_of, length-value_in, vertex_in-body, body_of-vertex_of, is_vertex_body-body_of, vertex_of-body_of, IsVertex-of_body}

-- a frame that is written whole
pub fitted_whole : (old new : List ℕ) → length new ≡ length old → fitted old new ≡ new
fitted_whole old new len =
    ap (λ (l : List ℕ). take (length old) (new ++ l)) (drop_all (length new) old (omega arith))
    ∙ ap (take (length old)) (append-nil new) ∙ take_all (length old) new (omega arith)

pub length-fitted : (old new : List ℕ) → length new ≡ length old → length (fitted old new) ≡ length old
length-fitted old new len = ap length (fitted_whole old new len) ∙ len

-- the same vid and room
pub same_held : (vid room : ℕ) (x y : Vertex) (n m : ℕ) → x ≡ y → n ≡ m
    → ◌≡◌ {A = HeldVertex} (record { vid = vid; vertex = x; room = room; frame_len = n }) (record { vid = vid; vertex = y; room = room; frame_len = m })
same_held vid room x y n m is len =
    ap (λ (v : Vertex). record { vid = vid; vertex = v; room = room; frame_len = n }) is
    ∙ ap (λ (l : ℕ). record { vid = vid; vertex = y; room = room; frame_len = l }) len

-- a vertex in front of a frame, under its header
pub record Holds (header : Header) (room : ℕ) (frame : List ℕ) (x : Vertex) : Type 0 where
  pub is : vertex_at header frame ≡ x
  pub held : IsHeld header room frame

pub holds : (x : Vertex) (header : Header) (room : ℕ) (frame rest : List ℕ) → frame ≡ body_of x ++ rest
    → header.halt ≡ x.halt → header.value ≡ length x.value → header.edges ≡ length x.edges
    → AreEdges x.edges → vertex_size x ≤ room → IsRoomOf room (length frame) → Holds header room frame x
holds x header room frame rest split halt value edges fit size share =
    let is : vertex_at header frame ≡ x =
    ap (vertex_at header) split
    ∙ ap (λ (h : Bool). vertex_in h header.value header.edges (body_of x ++ rest)) halt
    ∙ ap (λ (v : ℕ). vertex_in x.halt v header.edges (body_of x ++ rest)) value
    ∙ ap (λ (e : ℕ). vertex_in x.halt (length x.value) e (body_of x ++ rest)) edges ∙ vertex_in-body x rest fit in
    let len : length (body_of x) ≡ body_len header.value header.edges = omega (arith, length-body_of x) in
    record {
      is = is;
      held = record {
        body = ap (take (body_len header.value header.edges)) split ∙ take_at (body_of x) rest (body_len header.value header.edges) len ∙ ap body_of (sym is);
        edges = (let P : Vertex → Type 0 = λ y. AreEdges y.edges in subst P (sym is) fit);
        size = omega (arith, value, edges, size);
        share = share;
      };
    }

module _ (header : Header) (room : ℕ) (frame : List ℕ) (held : IsHeld header room frame) where
  pub held_long : body_len header.value header.edges ≤ length frame
  held_long = omega (arith, held.size, held.share.half)

  pub held_value : length (vertex_at header frame).value ≡ header.value
  held_value = length-value_in header.halt header.value header.edges frame (omega (arith, held_long))

  pub held_edges : length (vertex_at header frame).edges ≡ header.edges
  held_edges = length-edges_in header.edges (drop header.value (drop 9 frame))

  pub held_split : frame ≡ body_of (vertex_at header frame) ++ drop (body_len header.value header.edges) frame
  held_split = sym (take-append-drop (body_len header.value header.edges) frame) ∙ ap (λ (l : List ℕ). l ++ drop (body_len header.value header.edges) frame) held.body

  held_fits : IsVertex (vertex_at header frame)
  held_fits = record {
    value = omega (arith, held_value, held.size, held.share.half, held.share.most);
    edge_count = omega (arith, held_edges, held.size, held.share.half, held.share.most);
    edges = held.edges;
  }

  pub held_within : (vid : ℕ) → IsWithin (record { vid = vid; vertex = vertex_at header frame; room = room; frame_len = length frame })
  held_within vid = record {
    size = omega (arith, held_value, held_edges, held.size);
    least = omega (arith, held.share.half, held.share.least);
    most = omega (arith, held.share.half, held.share.most);
    fits = held_fits;
  }

  pub held_valid : is_vertex_body (take (body_len header.value header.edges) frame) ≡ true
  held_valid = ap is_vertex_body held.body ∙ is_vertex_body-body_of (vertex_at header frame) held_fits

  pub held_spells : vertex_of (take (body_len header.value header.edges) frame) ≡ vertex_at header frame
  held_spells = ap vertex_of held.body ∙ vertex_of-body_of (vertex_at header frame) held_fits

  pub held_edge : (i : ℕ) → i < header.edges → slice_get (vertex_at header frame).edges i ≡ Some (edge_at (drop (9 + header.value + 12 * i) frame))
  held_edge i below =
      slice_get-edges_in header.edges i (drop header.value (drop 9 frame)) below
      ∙ ap (λ (l : List ℕ). Some (edge_at l)) (ap (drop (12 * i)) (drop-drop header.value 9 frame) ∙ drop-drop (12 * i) (9 + header.value) frame)

  pub held_edge_bytes : take (12 * header.edges) (drop (9 + header.value) frame) ≡ edges_bytes (vertex_at header frame).edges
  unfolding body_of
  held_edge_bytes =
      let x = vertex_at header frame in
      let targets : List ℕ = edges_bytes x.edges in
      let left = drop (body_len header.value header.edges) frame in
      ap (take (12 * header.edges)) (sym (drop-drop header.value 9 frame) ∙ ap (λ (l : List ℕ). drop header.value (drop 9 l)) held_split
      ∙ ap (drop header.value) (append_assoc x.value targets left) ∙ drop_at x.value (targets ++ left) header.value held_value)
      ∙ take_at targets left (12 * header.edges) (omega (arith, length-edges_bytes x.edges, held_edges))

-- the fresh vertex
pub holds_fresh : (room : ℕ) (frame out : List ℕ) → IsRoomOf room (length frame) → out ≡ header_bytes false 0 0 ++ drop 9 frame
    → Holds (record { halt = false; value = 0; edges = 0 }) room (fitted frame out) fresh
unfolding body_of
holds_fresh room frame out share is =
    let len : length out ≡ length frame = omega (arith, ap length is, length-drop 9 frame, share.least) in
    let whole = fitted_whole frame out len in
    let same : length (fitted frame out) ≡ length frame = ap length whole ∙ len in
    holds fresh _ room (fitted frame out) (drop 9 frame) (whole ∙ is) refl refl refl tt (omega (arith, share.half, share.least)) (let P : ℕ → Type 0 = λ n. IsRoomOf room n in subst P (sym same) share)

-- a vertex was held, and its frame was written
module _ (was header : Header) (room : ℕ) (frame out : List ℕ) (held : IsHeld was room frame) (len : length out ≡ length frame) where
  same_share : IsRoomOf room (length (fitted frame out))
  same_share = let P : ℕ → Type 0 = λ n. IsRoomOf room n in subst P (sym (ap length (fitted_whole frame out len) ∙ len)) held.share

  -- as another vertex, which begins what was written
  pub holds_next : (x : Vertex) (rest : List ℕ) → out ≡ body_of x ++ rest
      → header.halt ≡ x.halt → header.value ≡ length x.value → header.edges ≡ length x.edges
      → AreEdges x.edges → vertex_size x ≤ room → Holds header room (fitted frame out) x
  holds_next x rest is halt value edges fit size =
      holds x header room (fitted frame out) rest (fitted_whole frame out len ∙ is) halt value edges fit size same_share

-- only the header was written, with another halt
pub holds_halt : (was : Header) (halt : Bool) (room : ℕ) (frame out : List ℕ) → IsHeld was room frame → out ≡ header_bytes halt was.value was.edges ++ drop 9 frame
    → Holds (record was { halt = halt }) room (fitted frame out) (record (vertex_at was frame) { halt = halt })
unfolding body_of
holds_halt was halt room frame out held is =
    let x = vertex_at was frame in
    let value = held_value was room frame held in
    let edges = held_edges was room frame held in
    let long = held_long was room frame held in
    let len : length out ≡ length frame = omega (arith, ap length is, length-drop 9 frame, long) in
    let rest = drop (body_len was.value was.edges) frame in
    let split : out ≡ body_of (record x { halt = halt }) ++ rest =
    is ∙ ap (λ (l : List ℕ). header_bytes halt was.value was.edges ++ drop 9 l) (held_split was room frame held)
    ∙ ap (λ (n : ℕ). header_bytes halt n was.edges ++ (x.value ++ edges_bytes x.edges ++ rest)) (sym value)
    ∙ ap (λ (n : ℕ). header_bytes halt (length x.value) n ++ (x.value ++ edges_bytes x.edges ++ rest)) (sym edges) in
    holds_next was (record was { halt = halt }) room frame out held len (record x { halt = halt }) rest split refl (sym value) (sym edges) held.edges (omega (arith, value, edges, held.size))

-- only the header was written, with no edge
pub holds_cleared : (was : Header) (room : ℕ) (frame out : List ℕ) → IsHeld was room frame → out ≡ header_bytes was.halt was.value 0 ++ drop 9 frame
    → Holds (record was { edges = 0 }) room (fitted frame out) (record (vertex_at was frame) { edges = [] })
unfolding body_of
holds_cleared was room frame out held is =
    let x = vertex_at was frame in
    let value = held_value was room frame held in
    let long = held_long was room frame held in
    let len : length out ≡ length frame = omega (arith, ap length is, length-drop 9 frame, long) in
    let rest = drop (body_len was.value was.edges) frame in
    let tail : (x.value ++ edges_bytes x.edges) ++ rest ≡ (x.value ++ []) ++ (edges_bytes x.edges ++ rest) =
    append_assoc x.value (edges_bytes x.edges) rest ∙ ap (λ (l : List ℕ). l ++ (edges_bytes x.edges ++ rest)) (sym (append-nil x.value)) in
    let split : out ≡ body_of (record x { edges = [] }) ++ (edges_bytes x.edges ++ rest) =
    is ∙ ap (λ (l : List ℕ). header_bytes was.halt was.value 0 ++ drop 9 l) (held_split was room frame held)
    ∙ ap (λ (n : ℕ). header_bytes was.halt n 0 ++ ((x.value ++ edges_bytes x.edges) ++ rest)) (sym value)
    ∙ ap (λ (l : List ℕ). header_bytes was.halt (length x.value) 0 ++ l) tail in
    holds_next was (record was { edges = 0 }) room frame out held len (record x { edges = [] }) (edges_bytes x.edges ++ rest) split refl (sym value) refl tt (omega (arith, value, held.size))

front_dropped : (bytes more : List ℕ) → 1 ≤ length bytes → drop 1 (bytes ++ more) ≡ drop 1 bytes ++ more
front_dropped [] more long = absurd (omega arith)
front_dropped (b ∷ bytes) more long = refl

-- only the first byte of the value was written
pub holds_first : (was : Header) (byte room : ℕ) (frame out : List ℕ) → IsHeld was room frame → 1 ≤ length (vertex_at was frame).value → out ≡ take 9 frame ++ byte ∷ drop 10 frame
    → Holds was room (fitted frame out) (record (vertex_at was frame) { value = byte ∷ drop 1 (vertex_at was frame).value })
unfolding body_of
holds_first was byte room frame out held some is =
    let x = vertex_at was frame in
    let value = held_value was room frame held in
    let edges = held_edges was room frame held in
    let long = held_long was room frame held in
    let next : List ℕ = byte ∷ drop 1 x.value in
    let next_len : length next ≡ length x.value = omega (arith, length-drop 1 x.value, some) in
    let targets : List ℕ = edges_bytes x.edges in
    let rest = drop (body_len was.value was.edges) frame in
    let split_is = held_split was room frame held in
    let first : take 9 frame ≡ header_bytes x.halt (length x.value) (length x.edges) = ap (take 9) split_is in
    let all_long : 1 ≤ length (x.value ++ targets) = omega (arith, length-append x.value targets, some) in
    let after : drop 10 frame ≡ (drop 1 x.value ++ targets) ++ rest =
    ap (drop 10) split_is ∙ front_dropped (x.value ++ targets) rest all_long ∙ ap (λ (l : List ℕ). l ++ rest) (front_dropped x.value targets some) in
    let split : out ≡ body_of (record x { value = next }) ++ rest =
    is ∙ ap (λ (l : List ℕ). l ++ byte ∷ drop 10 frame) first
    ∙ ap (λ (l : List ℕ). header_bytes x.halt (length x.value) (length x.edges) ++ byte ∷ l) after
    ∙ ap (λ (n : ℕ). header_bytes x.halt n (length x.edges) ++ ((next ++ targets) ++ rest)) (sym next_len) in
    let len : length out ≡ length frame =
    omega (arith, ap length is, length-append (take 9 frame) (byte ∷ drop 10 frame), length-take-le 9 frame (omega (arith, held.share.least)), length-drop 10 frame, held.share.least) in
    holds_next was was room frame out held len (record x { value = next }) rest split refl (omega (arith, next_len, value)) (sym edges) held.edges (omega (arith, value, edges, next_len, held.size))

-- an edge was added
pub holds_pushed : (was : Header) (room dst weight : ℕ) (frame out : List ℕ) → IsHeld was room frame → 12 + (22 + was.value + 12 * was.edges) ≤ room
    → dst < 2 ^ 64 → weight < 2 ^ 32
    → out ≡ header_bytes was.halt was.value (was.edges + 1) ++ drop 9 (take (body_len was.value was.edges) frame ++ edge_bytes (dst, weight) ++ drop (body_len was.value was.edges + 12) frame)
    → length out ≡ length frame
    → Holds (record was { edges = was.edges + 1 }) room (fitted frame out) (record (vertex_at was frame) { edges = (vertex_at was frame).edges ++ (dst, weight) ∷ [] })
unfolding body_of
holds_pushed was room dst weight frame out held free target small is len =
    let x = vertex_at was frame in
    let value = held_value was room frame held in
    let edges = held_edges was room frame held in
    let more : List (ℕ × ℕ) = x.edges ++ (dst, weight) ∷ [] in
    let count : length more ≡ was.edges + 1 = omega (arith, length_push x.edges (dst, weight), edges) in
    let rest = drop (body_len was.value was.edges + 12) frame in
    let tail : (x.value ++ edges_bytes x.edges) ++ edge_bytes (dst, weight) ≡ x.value ++ edges_bytes more =
    append_assoc x.value (edges_bytes x.edges) (edge_bytes (dst, weight)) ∙ ap (λ (l : List ℕ). x.value ++ l) (sym (edges_bytes-push x.edges (dst, weight))) in
    let split : out ≡ body_of (record x { edges = more }) ++ rest =
    is ∙ ap (λ (l : List ℕ). header_bytes was.halt was.value (was.edges + 1) ++ drop 9 (l ++ edge_bytes (dst, weight) ++ rest)) held.body
    ∙ ap (λ (n : ℕ). header_bytes was.halt n (was.edges + 1) ++ (((x.value ++ edges_bytes x.edges) ++ edge_bytes (dst, weight)) ++ rest)) (sym value)
    ∙ ap (λ (n : ℕ). header_bytes was.halt (length x.value) n ++ (((x.value ++ edges_bytes x.edges) ++ edge_bytes (dst, weight)) ++ rest)) (sym count)
    ∙ ap (λ (l : List ℕ). header_bytes was.halt (length x.value) (length more) ++ (l ++ rest)) tail in
    holds_next was (record was { edges = was.edges + 1 }) room frame out held len (record x { edges = more }) rest split refl (sym value) (sym count) (AreEdges-push x.edges (dst, weight) held.edges target small) (omega (arith, value, count, free))

-- these edges were put behind the value
pub holds_edges : (was : Header) (room n : ℕ) (frame out edges : List ℕ) → IsHeld was room frame → AreBytes edges → length edges ≡ 12 * n → 22 + was.value + 12 * n ≤ room
    → out ≡ header_bytes was.halt was.value n ++ drop 9 (take (9 + was.value) frame ++ edges ++ drop (9 + was.value + length edges) frame) → length out ≡ length frame
    → Holds (record was { edges = n }) room (fitted frame out) (record (vertex_at was frame) { edges = edges_in n edges })
unfolding body_of
holds_edges was room n frame out edges held all whole size is len =
    let x = vertex_at was frame in
    let value = held_value was room frame held in
    let next = edges_in n edges in
    let count : length next ≡ n = length-edges_in n edges in
    let rest = drop (9 + was.value + length edges) frame in
    let head : List ℕ = header_bytes x.halt (length x.value) (length x.edges) in
    let first : take 9 frame ≡ head = ap (take 9) (held_split was room frame held) in
    let begin : take (9 + was.value) frame ≡ head ++ x.value = take-add 9 was.value frame ∙ ap (λ (l : List ℕ). l ++ x.value) first in
    let bytes : edges ≡ edges_bytes next = sym (edges_bytes-in n edges (omega (arith, whole)) all ∙ take_all (12 * n) edges (omega (arith, whole))) in
    let split : out ≡ body_of (record x { edges = next }) ++ rest =
    is ∙ ap (λ (l : List ℕ). header_bytes was.halt was.value n ++ drop 9 (l ++ edges ++ rest)) begin
    ∙ ap (λ (k : ℕ). header_bytes was.halt k n ++ ((x.value ++ edges) ++ rest)) (sym value)
    ∙ ap (λ (k : ℕ). header_bytes was.halt (length x.value) k ++ ((x.value ++ edges) ++ rest)) (sym count)
    ∙ ap (λ (l : List ℕ). header_bytes was.halt (length x.value) (length next) ++ ((x.value ++ l) ++ rest)) bytes in
    holds_next was (record was { edges = n }) room frame out held len (record x { edges = next }) rest split refl (sym value) (sym count) (AreEdges-in n edges all) (omega (arith, value, count, size))

-- so many bytes of the value were kept, and more were put behind them
pub holds_extended : (was : Header) (room kept n : ℕ) (frame out more : List ℕ) → IsHeld was room frame → kept ≤ was.value → n ≡ kept + length more
    → 22 + n + 12 * was.edges ≤ room
    → take (body_len (kept + length more) was.edges) out
    ≡ header_bytes was.halt n was.edges ++ drop 9 (take (9 + kept) frame ++ more ++ take (12 * was.edges) (drop (9 + was.value) frame))
    → length out ≡ length frame
    → Holds (record was { value = n }) room (fitted frame out) (record (vertex_at was frame) { value = take kept (vertex_at was frame).value ++ more })
unfolding body_of
holds_extended was room kept n frame out more held few n_is size front len =
    let x = vertex_at was frame in
    let value = held_value was room frame held in
    let edges = held_edges was room frame held in
    let split_is = held_split was room frame held in
    let kept_len : length (take kept x.value) ≡ kept = length-take-le kept x.value (omega (arith, value)) in
    let next : List ℕ = take kept x.value ++ more in
    let next_len : length next ≡ n = omega (arith, length-append (take kept x.value) more, kept_len, n_is) in
    let rest = drop (body_len (kept + length more) was.edges) out in
    let head : List ℕ = header_bytes x.halt (length x.value) (length x.edges) in
    let first : take 9 frame ≡ head = ap (take 9) split_is in
    let begin : take (9 + kept) frame ≡ head ++ take kept x.value =
    take-add 9 kept frame ∙ ap (λ (l : List ℕ). l ++ take kept (drop 9 frame)) first ∙ ap (λ (l : List ℕ). head ++ l) (sym (take-take kept was.value (drop 9 frame) few)) in
    let targets : List ℕ = edges_bytes x.edges in
    let end = held_edge_bytes was room frame held in
    let split : out ≡ body_of (record x { value = next }) ++ rest =
    sym (take-append-drop (body_len (kept + length more) was.edges) out) ∙ ap (λ (l : List ℕ). l ++ rest) front
    ∙ ap (λ (l : List ℕ). (header_bytes was.halt n was.edges ++ drop 9 (l ++ more ++ take (12 * was.edges) (drop (9 + was.value) frame))) ++ rest) begin
    ∙ ap (λ (l : List ℕ). (header_bytes was.halt n was.edges ++ ((take kept x.value ++ more) ++ l)) ++ rest) end
    ∙ ap (λ (k : ℕ). (header_bytes was.halt k was.edges ++ ((take kept x.value ++ more) ++ targets)) ++ rest) (sym next_len)
    ∙ ap (λ (k : ℕ). (header_bytes was.halt (length next) k ++ ((take kept x.value ++ more) ++ targets)) ++ rest) (sym edges) in
    holds_next was (record was { value = n }) room frame out held len (record x { value = next }) rest split refl (sym next_len) (sym edges) held.edges (omega (arith, next_len, edges, size))

-- a body was put in front
pub holds_loaded : (was header : Header) (room : ℕ) (frame out body : List ℕ) → IsHeld was room frame → IsHeaderOf header body → AreBytes body → 13 + length body ≤ room
    → out ≡ body ++ drop (length body) frame → Holds header room (fitted frame out) (vertex_of body)
unfolding vertex_of
holds_loaded was header room frame out body held is all fits out_is =
    let vertex = IsVertex-of_body body all is.valid in
    let long = held.share.half in
    let len : length out ≡ length frame = omega (arith, ap length out_is, length-append body (drop (length body) frame), length-drop (length body) frame, held.share.half) in
    let split : out ≡ body_of (vertex_of body) ++ drop (length body) frame =
    out_is ∙ ap (λ (l : List ℕ). l ++ drop (length body) frame) (sym (body_of-vertex_of body all is.valid)) in
    let size = length-body_of (vertex_of body) in
    let same = ap length (body_of-vertex_of body all is.valid) in
    let value : length (vertex_of body).value ≡ header.value =
    length-value_in (slice_index body 0 == 1) (value_len_of body) (edge_count_of body) body (omega (arith, is.len, is.value)) ∙ sym is.value in
    let edges : length (vertex_of body).edges ≡ header.edges = length-edges_in (edge_count_of body) (drop (value_len_of body) (drop 9 body)) ∙ sym is.edges in
    holds_next was header room frame out held len (vertex_of body) (drop (length body) frame) split is.halt (sym value) (sym edges) vertex.edges (omega (arith, size, same, fits))
