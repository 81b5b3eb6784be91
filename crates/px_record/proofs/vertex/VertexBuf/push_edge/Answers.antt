use Rattle.std.proofs.Common.{◌≡◌, ◌≤◌, ◌+◌, ◌*◌, ◌++◌, ℕ, List, [], ◌∷◌, length, take, drop, ap, sym, subst, ◌∙◌, arith}
use Rattle.px_meaning.specs.Graph.{vertex_size}
use Rattle.px_record.specs.Body.{header_bytes, edge_bytes}
use Rattle.px_record.specs.Held.{HeldVertex}
use Rattle.px_record.specs.Headers.{vertex_at}
use Rattle.px_record.proofs.Held.{holds_pushed, held_value, held_edges, same_held, length-fitted}
use Rattle.px_record.proofs.vertex.VertexBuf.push_edge.Goals as goal

pub invariant_of-self : goal.invariant_of-self
invariant_of-self c =
    let was = c.self.inside.header in
    let frame = c.self.inside.frame in
    let x = vertex_at was frame in
    let P : HeldVertex → Type 0 = λ held. c.free.result + vertex_size held.vertex ≡ held.room in
    let free : c.free.result + vertex_size x ≡ c.self.inside.room = subst P (sym c.self.view_is) c.free.ensures in
    let value = held_value was c.self.inside.room frame c.self.invariant in
    let edges = held_edges was c.self.inside.room frame c.self.invariant in
    let room : 12 + (22 + was.value + 12 * was.edges) ≤ c.self.inside.room = omega (arith, free, value, edges) in
    let len : length c.add_edge.new.bytes ≡ length frame = omega (arith, c.add_edge.auto.bytes, ap length c.bytes_mut.ensures.value) in
    let new : ℕ → List ℕ → List ℕ = λ at l. header_bytes was.halt was.value (was.edges + 1) ++ drop 9 (take at l ++ edge_bytes (c.args.dst, c.args.weight) ++ drop (at + 12) l) in
    let out = c.add_edge.ensures ∙ ap (new c.body_len-at.result) c.bytes_mut.ensures.value ∙ ap (λ (n : ℕ). new n frame) c.body_len-at.ensures in
    let pushed = holds_pushed was c.self.inside.room c.args.dst c.args.weight frame c.add_edge.new.bytes c.self.invariant room c.ranges.dst.fits c.ranges.weight.fits out len in
    pushed.held

pub returns-clause-ok : goal.returns-clause-ok
returns-clause-ok c =
    let was = c.self.inside.header in
    let frame = c.self.inside.frame in
    let x = vertex_at was frame in
    let P : HeldVertex → Type 0 = λ held. c.free.result + vertex_size held.vertex ≡ held.room in
    let free : c.free.result + vertex_size x ≡ c.self.inside.room = subst P (sym c.self.view_is) c.free.ensures in
    let value = held_value was c.self.inside.room frame c.self.invariant in
    let edges = held_edges was c.self.inside.room frame c.self.invariant in
    let room : 12 + (22 + was.value + 12 * was.edges) ≤ c.self.inside.room = omega (arith, free, value, edges) in
    let len : length c.add_edge.new.bytes ≡ length frame = omega (arith, c.add_edge.auto.bytes, ap length c.bytes_mut.ensures.value) in
    let new : ℕ → List ℕ → List ℕ = λ at l. header_bytes was.halt was.value (was.edges + 1) ++ drop 9 (take at l ++ edge_bytes (c.args.dst, c.args.weight) ++ drop (at + 12) l) in
    let out = c.add_edge.ensures ∙ ap (new c.body_len-at.result) c.bytes_mut.ensures.value ∙ ap (λ (n : ℕ). new n frame) c.body_len-at.ensures in
    let pushed = holds_pushed was c.self.inside.room c.args.dst c.args.weight frame c.add_edge.new.bytes c.self.invariant room c.ranges.dst.fits c.ranges.weight.fits out len in
    rw (← c.self.view_is)
    (same_held c.self.inside.vid c.self.inside.room _ (record x { edges = x.edges ++ (c.args.dst, c.args.weight) ∷ [] }) _ (length frame) pushed.is (length-fitted frame c.add_edge.new.bytes len))
