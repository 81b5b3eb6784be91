use Rattle.std.proofs.Common.{◌≡◌, ◌≤◌, ◌+◌, ◌*◌, ◌++◌, ℕ, List, length, take, drop, ap, refl, sym, subst, ◌∙◌, arith}
use Rattle.px_meaning.specs.Graph.{vertex_size}
use Rattle.px_record.specs.Body.{header_bytes}
use Rattle.px_record.specs.Held.{HeldVertex}
use Rattle.px_record.specs.Headers.{vertex_at}
use Rattle.px_record.proofs.Held.{holds_extended, held_value, held_edges, same_held, length-fitted}
use Rattle.px_record.proofs.vertex.VertexBuf.write_value.Goals as goal

pub invariant_of-self : goal.invariant_of-self
invariant_of-self c =
    let was = c.self.inside.header in
    let frame = c.self.inside.frame in
    let x = vertex_at was frame in
    let P : HeldVertex → Type 0 = λ held. c.free.result + vertex_size held.vertex ≡ held.room in
    let free : c.free.result + vertex_size x ≡ c.self.inside.room = subst P (sym c.self.view_is) c.free.ensures in
    let Q : HeldVertex → Type 0 = λ held. c.args.from ≤ length held.vertex.value in
    let few : c.args.from ≤ length x.value = subst Q (sym c.self.view_is) c.requires in
    let value = held_value was c.self.inside.room frame c.self.invariant in
    let edges = held_edges was c.self.inside.room frame c.self.invariant in
    let kept : c.args.from ≤ was.value = omega (arith, few, value) in
    let n = c.args.from + length c.args.more.now in
    let room : 22 + n + 12 * was.edges ≤ c.self.inside.room = omega (arith, free, value, edges, kept, c.if-more-free.false) in
    let len : length c.put_value.new.bytes ≡ length frame = omega (arith, c.put_value.auto.bytes, ap length c.bytes_mut.ensures.value) in
    let new : List ℕ → List ℕ = λ l. header_bytes was.halt n was.edges ++ drop 9 (take (9 + c.args.from) l ++ c.args.more.now ++ take (12 * was.edges) (drop (9 + was.value) l)) in
    let out = c.put_value.ensures ∙ ap new c.bytes_mut.ensures.value in
    let extended = holds_extended was c.self.inside.room c.args.from n frame c.put_value.new.bytes c.args.more.now c.self.invariant kept refl room out len in
    extended.held

pub returns-clause-ok : goal.returns-clause-ok
returns-clause-ok c =
    let was = c.self.inside.header in
    let frame = c.self.inside.frame in
    let x = vertex_at was frame in
    let P : HeldVertex → Type 0 = λ held. c.free.result + vertex_size held.vertex ≡ held.room in
    let free : c.free.result + vertex_size x ≡ c.self.inside.room = subst P (sym c.self.view_is) c.free.ensures in
    let Q : HeldVertex → Type 0 = λ held. c.args.from ≤ length held.vertex.value in
    let few : c.args.from ≤ length x.value = subst Q (sym c.self.view_is) c.requires in
    let value = held_value was c.self.inside.room frame c.self.invariant in
    let edges = held_edges was c.self.inside.room frame c.self.invariant in
    let kept : c.args.from ≤ was.value = omega (arith, few, value) in
    let n = c.args.from + length c.args.more.now in
    let room : 22 + n + 12 * was.edges ≤ c.self.inside.room = omega (arith, free, value, edges, kept, c.if-more-free.false) in
    let len : length c.put_value.new.bytes ≡ length frame = omega (arith, c.put_value.auto.bytes, ap length c.bytes_mut.ensures.value) in
    let new : List ℕ → List ℕ = λ l. header_bytes was.halt n was.edges ++ drop 9 (take (9 + c.args.from) l ++ c.args.more.now ++ take (12 * was.edges) (drop (9 + was.value) l)) in
    let out = c.put_value.ensures ∙ ap new c.bytes_mut.ensures.value in
    let extended = holds_extended was c.self.inside.room c.args.from n frame c.put_value.new.bytes c.args.more.now c.self.invariant kept refl room out len in
    rw (← c.self.view_is)
    (same_held c.self.inside.vid c.self.inside.room _ (record x { value = take c.args.from x.value ++ c.args.more.now }) _ (length frame) extended.is (length-fitted frame c.put_value.new.bytes len))
