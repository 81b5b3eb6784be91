use Rattle.std.proofs.Common.{◌≡◌, ◌≤◌, ◌<◌, ◌+◌, ◌*◌, ◌/◌, ◌++◌, ℕ, List, length, take, drop, ap, refl, sym, subst, ◌∙◌, arith}
use Rattle.std.proofs.lemmas.Bool.{false≢true}
use Rattle.px_meaning.specs.Graph.{vertex_size, size_of}
use Rattle.px_record.specs.Body.{header_bytes, edges_in}
use Rattle.px_record.specs.Held.{HeldVertex}
use Rattle.px_record.specs.Headers.{vertex_at}
use Rattle.px_record.proofs.Held.{holds_edges, held_value, held_edges, same_held, length-fitted}
use Rattle.px_record.proofs.vertex.VertexBuf.set_edges.Goals as goal

pub returns-then-edges-free-clause-wide : goal.returns-then-edges-free-clause-wide
returns-then-edges-free-clause-wide c =
    let was = c.self.inside.header in
    let frame = c.self.inside.frame in
    let x = vertex_at was frame in
    let n = length c.args.edges.now / 12 in
    let P : HeldVertex → Type 0 = λ held. c.free.result + vertex_size held.vertex ≡ held.room in
    let free : c.free.result + vertex_size x ≡ c.self.inside.room = subst P (sym c.self.view_is) c.free.ensures in
    let value = held_value was c.self.inside.room frame c.self.invariant in
    let edges = held_edges was c.self.inside.room frame c.self.invariant in
    let whole : length c.args.edges.now ≡ 12 * n = omega (arith, c.requires) in
    let wide : c.self.inside.room < size_of (length x.value) n = omega (arith, free, value, edges, whole, c.if-edges-free.true) in
    let Q : HeldVertex → Type 0 = λ held. held.room < size_of (length held.vertex.value) n in
    (λ is. subst Q c.self.view_is wide, λ is. refl)

pub returns-clause-wide : goal.returns-clause-wide
returns-clause-wide c =
    let was = c.self.inside.header in
    let frame = c.self.inside.frame in
    let x = vertex_at was frame in
    let n = length c.args.edges.now / 12 in
    let P : HeldVertex → Type 0 = λ held. c.free.result + vertex_size held.vertex ≡ held.room in
    let free : c.free.result + vertex_size x ≡ c.self.inside.room = subst P (sym c.self.view_is) c.free.ensures in
    let value = held_value was c.self.inside.room frame c.self.invariant in
    let edges = held_edges was c.self.inside.room frame c.self.invariant in
    let whole : length c.args.edges.now ≡ 12 * n = omega (arith, c.requires) in
    let Q : HeldVertex → Type 0 = λ held. held.room < size_of (length held.vertex.value) n → ⊥ in
    let fits : c.self.inside.room < size_of (length x.value) n → ⊥ = λ wide. omega (arith, free, value, edges, whole, c.if-edges-free.false, wide) in
    (λ is. absurd (false≢true is), λ wide. absurd (subst Q c.self.view_is fits wide))

pub invariant_of-self : goal.invariant_of-self
invariant_of-self c =
    let was = c.self.inside.header in
    let frame = c.self.inside.frame in
    let x = vertex_at was frame in
    let n = length c.args.edges.now / 12 in
    let P : HeldVertex → Type 0 = λ held. c.free.result + vertex_size held.vertex ≡ held.room in
    let free : c.free.result + vertex_size x ≡ c.self.inside.room = subst P (sym c.self.view_is) c.free.ensures in
    let value = held_value was c.self.inside.room frame c.self.invariant in
    let edges = held_edges was c.self.inside.room frame c.self.invariant in
    let whole : length c.args.edges.now ≡ 12 * n = omega (arith, c.requires) in
    let room : 22 + was.value + 12 * n ≤ c.self.inside.room = omega (arith, free, value, edges, whole, c.if-edges-free.false) in
    let len : length c.put_edges.new.bytes ≡ length frame = omega (arith, c.put_edges.auto.bytes, ap length c.bytes_mut.ensures.value) in
    let new : List ℕ → List ℕ = λ l. header_bytes was.halt was.value n ++ drop 9 (take (9 + was.value) l ++ c.args.edges.now ++ drop (9 + was.value + length c.args.edges.now) l) in
    let out = c.put_edges.ensures ∙ ap new c.bytes_mut.ensures.value in
    let put = holds_edges was c.self.inside.room n frame c.put_edges.new.bytes c.args.edges.now c.self.invariant (λ i. (c.type_inv.edges i).fits) whole room out len in
    put.held

pub returns-clause-ok : goal.returns-clause-ok
returns-clause-ok c =
    let was = c.self.inside.header in
    let frame = c.self.inside.frame in
    let x = vertex_at was frame in
    let n = length c.args.edges.now / 12 in
    let P : HeldVertex → Type 0 = λ held. c.free.result + vertex_size held.vertex ≡ held.room in
    let free : c.free.result + vertex_size x ≡ c.self.inside.room = subst P (sym c.self.view_is) c.free.ensures in
    let value = held_value was c.self.inside.room frame c.self.invariant in
    let edges = held_edges was c.self.inside.room frame c.self.invariant in
    let whole : length c.args.edges.now ≡ 12 * n = omega (arith, c.requires) in
    let room : 22 + was.value + 12 * n ≤ c.self.inside.room = omega (arith, free, value, edges, whole, c.if-edges-free.false) in
    let len : length c.put_edges.new.bytes ≡ length frame = omega (arith, c.put_edges.auto.bytes, ap length c.bytes_mut.ensures.value) in
    let new : List ℕ → List ℕ = λ l. header_bytes was.halt was.value n ++ drop 9 (take (9 + was.value) l ++ c.args.edges.now ++ drop (9 + was.value + length c.args.edges.now) l) in
    let out = c.put_edges.ensures ∙ ap new c.bytes_mut.ensures.value in
    let put = holds_edges was c.self.inside.room n frame c.put_edges.new.bytes c.args.edges.now c.self.invariant (λ i. (c.type_inv.edges i).fits) whole room out len in
    rw (← c.self.view_is)
    (same_held c.self.inside.vid c.self.inside.room _ (record x { edges = edges_in n c.args.edges.now }) _ (length frame) put.is (length-fitted frame c.put_edges.new.bytes len))
