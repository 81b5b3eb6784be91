use Rattle.std.proofs.Common.{◌≡◌, ◌+◌, ◌-◌, ◌*◌, ℕ, List, take, drop, ap, ◌∙◌, arith}
use Rattle.px_record.proofs.Held.{held_edge_bytes, held_within}
use Rattle.px_record.proofs.vertex.VertexBuf.edge_bytes.Goals as goal

pub returns-clause-bytes : goal.returns-clause-bytes
returns-clause-bytes c =
    let header = c.self.inside.header in
    let count : c.body_len.result - (9 + header.value) ≡ 12 * header.edges = omega (arith, c.body_len.ensures) in
    rw (← c.self.view_is)
    (ap (λ (n : ℕ). take n (drop (9 + header.value) c.bytes.result.now)) count
    ∙ ap (λ (l : List ℕ). take (12 * header.edges) (drop (9 + header.value) l)) c.bytes.ensures
    ∙ held_edge_bytes header c.self.inside.room c.self.inside.frame c.self.invariant)

pub returns-clause-within : goal.returns-clause-within
returns-clause-within c = rw (← c.self.view_is) (held_within c.self.inside.header c.self.inside.room c.self.inside.frame c.self.invariant c.self.inside.vid)
