use Rattle.std.proofs.Common.{ℕ, ◌+◌, List, take, length, ap, arith, ◌∙◌}
use Rattle.px_record.specs.Headers.{vertex_at}
use Rattle.px_record.proofs.Laws.{length-body_of}
use Rattle.px_record.specs.Body.{is_vertex_body, body_len, vertex_of}
use Rattle.px_record.proofs.Held.{held_spells, held_valid, held_within}
use Rattle.px_record.proofs.vertex.VertexBuf.body.Goals as goal

pub returns-clause-valid : goal.returns-clause-valid
returns-clause-valid c =
    ap (λ (n : ℕ). is_vertex_body (take n c.bytes.result.now)) c.body_len.ensures
    ∙ ap (λ (l : List ℕ). is_vertex_body (take (body_len c.self.inside.header.value c.self.inside.header.edges) l)) c.bytes.ensures
    ∙ held_valid c.self.inside.header c.self.inside.room c.self.inside.frame c.self.invariant

pub returns-clause-spells : goal.returns-clause-spells
returns-clause-spells c =
    rw (← c.self.view_is)
    (ap (λ (n : ℕ). vertex_of (take n c.bytes.result.now)) c.body_len.ensures
    ∙ ap (λ (l : List ℕ). vertex_of (take (body_len c.self.inside.header.value c.self.inside.header.edges) l)) c.bytes.ensures
    ∙ held_spells c.self.inside.header c.self.inside.room c.self.inside.frame c.self.invariant)

pub returns-clause-within : goal.returns-clause-within
returns-clause-within c = rw (← c.self.view_is) (held_within c.self.inside.header c.self.inside.room c.self.inside.frame c.self.invariant c.self.inside.vid)

pub returns-clause-len : goal.returns-clause-len
returns-clause-len c =
    let header = c.self.inside.header in
    let frame = c.self.inside.frame in
    rw (← c.self.view_is)
    (ap (λ (n : ℕ). 13 + length (take n c.bytes.result.now)) c.body_len.ensures
    ∙ ap (λ (l : List ℕ). 13 + length (take (body_len header.value header.edges) l)) c.bytes.ensures
    ∙ ap (λ (l : List ℕ). 13 + length l) c.self.invariant.body
    ∙ omega (arith, length-body_of (vertex_at header frame)))
