use Rattle.std.proofs.Common.{◌+◌, ◌*◌, ◌<◌, ℕ, List, Some, length, drop, ap, sym, subst, ◌∙◌, arith}
use Rattle.px_record.specs.Body.{edge_at}
use Rattle.px_record.specs.Held.{HeldVertex}
use Rattle.px_record.specs.Headers.{vertex_at}
use Rattle.px_record.proofs.Held.{held_edge, held_edges, held_long}
use Rattle.px_record.proofs.vertex.VertexBuf.edge.Goals as goal

pub edge_at-requires : goal.edge_at-requires
edge_at-requires c =
    let h = c.self.inside.header in
    let P : HeldVertex → Type 0 = λ held. c.args.i < length held.vertex.edges in
    let below : c.args.i < length (vertex_at h c.self.inside.frame).edges = subst P (sym c.self.view_is) c.requires in
    let count = held_edges h c.self.inside.room c.self.inside.frame c.self.invariant in
    let long = held_long h c.self.inside.room c.self.inside.frame c.self.invariant in
    let same = ap length c.bytes.ensures in
    omega (arith, below, count, long, same)

pub returns : goal.returns
returns c =
    let h = c.self.inside.header in
    let P : HeldVertex → Type 0 = λ held. c.args.i < length held.vertex.edges in
    let below : c.args.i < length (vertex_at h c.self.inside.frame).edges = subst P (sym c.self.view_is) c.requires in
    let count = held_edges h c.self.inside.room c.self.inside.frame c.self.invariant in
    let found = held_edge h c.self.inside.room c.self.inside.frame c.self.invariant c.args.i (omega (arith, below, count)) in
    rw (← c.self.view_is)
    (found ∙ ap (λ (l : List ℕ). Some (edge_at (drop (9 + h.value + 12 * c.args.i) l))) (sym c.bytes.ensures) ∙ ap Some (sym c.edge_at.ensures))
