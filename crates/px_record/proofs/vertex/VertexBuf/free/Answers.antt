use Rattle.std.proofs.Common.{arith}
use Rattle.px_record.proofs.Held.{held_edges, held_value}
use Rattle.px_record.proofs.vertex.VertexBuf.free.Goals as goal

pub returns : goal.returns
returns c =
    let value = held_value c.self.inside.header c.self.inside.room c.self.inside.frame c.self.invariant in
    let edges = held_edges c.self.inside.header c.self.inside.room c.self.inside.frame c.self.invariant in
    rw (← c.self.view_is) (omega (arith, value, edges, c.self.invariant.size, c.body_len.ensures))
