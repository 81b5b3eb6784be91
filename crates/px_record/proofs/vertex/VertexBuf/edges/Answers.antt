use Rattle.std.proofs.Common.{sym}
use Rattle.px_record.proofs.Held.{held_edges, held_within}
use Rattle.px_record.proofs.vertex.VertexBuf.edges.Goals as goal

pub returns-clause-within : goal.returns-clause-within
returns-clause-within c = rw (← c.self.view_is) (held_within c.self.inside.header c.self.inside.room c.self.inside.frame c.self.invariant c.self.inside.vid)

pub returns-clause-count : goal.returns-clause-count
returns-clause-count c = rw (← c.self.view_is) (sym (held_edges c.self.inside.header c.self.inside.room c.self.inside.frame c.self.invariant))
