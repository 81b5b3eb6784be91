use Rattle.px_record.proofs.Held.{held_within}
use Rattle.px_record.proofs.vertex.VertexBuf.value.Goals as goal

pub returns-clause-within : goal.returns-clause-within
returns-clause-within c = rw (← c.self.view_is) (held_within c.self.inside.header c.self.inside.room c.self.inside.frame c.self.invariant c.self.inside.vid)
