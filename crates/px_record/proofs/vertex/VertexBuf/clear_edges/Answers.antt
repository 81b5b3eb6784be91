use Rattle.std.proofs.Common.{◌++◌, ℕ, List, drop, ap, ◌∙◌}
use Rattle.px_record.specs.Body.{header_bytes}
use Rattle.px_record.proofs.Held.{holds_cleared}
use Rattle.px_record.proofs.vertex.VertexBuf.clear_edges.Goals as goal

pub invariant_of-self : goal.invariant_of-self
invariant_of-self c =
    let was = c.self.inside.header in
    (holds_cleared was c.self.inside.room c.self.inside.frame c.put.new.out c.self.invariant (c.put.ensures ∙ ap (λ (l : List ℕ). header_bytes was.halt was.value 0 ++ drop 9 l) c.bytes_mut.ensures.value)).held
