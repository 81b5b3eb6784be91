use Rattle.std.proofs.Common.{◌++◌, ℕ, List, false, drop, ap, ◌∙◌}
use Rattle.px_record.specs.Body.{header_bytes}
use Rattle.px_record.proofs.Held.{holds_fresh}
use Rattle.px_record.proofs.vertex.VertexBuf.reset.Goals as goal

pub invariant_of-self : goal.invariant_of-self
invariant_of-self c =
    (holds_fresh c.self.inside.room c.self.inside.frame c.put.new.out c.self.invariant.share (c.put.ensures ∙ ap (λ (l : List ℕ). header_bytes false 0 0 ++ drop 9 l) c.bytes_mut.ensures.value)).held
