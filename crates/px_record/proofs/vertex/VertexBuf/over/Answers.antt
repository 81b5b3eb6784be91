use Rattle.std.proofs.Common.{◌++◌, ℕ, List, false, drop, ap, ◌∙◌}
use Rattle.px_record.specs.Body.{header_bytes}
use Rattle.px_record.proofs.Held.{holds_fresh}
use Rattle.px_record.proofs.vertex.VertexBuf.over.Goals as goal

pub invariant_of-result : goal.invariant_of-result
invariant_of-result c =
    (holds_fresh c.args.room c.args.frame c.put.new.out c.requires (c.put.ensures ∙ ap (λ (l : List ℕ). header_bytes false 0 0 ++ drop 9 l) c.bytes_mut.ensures.value)).held
