use Rattle.std.proofs.Common.{◌≤◌, ◌∷◌, ◌++◌, ℕ, List, length, take, drop, ap, sym, subst, ◌∙◌}
use Rattle.px_record.specs.Held.{HeldVertex}
use Rattle.px_record.specs.Headers.{vertex_at}
use Rattle.px_record.proofs.Held.{holds_first}
use Rattle.px_record.proofs.vertex.VertexBuf.set_first.Goals as goal

pub invariant_of-self : goal.invariant_of-self
invariant_of-self c =
    let Q : HeldVertex → Type 0 = λ held. 1 ≤ length held.vertex.value in
    let some : 1 ≤ length (vertex_at c.self.inside.header c.self.inside.frame).value = subst Q (sym c.self.view_is) c.requires in
    let out = c.put_first.ensures ∙ ap (λ (l : List ℕ). take 9 l ++ c.args.byte ∷ drop 10 l) c.bytes_mut.ensures.value in
    (holds_first c.self.inside.header c.args.byte c.self.inside.room c.self.inside.frame c.put_first.new.bytes c.self.invariant some out).held
