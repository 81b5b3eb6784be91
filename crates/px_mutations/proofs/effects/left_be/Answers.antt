use Rattle.std.proofs.Common.{◌≡◌, Bool, true, false, not, ◌&&◌, sym, ◌∙◌, ap}
use Rattle.px_mutations.specs.declared.effects.Effect.{Effect}
use Rattle.px_mutations.proofs.Effecting.{same_effect}
use Rattle.px_mutations.proofs.effects.left_be.Goals as goal

abbrev made : Bool → Effect
made b = record { added = false; removed = false; live = b }

pub returns-then-was : goal.returns-then-was
returns-then-was c = λ l m at. same_effect _ c.args.was c.args.first.now.vid c.args.first.now.room c.args.first.now.vertex l m at c.room-room.ensures.within.size
    (let live : not c.halt.result ≡ (c.args.was && not c.args.first.now.vertex.halt) = ap not c.halt.ensures ∙ ap (λ (b : Bool). b && not c.args.first.now.vertex.halt) (sym c.if-was.true) in
    ap made live)

pub returns-else-was : goal.returns-else-was
returns-else-was c = λ l m at. same_effect _ c.args.was c.args.first.now.vid c.args.first.now.room c.args.first.now.vertex l m at c.room-room.ensures.within.size
    (let live : c.args.was ≡ (c.args.was && not c.args.first.now.vertex.halt) = c.if-was.false ∙ ap (λ (b : Bool). b && not c.args.first.now.vertex.halt) (sym c.if-was.false) in
    ap made live)
