use Rattle.std.proofs.Common.{◌≡◌, ◌∙◌, sym, subst, ap, length}
use Rattle.px_frames.proofs.Slots.{refill_same}
use Rattle.px_connectors.specs.Writers.{EachWriter, WritesPart}
use Rattle.px_connectors.proofs.Parting.{are_turned}
use Rattle.px_connectors.proofs.writers.PartWriters.turn_to.Goals as goal

pub invariant_of-self : goal.invariant_of-self
invariant_of-self c =
    let ws = c.self.inside.writers.items in
    let value = c.deref_mut.ensures.value in
    let long : length c.turn_all.new.writers ≡ length ws = c.turn_all.ensures.len ∙ ap length value in
    rw (refill_same ws c.turn_all.new.writers long)
    (are_turned _ _ _ _ ws c.turn_all.new.writers long c.requires (λ each. c.turn_all.ensures.each c.self.inside.first c.self.inside.frame_len (subst (EachWriter (WritesPart c.self.inside.first c.self.inside.frame_len)) (sym value) each)) c.self.invariant.0, c.self.invariant.1)

pub returns-clause-are : goal.returns-clause-are
returns-clause-are c =
    let ws = c.self.inside.writers.items in
    let value = c.deref_mut.ensures.value in
    let long : length c.turn_all.new.writers ≡ length ws = c.turn_all.ensures.len ∙ ap length value in
    rw (refill_same ws c.turn_all.new.writers long)
    (are_turned _ _ _ _ ws c.turn_all.new.writers long c.requires (λ each. c.turn_all.ensures.each c.self.inside.first c.self.inside.frame_len (subst (EachWriter (WritesPart c.self.inside.first c.self.inside.frame_len)) (sym value) each)) c.self.invariant.0)
