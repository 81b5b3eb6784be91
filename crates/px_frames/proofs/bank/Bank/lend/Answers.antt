use Rattle.std.proofs.Common.{◌<◌, length, arith}
use Rattle.std.proofs.lemmas.Grind.{common_steps}
use Rattle.px_frames.proofs.Slots.{with_home-set}
use Rattle.px_frames.proofs.bank.Bank.lend.Goals as goal

pub returns-clause-out : goal.returns-clause-out
returns-clause-out c =
    let in_range : c.args.slot < length c.self.inside.slots.items = grind (arith, common_steps) in
    rw (← c.self.view_is) (rw (c.deref_mut.ensures.value, c.take.ensures.after)
    (with_home-set _ _ _ _ _ _ _ in_range))
