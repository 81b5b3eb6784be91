use Rattle.std.proofs.Common.{◌<◌, length, arith}
use Rattle.std.proofs.lemmas.Grind.{common_steps}
use Rattle.px_frames.proofs.Slots.{with_home-set}
use Rattle.px_frames.proofs.bank.Bank.give.Goals as goal

pub returns : goal.returns
returns c =
    let in_range : c.args.slot < length c.self.inside.slots.items = grind (arith, common_steps) in
    rw (← c.self.view_is) (rw c.deref_mut.ensures.value (with_home-set _ _ _ _ _ _ _ in_range))
