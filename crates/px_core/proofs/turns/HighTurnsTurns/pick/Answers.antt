use Rattle.px_core.proofs.Bits.{power-is_highest}
use Rattle.px_core.proofs.turns.HighTurnsTurns.pick.Goals as goal

pub returns-clause-highest : goal.returns-clause-highest
returns-clause-highest c = power-is_highest c.args.ready c.ilog2.result c.ilog2.ensures.power_le c.ilog2.ensures.next_power_gt c.ilog2.ensures.bound
