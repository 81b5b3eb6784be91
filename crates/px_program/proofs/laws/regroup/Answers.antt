use Rattle.px_program.proofs.Weaving.{woven_alike}
use Rattle.px_program.proofs.laws.regroup.Goals as goal

pub returns : goal.returns
returns c = woven_alike
