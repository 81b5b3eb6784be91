use Rattle.px_program.proofs.Weaving.{payload_below_fold}
use Rattle.px_program.proofs.laws.never_longer.Goals as goal

pub returns : goal.returns
returns c = payload_below_fold
