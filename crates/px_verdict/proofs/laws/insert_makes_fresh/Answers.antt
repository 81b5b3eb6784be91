use Rattle.px_verdict.specs.Verdict.{insert_fresh_is}
use Rattle.px_verdict.proofs.laws.insert_makes_fresh.Goals as goal

pub returns : goal.returns
returns c = insert_fresh_is
