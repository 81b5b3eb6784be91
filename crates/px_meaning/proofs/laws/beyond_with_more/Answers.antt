use Rattle.px_meaning.proofs.Limits.{beyond_with_more}
use Rattle.px_meaning.proofs.laws.beyond_with_more.Goals as goal

pub returns : goal.returns
returns c = beyond_with_more
