use Rattle.px_verdict.specs.Verdict.{delete_is}
use Rattle.px_verdict.proofs.laws.delete_removes.Goals as goal

pub returns : goal.returns
returns c = delete_is
