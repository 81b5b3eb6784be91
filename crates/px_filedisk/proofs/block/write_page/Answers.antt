use Rattle.std.proofs.lemmas.Result.{on_err_weaker}
use Rattle.px_filedisk.proofs.Writing.{partly_put}
use Rattle.px_filedisk.proofs.block.write_page.Goals as goal

pub returns-clause-partly : goal.returns-clause-partly
returns-clause-partly g c = on_err_weaker c.write_at-2.result (partly_put _ _ _ _ _ _ _ _ c.in_ok-at.ensures.place c.stamp_of.ensures c.in_ok-write_at.ensures.written) c.write_at-2.ensures.partly
