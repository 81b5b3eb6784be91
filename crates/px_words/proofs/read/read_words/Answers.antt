use Rattle.std.proofs.Common.{sym, ◌∙◌}
use Rattle.px_words.proofs.Parsing.{screened_out}
use Rattle.px_words.proofs.read.read_words.Goals as goal

pub returns-then-not-all_pass-clause-job : goal.returns-then-not-all_pass-clause-job
returns-then-not-all_pass-clause-job c = sym (screened_out _ (sym c.all_pass.ensures ∙ c.if-not-all_pass.true))
