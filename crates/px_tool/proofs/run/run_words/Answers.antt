use Rattle.std.proofs.Common.{◌≡◌, Some, sym, ◌∙◌}
use Rattle.px_words.specs.Words.{job_of}
use Rattle.px_tool.specs.Due.{words_of}
use Rattle.px_tool.proofs.Ended.{notes_named}
use Rattle.px_tool.proofs.run.run_words.Goals as goal

pub returns-clause-ended : goal.returns-clause-ended
returns-clause-ended g c =
    let is : job_of (words_of c.args.words.now) ≡ Some c.in-Some.job = sym c.in-Ok.ensures.job ∙ c.in-Some.is in
    c.run_text.ensures.ended (job_of (words_of c.args.words.now)) is

pub returns-clause-stats : goal.returns-clause-stats
returns-clause-stats g c =
    let is : job_of (words_of c.args.words.now) ≡ Some c.in-Some.job = sym c.in-Ok.ensures.job ∙ c.in-Some.is in
    c.run_text.ensures.stats (job_of (words_of c.args.words.now)) is

pub returns-clause-quiet : goal.returns-clause-quiet
returns-clause-quiet g c = λ none.
    let is : job_of (words_of c.args.words.now) ≡ Some c.in-Some.job = sym c.in-Ok.ensures.job ∙ c.in-Some.is in
    c.run_text.ensures.quiet (sym (notes_named (job_of (words_of c.args.words.now)) c.in-Some.job is) ∙ none)
