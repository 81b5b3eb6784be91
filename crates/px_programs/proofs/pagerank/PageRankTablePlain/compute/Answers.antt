use Rattle.std.proofs.Common.{◌≡◌, false, arith}
use Rattle.std.proofs.lemmas.Grind.{common_steps}
use Rattle.std.proofs.lemmas.Result.{IfErr-weaker}
use Rattle.std.specs.Prelude.{option_copied}
use Rattle.px_meaning.specs.Merge.{IsValidMessage}
use Rattle.px_program.specs.Calls.{answer}
use Rattle.px_program.specs.Numbers.{sum_rule}
use Rattle.px_programs.specs.Along.{along}
use Rattle.px_programs.specs.Answers.{posts, valued}
use Rattle.px_programs.specs.PageRank.{pagerank}
use Rattle.px_programs.proofs.PostSteps.{stops_posted}
use Rattle.px_programs.proofs.pagerank.PageRankTablePlain.compute.Goals as goal
use Rattle.px_programs.proofs.pagerank.PageRankTablePlain.compute.Given.{Over}
use Rattle.px_programs.proofs.pagerank.PageRankTablePlain.compute.Goals.{After-post_along}

-- where it sends along the edges, this is its answer
answered : (g : Over) (c : After-post_along g) → IsValidMessage sum_rule (option_copied c.args.msg)
    → answer (pagerank c.args.self.now.rounds) c.args.at.now c.args.v.now (option_copied c.args.msg) ≡ posts (valued false c.in-Some.rank c.args.v.now.vertex) c.in-Some.rank (along c.bytes_of-2.result c.set_value.new.self.vertex.edges)
answered g c valid = grind (arith, common_steps)

pub returns-clause-err : goal.returns-clause-err
returns-clause-err g c = IfErr-weaker c.post_along.result _ _ (λ e. stops_posted _ _ _ _ _ _ _ _ _ _ _ _ e (answered g c)) c.post_along.ensures.err
