use Rattle.std.proofs.Common.{◌≡◌, true, arith}
use Rattle.std.proofs.lemmas.Grind.{common_steps}
use Rattle.std.proofs.lemmas.Result.{IfErr-weaker}
use Rattle.std.specs.Prelude.{option_copied}
use Rattle.px_meaning.specs.Merge.{IsValidMessage}
use Rattle.px_program.specs.Calls.{answer}
use Rattle.px_program.specs.Numbers.{lesser_rule}
use Rattle.px_programs.specs.Along.{along}
use Rattle.px_programs.specs.Answers.{posts, valued}
use Rattle.px_programs.specs.Components.{components}
use Rattle.px_programs.proofs.PostSteps.{stops_posted}
use Rattle.px_programs.proofs.components.ComponentsTablePlain.compute.Goals as goal
use Rattle.px_programs.proofs.components.ComponentsTablePlain.compute.Given.{Over}
use Rattle.px_programs.proofs.components.ComponentsTablePlain.compute.Goals.{After-post_along}

-- where it sends along the edges, this is its answer
answered : (g : Over) (c : After-post_along g) → IsValidMessage lesser_rule (option_copied c.args.msg)
    → answer components c.args.at.now c.args.v.now (option_copied c.args.msg) ≡ posts (valued true c.in-Some.label c.args.v.now.vertex) 1 (along c.bytes_of-payload.result c.set_value.new.self.vertex.edges)
answered g c valid = grind (arith, common_steps)

pub returns-clause-err : goal.returns-clause-err
returns-clause-err g c = IfErr-weaker c.post_along.result _ _ (λ e. stops_posted _ _ _ _ _ _ _ _ _ _ _ _ e (answered g c)) c.post_along.ensures.err
