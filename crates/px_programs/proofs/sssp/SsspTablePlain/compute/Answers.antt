use Rattle.std.proofs.Common.{◌≡◌, true, arith}
use Rattle.std.proofs.lemmas.Grind.{common_steps}
use Rattle.std.proofs.lemmas.Result.{IfErr-weaker}
use Rattle.std.specs.Prelude.{option_copied}
use Rattle.px_meaning.specs.Merge.{IsValidMessage}
use Rattle.px_program.specs.Calls.{answer}
use Rattle.px_program.specs.Numbers.{lesser_rule}
use Rattle.px_programs.specs.Along.{distances}
use Rattle.px_programs.specs.Answers.{posts, valued}
use Rattle.px_programs.specs.Sssp.{sssp}
use Rattle.px_programs.proofs.PostSteps.{stops_posted, stops_after}
use Rattle.px_programs.proofs.sssp.SsspTablePlain.compute.Goals as goal
use Rattle.px_programs.proofs.sssp.SsspTablePlain.compute.Given.{Over}
use Rattle.px_programs.proofs.sssp.SsspTablePlain.compute.Goals.{After-send_distances}

-- where it sends along the edges, this is its answer
answered : (g : Over) (c : After-send_distances g) → IsValidMessage lesser_rule (option_copied c.args.msg)
    → answer (sssp c.args.self.now.from) c.args.at.now c.args.v.now (option_copied c.args.msg) ≡ posts (valued true c.in-Find.d c.args.v.now.vertex) 1 (distances c.in-Find.d c.set_value.new.self.vertex.edges)
answered g c valid = grind (arith, common_steps)

pub returns-else-is_err-clause-err : goal.returns-else-is_err-clause-err
returns-else-is_err-clause-err g c = IfErr-weaker c.send_distances.result _ _ (λ e stop. stops_posted _ _ _ _ _ _ _ _ _ _ _ _ e (answered g c)
    (stops_after 1 _ _ _ _ _ _ _ _ _ _ e c.contribute.ensures.posted c.contribute.ensures.stays c.contribute.ensures.faults stop)) c.send_distances.ensures.err
