use Rattle.std.proofs.Common.{◌≡◌, arith}
use Rattle.std.proofs.lemmas.Grind.{common_steps}
use Rattle.std.proofs.lemmas.Result.{IfErr-weaker}
use Rattle.px_program.specs.Posted.{IsPartOf}
use Rattle.px_programs.specs.Along.{along}
use Rattle.px_programs.specs.Answers.{spreads, posts}
use Rattle.px_programs.specs.ChainSteps.{posted}
use Rattle.px_programs.specs.Chains.{calls}
use Rattle.px_programs.proofs.PostSteps.{part_spread, part_posted, stops_as, stops_after}
use Rattle.px_programs.proofs.chains.Step.post.Goals as goal

pub returns-in-Tell-clause-err : goal.returns-in-Tell-clause-err
returns-in-Tell-clause-err g c =
    let x = c.args.v.now.vertex in
    let o = posted c.args.self c.args.v.now.vid x in
    let is : o ≡ spreads x (along c.note.result x.edges) = grind (arith, common_steps) in
    IfErr-weaker c.send_along.result _ _ (λ e. stops_as _ (IsPartOf o) _ _ _ _ _ _ e (λ old made. part_spread x (along c.note.result x.edges) o old made is)) c.send_along.ensures.err

pub returns-in-Join-clause-err : goal.returns-in-Join-clause-err
returns-in-Join-clause-err g c =
    let x = c.args.v.now.vertex in
    let o = posted c.args.self c.args.v.now.vid x in
    let is : o ≡ posts x 1 (calls c.args.v.now.vid x.edges) = grind (arith, common_steps) in
    IfErr-weaker c.call_next-in-Join.result _ _ (λ e k. stops_as _ (IsPartOf o) _ _ _ _ _ _ e (λ old made. part_posted x 1 (calls c.args.v.now.vid x.edges) o old made is)
    (stops_after 1 _ _ _ _ _ _ _ _ _ _ e c.contribute.ensures.posted c.contribute.ensures.stays c.contribute.ensures.faults k)) c.call_next-in-Join.ensures.err
