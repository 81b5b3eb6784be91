use Rattle.std.proofs.Common.{◌≡◌, arith}
use Rattle.std.proofs.lemmas.Grind.{common_steps}
use Rattle.std.proofs.lemmas.Result.{IfErr-weaker}
use Rattle.std.specs.Prelude.{option_copied}
use Rattle.px_program.specs.Calls.{answer}
use Rattle.px_verdict.specs.Verdict.{insert_fresh, insert_fresh_is}
use Rattle.px_programs.specs.Along.{along, RequestsPart}
use Rattle.px_programs.specs.Answers.{asks, halted}
use Rattle.px_programs.specs.Close.{close}
use Rattle.px_programs.proofs.AlongSteps.{valid_by}
use Rattle.px_programs.proofs.PostSteps.{part_asked, stops_posting}
use Rattle.px_programs.proofs.close.CloseTablePlain.compute.Goals as goal
use Rattle.px_programs.proofs.close.CloseTablePlain.compute.Given.{Over}
use Rattle.px_programs.proofs.close.CloseTablePlain.compute.Goals.{After-request_along}

pub request_along-requires-clause-valid : goal.request_along-requires-clause-valid
request_along-requires-clause-valid g c = valid_by _ _ insert_fresh c.requires.verdict insert_fresh_is.valid

-- where it requests, this is its answer
asked : (g : Over) (c : After-request_along g) → answer close c.args.at.now c.args.v.now (option_copied c.args._msg) ≡ asks (halted c.args.v.now.vertex) (along insert_fresh c.set_halt.new.self.vertex.edges)
asked g c = grind (arith, common_steps)

pub returns-then-at-eq0-clause-err : goal.returns-then-at-eq0-clause-err
returns-then-at-eq0-clause-err g c =
    let all = along insert_fresh c.set_halt.new.self.vertex.edges in
    IfErr-weaker c.request_along.result _ _ (λ e. stops_posting (RequestsPart all) _ _ _ _ _ _ _ _ _ e (λ valid old made. part_asked _ all _ old made (asked g c))) c.request_along.ensures.err
