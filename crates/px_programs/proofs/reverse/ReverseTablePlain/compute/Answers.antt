use Rattle.std.proofs.Common.{◌≡◌, [], arith}
use Rattle.std.proofs.lemmas.Grind.{common_steps}
use Rattle.std.proofs.lemmas.Result.{err_from_is_err_and}
use Rattle.std.specs.Prelude.{option_copied}
use Rattle.px_program.specs.Calls.{answer}
use Rattle.px_programs.specs.Along.{backs, SendsPart}
use Rattle.px_programs.specs.Answers.{spreads}
use Rattle.px_programs.specs.Reverse.{reverse, with_edges}
use Rattle.px_programs.proofs.PostSteps.{part_spread, stops_posting}
use Rattle.px_programs.proofs.reverse.ReverseTablePlain.compute.Goals as goal
use Rattle.px_programs.proofs.reverse.ReverseTablePlain.compute.Given.{Over}
use Rattle.px_programs.proofs.reverse.ReverseTablePlain.compute.Goals.{After-from_residual}

-- in the first superstep this is its answer
told : (g : Over) (c : After-from_residual g) → answer reverse c.args.at.now c.args.v.now (option_copied c.args.msg) ≡ spreads (with_edges [] c.args.v.now.vertex) (backs c.set_halt.new.self.vid c.set_halt.new.self.vertex.edges)
told g c = grind (arith, common_steps)

pub returns-in_err-send_back-clause-err : goal.returns-in_err-send_back-clause-err
returns-in_err-send_back-clause-err g c =
    let all = backs c.set_halt.new.self.vid c.set_halt.new.self.vertex.edges in
    let is = err_from_is_err_and c.from_residual.result c.from_residual.ensures.1 in
    let stop : is.0 ≡ c.in_err-send_back.field-0.0 = cc in
    rw (is.1, stop) (stops_posting (SendsPart all) _ _ _ _ _ _ _ _ _ c.in_err-send_back.field-0.0 (λ valid old made. part_spread _ all _ old made (told g c)) c.in_err-send_back.ensures.err)
