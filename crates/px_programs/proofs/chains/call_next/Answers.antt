use Rattle.std.proofs.Common.{◌≡◌, [], ◌∷◌, arith}
use Rattle.std.proofs.lemmas.Grind.{common_steps}
use Rattle.std.proofs.lemmas.Result.{IfErr-weaker}
use Rattle.px_programs.specs.Chains.{calls}
use Rattle.px_programs.proofs.AlongSteps.{valid_by}
use Rattle.px_programs.proofs.ChainPosts.{stops_one_send}
use Rattle.px_programs.specs.ChainMessages.{chain_rule}
use Rattle.px_programs.proofs.chains.call_next.Goals as goal

pub returns-clause-err : goal.returns-clause-err
returns-clause-err g c =
    let one : calls c.args.v.now.vid c.args.v.now.vertex.edges ≡ (c.edge-next.result.0, c.note.result) ∷ [] = grind (arith, common_steps) in
    let valid = valid_by (g.O.Outbox.made_for c.args.out.now).message chain_rule c.note.result c.requires.message c.note.ensures.valid in
    IfErr-weaker c.send.result _ _ (λ e. stops_one_send c.edge-next.result.0 c.note.result _ _ _ _ _ _ _ _ e one valid) c.send.ensures.err
