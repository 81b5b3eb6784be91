use Rattle.std.proofs.Common.{rules, ◌≡◌, ap, subst, ◌∙◌, take, arith}
use Rattle.std.proofs.lemmas.Grind.{common_steps}
use Rattle.std.proofs.lemmas.Result.{err_from_is_err_and}
use Rattle.px_program.specs.Posted.{MadeFor}
use Rattle.px_programs.specs.Along.{over, distances, with_sends}
use Rattle.px_programs.proofs.AlongSteps.{adds_sends, more_along, valid_by, stops_along}
use Rattle.px_programs.proofs.along.send_distances.Goals as goal

pub loop-i-preserved : goal.loop-i-preserved
loop-i-preserved g c =
    let payload : c.distance_over.result ≡ over c.args.d c.edge-dst.result = grind (arith, common_steps) in
    let valid = valid_by _ _ c.distance_over.result (ap (λ (f : MadeFor). f.message) c.loop-i.invariant.stays ∙ c.requires.message) c.distance_over.ensures.valid in
    record {
      sent = λ p took. subst (g.O.Outbox.took c.send.new.self) (more_along with_sends adds_sends (over c.args.d) c.args.v.now.vertex.edges c.loop-i.i p c.edge-dst.result _ payload c.edge-dst.ensures) (c.in_ok-send.ensures.ok valid (with_sends (distances c.args.d (take c.loop-i.i c.args.v.now.vertex.edges)) p) (c.loop-i.invariant.sent p took));
      unspent = search rules;
      faults = search rules;
      pieces = search rules;
      stays = search rules;
    }

pub returns-in_err-send-clause-err : goal.returns-in_err-send-clause-err
returns-in_err-send-clause-err g c =
    let is = err_from_is_err_and c.from_residual.result c.from_residual.ensures.1 in
    let stop : is.0 ≡ c.in_err-send.field-0.0 = cc in
    let payload : c.distance_over.result ≡ over c.args.d c.edge-dst.result = grind (arith, common_steps) in
    let i = c.loop-i.invariant in
    let valid = valid_by _ _ c.distance_over.result (ap (λ (f : MadeFor). f.message) i.stays ∙ c.requires.message) c.distance_over.ensures.valid in
    rw (is.1, stop) (stops_along with_sends adds_sends (over c.args.d) _ c.loop-i.i c.edge-dst.result _ _ _ _ _ _ _ _ _ _ _ _ i.sent c.edge-dst.ensures payload i.stays i.faults valid c.in_err-send.ensures.err)
