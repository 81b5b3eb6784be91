use Rattle.std.proofs.Common.{rules, ◌≡◌, subst, take, refl}
use Rattle.std.specs.Prelude.{IsTrue}
use Rattle.std.proofs.lemmas.Result.{err_from_is_err_and}
use Rattle.px_programs.specs.Along.{along, with_sends}
use Rattle.px_programs.proofs.AlongSteps.{adds_sends, more_along, stops_along}
use Rattle.px_programs.proofs.along.send_along.Goals as goal

pub loop-i-preserved : goal.loop-i-preserved
loop-i-preserved g c =
    let valid : IsTrue ((g.O.Outbox.made_for c.loop-i.out).message.valid c.args.payload.now) = rw c.loop-i.invariant.stays c.requires.valid in
    record {
      sent = λ p took. subst (g.O.Outbox.took c.send.new.self) (more_along with_sends adds_sends (λ e. c.args.payload.now) c.args.v.now.vertex.edges c.loop-i.i p c.edge-dst.result _ refl c.edge-dst.ensures) (c.in_ok-send.ensures.ok valid (with_sends (along c.args.payload.now (take c.loop-i.i c.args.v.now.vertex.edges)) p) (c.loop-i.invariant.sent p took));
      unspent = search rules;
      faults = search rules;
      pieces = search rules;
      stays = search rules;
    }

pub returns-in_err-send-clause-err : goal.returns-in_err-send-clause-err
returns-in_err-send-clause-err g c =
    let is = err_from_is_err_and c.from_residual.result c.from_residual.ensures.1 in
    let stop : is.0 ≡ c.in_err-send.field-0.0 = cc in
    let i = c.loop-i.invariant in
    rw (is.1, stop) (stops_along with_sends adds_sends (λ e. c.args.payload.now) _ c.loop-i.i c.edge-dst.result _ _ _ _ _ _ _ _ _ _ _ _ i.sent c.edge-dst.ensures refl i.stays i.faults (rw i.stays c.requires.valid) c.in_err-send.ensures.err)
