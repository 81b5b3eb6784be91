use Rattle.std.proofs.Common.{refl}
use Rattle.px_core.proofs.Steps.{clean_refl}
use Rattle.px_program.specs.Groups.{IsOwn}
use Rattle.px_program.proofs.Stopping.{stops_beyond}
use Rattle.px_compute_op.proofs.Taking.{past_is_beyond}
use Rattle.px_compute_op.proofs.outs.add_send.Goals as goal

pub returns-then-is_past-clause-err : goal.returns-then-is_past-clause-err
returns-then-is_past-clause-err g c =
    let s = g.SD.Disk.shown c.args.disk.now in
    let rule = g.M.Merge.rule c.args.merge.now in
    let own = IsOwn (g.G.Group.made c.args.group.now) in
    stops_beyond own _ s s _ refl (clean_refl own s) (λ l valid took is.
    past_is_beyond rule (g.met.M.Merge.laws c.args.merge.now) c.args.room c.args.sends.now l c.args.to c.args.payload.now (g.met.G.Group.valid s c.args.group.now rule l took) valid is (c.is_past.ensures.past c.if-is_past.true))
