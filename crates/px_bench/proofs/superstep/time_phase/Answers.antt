use Rattle.std.proofs.Common.{ℕ, sym, ap, subst}
use Rattle.px_store.specs.Joins.{JoinView}
use Rattle.px_compute_op.specs.Phase.{AreApart}
use Rattle.px_bench.proofs.superstep.time_phase.Goals as goal

pub run_partition-requires-clause-apart : goal.run_partition-requires-clause-apart
run_partition-requires-clause-apart g c =
    let ins = (g.J.Join.view c.start-3.new.self).inputs in
    let stays = c.in_ok-start-3.ensures.stays in
    subst (λ (u : ℕ). AreApart (g.G.Group.made c.args.bench.now.group) u ins) (sym c.in_ok-start.ensures.stays.file)
    (c.requires.apart ins (ap (λ (v : JoinView). v.inputs.msg_file) stays) (ap (λ (v : JoinView). v.inputs.vid_file) stays))
