use Rattle.std.proofs.Common.{◌<◌, ◌-◌, refl, arith}
use Rattle.px_programs.proofs.EntryPlaces.{span_low, span_high}
use Rattle.px_programs.proofs.entries.near.Goals as goal

pub returns-then-not-is_after-clause-span : goal.returns-then-not-is_after-clause-span
returns-then-not-is_after-clause-span c = λ ordered.
    let below : c.loop-step.high - c.loop-step.step < c.args.held = omega arith in
    span_low c.args.held 0 c.loop-step.high (c.loop-step.high - c.loop-step.step) _ c.args.entry.now c.args.bytes.now ordered (c.loop-step.invariant.span ordered) below refl (cc)

pub loop-step-preserved : goal.loop-step-preserved
loop-step-preserved c = record {
  span = λ ordered. span_high c.args.held 0 c.loop-step.high (c.loop-step.high - c.loop-step.step) c.args.entry.now c.args.bytes.now ordered (c.loop-step.invariant.span ordered) (cc);
  within = omega arith;
  some = omega arith;
}
