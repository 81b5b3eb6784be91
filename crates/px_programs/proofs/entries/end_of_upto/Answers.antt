use Rattle.std.proofs.Common.{◌<◌, ◌+◌, ◌-◌, ◌/◌, refl, arith}
use Rattle.px_programs.proofs.EntryPlaces.{span_low, span_high}
use Rattle.px_programs.proofs.entries.end_of_upto.Goals as goal

pub loop-low-preserved-then-is_after : goal.loop-low-preserved-then-is_after
loop-low-preserved-then-is_after c = record {
  span = λ ordered. span_high c.args.held c.loop-low.low c.loop-low.high (c.loop-low.low + (c.loop-low.high - c.loop-low.low) / 2) c.args.entry.now c.args.bytes.now ordered (c.loop-low.invariant.span ordered) (cc);
  order = omega arith;
  within = omega arith;
}

pub loop-low-preserved : goal.loop-low-preserved
loop-low-preserved c =
    let middle = c.loop-low.low + (c.loop-low.high - c.loop-low.low) / 2 in
    let below : middle < c.args.held = omega arith in
    record {
      span = λ ordered. span_low c.args.held c.loop-low.low c.loop-low.high middle _ c.args.entry.now c.args.bytes.now ordered (c.loop-low.invariant.span ordered) below refl (cc);
      order = omega arith;
      within = omega arith;
    }
