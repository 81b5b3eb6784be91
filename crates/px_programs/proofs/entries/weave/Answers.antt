use Rattle.std.proofs.Common.{◌≡◌, ◌+◌, ◌-◌, ◌∙◌, arith}
use Rattle.px_programs.specs.Entries.{count}
use Rattle.px_programs.proofs.EntryPlaces.{sliced_entry}
use Rattle.px_programs.proofs.WeavingSteps.{put_woven, put_ordered, first_ordered, all_woven}
use Rattle.px_programs.proofs.entries.weave.Goals as goal

pub loop-left-preserved : goal.loop-left-preserved
loop-left-preserved c =
    let gap = c.loop-left.left - 1 in
    let put = c.put-first.ensures.put in
    let is : c.loop-left.left ≡ gap + 1 = omega arith in
    let old = c.loop-left.bytes in
    let new = c.put-first.new.bytes in
    record {
      ordered = λ all. put_ordered c.loop-left.first gap c.put-first.result _ old new (c.loop-left.invariant.ordered all) put;
      woven = λ all more.
          put_woven c.loop-left.first gap c.loop-left.left c.put-first.result _ old new c.args.more.now is (sliced_entry gap c.args.more.now) (c.loop-left.invariant.ordered all)
          (first_ordered c.loop-left.left (count c.args.more.now) c.args.more.now c.loop-left.invariant.left more) (c.put-first.ensures.span (c.loop-left.invariant.ordered all)) put
          ∙ c.loop-left.invariant.woven all more;
      first = omega (arith, put.within);
      left = omega (arith, c.loop-left.invariant.left);
      len = put.len ∙ c.loop-left.invariant.len;
    }

pub returns-clause-woven : goal.returns-clause-woven
returns-clause-woven c = λ all more.
    let none : c.loop-left.left ≡ 0 = omega arith in
    all_woven c.loop-left.first c.loop-left.left c.loop-left.bytes c.args.more.now none (c.loop-left.invariant.ordered all) ∙ c.loop-left.invariant.woven all more
