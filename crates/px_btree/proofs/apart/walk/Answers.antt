use Rattle.std.proofs.Common.{arith}
use Rattle.px_btree.proofs.ApartWalk.{starts, steps, stays, ends}
use Rattle.px_btree.proofs.apart.walk.Goals as goal

pub loop-head-init : goal.loop-head-init
loop-head-init c = record {
  walked = λ es all is. starts c.args.key c.args.from c.args.page.now es all is;
  after = omega arith;
  within = c.requires;
}

pub returns-then-head-key-clause-passed : goal.returns-then-head-key-clause-passed
returns-then-head-key-clause-passed c = λ es all is.
    let head = c.in-Some.ensures in
    stays c.args.page.now c.loop-head.at c.in-Some.head.key c.in-Some.head.end head.after head.within head.read c.args.key c.args.from es c.if-head-key.true (c.loop-head.invariant.walked es all is)

pub loop-head-preserved : goal.loop-head-preserved
loop-head-preserved c =
    let head = c.in-Some.ensures in
    record {
      walked = λ es all is. steps c.args.page.now c.loop-head.at c.in-Some.head.key c.in-Some.head.end head.after head.within head.read c.args.key c.args.from es c.if-head-key.false (c.loop-head.invariant.walked es all is);
      after = omega (arith, head.after, c.loop-head.invariant.after);
      within = head.within;
    }

pub returns-clause-passed : goal.returns-clause-passed
returns-clause-passed c = λ es all is. ends c.args.key c.args.from c.loop-head.at c.args.page.now es c.in_default.ensures.none (c.loop-head.invariant.walked es all is)
