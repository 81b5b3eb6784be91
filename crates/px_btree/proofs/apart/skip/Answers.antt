use Rattle.px_btree.proofs.ApartWalk.{is_same, is_other, no_same}
use Rattle.px_btree.proofs.apart.skip.Goals as goal

pub returns-in-Some-clause-same : goal.returns-in-Some-clause-same
returns-in-Some-clause-same c = λ es all is.
    let head = c.in-Some.ensures in
    is_same c.args.page.now c.args.at c.in-Some.head.key c.in-Some.head.end head.after head.within head.read c.args.key es all is c.if-head-key.true

pub returns-in_default-clause-same : goal.returns-in_default-clause-same
returns-in_default-clause-same c = λ es all is.
    let head = c.in-Some.ensures in
    is_other c.args.page.now c.args.at c.in-Some.head.key c.in-Some.head.end head.after head.within head.read c.args.key es all is c.if-head-key.false

pub returns-in_default-2-clause-same : goal.returns-in_default-2-clause-same
returns-in_default-2-clause-same c = λ es all is. no_same c.args.key c.args.at c.args.page.now es c.in_default.ensures.none is
