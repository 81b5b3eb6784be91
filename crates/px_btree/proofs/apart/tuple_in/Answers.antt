use Rattle.std.proofs.Common.{refl}
use Rattle.px_btree.proofs.ApartWalk.{first_is, first_not, none_first}
use Rattle.px_btree.proofs.apart.tuple_in.Goals as goal

pub returns-in-Some-clause-some : goal.returns-in-Some-clause-some
returns-in-Some-clause-some c = λ es all is.
    let head = c.in-Some.ensures in
    first_is c.args.page.now c.args.at c.in-Some.head.key c.in-Some.head.end head.after head.within head.read c.args.key _ es refl all is c.if-head-key.true

pub returns-in_default-clause-none : goal.returns-in_default-clause-none
returns-in_default-clause-none c = λ es e all is.
    let head = c.in-Some.ensures in
    first_not c.args.page.now c.args.at c.in-Some.head.key c.in-Some.head.end head.after head.within head.read c.args.key es e all is c.if-head-key.false

pub returns-in_default-2-clause-none : goal.returns-in_default-2-clause-none
returns-in_default-2-clause-none c = λ es e all is here same. none_first c.args.at c.args.page.now es e c.in_default.ensures.none is here
