use Rattle.px_btree.proofs.OpenPage.{gives_apart}
use Rattle.px_btree.proofs.open_leaf.get_apart.Goals as goal

pub returns-clause-given : goal.returns-clause-given
returns-clause-given c = λ from le is.
    gives_apart c.args.vid c.take_apart.result c.take_apart.new.into.vertex c.reach.new.apart c.reach.new.page _ c.reach.ensures.same (c.reach.ensures.parts from le is) (c.reach.ensures.ends c.if-not-reach.false from le is)
    c.take_apart.ensures.found
