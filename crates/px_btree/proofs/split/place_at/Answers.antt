use Rattle.px_btree.proofs.Halving.{came_to}
use Rattle.px_btree.proofs.split.place_at.Goals as goal

pub returns-clause-place : goal.returns-clause-place
returns-clause-place c =
    let is = c.next-tuple.ensures in
    came_to c.args.page.now c.args.index c.args.at c.next-tuple.result _ _ c.requires.index c.requires.at c.requires.left is.none is.some is.within
