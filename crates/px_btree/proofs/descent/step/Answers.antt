use Rattle.px_btree.proofs.Levels.{came_down}
use Rattle.px_cache.proofs.Pins.{some_free}
use Rattle.px_btree.proofs.descent.step.Goals as goal

pub load-requires-clause-free : goal.load-requires-clause-free
load-requires-clause-free g c = some_free c.args.cache.now.notes c.requires.pins

pub returns-clause-down : goal.returns-clause-down
returns-clause-down g c = λ k len ps levels came two.
    let shown = g.D.Disk.shown in
    let load = c.in_ok-i.ensures in
    came_down c.args.vid k c.args.file len c.args.page c.child_in.result c.in_ok-i.i levels c.args.cache.now c.load.new.self (shown c.args.disk.now) (shown c.load.new.disk) ps c.frame.result.now
    came two load.shows load.brought.holds c.frame.ensures.bytes c.child_in.ensures
