use Rattle.px_cache.proofs.Pins.{some_free}
use Rattle.px_btree.proofs.Marking.{near_spot}
use Rattle.px_btree.proofs.locate.find_near.Goals as goal

pub load-requires-clause-free : goal.load-requires-clause-free
load-requires-clause-free g c = some_free c.args.cache.now.notes c.requires.pins

pub returns-then-is_leaf_of-clause-near : goal.returns-then-is_leaf_of-clause-near
returns-then-is_leaf_of-clause-near g c = λ ps levels sh stack first fits.
    let shown = g.D.Disk.shown in
    let load = c.in_ok-frame.ensures in
    let s = shown c.args.disk.now in
    near_spot c.args.vid 0 s.page_len c.args.file c.in_ok-frame.frame c.args.mark c.find_from-place.result c.frame-leaf.result.now c.args.cache.now c.load.new.self s (shown c.load.new.disk) ps levels sh stack first fits
    c.requires.order load.shows load.brought.holds c.frame-leaf.ensures.bytes c.find_from-place.ensures.place c.find_from-place.ensures.first (c.is_leaf_of.ensures c.if-is_leaf_of.true)
