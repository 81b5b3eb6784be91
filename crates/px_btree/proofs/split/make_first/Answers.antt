use Rattle.px_pages.specs.Entry.{entry}
use Rattle.px_btree.proofs.Halving.{first_with, first_without}
use Rattle.px_btree.proofs.split.make_first.Goals as goal

pub returns-then-cut : goal.returns-then-cut
returns-then-cut c = λ place.
    let link = c.set_link.ensures in
    let e = entry c.args.vid c.args.tag c.args.body.now in
    first_with e c.args.cut.place.index c.args.link c.args.cut.first c.put_in.result c.args.page.now c.keep_front.new.page c.set_link.new.page c.put_in.new.page
    c.if-cut.true (c.keep_front.ensures place) link.link link.kind link.tuples link.written c.put_in.ensures.put c.put_in.ensures.full

pub returns-else-cut : goal.returns-else-cut
returns-else-cut c = λ place.
    let link = c.set_link.ensures in
    let e = entry c.args.vid c.args.tag c.args.body.now in
    first_without e c.args.cut.place.index c.args.link c.args.cut.first c.args.page.now c.keep_front.new.page c.set_link.new.page
    c.if-cut.false (c.keep_front.ensures place) link.link link.kind link.tuples link.written
