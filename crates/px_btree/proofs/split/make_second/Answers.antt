use Rattle.px_pages.specs.Entry.{entry}
use Rattle.px_btree.proofs.Halving.{second_with, second_without, not_on, not_off}
use Rattle.px_btree.proofs.split.make_second.Goals as goal

pub returns-then-not-cut : goal.returns-then-not-cut
returns-then-not-cut c = λ place.
    let e = entry c.args.vid c.args.tag c.args.body.now in
    second_with e c.args.cut.place.index c.args.cut.first c.put_in.result c.args.page.now c.keep_back.new.page c.put_in.new.page
    (not_on c.args.cut.first c.if-not-cut.true) (c.keep_back.ensures place) c.put_in.ensures.put c.put_in.ensures.full

pub returns-else-not-cut : goal.returns-else-not-cut
returns-else-not-cut c = λ place.
    let e = entry c.args.vid c.args.tag c.args.body.now in
    second_without e c.args.cut.place.index c.args.cut.first c.args.page.now c.keep_back.new.page (not_off c.args.cut.first c.if-not-cut.false) (c.keep_back.ensures place)
