use Rattle.std.proofs.Common.{arith}
use Rattle.px_pages.specs.Entry.{entry}
use Rattle.px_btree.proofs.OpenPage.{puts_apart, open_at}
use Rattle.px_btree.proofs.open_leaf.put_apart.Goals as goal

pub returns-clause-put : goal.returns-clause-put
returns-clause-put c = λ yes from le is.
    puts_apart (entry c.args.vid c.args.tag c.args.body.now) c.args.apart.now c.reach.new.apart c.put.new.self c.args.page.now c.reach.new.page c.put.new.page c.reach.ensures.same (c.reach.ensures.next from le is)
    (c.reach.ensures.ends c.if-not-reach.false from le is) (c.put.ensures.put yes)

pub returns-clause-next : goal.returns-clause-next
returns-clause-next c = λ no from le is.
    let now = c.reach.ensures.next from le is in
    open_at c.args.vid now.len now.page_kind now.page_link now.es c.put.new.self c.put.new.page (c.put.ensures.kept no now.len now.page_kind now.page_link now.index now.es now.keeps (now.ahead c.args.vid (omega arith)))
