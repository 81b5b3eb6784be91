use Rattle.px_btree.proofs.OpenPage.{reached, open_at, ends_at}
use Rattle.px_btree.proofs.open_leaf.reach.Goals as goal
use Rattle.std.proofs.Common.{subst}
use Rattle.px_btree.specs.Open.{EndsHere}

pub returns-clause-next : goal.returns-clause-next
returns-clause-next c = λ from le is.
    let a = c.pass.new.self in
    let page = c.pass.new.page in
    open_at c.args.vid is.len is.page_kind is.page_link is.es a page
    (reached c.args.vid from c.args.apart.now a c.args.page.now page le is (c.pass.ensures.apart is.len is.page_kind is.page_link is.index is.es is.keeps))

pub returns-clause-parts : goal.returns-clause-parts
returns-clause-parts c = λ from le is.
    let a = c.pass.new.self in
    let page = c.pass.new.page in
    let now = reached c.args.vid from c.args.apart.now a c.args.page.now page le is (c.pass.ensures.apart is.len is.page_kind is.page_link is.index is.es is.keeps) in
    record { len = is.len; page_kind = is.page_kind; page_link = is.page_link; es = is.es; keeps = now }

pub returns-clause-ends : goal.returns-clause-ends
returns-clause-ends c = λ yes from le is.
    let a = c.pass.new.self in
    let page = c.pass.new.page in
    subst (EndsHere c.args.vid) c.pass.ensures.same
    (ends_at c.args.vid is.len is.page_kind is.page_link is.es a page
    (reached c.args.vid from c.args.apart.now a c.args.page.now page le is (c.pass.ensures.apart is.len is.page_kind is.page_link is.index is.es is.keeps)) (c.ends_here.ensures yes))
