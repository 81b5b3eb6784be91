use Rattle.std.proofs.Common.{◌≡◌, ◌↔◌, ◌+◌, subst, length, [], nat_lt, IsTrue}
use Rattle.px_pages.specs.Page.{PageReaderView, left_of}
use Rattle.px_pages.proofs.Reading.{none_more}
use Rattle.px_pages.proofs.reader.PageReader.at_end.Goals as goal

pub returns-else-self-eq0 : goal.returns-else-self-eq0
returns-else-self-eq0 c =
    subst (λ (v : PageReaderView). IsTrue (nat_lt (length c.args.page.now) (c.self.inside.at + 13)) ↔ (left_of v c.args.page.now ≡ [])) c.self.view_is
    (none_more c.self.inside.left c.self.inside.at c.args.page.now c.if-self-eq0.false)
