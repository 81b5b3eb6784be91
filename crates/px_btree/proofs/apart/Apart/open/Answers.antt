use Rattle.std.proofs.Common.{◌∙◌, sym, arith}
use Rattle.px_pages.proofs.Editing.{made_used}
use Rattle.px_btree.proofs.ApartPage.{opened}
use Rattle.px_btree.proofs.apart.Apart.open.Goals as goal

pub returns-clause-apart : goal.returns-clause-apart
returns-clause-apart c = λ len kind link es made is.
    opened len kind link es c.args.place c.args.page.now c.shift.new.page c.min-at.result c.min-end.result made is
    (omega (arith, c.min-end.ensures, c.used.ensures, made_used len kind link es c.args.page.now made, made.fits, made.page_len))
    c.min-at.ensures c.shift.ensures

pub returns-clause-closed : goal.returns-clause-closed
returns-clause-closed c = λ len kind link es made is.
    (returns-clause-apart c len kind link es made is).made.bytes ∙ sym made.bytes
