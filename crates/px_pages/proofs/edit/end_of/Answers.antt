use Rattle.std.proofs.Common.{arith}
use Rattle.px_pages.proofs.Editing.{made_used}
use Rattle.px_pages.proofs.edit.end_of.Goals as goal

pub returns-clause-made : goal.returns-clause-made
returns-clause-made c = λ len kind link es made. omega (arith, made_used len kind link es c.args.page.now made, made.fits, made.page_len)
