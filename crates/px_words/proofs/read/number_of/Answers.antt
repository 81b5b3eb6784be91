use Rattle.std.proofs.Common.{sym, ◌∙◌, arith}
use Rattle.px_words.proofs.Numbers.{number_after_start, number_after_above}
use Rattle.px_words.proofs.read.number_of.Goals as goal

pub returns-in_err-number : goal.returns-in_err-number
returns-in_err-number c =
    let text = c.args.text.now in
    let start = number_after_start c.args.greatest text (omega arith) (omega arith) in
    let above = number_after_above c.args.greatest c.loop-byte.number text c.loop-byte.byte-index (omega arith) (omega (arith, c.in_err-number.ensures)) in
    rw c.from_residual.ensures (sym (start ∙ c.loop-byte.invariant ∙ above))
