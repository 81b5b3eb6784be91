use Rattle.std.proofs.Common.{sym, ◌∙◌, ap}
use Rattle.px_frames.specs.Banks.{BankView}
use Rattle.px_superstep.proofs.parts.compute_part.Goals as goal

pub compute_with-answer-requires-clause-took : goal.compute_with-answer-requires-clause-took
compute_with-answer-requires-clause-took g c = λ s rule tells len.
    c.open-tools.ensures.took s rule tells
    (len ∙ sym c.requires.scratch_len ∙ sym (c.lend_bench-lent.ensures.lent.work.frame_len ∙ ap (λ (b : BankView). b.frame_len) c.lend_bench-lent.ensures.bank))

pub returns-clause-bank : goal.returns-clause-bank
returns-clause-bank g c = c.give_bench.ensures ∙ c.lend_bench-lent.ensures.back
