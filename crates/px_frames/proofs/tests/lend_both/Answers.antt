use Rattle.std.proofs.Common.{false}
use Rattle.px_frames.proofs.BankLaws.{made-with_home, made-with_table, made_then}
use Rattle.px_frames.proofs.tests.lend_both.Goals as goal

pub returns-clause-made : goal.returns-clause-made
returns-clause-made c =
    rw (c.lend_table-table.ensures.out, c.lend-share.ensures.out)
    (made_then _ _ _ (made-with_home c.args.bank.now c.args.slot false) (made-with_table _ false))
