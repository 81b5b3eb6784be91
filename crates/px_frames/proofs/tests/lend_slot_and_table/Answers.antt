use Rattle.std.proofs.Common.{rules}
use Rattle.px_frames.proofs.BankLaws.{both_there_and_back}
use Rattle.px_frames.proofs.tests.lend_slot_and_table.Goals as goal

pub returns : goal.returns
returns c =
    let req = c.requires in
    let law = both_there_and_back c.args.bank.now c.args.slot req.in_range (search rules) (search rules) in
    cc
