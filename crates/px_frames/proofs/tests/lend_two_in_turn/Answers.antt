use Rattle.std.proofs.Common.{rules}
use Rattle.px_frames.proofs.BankLaws.{home_in_turn}
use Rattle.px_frames.proofs.tests.lend_two_in_turn.Goals as goal

pub returns : goal.returns
returns c =
    let req = c.requires in
    let law = home_in_turn c.args.bank.now c.args.first c.args.second req.apart req.first req.second (search rules) (search rules) in
    cc
