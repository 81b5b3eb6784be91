use Rattle.std.proofs.Common.{rules}
use Rattle.px_frames.proofs.BankLaws.{home_in_turn_back}
use Rattle.px_frames.proofs.tests.lend_two.Goals as goal

pub returns : goal.returns
returns c =
    let req = c.requires in
    let law = home_in_turn_back c.args.bank.now c.args.first c.args.second req.apart req.first req.second (search rules) (search rules) in
    cc
