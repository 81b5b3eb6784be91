use Rattle.std.proofs.Common.{arith}
use Rattle.px_program.proofs.Gathering.{pieces_are}
use Rattle.px_bench.proofs.rank.SumsOutbox.send_pieces.Goals as goal

pub returns-clause-wide : goal.returns-clause-wide
returns-clause-wide c = λ b is wide.
    let self = c.args.self.now in
    let here = pieces_are 131056 b self.long self.spare.bytes is c.if-long.false in
    absurd (omega (arith, wide, here.1))
