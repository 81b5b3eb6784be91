use Rattle.std.proofs.Common.{◌≡◌, ◌+◌, arith}
use Rattle.px_program.proofs.Gathering.{one_more}
use Rattle.px_compute_op.proofs.outs.OutsOutbox.piece.Goals as goal

pub returns-then-not-self-clause-pieces : goal.returns-then-not-self-clause-pieces
returns-then-not-self-clause-pieces g c =
    let self = c.args.self.now in
    let fits : 13 + self.spare.now.limit ≡ self.room = omega (arith, self.is.spare_fits, self.is.spare_is.limit, self.is.room_is) in
    one_more self.room self.spare.now.limit self.long c.is_err-self.result self.spare.now.bytes c.append.new.self.bytes c.args.bytes.now c.append.result fits c.if-not-self.true c.is_err-self.ensures.value c.append.ensures.ok c.append.ensures.wide
