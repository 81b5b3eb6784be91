use Rattle.px_program.proofs.Gathering.{one_more}
use Rattle.px_bench.proofs.rank.SumsOutbox.piece.Goals as goal

pub returns-then-not-self-clause-pieces : goal.returns-then-not-self-clause-pieces
returns-then-not-self-clause-pieces c =
    let self = c.args.self.now in
    one_more 131056 self.spare.limit self.long c.is_err-self.result self.spare.bytes c.append.new.self.bytes c.args.bytes.now c.append.result self.is c.if-not-self.true c.is_err-self.ensures.value c.append.ensures.ok c.append.ensures.wide
