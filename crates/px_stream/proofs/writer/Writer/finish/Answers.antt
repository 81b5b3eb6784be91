use Rattle.px_stream.proofs.Writing.{took_all}
use Rattle.px_stream.proofs.writer.Writer.finish.Goals as goal

pub returns-clause-holds : goal.returns-clause-holds
returns-clause-holds g c = λ l k. took_all _ _ l c.in_ok-flush.ensures.here (c.in_ok-flush.ensures.took l k)
