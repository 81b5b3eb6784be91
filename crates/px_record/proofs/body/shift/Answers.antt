use Rattle.px_record.proofs.Bytes.{unmoved}
use Rattle.px_record.proofs.body.shift.Goals as goal

pub returns-else-start-at : goal.returns-else-start-at
returns-else-start-at c = unmoved c.args.bytes.now c.args.start c.args.end c.args.at c.if-start-at.false
