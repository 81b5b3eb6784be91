use Rattle.px_connectors.specs.Writers.{WritesPart}
use Rattle.px_connectors.proofs.Parting.{of_some}
use Rattle.px_connectors.proofs.writers.put_in.Goals as goal

pub returns-clause-stays : goal.returns-clause-stays
returns-clause-stays g c = λ first len q part. c.put_one.ensures.stays first len q (of_some (WritesPart first len q) c.args.writer.now c.in-Some.writer c.in-Some.is part)
