use Rattle.std.proofs.Common.{◌∙◌}
use Rattle.px_connectors.proofs.requests.Requests.start.Goals as goal

pub returns-clause-asked : goal.returns-clause-asked
returns-clause-asked g c = λ tells. record { first = c.start.ensures.stays.first ∙ c.self.invariant.0; took = c.in_ok-start.ensures.took tells 2 }
