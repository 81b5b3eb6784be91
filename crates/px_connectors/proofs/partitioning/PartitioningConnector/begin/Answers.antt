use Rattle.std.proofs.Common.{◌∙◌, refl}
use Rattle.px_connectors.proofs.partitioning.PartitioningConnector.begin.Goals as goal

pub returns-clause-sending : goal.returns-clause-sending
returns-clause-sending g c = λ tells. record {
  is = refl;
  begun = record {
    first = c.start-started.ensures.stays.first ∙ c.to_writers-writers.ensures.first ∙ c.first_file-first.ensures;
    took = c.in_ok-started.ensures.took tells 0;
  };
}
