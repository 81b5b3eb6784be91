use Rattle.px_meaning.proofs.Maps.{maps_equal}
use Rattle.px_meaning.proofs.laws.equal_by_lookups.Goals as goal

pub returns-clause-graphs : goal.returns-clause-graphs
returns-clause-graphs c = maps_equal

pub returns-clause-bytes : goal.returns-clause-bytes
returns-clause-bytes c = maps_equal
