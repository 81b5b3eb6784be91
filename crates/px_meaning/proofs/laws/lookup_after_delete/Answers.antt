use Rattle.px_meaning.proofs.Maps.{lookup-delete_same, lookup-delete_other}
use Rattle.px_meaning.proofs.laws.lookup_after_delete.Goals as goal

pub returns-clause-graphs : goal.returns-clause-graphs
returns-clause-graphs c k es = (lookup-delete_same k es, λ j d. lookup-delete_other j k es d)

pub returns-clause-bytes : goal.returns-clause-bytes
returns-clause-bytes c k es = (lookup-delete_same k es, λ j d. lookup-delete_other j k es d)
