use Rattle.px_meaning.proofs.Maps.{lookup-put_same, lookup-put_other}
use Rattle.px_meaning.proofs.laws.lookup_after_put.Goals as goal

pub returns-clause-graphs : goal.returns-clause-graphs
returns-clause-graphs c k x es = (lookup-put_same k x es, λ j d. lookup-put_other j k x es d)

pub returns-clause-bytes : goal.returns-clause-bytes
returns-clause-bytes c k x es = (lookup-put_same k x es, λ j d. lookup-put_other j k x es d)
