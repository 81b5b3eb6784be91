use Rattle.std.proofs.Common.{sym, subst}
use Rattle.std.proofs.lemmas.Option.{MatchOption-at_some}
use Rattle.px_connectors.specs.Views.{IsConnectorFile}
use Rattle.px_connectors.proofs.ByTurns.{leads_pair}
use Rattle.px_connectors.proofs.readers.take_one.Goals as goal

pub returns-clause-took : goal.returns-clause-took
returns-clause-took g c = λ l gives.
    leads_pair c.in-Ok-Some.head c.next.new.into.bytes l _ _ (λ k after. record { file = subst IsConnectorFile (sym c.next.ensures.on.file) gives.file; gives = after })
    (MatchOption-at_some _ _ _ c.in-Ok-Some.field-0-is c.in-Ok-Some.ensures.some _ gives.gives)
