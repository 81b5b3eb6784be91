use Rattle.std.proofs.Common.{ap, sym}
use Rattle.std.proofs.lemmas.Option.{MatchOption-at_some, MatchOption-at_none}
use Rattle.px_load.specs.Heads.{first_vid}
use Rattle.px_load.proofs.HeadsSteps.{none_first, some_first}
use Rattle.px_load.proofs.ScanningSteps.{spelled_more}
use Rattle.px_load.proofs.heads.next_vid.Goals as goal

pub returns-in-Some-clause-vid : goal.returns-in-Some-clause-vid
returns-in-Some-clause-vid g c = λ room l s. sym (some_first room _ _ _ _ l (λ es give. MatchOption-at_some _ _ _ c.in-Some.is c.in_ok-head.ensures.some es give) s)

pub returns-in-None-clause-gives : goal.returns-in-None-clause-gives
returns-in-None-clause-gives g c = λ room l s. spelled_more room _ _ l (λ es give. c.in_ok-head.ensures.to_give es give) s

pub returns-in-None-clause-vid : goal.returns-in-None-clause-vid
returns-in-None-clause-vid g c = λ room l s. sym (ap first_vid (none_first room _ l (λ es give. MatchOption-at_none _ _ c.in-None.is c.in_ok-head.ensures.none es give) s))
