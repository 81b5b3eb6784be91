use Rattle.std.proofs.Common.{refl}
use Rattle.std.proofs.lemmas.Option.{MatchOption-at_some, MatchOption-at_none}
use Rattle.px_load.specs.Held.{tuples}
use Rattle.px_load.proofs.FillingSteps.{gave_one}
use Rattle.px_load.proofs.HeadsSteps.{none_first, begins_with}
use Rattle.px_load.proofs.heads.take_next.Goals as goal

pub returns-in_default-clause-over : goal.returns-in_default-clause-over
returns-in_default-clause-over g c = λ false l s. none_first _ _ l (λ es give. MatchOption-at_none _ _ c.in_default.is c.in_ok-head.ensures.none es give) s

pub returns-clause-took : goal.returns-clause-took
returns-clause-took g c = λ true l s.
    begins_with c.args.v.now.room c.load.new.self l _ _ _ (λ k bodies give.
    gave_one c.args.v.now.room k c.in-Some.head c.next.new.into.bytes _ c.load.result c.args.v.now c.load.new.self refl (rw (← c.bytes.ensures.bytes) c.load.ensures.loaded) (rw (← c.bytes.ensures.bytes) c.load.ensures.held) bodies
    (MatchOption-at_some _ _ _ c.in-Some.is c.in_ok-head.ensures.some (tuples k) give)) (λ m t. t) s
