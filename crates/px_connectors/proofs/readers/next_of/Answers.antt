use Rattle.std.proofs.Common.{arith}
use Rattle.std.proofs.lemmas.Option.{MatchOption-at_some, MatchOption-at_none}
use Rattle.px_connectors.proofs.ByTurns.{all_over}
use Rattle.px_connectors.proofs.readers.next_of.Goals as goal

pub returns-in_default-clause-none : goal.returns-in_default-clause-none
returns-in_default-clause-none g c = λ ls gives p lt.
    all_over _ c.choose.new.readers ls (MatchOption-at_none _ _ c.in_default.is c.in_ok-chosen.ensures.none) (c.in_ok-chosen.ensures.gives ls gives) p (omega (arith, lt, c.choose.ensures.count))

pub returns-clause-some : goal.returns-clause-some
returns-clause-some g c = λ ls gives.
    let has = MatchOption-at_some _ _ _ c.in-Some.is c.in_ok-chosen.ensures.some in
    (c.in-Some.chosen, omega (arith, has.below, c.choose.ensures.count), c.take_at-vid.ensures.took ls (c.in_ok-chosen.ensures.gives ls gives))
