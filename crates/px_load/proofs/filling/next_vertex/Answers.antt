use Rattle.std.proofs.Common.{refl}
use Rattle.std.proofs.lemmas.Option.{MatchOption-at_some, MatchOption-at_none}
use Rattle.px_load.specs.Held.{tuples}
use Rattle.px_load.proofs.FillingSteps.{no_tuples, gave_one}
use Rattle.px_load.proofs.filling.next_vertex.Goals as goal

pub returns-in_default-clause-gave : goal.returns-in_default-clause-gave
returns-in_default-clause-gave g c = λ l bodies h. no_tuples l (MatchOption-at_none _ _ c.in_default.is c.in_ok-head.ensures.none (tuples l) h)

pub returns-clause-gave : goal.returns-clause-gave
returns-clause-gave g c = λ l bodies h.
    let lead = MatchOption-at_some _ _ _ c.in-Some.is c.in_ok-head.ensures.some (tuples l) h in
    gave_one c.args.v.now.room l c.in-Some.head c.next.new.into.bytes _ c.load.result c.args.v.now c.load.new.self refl (rw (← c.bytes.ensures.bytes) c.load.ensures.loaded) (rw (← c.bytes.ensures.bytes) c.load.ensures.held) bodies lead
