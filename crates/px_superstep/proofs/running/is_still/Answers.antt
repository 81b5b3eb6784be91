use Rattle.std.proofs.Common.{◌∙◌, ap}
use Rattle.px_global_state.specs.declared.gs.Gs.{Gs}
use Rattle.px_superstep.proofs.Runs.{still_is}
use Rattle.px_superstep.proofs.running.is_still.Goals as goal

pub returns : goal.returns
returns g c = λ p room probing graph scratch s stands. still_is c.halted.result c.gs.result.live c.gs.result.in_flight s c.halted.ensures
    (ap (λ (n : Gs). n.live) c.gs.ensures ∙ stands.numbers.live) (ap (λ (n : Gs). n.in_flight) c.gs.ensures ∙ stands.numbers.in_flight)
