use Rattle.std.proofs.Common.{◌∙◌, ◌≡◌, ◌||◌, true}
use Rattle.std.specs.Prelude.{Some}
use Rattle.px_mutations.proofs.Taking.{due_is_turn, due_some, due_here}
use Rattle.px_mutations.proofs.turns.next_turn.Goals as goal

pub returns-clause-turn : goal.returns-clause-turn
returns-clause-turn g c = λ cs fs mc mf to_give asked. due_is_turn c.turn_of.result c.in_ok-update.update c.args.asked cs fs c.turn_of.ensures (c.in_ok-update.ensures.first cs to_give) asked mc mf

pub returns-clause-here : goal.returns-clause-here
returns-clause-here g c = due_here _ c.turn_of.result c.in_ok-update.update c.args.asked c.turn_of.ensures c.in_ok-update.ensures.here

pub returns-clause-some : goal.returns-clause-some
returns-clause-some g c = due_some (λ t. (t.has_update || t.has_verdict) ≡ true) c.turn_of.result c.in_ok-update.update c.args.asked c.turn_of.ensures (λ t due. due.some)

pub returns-clause-asked : goal.returns-clause-asked
returns-clause-asked g c = due_some (λ t. t.has_verdict ≡ true → c.args.asked ≡ Some t.vid) c.turn_of.result c.in_ok-update.update c.args.asked c.turn_of.ensures (λ t due. due.verdict)
