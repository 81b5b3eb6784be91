use Rattle.std.proofs.Common.{◌≡◌, ◌||◌, ℕ, ◌∙◌, subst}
use Rattle.std.specs.Prelude.{Option}
use Rattle.px_meaning.specs.Graph.{Vertex, room_of}
use Rattle.px_mutations.specs.Effects.{placed, turned, IsEffect}
use Rattle.px_mutations.proofs.Effecting.{outcome_is, carried_is}
use Rattle.px_mutations.proofs.settling.settle_vid.Goals as goal

pub returns-clause-effect : goal.returns-clause-effect
returns-clause-effect g c = λ valid l holds.
    let p = g.P.Program.meaning c.args.program.now in
    let t = c.args.turn in
    let x = c.args.first.now.vertex in
    let bytes = c.args.verdict.now in
    let found = c.in_ok-was.ensures.found l holds in
    let applies = c.in_ok-settled.ensures.applies valid in
    let carried = carried_is p t c.in_ok-was.was' x bytes c.look_up.new.first c.judge.new.first c.in_ok-settled.settled l found applies in
    let is = outcome_is p t c.in_ok-was.was' x bytes c.look_up.new.first c.judge.new.first c.in_ok-settled.settled l c.in_ok-was.ensures.vid found applies in
    let room : c.judge.new.first.room ≡ room_of (g.GD.Disk.shown c.args.graph.now).page_len = c.judge.ensures.stays.room ∙ c.look_up.ensures.first.room ∙ c.requires.room in
    subst (λ (n : ℕ). IsEffect c.in_ok-effect.effect t.vid n l (turned p t x bytes l)) room
    (subst (λ (o : Option Vertex). IsEffect c.in_ok-effect.effect t.vid c.judge.new.first.room l (placed t.vid o l)) is
    (c.in_ok-effect.ensures.effect l (c.in_ok-was.ensures.holds l holds) carried))
