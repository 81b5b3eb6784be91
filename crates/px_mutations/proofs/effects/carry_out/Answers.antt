use Rattle.std.proofs.Common.{◌≡◌, ◌||◌, Bool, sym, ap, ◌∙◌, subst}
use Rattle.std.specs.Prelude.{Option}
use Rattle.std.proofs.lemmas.Result.{IfOk-weaker}
use Rattle.px_meaning.specs.Graph.{Graph, Vertex, lookup}
use Rattle.px_program.specs.declared.program.Settled.{Settled}
use Rattle.px_mutations.specs.Turns.{given_if}
use Rattle.px_mutations.specs.Effects.{placed, outcome, IsEffect}
use Rattle.px_mutations.proofs.Effecting.{placed_again}
use Rattle.px_mutations.proofs.effects.carry_out.Goals as goal

pub returns-in-Remove-clause-effect : goal.returns-in-Remove-clause-effect
returns-in-Remove-clause-effect g c = IfOk-weaker c.take_out.result _ _ (λ e h l holds carried.
    subst (λ (s : Settled). IsEffect e c.args.turn.vid c.args.first.now.room l (placed c.args.turn.vid (outcome (c.args.turn.has_update || c.args.was) s c.args.first.now.vertex) l)) (sym c.in-Remove.is)
    (h l c.args.first.now.room holds carried.is_there)) c.take_out.ensures.effect

-- it stays as it is
pub returns-else-turn-clause-holds : goal.returns-else-turn-clause-holds
returns-else-turn-clause-holds g c = λ l holds carried.
    let x = c.args.first.now.vertex in
    let v = c.args.turn.vid in
    let m = g.met.St.Store.is_map c.args.store.now c.args.desk.now (g.GD.Disk.shown c.args.graph.now) l holds in
    let at : lookup v l ≡ given_if c.args.was x = carried.same c.in-Keep.is c.if-turn.false in
    let is : given_if c.args.was x ≡ outcome (c.args.turn.has_update || c.args.was) c.args.settled x = ap (λ (b : Bool). given_if (b || c.args.was) x) (sym c.if-turn.false) ∙ ap (λ (s : Settled). outcome (c.args.turn.has_update || c.args.was) s x) (sym c.in-Keep.is) in
    subst (λ (k : Graph). g.St.Store.holds c.args.store.now c.args.desk.now (g.GD.Disk.shown c.args.graph.now) k) (sym (ap (λ (o : Option Vertex). placed v o l) (sym is) ∙ placed_again v (given_if c.args.was x) l m at)) holds
