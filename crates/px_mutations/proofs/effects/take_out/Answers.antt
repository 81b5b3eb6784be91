use Rattle.std.proofs.Common.{refl, subst}
use Rattle.px_meaning.specs.Graph.{Graph, lookup}
use Rattle.px_mutations.proofs.Effecting.{gone_effect, gone_already}
use Rattle.px_mutations.proofs.effects.take_out.Goals as goal

pub returns-in_ok-remove-clause-effect : goal.returns-in_ok-remove-clause-effect
returns-in_ok-remove-clause-effect g c = λ l room h is. gone_effect _ c.args.was c.args.vid room l (g.met.St.Store.is_map c.args.store.now c.args.desk.now (g.GD.Disk.shown c.args.graph.now) l h) is refl

pub returns-else-was-clause-holds : goal.returns-else-was-clause-holds
returns-else-was-clause-holds g c = λ l h is.
    subst (λ (k : Graph). g.St.Store.holds c.args.store.now c.args.desk.now (g.GD.Disk.shown c.args.graph.now) k)
    (gone_already c.args.was c.args.vid l (lookup c.args.vid l) (g.met.St.Store.is_map c.args.store.now c.args.desk.now (g.GD.Disk.shown c.args.graph.now) l h) c.if-was.false refl is) h

pub returns-else-was-clause-effect : goal.returns-else-was-clause-effect
returns-else-was-clause-effect g c = λ l room h is. gone_effect _ c.args.was c.args.vid room l (g.met.St.Store.is_map c.args.store.now c.args.desk.now (g.GD.Disk.shown c.args.graph.now) l h) is refl
