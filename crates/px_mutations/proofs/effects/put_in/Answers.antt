use Rattle.std.proofs.Common.{◌≡◌, Bool, false, not, ap}
use Rattle.px_mutations.specs.declared.effects.Effect.{Effect}
use Rattle.px_mutations.proofs.Effecting.{put_effect}
use Rattle.px_mutations.proofs.effects.put_in.Goals as goal

abbrev made : Bool → Bool → Effect
made was halt = record { added = not was; removed = false; live = not halt }

pub returns-clause-effect : goal.returns-clause-effect
returns-clause-effect g c = λ l h is.
    put_effect _ c.args.was c.args.first.now.vid c.args.first.now.room c.args.first.now.vertex l (g.met.St.Store.is_map c.args.store.now c.args.desk.now (g.GD.Disk.shown c.args.graph.now) l h) is c.room-room.ensures.within.size
    (ap (made c.args.was) c.halt-live.ensures)
