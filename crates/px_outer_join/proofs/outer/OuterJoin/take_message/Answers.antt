use Rattle.std.proofs.Common.{◌∙◌, sym, ap}
use Rattle.px_stream.specs.Stream.{ToGive}
use Rattle.px_outer_join.specs.Outer.{OuterView}
use Rattle.px_outer_join.proofs.Taking.{leads_message}
use Rattle.px_outer_join.proofs.outer.OuterJoin.take_message.Goals as goal

pub returns-clause-gives : goal.returns-clause-gives
returns-clause-gives g c = rw (← c.self.view_is)
    (λ m to_give. leads_message c.in_ok-next.field-0 c.next.new.into.bytes _ (ToGive (g.SD.Disk.shown c.args.scratch.now) c.self.inside.messages) (ToGive (g.SD.Disk.shown c.next.new.disk) c.next.new.self) m
    (c.in_ok-next.ensures.front (λ e. c.requires.here (sym (ap (λ (v : OuterView). v.messages.here) c.self.view_is) ∙ e))) c.in_ok-next.ensures.some to_give)
