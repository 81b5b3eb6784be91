use Rattle.std.proofs.Common.{sym, ◌∙◌}
use Rattle.px_stream.specs.Stream.{ToGive, first_body}
use Rattle.px_mutations.proofs.Taking.{vid_is}
use Rattle.px_mutations.proofs.turns.update_vid.Goals as goal

pub returns-clause-first : goal.returns-clause-first
returns-clause-first g c = λ cs to_give. vid_is c.in_ok-head.head (first_body c.peek.new.self.here) (ToGive (g.SD.Disk.shown c.args.scratch.now) c.args.updates.now) cs c.in_ok-head.ensures.none c.in_ok-head.ensures.some to_give ∙ sym c.key_of.ensures
