use Rattle.std.proofs.Common.{◌≡◌}
use Rattle.px_stream.specs.Stream.{ToGive}
use Rattle.px_mutations.proofs.Taking.{turn_taken, turn_passed, comes_first}
use Rattle.px_mutations.proofs.turns.take_update.Goals as goal

pub returns-then-turn-clause-taken : goal.returns-then-turn-clause-taken
returns-then-turn-clause-taken c = λ s cs room stored to_give comes.
    turn_taken c.args.turn.has_update c.args.turn.vid c.read_update.new.first.vertex cs (ToGive s c.read_update.new.updates) c.if-turn.true
    (c.read_update.ensures.taken s cs room stored to_give (comes_first c.args.turn.has_update c.args.turn.vid cs c.if-turn.true comes))

pub returns-else-turn-clause-taken : goal.returns-else-turn-clause-taken
returns-else-turn-clause-taken c = λ s cs room stored to_give comes.
    turn_passed c.args.turn.has_update c.args.turn.vid c.args.first.now.vertex cs (ToGive s c.args.updates.now) c.if-turn.false comes to_give
