use Rattle.std.proofs.Common.{count_ones}
use Rattle.std.proofs.lemmas.Nat.{mod_below}
use Rattle.px_core.proofs.Ranked.{ones-pos}
use Rattle.px_core.proofs.turns.SeedTurnsTurns.pick.Goals as goal

pub nonzero_rem-word : goal.nonzero_rem-word
nonzero_rem-word c = ones-pos c.args.ready c.requires

pub ranked_bit-requires : goal.ranked_bit-requires
ranked_bit-requires c = mod_below c.next_word-word.result (count_ones c.args.ready) (ones-pos c.args.ready c.requires)
