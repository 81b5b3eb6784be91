use Rattle.std.proofs.lemmas.Nat.Bits.{bit_at_clear_same, bit_at_clear_other}
use Rattle.std.specs.Int.{w32}
use Rattle.px_superstep.proofs.compute.without.Goals as goal

pub returns-clause-cleared : goal.returns-clause-cleared
returns-clause-cleared c = bit_at_clear_same w32 c.args.ready c.args.q c.requires.within

pub returns-clause-others : goal.returns-clause-others
returns-clause-others c = λ k within other. bit_at_clear_other w32 c.args.ready c.args.q c.requires.within k within other
