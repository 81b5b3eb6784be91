use Rattle.std.specs.Int.{w32}
use Rattle.std.proofs.lemmas.Nat.Bits.{bit_at_set_same, bit_at_set_other}
use Rattle.px_connectors.proofs.readers.marked.Goals as goal

pub returns-then-has-clause-set : goal.returns-then-has-clause-set
returns-then-has-clause-set c = λ has. bit_at_set_same w32 c.args.ready c.args.sender c.requires

pub returns-then-has-clause-others : goal.returns-then-has-clause-others
returns-then-has-clause-others c = λ i other. bit_at_set_other w32 c.args.ready c.args.sender c.requires i other
