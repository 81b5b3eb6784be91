use Rattle.std.proofs.Common.{◌∙◌, ◌-◌, ap, arith}
use Rattle.std.proofs.lemmas.Nat.{one_shl}
use Rattle.std.proofs.lemmas.Nat.Bits.{bit_at_ones, bit_at_ones_above}
use Rattle.std.specs.Int.{bit_at}
use Rattle.px_superstep.proofs.compute.all_ready.Goals as goal

pub returns-clause-set : goal.returns-clause-set
returns-clause-set c = λ k low. ap (λ n. bit_at (n - 1) k) (one_shl c.args.parts 32 (omega arith)) ∙ bit_at_ones c.args.parts k low

pub returns-clause-clear : goal.returns-clause-clear
returns-clause-clear c = λ k high. ap (λ n. bit_at (n - 1) k) (one_shl c.args.parts 32 (omega arith)) ∙ bit_at_ones_above c.args.parts k high
