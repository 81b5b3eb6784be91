use Rattle.px_meaning.proofs.Rearranged.{grouped-IsPermutation}
use Rattle.px_program.proofs.laws.any_order.Goals as goal

pub returns : goal.returns
returns c = grouped-IsPermutation
