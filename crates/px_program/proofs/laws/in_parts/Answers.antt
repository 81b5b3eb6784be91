use Rattle.px_meaning.proofs.Rearranged.{grouped_in_parts}
use Rattle.px_program.proofs.laws.in_parts.Goals as goal

pub returns : goal.returns
returns c = grouped_in_parts
