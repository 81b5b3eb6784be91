use Rattle.px_meaning.proofs.Rearranged.{grouped_one_merge}
use Rattle.px_program.proofs.laws.one_merge.Goals as goal

pub returns : goal.returns
returns c = grouped_one_merge
