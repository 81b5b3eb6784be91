use Rattle.px_meaning.proofs.Grouping.{IsMap-grouped}
use Rattle.px_meaning.proofs.laws.grouped_is_map.Goals as goal

pub returns : goal.returns
returns c = IsMap-grouped
