use Rattle.px_meaning.proofs.Steps.{IsMap-next}
use Rattle.px_meaning.proofs.laws.next_graph_is_map.Goals as goal

pub returns : goal.returns
returns c = IsMap-next
