use Rattle.px_meaning.proofs.Grouping.{lookup-grouped}
use Rattle.px_meaning.proofs.laws.grouped_has_inboxes.Goals as goal

pub returns : goal.returns
returns c = lookup-grouped
