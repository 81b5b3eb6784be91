use Rattle.px_meaning.proofs.Offences.{first_offence_refuses}
use Rattle.px_meaning.proofs.lines.first_offence_is_refused.Goals as goal

pub returns : goal.returns
returns c = first_offence_refuses
