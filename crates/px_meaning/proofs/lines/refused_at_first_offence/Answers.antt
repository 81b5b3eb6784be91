use Rattle.px_meaning.proofs.Offences.{refused_is_first_offence}
use Rattle.px_meaning.proofs.lines.refused_at_first_offence.Goals as goal

pub returns : goal.returns
returns c = refused_is_first_offence
