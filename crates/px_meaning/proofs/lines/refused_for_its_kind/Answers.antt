use Rattle.px_meaning.proofs.OffenceKinds.{refused_is_for_kind}
use Rattle.px_meaning.proofs.lines.refused_for_its_kind.Goals as goal

pub returns : goal.returns
returns c = refused_is_for_kind
