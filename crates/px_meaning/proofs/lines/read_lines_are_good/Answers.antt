use Rattle.px_meaning.proofs.Readings.{read_is_good}
use Rattle.px_meaning.proofs.lines.read_lines_are_good.Goals as goal

pub returns : goal.returns
returns c = read_is_good
