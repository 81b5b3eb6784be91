use Rattle.px_meaning.proofs.GoodLines.{good_is_read}
use Rattle.px_meaning.proofs.lines.good_lines_are_read.Goals as goal

pub returns : goal.returns
returns c = good_is_read
