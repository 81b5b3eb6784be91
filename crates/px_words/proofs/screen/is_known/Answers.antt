use Rattle.px_words.specs.Words.{names}
use Rattle.px_words.proofs.screen.is_known.Goals as goal

pub returns : goal.returns
unfolding names
returns c = c.is_one_of.ensures
