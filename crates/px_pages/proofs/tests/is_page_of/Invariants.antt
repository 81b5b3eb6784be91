use Rattle.px_pages.specs.Page.{IsWritten}
use Rattle.px_pages.proofs.tests.is_page_of.Given as goal

abbrev pub invariant-loop-key : goal.invariant-loop-key
invariant-loop-key l = IsWritten l.writer l.want
