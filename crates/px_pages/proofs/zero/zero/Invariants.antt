use Rattle.std.proofs.Common.{◌≡◌, ◌*◌, ◌++◌, drop}
use Rattle.px_pages.specs.Page.{zeros}
use Rattle.px_pages.proofs.zero.zero.Given as goal

abbrev pub invariant-loop-i : goal.invariant-loop-i
invariant-loop-i l = l.page ≡ zeros (l.i * 256) ++ drop (l.i * 256) l.fn.page
