use Rattle.std.proofs.Common.{◌≡◌}
use Rattle.px_memdisk.proofs.tests.pages_are_added_and_replaced.Given as goal

abbrev pub invariant-loop-page : goal.invariant-loop-page
invariant-loop-page g l = l.disk.page_len ≡ 4

abbrev pub invariant-loop-page-2 : goal.invariant-loop-page-2
invariant-loop-page-2 g l = l.disk.page_len ≡ 4
