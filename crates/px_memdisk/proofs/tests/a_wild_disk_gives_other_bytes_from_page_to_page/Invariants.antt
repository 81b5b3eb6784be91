use Rattle.std.proofs.Common.{◌≡◌}
use Rattle.px_memdisk.proofs.tests.a_wild_disk_gives_other_bytes_from_page_to_page.Given as goal

abbrev pub invariant-loop-page : goal.invariant-loop-page
invariant-loop-page g l = l.disk.page_len ≡ 4
