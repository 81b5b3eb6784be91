use Rattle.std.proofs.Common.{◌≡◌, ◌-◌, length}
use Rattle.px_pages.specs.Page.{IsWritten}
use Rattle.px_bench.proofs.pages.fill.Given as goal

abbrev pub invariant-loop-writer : goal.invariant-loop-writer
invariant-loop-writer l = record {
  written : IsWritten l.writer l.page;
  len : l.writer.len ≡ length l.page;
}

abbrev pub decreases-loop-writer : goal.decreases-loop-writer
decreases-loop-writer l = l.writer.len - l.writer.used
