use Rattle.std.proofs.Common.{◌≡◌, ◌+◌, ◌++◌, List}
use Rattle.px_core.specs.Shown.{Clean, Only}
use Rattle.px_pages.specs.Entry.{Entry}
use Rattle.px_stream.specs.Stream.{Took, ToGive}
use Rattle.px_stream.specs.Counts.{left}
use Rattle.px_stream.specs.Merged.{merged}
use Rattle.px_stream.proofs.Merging.{Merging}
use Rattle.px_stream.proofs.tests.merging.merge_two.Given as goal

abbrev pub invariant-loop-head : goal.invariant-loop-head
invariant-loop-head g l =
    let shown = g.D.Disk.shown in
    record {
      merging : (la lb k : List Entry) → ToGive (shown l.fn.disk) l.fn.a la → ToGive (shown l.fn.disk) l.fn.b lb → Took (shown l.fn.disk) l.fn.to k
          → Merging (shown l.disk) l.a l.b l.to (k ++ merged la lb);
      clean : Clean (Only l.fn.to.file) (shown l.fn.disk) (shown l.disk);
      a_file : l.a.file ≡ l.fn.a.file;
      b_file : l.b.file ≡ l.fn.b.file;
      a_len : l.a.page_len ≡ l.fn.a.page_len;
      b_len : l.b.page_len ≡ l.fn.b.page_len;
      to_file : l.to.file ≡ l.fn.to.file;
      to_len : l.to.page_len ≡ l.fn.to.page_len;
      limit : l.body.limit ≡ l.fn.body.limit;
    }

abbrev pub decreases-loop-head : goal.decreases-loop-head
decreases-loop-head g l = left l.a + left l.b
