use Rattle.std.proofs.Common.{◌≡◌, ◌≤◌, ◌+◌, ◌-◌, List, ℕ, length}
use Rattle.px_core.specs.Shown.{Clean}
use Rattle.px_cache.specs.View.{AnyFile, OthersShown, SameCache, Shows}
use Rattle.px_btree.specs.Fill.{WithTuples, IsLast, leads}
use Rattle.px_btree.proofs.inner.add_inner.Given as goal

abbrev pub invariant-loop-child : goal.invariant-loop-child
invariant-loop-child g l =
    let shown = g.D.Disk.shown in
    record {
      made : (ps : List (List ℕ)) → l.page ≡ length ps → l.span.to ≤ l.page → Shows l.fn.cache (shown l.fn.disk) l.file ps
          → WithTuples (shown l.fn.disk).page_len 4 l.link l.file (leads l.span.first ps l.span.from (l.child - l.span.from)) ps l.cache (shown l.disk);
      last : IsLast l.cache l.file l.page;
      least : l.span.from ≤ l.child;
      most : l.child ≤ l.span.to;
      others : OthersShown l.file l.fn.cache (shown l.fn.disk) l.cache (shown l.disk);
      stays : SameCache l.fn.cache l.cache;
      reads : (shown l.disk).reads + l.span.from ≤ (shown l.fn.disk).reads + l.child;
      clean : Clean AnyFile (shown l.fn.disk) (shown l.disk);
    }
