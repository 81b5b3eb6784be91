use Rattle.std.proofs.Common.{◌≡◌, ◌≤◌, ◌<◌, ◌+◌, ◌-◌, ◌*◌, List, ℕ, length}
use Rattle.px_core.specs.Shown.{Clean}
use Rattle.px_cache.specs.View.{AnyFile, OthersShown, SameCache, Shows}
use Rattle.px_btree.specs.Fill.{Indexes}
use Rattle.px_btree.proofs.inner.add_level.Given as goal

abbrev pub invariant-loop-from : goal.invariant-loop-from
invariant-loop-from g l =
    let shown = g.D.Disk.shown in
    record {
      index : (ps : List (List ℕ)) → l.end ≡ length ps → Shows l.fn.cache (shown l.fn.disk) l.file ps
          → Indexes (shown l.fn.disk).page_len l.file l.first l.from l.end l.page ps l.cache (shown l.disk);
      least : l.first ≤ l.from;
      most : l.from ≤ l.end;
      rest : l.from < l.end → l.from + 2 ≤ l.end;
      half : 2 * (l.page - l.end) ≤ l.from - l.first;
      below : l.end ≤ l.page;
      some : l.first < l.from → l.end < l.page;
      two : 2 ≤ l.most;
      room : 32 + 21 * (l.most + 1) ≤ (shown l.fn.disk).page_len;
      others : OthersShown l.file l.fn.cache (shown l.fn.disk) l.cache (shown l.disk);
      stays : SameCache l.fn.cache l.cache;
      reads : (shown l.disk).reads + l.first ≤ (shown l.fn.disk).reads + l.from;
      clean : Clean AnyFile (shown l.fn.disk) (shown l.disk);
    }

abbrev pub decreases-loop-from : goal.decreases-loop-from
decreases-loop-from g l = l.end - l.from
