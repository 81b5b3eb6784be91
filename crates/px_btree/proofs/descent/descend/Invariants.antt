use Rattle.std.proofs.Common.{◌≡◌, ◌≤◌, ◌+◌, ◌-◌, List, ℕ, length}
use Rattle.px_core.specs.Shown.{Clean}
use Rattle.px_cache.specs.View.{AnyFile, OthersShown, SameCache, Shows}
use Rattle.px_btree.specs.Tree.{Piece}
use Rattle.px_btree.specs.Find.{IsAt, CameTo}
use Rattle.px_btree.proofs.descent.descend.Given as goal

abbrev pub invariant-loop-level : goal.invariant-loop-level
invariant-loop-level g l =
    let shown = g.D.Disk.shown in
    record {
      came : (ps : List (List ℕ)) (levels : List (List Piece)) → Shows l.fn.cache (shown l.fn.disk) l.file ps → IsAt l.vid (shown l.fn.disk).page_len ps levels l.root → length levels ≡ l.depth
          → CameTo l.vid (l.level - 1) l.file (shown l.fn.disk).page_len levels l.page l.cache (shown l.disk) ps;
      least : 1 ≤ l.level;
      most : l.level ≤ l.depth;
      others : OthersShown l.file l.fn.cache (shown l.fn.disk) l.cache (shown l.disk);
      stays : SameCache l.fn.cache l.cache;
      reads : (shown l.disk).reads + 1 ≤ (shown l.fn.disk).reads + l.level;
      clean : Clean AnyFile (shown l.fn.disk) (shown l.disk);
    }
