use Rattle.std.proofs.Common.{◌≡◌, ◌≤◌, ℕ, length}
use Rattle.px_core.specs.Shown.{Clean, NoFile}
use Rattle.px_meaning.specs.Merge.{Pairs}
use Rattle.px_connectors.specs.Receiving.{AreReaders, GiveAll, all_left}
use Rattle.px_connectors.proofs.ByTurns.{Looking}
use Rattle.px_connectors.proofs.readers.find_ready.Given as goal

abbrev pub invariant-loop-p : goal.invariant-loop-p
invariant-loop-p g l =
    let shown = g.D.Disk.shown in
    record {
      gives : (ls : ℕ → Pairs) → GiveAll (shown l.fn.disk) l.fn.readers ls → GiveAll (shown l.disk) l.readers ls;
      looking : Looking l.p l.ready l.readers;
      left : all_left l.readers ≤ all_left l.fn.readers;
      low : l.p ≤ l.p-end;
      end : l.p-end ≡ length l.fn.readers;
      count : length l.readers ≡ length l.fn.readers;
      clean : Clean NoFile (shown l.fn.disk) (shown l.disk);
      are : AreReaders (shown l.fn.disk).page_len l.readers;
    }
