use Rattle.std.proofs.Common.{◌≡◌, ℕ, length}
use Rattle.px_core.specs.Shown.{Clean, NoFile}
use Rattle.px_meaning.specs.Graph.{Graph}
use Rattle.px_load.specs.Heads.{GiveParts, AreReaders}
use Rattle.px_load.proofs.HeadsSteps.{Looking}
use Rattle.px_load.proofs.heads.look_all.Given as goal

abbrev pub invariant-loop-q : goal.invariant-loop-q
invariant-loop-q g l =
    let shown = g.D.Disk.shown in
    record {
      looking : (room : ℕ) (k : Graph) → GiveParts (shown l.fn.disk) room l.fn.readers k → Looking (shown l.disk) room l.q l.readers k;
      end : l.q-end ≡ length l.fn.readers;
      count : length l.readers ≡ length l.fn.readers;
      clean : Clean NoFile (shown l.fn.disk) (shown l.disk);
      are : AreReaders (shown l.fn.disk).page_len l.readers;
    }
