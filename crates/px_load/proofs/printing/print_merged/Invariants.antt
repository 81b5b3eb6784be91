use Rattle.std.proofs.Common.{◌≡◌, ◌++◌, ℕ, List, length}
use Rattle.px_core.specs.Shown.{Clean, NoFile}
use Rattle.px_frames.specs.Buffer as buffer
use Rattle.px_meaning.specs.Graph.{Graph, IsMap}
use Rattle.px_meaning.specs.OutputText.{vertex_line}
use Rattle.px_store.specs.Desks.{SameRoom}
use Rattle.px_load.specs.Dumping.{SomeMore}
use Rattle.px_load.specs.Heads.{AreLooked, AreReaders, all_left}
use Rattle.px_load.proofs.PrintingSteps.{Prints}
use Rattle.px_load.proofs.printing.print_merged.Given as goal

abbrev pub invariant-loop : goal.invariant-loop
invariant-loop g l =
    let shown = g.SD.Disk.shown in
    let room = l.fn.v.room in
    record {
      prints : (k : Graph) → IsMap k → AreLooked (shown l.fn.scratch) room l.fn.readers k
          → Prints (vertex_line (g.P.Program.meaning l.program)) k (AreLooked (shown l.scratch) room l.readers) (λ text. (h : List ℕ) → g.W.Sink.holds l.fn.out h → g.W.Sink.holds l.out (h ++ text));
      more : (h : List ℕ) → g.W.Sink.holds l.fn.out h → SomeMore h (g.W.Sink.holds l.out);
      clean : Clean NoFile (shown l.fn.scratch) (shown l.scratch);
      no_fault : g.W.Sink.faults l.out ≡ g.W.Sink.faults l.fn.out;
      are : AreReaders (shown l.fn.scratch).page_len l.readers;
      count : length l.readers ≡ length l.fn.readers;
      body : buffer.SameRoom l.fn.body l.body;
      vertex : SameRoom l.fn.v l.v;
    }

abbrev pub decreases-loop : goal.decreases-loop
decreases-loop g l = all_left l.readers
