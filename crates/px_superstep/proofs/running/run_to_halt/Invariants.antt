use Rattle.std.proofs.Common.{◌≡◌}
use Rattle.px_core.specs.Shown.{Clean}
use Rattle.px_cache.specs.View.{AnyFile}
use Rattle.px_meaning.specs.Graph.{room_of}
use Rattle.px_meaning.specs.Runs.{HasRun}
use Rattle.px_meaning.specs.Step.{State}
use Rattle.px_superstep.specs.Files.{IsStepFile}
use Rattle.px_superstep.specs.Jobs.{IsJob, JobStands}
use Rattle.px_superstep.proofs.Reaching.{HasNoted}
use Rattle.px_superstep.proofs.running.run_to_halt.Given as goal

-- so many steps of the run were taken, and their lines noted
abbrev pub invariant-loop : goal.invariant-loop
invariant-loop g l =
    let was = l.fn.job in
    let p = g.P.Program.meaning was.program in
    let room = room_of was.bank.frame_len in
    let of_graph = g.GD.Disk.shown in
    let of_scratch = g.SD.Disk.shown in
    record {
      runs : (s : State) → JobStands p room g.J.Join.probing g.St.Store.holds (of_graph l.fn.graph) (of_scratch l.fn.scratch) was s
          → HasRun p room l.most l.counter s (λ st. JobStands p room g.J.Join.probing g.St.Store.holds (of_graph l.graph) (of_scratch l.scratch) l.job st × HasNoted p room l.most l.counter s l.stats st);
      job : IsJob g.St.Store.part g.St.Store.counted l.job;
      number : l.job.gs.superstep ≡ l.counter;
      bank : l.job.bank ≡ was.bank;
      program : g.P.Program.meaning l.job.program ≡ p;
      clean : Clean AnyFile (of_graph l.fn.graph) (of_graph l.graph);
      scratch : Clean IsStepFile (of_scratch l.fn.scratch) (of_scratch l.scratch);
    }
