use Rattle.std.proofs.Common.{◌≡◌}
use Rattle.px_superstep.specs.Jobs.{IsJob}
use Rattle.px_wild.proofs.tests.jobs.take_three.Given as goal

abbrev pub invariant-loop : goal.invariant-loop
invariant-loop g l = record {
  job : IsJob g.St.Store.part g.St.Store.counted l.job;
  number : l.job.gs.superstep ≡ l.counter;
  graph : (g.GD.Disk.shown l.graph).page_len ≡ l.job.bank.frame_len;
  scratch : (g.SD.Disk.shown l.scratch).page_len ≡ l.job.bank.frame_len;
}
