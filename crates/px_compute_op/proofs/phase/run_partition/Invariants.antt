use Rattle.px_connectors.specs.Asking.{Asked}
use Rattle.px_compute_op.specs.Outs.{idle_start}
use Rattle.px_compute_op.proofs.phase.run_partition.Given as goal

-- the phase keeps to its program, and to the requests before it
abbrev pub ghosts-each_row : goal.ghosts-each_row
ghosts-each_row g a = record {
  start = record idle_start { program = g.P.Program.meaning a.program.now };
  asked_before = Asked (g.SD.Disk.shown a.scratch.now) a.requests.now;
}
