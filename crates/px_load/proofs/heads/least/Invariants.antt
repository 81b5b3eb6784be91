use Rattle.std.proofs.Common.{◌≡◌, length}
use Rattle.px_load.specs.Heads.{heads_of}
use Rattle.px_load.proofs.HeadsSteps.{Best}
use Rattle.px_load.proofs.heads.least.Given as goal

abbrev pub invariant-loop-i : goal.invariant-loop-i
invariant-loop-i l = record { best : Best l.i (heads_of l.readers) l.best; end : l.i-end ≡ length l.readers }
