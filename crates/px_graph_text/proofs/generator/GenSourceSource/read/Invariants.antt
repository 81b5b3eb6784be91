use Rattle.std.proofs.Common.{◌≡◌, ◌-◌, ◌≤◌, ◌++◌, take, drop, length}
use Rattle.px_graph_text.proofs.generator.GenSourceSource.read.Given as goal

abbrev pub invariant-lines : goal.invariant-lines
invariant-lines l = record {
  within : l.filled ≤ length l.into;
  moved : l.filled ≤ length l.initial.self;
  filled : l.into ≡ take l.filled l.initial.self ++ drop l.filled l.initial.into;
  left : l.self ≡ drop l.filled l.initial.self;
}

abbrev pub decreases-lines : goal.decreases-lines
decreases-lines l = length l.into - l.filled
