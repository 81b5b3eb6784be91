use Rattle.std.proofs.Common.{◌≡◌}
use Rattle.px_bench.proofs.vertices.make.Given as goal

abbrev pub invariant-loop-edge : goal.invariant-loop-edge
invariant-loop-edge l = l.v.room ≡ l.fn.v.room
