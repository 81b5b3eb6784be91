use Rattle.std.proofs.Common.{◌<◌, ◌-◌, ℕ, count_ones}
use Rattle.px_core.specs.Bits.{IsRankedBit}
use Rattle.px_core.proofs.turns.ranked_bit.Given as goal

abbrev pub invariant-clear : goal.invariant-clear
invariant-clear l = record {
  some : l.rank - l.counter < count_ones l.left;
  ranked : (place : ℕ) → IsRankedBit l.left (l.rank - l.counter) place → IsRankedBit l.ready l.rank place;
}
