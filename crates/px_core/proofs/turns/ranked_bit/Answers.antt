use Rattle.std.proofs.Common.{ℕ, suc, ◌≡◌, ◌-◌, ◌+◌, ◌<◌, ◌^◌, arith, subst}
use Rattle.std.proofs.lemmas.Nat.{ones_le_self}
use Rattle.px_core.specs.Bits.{IsRankedBit, lowest_bit}
use Rattle.px_core.proofs.Ranked.{ones-cleared, ranked-cleared, lowest_bit-is_ranked}
use Rattle.px_core.proofs.turns.ranked_bit.Goals as goal

pub clear-preserved : goal.clear-preserved
clear-preserved c =
    let left = c.clear.left in
    let some : 0 < left = omega (arith, c.clear.invariant.some, ones_le_self left) in
    let fits : left < 2 ^ 32 = omega (arith, c.clear.auto.left-fits) in
    let less : suc (c.args.rank - (c.clear.counter + 1)) ≡ c.args.rank - c.clear.counter = omega (arith, c.clear-test.true) in
    record {
      some = omega (arith, c.clear.invariant.some, ones-cleared left some fits, less);
      ranked = λ place h. c.clear.invariant.ranked place (subst (λ (r : ℕ). IsRankedBit left r place) less (ranked-cleared left _ place some fits h));
    }

pub returns : goal.returns
returns c =
    let left = c.clear.left in
    let some : 0 < left = omega (arith, c.clear.invariant.some, ones_le_self left) in
    let all : 0 ≡ c.args.rank - c.clear.counter = omega (arith, c.clear-test.false) in
    let fits : left < 2 ^ 32 = omega (arith, c.clear.auto.left-fits) in
    c.clear.invariant.ranked (lowest_bit left) (subst (λ (r : ℕ). IsRankedBit left r (lowest_bit left)) all (lowest_bit-is_ranked left some fits))
