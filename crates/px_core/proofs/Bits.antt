-- The lowest set bit of a number, and the highest.
use Rattle.std.proofs.Common.{ℕ, suc, ◌≡◌, ◌*◌, ◌/◌, ◌%◌, ◌<◌, ◌≤◌, ◌^◌, ap, arith, inl, inr}
use Rattle.std.proofs.Math.Nat.{pow-suc}
use Rattle.std.proofs.lemmas.Bool.{cases_lt}
use Rattle.std.proofs.lemmas.Nat.{pow_pos, le-div, div_below}
use Rattle.std.proofs.lemmas.Nat.Bits.{bit_at-trailing_zeros, bit_at_above}
use Rattle.std.specs.Int.{w32}
use Rattle.px_core.specs.Bits.{IsBit, IsHighestBit, IsLowestBit, lowest_bit}

pub lowest_bit-is_bit : (number : ℕ) → 0 < number → number < 2 ^ 32 → IsBit number (lowest_bit number)
lowest_bit-is_bit number some fits =
    let lowest = bit_at-trailing_zeros w32 number some fits in
    record { within = lowest.0; set = lowest.1 }

pub lowest_bit-is_lowest : (number : ℕ) → 0 < number → number < 2 ^ 32 → IsLowestBit number (lowest_bit number)
lowest_bit-is_lowest number some fits =
    let lowest = bit_at-trailing_zeros w32 number some fits in
    record {
      bit = lowest_bit-is_bit number some fits;
      least = λ j bit. elim (cases_lt j (lowest_bit number)) [
        | inl below ↦ absurd (omega (arith, bit.set, lowest.2 j below))
        | inr least ↦ least
      ];
    }

pub power-is_highest : (number i : ℕ) → 2 ^ i ≤ number → number < 2 * 2 ^ i → i < 32 → IsHighestBit number i
power-is_highest number i low high within =
    let one : number / 2 ^ i ≡ 1 = omega (arith, le-div 1 number (2 ^ i) (pow_pos i) (omega arith), div_below number (2 ^ i) 2 (pow_pos i) high) in
    record {
      bit = record { within = within; set = ap (λ q. q % 2) one };
      greatest = λ j bit. elim (cases_lt i j) [
        | inl above ↦ absurd (omega (arith, bit.set, bit_at_above number (suc i) j (omega (arith, pow-suc 2 i)) above))
        | inr least ↦ least
      ];
    }
