-- How the set bits of a number are counted from the lowest, and what clearing that one does.
use Rattle.std.proofs.Common.{ℕ, suc, zero, ◌≡◌, ◌+◌, ◌-◌, ◌*◌, ◌/◌, ◌%◌, ◌<◌, ◌^◌, sym, ap, ap₂, subst, ◌∙◌, arith, inl, inr, bit_and, count_ones}
use Rattle.std.proofs.Math.Nat.{add-zero, mod_self}
use Rattle.std.proofs.lemmas.Bool.{cases_lt}
use Rattle.std.proofs.lemmas.Nat.{pow_pos, pow_below, mod-pow-add, shr_split, shr_high, mod_low, ones_cat, and_block, and_mask, ones_le_self, zero_from_ones}
use Rattle.std.proofs.lemmas.Nat.Bits.{bit_at-trailing_zeros, bit_at-zero, bit_at_cat_low, bit_at_cat_high}
use Rattle.std.specs.Int.{w32}
use Rattle.std.specs.Int.Bits.{and_self}
use Rattle.px_core.specs.Bits.{IsRankedBit, lowest_bit}
use Rattle.px_core.proofs.Bits.{lowest_bit-is_bit}

-- ---- counts

ones_of_none : count_ones 0 ≡ 0
ones_of_none = omega (arith, ones_le_self 0)

-- a number that is not 0 has a set bit
pub ones-pos : (n : ℕ) → 0 < n → 0 < count_ones n
ones-pos n some = elim (cases_lt 0 (count_ones n)) [
  | inl more ↦ more
  | inr none ↦ absurd (omega (arith, zero_from_ones n (omega arith)))
]

ones_of_one : count_ones 1 ≡ 1
ones_of_one = omega (arith, ones_le_self 1, ones-pos 1 (omega arith))

ones_of_power : (k : ℕ) → count_ones (2 ^ k) ≡ 1
ones_of_power k =
    let whole : 2 ^ k ≡ 1 * 2 ^ k + 0 = omega arith in
    omega (arith, ap count_ones whole, ones_cat k 1 0 (pow_pos k), ones_of_none, ones_of_one)

-- the set bits below a place of a number in two parts
ones_below : (a b k j : ℕ) → b < 2 ^ k → count_ones ((a * 2 ^ k + b) % 2 ^ (j + k)) ≡ count_ones (a % 2 ^ j) + count_ones b
ones_below a b k j fits =
    ap count_ones (mod-pow-add (a * 2 ^ k + b) j k ∙ ap₂ (λ (h l : ℕ). h % 2 ^ j * 2 ^ k + l) (shr_high a k b fits) (mod_low a k b fits))
    ∙ ones_cat k (a % 2 ^ j) b fits

-- ---- from the lowest set bit

none_below : (n t : ℕ) → ((i : ℕ) → i < t → n / 2 ^ i % 2 ≡ 0) → n % 2 ^ t ≡ 0
none_below n zero none = omega arith
none_below n (suc t) none =
    let more : 1 + t ≡ suc t = omega arith in
    let low = none_below n t (λ i below. none i (omega arith)) in
    subst (λ (m : ℕ). n % 2 ^ m ≡ 0) more (mod-pow-add n 1 t ∙ ap₂ (λ (d l : ℕ). d * 2 ^ t + l) (none t (omega arith)) low ∙ omega arith)

-- a number in two parts, of which the lower has one bit
record Split (n : ℕ) : Type 0 where
  upper : ℕ
  k : ℕ
  parts : n ≡ upper * 2 ^ (1 + k) + 2 ^ k

split : (n : ℕ) → 0 < n → n < 2 ^ 32 → Split n
split n some fits =
    let t = lowest_bit n in
    let lowest = bit_at-trailing_zeros w32 n some fits in
    let low : n % 2 ^ (1 + t) ≡ 2 ^ t = mod-pow-add n 1 t ∙ ap₂ (λ (d l : ℕ). d * 2 ^ t + l) lowest.1 (none_below n t lowest.2) ∙ omega arith in
    record { upper = n / 2 ^ (1 + t); k = t; parts = sym (shr_split n (1 + t)) ∙ ap (λ l. n / 2 ^ (1 + t) * 2 ^ (1 + t) + l) low }

cleared : (n : ℕ) (s : Split n) → bit_and n (n - 1) ≡ s.upper * 2 ^ (1 + s.k)
cleared n s =
    let u = s.upper * 2 ^ (1 + s.k) in
    let one = 2 ^ s.k in
    let before : n - 1 ≡ u + (one - 1) = omega (arith, s.parts, pow_pos s.k) in
    let fits : one < 2 ^ (1 + s.k) = pow_below s.k (1 + s.k) (omega arith) in
    ap₂ bit_and s.parts before
    ∙ and_block (1 + s.k) s.upper s.upper one (one - 1) fits (omega arith)
    ∙ ap₂ (λ (h l : ℕ). h * 2 ^ (1 + s.k) + l) (and_self s.upper) (and_mask one s.k ∙ mod_self one)
    ∙ add-zero u

ranked_above : (a b k r i : ℕ) → b < 2 ^ k → count_ones b ≡ 1 → IsRankedBit (a * 2 ^ k + 0) r i → IsRankedBit (a * 2 ^ k + b) (suc r) i
ranked_above a b k r i fits one h = elim (cases_lt i k) [
  | inl low ↦ absurd (omega (arith, h.bit.set, bit_at_cat_low a k 0 i low, bit_at-zero i))
  | inr high ↦
      let at : i - k + k ≡ i = omega arith in
      record {
        bit = record {
          within = h.bit.within;
          set = bit_at_cat_high a k b i fits high ∙ sym (bit_at_cat_high a k 0 i (pow_pos k) high) ∙ h.bit.set;
        };
        below =
            let with = subst (λ j. count_ones ((a * 2 ^ k + b) % 2 ^ j) ≡ count_ones (a % 2 ^ (i - k)) + count_ones b) at (ones_below a b k (i - k) fits) in
            let without = subst (λ j. count_ones ((a * 2 ^ k + 0) % 2 ^ j) ≡ count_ones (a % 2 ^ (i - k)) + count_ones 0) at (ones_below a 0 k (i - k) (pow_pos k)) in
            omega (arith, with, without, h.below, one, ones_of_none);
      }
]

-- ---- clearing the lowest set bit

pub ones-cleared : (n : ℕ) → 0 < n → n < 2 ^ 32 → suc (count_ones (bit_and n (n - 1))) ≡ count_ones n
ones-cleared n some fits =
    let s = split n some fits in
    let low : 2 ^ s.k < 2 ^ (1 + s.k) = pow_below s.k (1 + s.k) (omega arith) in
    let with = ap count_ones s.parts ∙ ones_cat (1 + s.k) s.upper (2 ^ s.k) low in
    let without = ap count_ones (cleared n s ∙ sym (add-zero _)) ∙ ones_cat (1 + s.k) s.upper 0 (pow_pos (1 + s.k)) in
    omega (arith, with, without, ones_of_none, ones_of_power s.k)

-- what is ranked then has one more bit below it before
pub ranked-cleared : (n r i : ℕ) → 0 < n → n < 2 ^ 32 → IsRankedBit (bit_and n (n - 1)) r i → IsRankedBit n (suc r) i
ranked-cleared n r i some fits h =
    let s = split n some fits in
    subst (λ m. IsRankedBit m (suc r) i) (sym s.parts)
    (ranked_above s.upper (2 ^ s.k) (1 + s.k) r i (pow_below s.k (1 + s.k) (omega arith)) (ones_of_power s.k)
    (subst (λ m. IsRankedBit m r i) (cleared n s ∙ sym (add-zero _)) h))

pub lowest_bit-is_ranked : (n : ℕ) → 0 < n → n < 2 ^ 32 → IsRankedBit n 0 (lowest_bit n)
lowest_bit-is_ranked n some fits = record {
  bit = lowest_bit-is_bit n some fits;
  below = ap count_ones (none_below n (lowest_bit n) (bit_at-trailing_zeros w32 n some fits).2) ∙ ones_of_none;
}
