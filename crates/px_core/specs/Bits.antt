-- The set bits of a u32.
use Rattle.std.specs.Prelude.{◌≡◌, ℕ, ◌<◌, ◌≤◌, ◌/◌, ◌%◌, ◌^◌, nat_lt, ◌==◌, Bool, ◌&&◌, count_ones}
use Rattle.std.specs.Int.{w32, trailing_zeros}

-- bit i is set
pub record IsBit (number i : ℕ) : Type 0 where
  pub within : i < 32
  pub set : number / 2 ^ i % 2 ≡ 1

-- the same as a test
abbrev pub is_bit : ℕ → ℕ → Bool
is_bit number i = nat_lt i 32 && (number / 2 ^ i % 2 == 1)

-- the number of the lowest set bit
abbrev pub lowest_bit : ℕ → ℕ
lowest_bit number = trailing_zeros w32 number

-- bit i is set, and no lower one
pub record IsLowestBit (number i : ℕ) : Type 0 where
  pub bit : IsBit number i
  pub least : (j : ℕ) → IsBit number j → i ≤ j

-- bit i is set, and no higher one
pub record IsHighestBit (number i : ℕ) : Type 0 where
  pub bit : IsBit number i
  pub greatest : (j : ℕ) → IsBit number j → j ≤ i

-- bit i is set, and so many below it
pub record IsRankedBit (number rank i : ℕ) : Type 0 where
  pub bit : IsBit number i
  pub below : count_ones (number % 2 ^ i) ≡ rank
