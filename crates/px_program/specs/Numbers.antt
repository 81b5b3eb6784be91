-- Messages of one number of 64 bits, in eight bytes, the highest first.
use Rattle.std.specs.Prelude.{ℕ, Bool, ◌&&◌, ◌==◌, nat_lt, if◌then◌else◌, List, length, Option, Some, None, min}
use Rattle.std.specs.List.{list_all}
use Rattle.byteorder.specs.Endian.{big_bytes, big_number}
use Rattle.px_meaning.specs.Merge.{MergeRule}
use Rattle.px_program.specs.Saturating.{saturating_sum}

-- the bytes of a number
unfoldable pub num : ℕ → List ℕ
num n = big_bytes 8 n

-- the number in eight bytes
unfoldable pub number : List ℕ → ℕ
number bytes = big_number 8 bytes

-- eight bytes, and no larger numbers among them
unfoldable pub is_num : List ℕ → Bool
is_num bytes = length bytes == 8 && list_all (λ b. nat_lt b 256) bytes

-- the number, or none where there are not eight bytes
abbrev pub number_in : List ℕ → Option ℕ
number_in bytes = if length bytes == 8 then Some (number bytes) else None

-- two numbers are merged to one
abbrev pub number_rule : (ℕ → ℕ → ℕ) → MergeRule
number_rule join = record { valid = is_num; merge = λ a b. num (join (number a) (number b)) }

-- merge gives the lesser number
abbrev pub lesser_rule : MergeRule
lesser_rule = number_rule min

-- merge gives the sum, at most the greatest number of 64 bits
abbrev pub sum_rule : MergeRule
sum_rule = number_rule saturating_sum
