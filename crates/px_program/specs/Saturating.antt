-- The sum of two numbers of 64 bits, at most the greatest of them. It joins the aggregates of programs that count.
use Rattle.std.specs.Prelude.{ℕ, ◌+◌, ◌-◌, ◌^◌, min}

abbrev pub saturating_sum : ℕ → ℕ → ℕ
saturating_sum a b = min (a + b) (2 ^ 64 - 1)
