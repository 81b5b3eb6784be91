-- The saturating sum joins in any grouping and order, and nothing added is nothing changed.
use Rattle.std.proofs.Common.{◌≡◌, ℕ, ◌<◌, ◌^◌, arith}
use Rattle.px_program.specs.Saturating.{saturating_sum}

pub saturating_sum_unit : (a : ℕ) → a < 2 ^ 64 → saturating_sum 0 a ≡ a
saturating_sum_unit a h = omega arith

pub saturating_sum_commutes : (a b : ℕ) → saturating_sum a b ≡ saturating_sum b a
saturating_sum_commutes a b = omega arith

pub saturating_sum_associates : (a b c : ℕ) → saturating_sum a (saturating_sum b c) ≡ saturating_sum (saturating_sum a b) c
saturating_sum_associates a b c = omega arith
