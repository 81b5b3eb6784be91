-- Counts that stand still at their end.
use Rattle.std.specs.Prelude.{ℕ, zero, suc, ◌+◌, ◌-◌, ◌^◌, ◌≤◌, min, max}

-- one more, at a counter that stands still at the last value of u64
abbrev pub bumped : ℕ → ℕ
bumped n = min (n + 1) (2 ^ 64 - 1)

-- so many more
abbrev pub bumped_by : ℕ → ℕ → ℕ
bumped_by zero n = n
bumped_by (suc k) n = min (n + suc k) (2 ^ 64 - 1)

-- the count rose, or stands at its last value
abbrev pub Rose : ℕ → ℕ → Type 0
Rose before now = max before (bumped before) ≤ now
