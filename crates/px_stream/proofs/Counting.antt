-- Counts that grow by so many.
use Rattle.std.proofs.Common.{◌≡◌, ℕ, zero, suc, ◌+◌, ◌-◌, ◌≤◌, ◌<◌, ◌^◌, min, refl, ◌∙◌, arith}
use Rattle.px_core.specs.Counts.{bumped_by}

some_more : (k n : ℕ) → 0 < k → bumped_by k n ≡ min (n + k) (2 ^ 64 - 1)
some_more zero n some = omega (arith, some)
some_more (suc k) n some = refl
