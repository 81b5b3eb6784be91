-- What is read for rows where each vid is looked up.
use Rattle.std.proofs.Common.{◌≡◌, ◌≤◌, ◌+◌, ◌*◌, ℕ, Bool, List, [], ◌∷◌, length, ap, refl, arith}
use Rattle.std.specs.Bool.{OnTrue}
use Rattle.std.proofs.lemmas.Bool.{OnTrue_at, OnTrue_from}
use Rattle.px_meaning.specs.Program.{Row}

-- no row was given yet
pub looked_first : (counted : Bool) (first n : ℕ) → OnTrue counted (first + 64 * n ≤ first + 64 * n)
looked_first counted first n = OnTrue_from counted (first + 64 * n ≤ first + 64 * n) (λ on. omega arith)

module _ (counted : Bool) (first was now n : ℕ) where
  -- one row more was looked up
  pub looked_up : (rest : List Row) (r : Row) (more : List Row) → rest ≡ r ∷ more → OnTrue counted (was + 64 * length rest ≤ first + 64 * n) → OnTrue counted (now ≤ was + 64) → OnTrue counted (now + 64 * length more ≤ first + 64 * n)
  looked_up rest r more is h one = OnTrue_from counted _ (λ on. (let long = ap length is in omega (arith, OnTrue_at on h, OnTrue_at on one, long)))

  -- so far at most as much was read as for all rows
  pub looked_within : (rest : List Row) → OnTrue counted (now + 64 * length rest ≤ first + 64 * n) → OnTrue counted (now ≤ first + 64 * n)
  looked_within rest h = OnTrue_from counted _ (λ on. omega (arith, OnTrue_at on h))

  -- a call answered no row
  pub looked_past : (P : List Row → Type 0) (rest : List Row) → P rest → OnTrue counted (was + 64 * length rest ≤ first + 64 * n) → (P [] → OnTrue counted (now ≤ was)) → OnTrue counted (now ≤ was + 64) → OnTrue counted (now ≤ first + 64 * n)
  looked_past P [] p h none one = OnTrue_from counted _ (λ on. omega (arith, OnTrue_at on h, OnTrue_at on (none p)))
  looked_past P (r ∷ more) p h none one = looked_within more (looked_up (r ∷ more) r more refl h one)
