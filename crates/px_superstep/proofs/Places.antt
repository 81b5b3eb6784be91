-- One store more, at the end of those before.
use Rattle.std.proofs.Common.{◌≡◌, ℕ, zero, suc, ◌+◌, List, [], ◌∷◌, ◌++◌, length, Some, sym, ◌∙◌, ap, arith}
use Rattle.std.specs.Prelude.{slice_get}
use Rattle.px_store.specs.Lists.{AreParts}

some_in : {X : Type 0} (x y : X) → Some x ≡ Some y → x ≡ y
some_in x y e = cc

-- those from a place on
more_from : {X : Type 0} (part : X → ℕ) (y : X) (xs : List X) (n : ℕ) → ((i : ℕ) (x : X) → slice_get xs i ≡ Some x → part x ≡ n + i) → part y ≡ n + length xs
    → (i : ℕ) (x : X) → slice_get (xs ++ y ∷ []) i ≡ Some x → part x ≡ n + i
more_from part y [] n are last zero x at = sym (ap part (some_in y x at)) ∙ last
more_from part y [] n are last (suc i) x at = cc
more_from part y (z ∷ zs) n are last zero x at = are zero x at
more_from part y (z ∷ zs) n are last (suc i) x at =
    let rest = more_from part y zs (n + 1) (λ j w there. let is = are (suc j) w there in omega (arith, is)) (omega (arith, last)) i x at in
    omega (arith, rest)

pub parts_more : {X : Type 0} (part : X → ℕ) (y : X) (xs : List X) → AreParts part xs → part y ≡ length xs → AreParts part (xs ++ y ∷ [])
parts_more part y xs are last i x at =
    let is = more_from part y xs 0 (λ j w there. let here = are j w there in omega (arith, here)) (omega (arith, last)) i x at in
    omega (arith, is)

pub no_parts : {X : Type 0} (part : X → ℕ) → AreParts part []
no_parts part i x at = cc
