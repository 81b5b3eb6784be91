-- A page at its place among the pages of a file.
use Rattle.std.proofs.Common.{◌≡◌, ℕ, ◌<◌, List, [], ◌∷◌, length, take, zero, suc, arith}
use Rattle.std.specs.Prelude.{Some, slice_get}

pub get_of_first : (n i : ℕ) (page : List ℕ) (ps : List (List ℕ)) → slice_get (take n ps) i ≡ Some page → slice_get ps i ≡ Some page
get_of_first zero i page ps h = absurd (cc h)
get_of_first (suc n) i page [] h = absurd (cc h)
get_of_first (suc n) zero page (p ∷ ps) h = h
get_of_first (suc n) (suc i) page (p ∷ ps) h = get_of_first n i page ps h

pub get_below : (i : ℕ) (page : List ℕ) (ps : List (List ℕ)) → slice_get ps i ≡ Some page → i < length ps
get_below i page [] h = absurd (cc h)
get_below zero page (p ∷ ps) h = omega arith
get_below (suc i) page (p ∷ ps) h = omega (arith, get_below i page ps h)
