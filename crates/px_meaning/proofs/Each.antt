-- What is made for each of some numbers.
use Rattle.std.proofs.Common.{◌≡◌, ℕ, ◌==◌, List, [], ◌∷◌, map, true, Some, sym, ◌∙◌, ap, refl, inl, inr}
use Rattle.std.proofs.lemmas.Bool.{or_right, cases_eq, true≢false}
use Rattle.px_meaning.specs.Graph.{vids, lookup}
use Rattle.px_meaning.proofs.Ascending.{has, has-first, has-rest}
use Rattle.px_meaning.proofs.Maps.{lookup_here, lookup_past}

pub vids_of_each : {X : Type 0} (f : ℕ → X) (ns : List ℕ) → vids (map (λ v. (v, f v)) ns) ≡ ns
vids_of_each f [] = refl
vids_of_each f (n ∷ ns) = ap (λ (l : List ℕ). n ∷ l) (vids_of_each f ns)

pub lookup_of_each : {X : Type 0} (f : ℕ → X) (k : ℕ) (ns : List ℕ) → has k ns ≡ true → lookup k (map (λ v. (v, f v)) ns) ≡ Some (f k)
lookup_of_each f k [] h = absurd (true≢false (sym h))
lookup_of_each f k (n ∷ ns) h =
    elim (cases_eq k n) [
      | inl s ↦ lookup_here k (n, f n) (map (λ v. (v, f v)) ns) s ∙ ap (λ v. Some (f v)) (sym s)
      | inr d ↦ lookup_past k (n, f n) (map (λ v. (v, f v)) ns) d ∙ lookup_of_each f k ns (sym (has-rest k n ns d) ∙ h)
    ]

-- where two functions agree on each number, so do what they make
pub map_agree : {X : Type 0} (f g : ℕ → X) (ns : List ℕ) → ((k : ℕ) → has k ns ≡ true → f k ≡ g k) → map f ns ≡ map g ns
map_agree f g [] h = refl
map_agree f g (n ∷ ns) h = ap (λ x. x ∷ map f ns) (h n (has-first n ns)) ∙ ap (λ l. g n ∷ l) (map_agree f g ns (λ k later. h k (or_right (k == n) _ later)))

-- one function after the other
pub map_map : {X Y Z : Type 0} (f : Y → Z) (g : X → Y) (xs : List X) → map f (map g xs) ≡ map (λ x. f (g x)) xs
map_map f g [] = refl
map_map f g (x ∷ xs) = ap (λ l. f (g x) ∷ l) (map_map f g xs)
