-- What was read and parted is what the text means.
use Rattle.std.proofs.Common.{◌≡◌, ℕ, suc, List, [], ◌∷◌, length, IsPermutation, sym, ◌∙◌, ap, refl, subst}
use Rattle.std.specs.List.{AllByRecursion as ByRecursion}
use Rattle.std.proofs.lemmas.List.Elements.{All-from_recursion, recursion_from_All}
use Rattle.std.proofs.lemmas.List.Sorted.{All-permutation, IsPermutation-map, length_permutation}
use Rattle.px_meaning.specs.Graph.{Graph, IsMap, IsAscending}
use Rattle.px_meaning.specs.GraphText.{TextMeaning, Good, graph_given}
use Rattle.px_meaning.specs.Merge.{Pairs}
use Rattle.px_record.specs.Body.{vertex_of}
use Rattle.px_record.specs.Held.{IsBody}
use Rattle.px_load.specs.Reading.{vertices_of, AllBodies, StandsTwice, RefusesPairs}
use Rattle.px_load.specs.Stops.{HasGoodLines, IsLineRefusal, IsRefusal}
use Rattle.px_load.specs.declared.stops.LoadStop.{LoadStop}
use Rattle.px_load.specs.declared.stops.LoadStop.TheVariants as stops
use Rattle.px_load.proofs.Ordering.{given_once}
use Rattle.px_load.proofs.PartingSteps.{vids_of}

to_recursion : (room : ℕ) (l : Pairs) → AllBodies room l → ByRecursion (λ (p : ℕ × List ℕ). IsBody room p.1) l
to_recursion room [] h = tt
to_recursion room (p ∷ l) h = (h.0, to_recursion room l h.1)

from_recursion : (room : ℕ) (l : Pairs) → ByRecursion (λ (p : ℕ × List ℕ). IsBody room p.1) l → AllBodies room l
from_recursion room [] h = tt
from_recursion room (p ∷ l) h = (h.0, from_recursion room l h.1)

pub bodies_permuted : (room : ℕ) (l k : Pairs) → IsPermutation l k → AllBodies room l → AllBodies room k
bodies_permuted room l k moved h =
    from_recursion room k (recursion_from_All _ k (All-permutation (λ (p : ℕ × List ℕ). IsBody room p.1) l k moved (All-from_recursion _ l (to_recursion room l h))))

length_of : (l : Pairs) → length (vertices_of l) ≡ length l
length_of [] = refl
length_of (p ∷ l) = ap suc (length_of l)

-- pairs in the order of their vids mean their vertices
pub sorted_meaning : (l sorted : Pairs) → IsMap sorted → IsPermutation l sorted → graph_given (vertices_of l) ≡ Good (vertices_of sorted)
sorted_meaning l sorted m moved =
    given_once (vertices_of l) (vertices_of sorted) (subst IsAscending (sym (vids_of sorted)) m) (IsPermutation-map (λ (p : ℕ × List ℕ). (p.0, vertex_of p.1)) l sorted moved)

pub sorted_count : (l sorted : Pairs) → IsPermutation l sorted → length (vertices_of sorted) ≡ length l
sorted_count l sorted moved = length_of sorted ∙ length_permutation l sorted moved

pub sorted_length : (l : Pairs) → length (vertices_of l) ≡ length l
sorted_length l = length_of l

good_in : {a b : Graph} → Good b ≡ Good a → b ≡ a
good_in e = cc

pub good_same : (m : TextMeaning) (a b : Graph) → m ≡ Good a → m ≡ Good b → b ≡ a
good_same m a b x y = good_in (sym y ∙ x)

-- pairs of which a vid stands twice refuse the text
pub pairs_refuse : (IsTwice : ℕ → Type 0) (e : LoadStop) (l : Pairs) (m : TextMeaning) → m ≡ graph_given (vertices_of l) → ((v : ℕ) → IsTwice v → StandsTwice l v) → RefusesPairs IsTwice e → IsRefusal m e
pairs_refuse IsTwice stops.Source l m is twice h = tt
pairs_refuse IsTwice (stops.Bad line kind) l m is twice h = absurd h
pairs_refuse IsTwice (stops.Twice v) l m is twice h = is ∙ twice v h
pairs_refuse IsTwice stops.Graph l m is twice h = absurd h
pairs_refuse IsTwice stops.Scratch l m is twice h = tt

pub pairs_refuse_line : (IsTwice : ℕ → Type 0) (e : LoadStop) (m : TextMeaning) → HasGoodLines m → RefusesPairs IsTwice e → IsLineRefusal m e
pairs_refuse_line IsTwice stops.Source m good h = tt
pairs_refuse_line IsTwice (stops.Bad line kind) m good h = absurd h
pairs_refuse_line IsTwice (stops.Twice v) m good h = good
pairs_refuse_line IsTwice stops.Graph m good h = absurd h
pairs_refuse_line IsTwice stops.Scratch m good h = tt
