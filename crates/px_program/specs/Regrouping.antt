-- Pairs in another order, in parts, partly merged, or woven together are grouped alike. Each law is for every merge that meets its laws, and for valid pairs.
use Rattle.std.specs.Prelude.{◌≡◌, ◌≤◌, ℕ, zero, suc, ◌==◌, IsTrue, List, [], ◌∷◌, ◌++◌, length, filter, Contains, Some}
use Rattle.std.specs.List.Sorted.{IsPermutation}
use Rattle.px_core.specs.Partition.{partition_of}
use Rattle.px_meaning.specs.Graph.{lookup}
use Rattle.px_meaning.specs.Merge.{MergeRule, MergeLaws, Pairs, AllValid, grouped}

-- a rearrangement has the same groups
abbrev pub AnyOrder : Type 0
AnyOrder = (rule : MergeRule) → MergeLaws rule → (l m : Pairs) → IsPermutation l m → AllValid rule l → grouped rule l ≡ grouped rule m

-- both parts may be grouped before the whole
abbrev pub InParts : Type 0
InParts = (rule : MergeRule) → MergeLaws rule → (l m : Pairs) → AllValid rule l → AllValid rule m → grouped rule (grouped rule l ++ grouped rule m) ≡ grouped rule (l ++ m)

-- two pairs of a vid may be merged to one, wherever they stand
abbrev pub OneMerge : Type 0
OneMerge =
    (rule : MergeRule) → MergeLaws rule → (xs ys zs : Pairs) (v : ℕ) (a b : List ℕ) → AllValid rule xs → AllValid rule ys → AllValid rule zs → IsTrue (rule.valid a) → IsTrue (rule.valid b)
    → grouped rule (xs ++ (v, rule.merge a b) ∷ (ys ++ zs)) ≡ grouped rule (xs ++ (v, a) ∷ (ys ++ (v, b) ∷ zs))

-- no payload is longer than its vid's fold
abbrev pub NeverLonger : Type 0
NeverLonger =
    (rule : MergeRule) → MergeLaws rule → (l : Pairs) (v : ℕ) (payload fold : List ℕ) → AllValid rule l → Contains l (v, payload) → lookup v (grouped rule l) ≡ Some fold → length payload ≤ length fold

-- the pairs whose vid is in this partition
abbrev pub in_partition : ℕ → ℕ → Pairs → Pairs
in_partition partitions q l = filter (λ e. partition_of e.0 partitions == q) l

-- a partition may be taken before or after grouping
abbrev pub ByPartition : Type 0
ByPartition = (rule : MergeRule) (partitions q : ℕ) (l : Pairs) → in_partition partitions q (grouped rule l) ≡ grouped rule (in_partition partitions q l)

-- lists one after the other
abbrev pub joined : List Pairs → Pairs
joined [] = []
joined (l ∷ ls) = l ++ joined ls

-- the first pair of the list at this place, where there is one
abbrev pub first_at : ℕ → List Pairs → Pairs
first_at i [] = []
first_at zero ([] ∷ ls) = []
first_at zero ((e ∷ l) ∷ ls) = e ∷ []
first_at (suc i) (l ∷ ls) = first_at i ls

-- the lists without it
abbrev pub without_first : ℕ → List Pairs → List Pairs
without_first i [] = []
without_first zero ([] ∷ ls) = [] ∷ ls
without_first zero ((e ∷ l) ∷ ls) = l ∷ ls
without_first (suc i) (l ∷ ls) = l ∷ without_first i ls

-- lists woven together: each pick takes the first pair left of one list. What no pick took comes last, list by list
abbrev pub woven : List ℕ → List Pairs → Pairs
woven [] ls = joined ls
woven (i ∷ picks) ls = first_at i ls ++ woven picks (without_first i ls)

-- these lists and those are in turn grouped alike, and all are valid
abbrev pub AlikeInTurn : MergeRule → List Pairs → List Pairs → Type 0
AlikeInTurn rule [] [] = Unit {0}
AlikeInTurn rule [] (m ∷ ms) = ⊥
AlikeInTurn rule (l ∷ ls) [] = ⊥
AlikeInTurn rule (l ∷ ls) (m ∷ ms) = (grouped rule l ≡ grouped rule m) × AllValid rule l × AllValid rule m × AlikeInTurn rule ls ms

-- however pieces are woven together, they are grouped as the wholes that each of them stands for
abbrev pub Regroup : Type 0
Regroup = (rule : MergeRule) → MergeLaws rule → (picks : List ℕ) (pieces wholes : List Pairs) → AlikeInTurn rule pieces wholes → grouped rule (woven picks pieces) ≡ grouped rule (joined wholes)
