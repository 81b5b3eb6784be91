-- What belongs to one partition, and what all of them have together.
use Rattle.std.specs.Prelude.{ℕ, zero, suc, ◌==◌, List, [], ◌∷◌, ◌++◌, filter, flat_map}
use Rattle.px_core.specs.Partition.{partition_of}

-- the pairs whose vid is in this partition
abbrev pub to_part : {X : Type 0} → ℕ → ℕ → List (ℕ × X) → List (ℕ × X)
to_part parts q es = filter (λ e. partition_of e.0 parts == q) es

-- the numbers below this one, ascending
abbrev pub upto : ℕ → List ℕ
upto zero = []
upto (suc n) = upto n ++ n ∷ []

-- what the partitions have, one after the other
abbrev pub all_of : {X : Type 0} → ℕ → (ℕ → List X) → List X
all_of parts f = flat_map f (upto parts)
