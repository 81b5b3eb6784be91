-- How far a store was filled.
use Rattle.std.specs.Prelude.{◌≡◌, ◌≤◌, ◌<◌, ◌*◌, ℕ, ◌+◌, Bool, true, false, List, [], ◌∷◌, ◌++◌, length, filter, nat_lt, slice_get, Some}
use Rattle.std.specs.Bool.{OnTrue}
use Rattle.px_core.specs.Partition.{partition_of}
use Rattle.px_meaning.specs.Graph.{Graph}
use Rattle.px_meaning.specs.Merge.{Pairs}
use Rattle.px_record.specs.Held.{HeldVertex}
use Rattle.px_record.specs.Body.{vertex_of}
use Rattle.px_load.specs.Reading.{vertices_of}

-- the first vertex of these pairs is in the record, and this holds of the others; or there is none
abbrev pub GaveNext : Bool → HeldVertex → Pairs → (Pairs → Type 0) → Type 0
GaveNext false v l After = l ≡ []
GaveNext true v l After = (body : List ℕ) × (rest : Pairs) × (l ≡ (v.vid, body) ∷ rest) × (v.vertex ≡ vertex_of body) × After rest

-- the first vertices of these pairs were taken by a store, and the others are still to be given. It may have read two pages for each that was taken, and made a leaf
pub record Fills (Takes : Graph → Type 0) (AreToGive : Pairs → Type 0) (counted : Bool) (spent spent' made made' : ℕ) (l : Pairs) : Type 0 where
  pub done : Pairs
  pub rest : Pairs
  pub is : l ≡ done ++ rest
  pub takes : Takes (vertices_of done)
  pub to_give : AreToGive rest
  pub reads : OnTrue counted (spent' ≤ spent + 2 * length done)
  pub leaves : OnTrue counted (made' ≤ made + length done)

-- each of the first stores holds the graph of its place
abbrev pub HoldUpTo : {X : Type 0} → (X → Graph → Type 0) → ℕ → (ℕ → Graph) → List X → Type 0
HoldUpTo holding n graphs stores = (i : ℕ) (st : _) → i < n → slice_get stores i ≡ Some st → holding st (graphs i)

-- how many pairs belong to the first partitions
abbrev pub count_below : ℕ → ℕ → Pairs → ℕ
count_below parts n l = length (filter (λ (e : ℕ × List ℕ). nat_lt (partition_of e.0 parts) n) l)
