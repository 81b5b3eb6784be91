-- What is in the stores.
use Rattle.std.specs.Prelude.{◌≡◌, ◌≤◌, ℕ, ◌+◌, Bool, List, length, slice_get, Some, None}
use Rattle.px_core.specs.Parts.{to_part}
use Rattle.px_core.specs.Shown.{Shown}
use Rattle.px_meaning.specs.Graph.{Graph}
use Rattle.px_meaning.specs.GraphText as text
use Rattle.px_meaning.specs.GraphText.{TextMeaning}
use Rattle.px_store.specs.Desks.{IsReady}
use Rattle.px_store.specs.Lists.{AreParts}
use Rattle.px_store.specs.declared.shared.Desk.{Desk}

-- nobody owns the desk, and a call of any store may come
pub record IsFree (counted : Bool) (d : Desk) (s : Shown) : Type 0 where
  pub owner : d.owner ≡ None
  pub ready : IsReady counted 0 d s

-- a list of stores, the one at place i of partition i
pub record AreStores {X : Type 0} (part : X → ℕ) (stores : List X) : Type 0 where
  pub some : 1 ≤ length stores
  pub most : length stores ≤ 16
  pub parts : AreParts part stores

-- each store holds its partition's vertices
abbrev pub HoldGraph : {X : Type 0} → (X → Graph → Type 0) → List X → Graph → Type 0
HoldGraph holding stores graph = (q : ℕ) (st : _) → slice_get stores q ≡ Some st → holding st (to_part (length stores) q graph)

-- a good text's graph is in the stores, and this is its number of vertices
pub record IsLoaded {X : Type 0} (meaning : TextMeaning) (holding : X → Graph → Type 0) (stores : List X) (count : ℕ) : Type 0 where
  pub graph : Graph
  pub good : meaning ≡ text.Good graph
  pub hold : HoldGraph holding stores graph
  pub counted : count ≡ length graph

-- each store has at most one leaf more than vertices
abbrev pub FewLeaves : {X : Type 0} → (X → ℕ) → List X → Graph → Type 0
FewLeaves leaves stores graph = (q : ℕ) (st : _) → slice_get stores q ≡ Some st → leaves st ≤ length (to_part (length stores) q graph) + 1
