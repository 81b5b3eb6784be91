-- A desk that stores of several partitions share.
use Rattle.std.specs.Prelude.{◌≡◌, ◌<◌, ◌≤◌, ◌+◌, ◌*◌, ℕ, Bool, true, false, List, [], ◌∷◌, ◌++◌, length, Option, Some, None}
use Rattle.px_core.specs.Shown.{Shown, Clean}
use Rattle.px_pages.specs.Page.{IsPageLen}
use Rattle.px_meaning.specs.Graph.{Vertex, Graph}
use Rattle.px_cache.specs.View.{Shows, NoPins, AnyFile}
use Rattle.px_cache.specs.Note.{IsFull}
use Rattle.px_record.specs.Held.{HeldVertex}
use Rattle.px_store.specs.declared.shared.Desk.{Desk}

-- a partition's own files
pub record IsOwn (q f : ℕ) : Type 0 where
  pub low : 8 * q ≤ f
  pub high : f < 8 * q + 8

-- these files are shown as before
abbrev pub Kept : (ℕ → Type 0) → Desk → Shown → Desk → Shown → Type 0
Kept files d s d' s' = (f : ℕ) (ps : List (List ℕ)) → files f → Shows d.cache s f ps → Shows d'.cache s' f ps

abbrev pub OwnKept : ℕ → Desk → Shown → Desk → Shown → Type 0
OwnKept q d s d' s' = Kept (IsOwn q) d s d' s'

abbrev pub OthersKept : ℕ → Desk → Shown → Desk → Shown → Type 0
OthersKept q d s d' s' = Kept (λ f. IsOwn q f → ⊥) d s d' s'

-- nobody owns the desk, or this partition does
abbrev pub IsFreeFor : ℕ → Option ℕ → Type 0
IsFreeFor q None = Unit {0}
IsFreeFor q (Some p) = p ≡ q

abbrev pub IsNotOwner : ℕ → Option ℕ → Type 0
IsNotOwner q None = Unit {0}
IsNotOwner q (Some p) = p ≡ q → ⊥

-- the side share of a desk for stores that are not counted: ten frames, all in it
pub record HasSide (d : Desk) : Type 0 where
  pub some : 10 ≤ length d.side.frames
  pub full : IsFull d.side

abbrev pub HasSideFor : Bool → Desk → Type 0
HasSideFor true d = Unit {0}
HasSideFor false d = HasSide d

-- a call of a store of this partition may come
pub record IsReady (counted : Bool) (q : ℕ) (d : Desk) (s : Shown) : Type 0 where
  pub len : d.cache.len ≡ s.page_len
  pub page : IsPageLen s.page_len
  pub pins : NoPins d.cache.notes
  pub owner : IsFreeFor q d.owner
  pub few : length d.cache.notes ≤ 65536
  pub side : HasSideFor counted d

-- the sizes of a desk's parts, which no call of a store changes
pub record SameDesk (old new : Desk) : Type 0 where
  pub len : new.cache.len ≡ old.cache.len
  pub frames : length new.cache.notes ≡ length old.cache.notes
  pub side : new.side.size ≡ old.side.size
  pub side_len : new.side.frame_len ≡ old.side.frame_len
  pub full : IsFull old.side → IsFull new.side

-- after a call of a store of this partition that answered Ok: no call of the disk failed, the files of the other partitions
-- are shown as before, and the next call may come
pub record IsDone (counted : Bool) (q : ℕ) (d : Desk) (s : Shown) (d' : Desk) (s' : Shown) : Type 0 where
  pub clean : Clean AnyFile s s'
  pub others : OthersKept q d s d' s'
  pub ready : IsReady counted q d' s'

-- the room and the frame of a record, which no call of a store changes
pub record SameRoom (old new : HeldVertex) : Type 0 where
  pub room : new.room ≡ old.room
  pub frame_len : new.frame_len ≡ old.frame_len

-- a vertex is given and the rest stays, or none is given since none is left
abbrev pub GivesNext : Bool → ℕ → Vertex → Graph → Graph → (Graph → Graph → Type 0) → Type 0
GivesNext false v x a b now = (b ≡ []) × now a []
GivesNext true v x a b now = (rest : Graph) × (b ≡ (v, x) ∷ rest) × now (a ++ (v, x) ∷ []) rest

-- every vid is below this one
abbrev pub AllBelow : ℕ → Graph → Type 0
AllBelow v [] = Unit {0}
AllBelow v (e ∷ es) = (e.0 < v) × AllBelow v es
