-- Which vid of a partition is settled next.
use Rattle.std.specs.Prelude.{◌≡◌, ◌+◌, ℕ, Bool, true, false, if◌then◌else◌, nat_lt, List, [], ◌∷◌, ◌++◌, map, Option, Some, None}
use Rattle.px_meaning.specs.Graph.{Graph, Vertex, vids, AllAbove}
use Rattle.px_meaning.specs.Merge.{Pairs}
use Rattle.px_pages.specs.Entry.{Entry, entry}
use Rattle.px_program.specs.Groups.{LeadsPair}
use Rattle.px_stream.specs.declared.reader.Head.{Head}
use Rattle.px_mutations.specs.declared.turns.Turn.{Turn}

abbrev pub turn : ℕ → Bool → Bool → Turn
turn v update verdict = record { vid = v; has_update = update; has_verdict = verdict }

-- the turn of the lesser of two vids
abbrev pub due_turn : Option ℕ → Option ℕ → Option Turn
due_turn None None = None
due_turn None (Some k) = Some (turn k false true)
due_turn (Some v) None = Some (turn v true false)
due_turn (Some v) (Some k) = if nat_lt v k then Some (turn v true false) else if nat_lt k v then Some (turn k false true) else Some (turn v true true)

abbrev pub key_in : Option Head → Option ℕ
key_in None = None
key_in (Some h) = Some h.key

-- the first key of a map
abbrev pub first_vid : {X : Type 0} → List (ℕ × X) → Option ℕ
first_vid [] = None
first_vid (e ∷ es) = Some e.0

-- a map begins with this key, or all its keys are above
abbrev pub Comes : {X : Type 0} → Bool → ℕ → List (ℕ × X) → Type 0
Comes true v es = first_vid es ≡ Some v
Comes false v es = AllAbove v (vids es)

-- no vid of either map is left, or the turn is that of their least
abbrev pub IsTurn : Option Turn → Graph → Pairs → Type 0
IsTurn None cs fs = (cs ≡ []) × (fs ≡ [])
IsTurn (Some t) cs fs = Comes t.has_update t.vid cs × Comes t.has_verdict t.vid fs

-- the value, where there is one
abbrev pub given_if : {X : Type 0} → Bool → X → Option X
given_if has x = if has then Some x else None

-- what a map has at a key that is not above its others, and the rest of the map
abbrev pub Takes : {X : Type 0} → ℕ → Option X → List (ℕ × X) → List (ℕ × X) → Type 0
Takes v (Some x) es rest = es ≡ (v, x) ∷ rest
Takes v None es rest = (es ≡ rest) × AllAbove v (vids es)

-- a group's next fold is held, or it has no more to give and no fold of all that it took is above room
abbrev pub Waits : Option ℕ → List ℕ → Type 0 → (Pairs → Type 0) → Pairs → Type 0
Waits None bytes fits giving fs = (fs ≡ []) × fits
Waits (Some v) bytes fits giving fs = LeadsPair v bytes fs giving

-- how many folds a group may still give, beside one that is held
abbrev pub still : ℕ → Option ℕ → ℕ
still n None = n
still n (Some v) = n + 1

-- these vids, and one more where this is true
abbrev pub with_vid : Bool → ℕ → List ℕ → List ℕ
with_vid true v vs = vs ++ v ∷ []
with_vid false v vs = vs

-- vids as the tuples of a file
abbrev pub vids_as_tuples : List ℕ → List Entry
vids_as_tuples vs = map (λ v. entry v 4 []) vs
