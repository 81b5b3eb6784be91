-- What a group is made of, what its calls may change, and what fits it.
use Rattle.std.specs.Prelude.{◌≡◌, ◌≤◌, ℕ, ◌+◌, ◌-◌, ◌*◌, Bool, true, false, List, [], ◌∷◌, length}
use Rattle.px_core.specs.Shown.{Shown, Touches, Either}
use Rattle.px_core.specs.declared.stop.Stop.{Stop}
use Rattle.px_core.specs.declared.stop.Stop.TheVariants.{Beyond}
use Rattle.px_frames.specs.Shares.{ShareView}
use Rattle.px_frames.specs.Tables.{TableView}
use Rattle.px_meaning.specs.Graph.{pair_size, room_of}
use Rattle.px_meaning.specs.Merge.{MergeRule, Pairs, grouped}
use Rattle.px_program.specs.Posted.{IsCause}

-- what no call on a group changes: the share and the slot table that it was opened with, and its two files
pub record GroupMade : Type 0 where
  pub size : ℕ
  pub frames : ℕ
  pub frame_len : ℕ
  pub capacity : ℕ
  pub first : ℕ
  pub second : ℕ

abbrev pub made_of : ShareView → TableView → ℕ → ℕ → GroupMade
made_of share table first second = record {
  size = share.size;
  frames = length share.frames;
  frame_len = share.frame_len;
  capacity = table.capacity;
  first = first;
  second = second;
}

-- no pair of a greater size is held or given
abbrev pub room_in : GroupMade → ℕ
room_in made = room_of made.frame_len

-- one of its two files
abbrev pub IsOwn : GroupMade → ℕ → Type 0
IsOwn made = Either made.first made.second

-- a call ended with a stop: Beyond where this fold is too long, else Scratch, where the disk failed
pub record StopsGrouping (mine : ℕ → Type 0) (TooLong : Type 0) (old new : Shown) (e : Stop) : Type 0 where
  pub beyond : e ≡ Beyond → TooLong
  pub cause : IsCause old.faults new.faults e
  pub touches : Touches mine old new

-- the list begins with this pair, and this holds of the rest
pub record LeadsPair (v : ℕ) (bytes : List ℕ) (l : Pairs) (After : Pairs → Type 0) : Type 0 where
  pub rest : Pairs
  pub is : l ≡ (v, bytes) ∷ rest
  pub after : After rest

-- the sizes of these pairs, added
abbrev pub sizes : Pairs → ℕ
sizes [] = 0
sizes (e ∷ es) = pair_size e.1 + sizes es

-- a group that sorts has an entry and the bytes for each of these pairs. Two of its frames hold none
pub record FitsSort (made : GroupMade) (l : Pairs) : Type 0 where
  pub entries : length l ≤ made.capacity
  pub bytes : sizes l ≤ (made.frames - 2) * room_in made

-- one that hashes has them for each vid's fold, in a table that is at most half full
pub record FitsHash (made : GroupMade) (rule : MergeRule) (l : Pairs) : Type 0 where
  pub entries : 2 * length (grouped rule l) ≤ made.capacity
  pub bytes : sizes (grouped rule l) ≤ (made.frames - 2) * room_in made

-- what needs no page of the disk
abbrev pub Fits : Bool → GroupMade → MergeRule → Pairs → Type 0
Fits true made rule l = FitsHash made rule l
Fits false made rule l = FitsSort made l
