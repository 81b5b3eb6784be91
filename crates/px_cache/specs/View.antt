-- A cache as a contract sees it, and the pages that it shows over a disk.
use Rattle.std.specs.Prelude.{◌≡◌, ◌<◌, ◌≤◌, ◌⊎◌, ◌^◌, ℕ, Bool, true, false, if◌then◌else◌, ◌&&◌, ◌==◌, List, [], ◌∷◌, ◌++◌, length, ◌+◌, replicate, zero, suc, map, slice_set, slice_index_or, slice_get, Option, Some, None}
use Rattle.px_core.specs.Counts.{Rose}
use Rattle.px_core.specs.Shown.{Shown, Touches}
use Rattle.px_core.specs.declared.stop.Stop.{Stop}
use Rattle.px_core.specs.declared.stop.Stop.TheVariants.{Graph}
use Rattle.px_frames.specs.Shares.{ShareView, IsShare}
use Rattle.px_cache.specs.declared.note.Note.{Note}
use Rattle.px_cache.specs.Note.{notes_of, IsFull}

-- the length of its frames, of each frame its note and its bytes, and the hand: one more than the number of the frame of the last load, 0 where none came yet
pub record CacheView : Type 0 where
  pub len : ℕ
  pub notes : List Note
  pub frames : List (List ℕ)
  pub hand : ℕ

-- the cache over a share whose frames are all in it
abbrev pub view_of : ShareView → ℕ → CacheView
view_of share hand = record { len = share.frame_len; notes = notes_of share; frames = share.frames; hand = hand }

-- what holds of the share of every cache
pub record IsCache (s : ShareView) (hand : ℕ) : Type 0 where
  pub share : IsShare s
  pub full : IsFull s
  pub within : hand ≤ length s.frames

-- the note says that its frame holds the page of the file
abbrev pub SaysPage : Option Note → ℕ → ℕ → Type 0
SaysPage None f p = ⊥
SaysPage (Some n) f p = (n.used ≡ true) × (n.file ≡ f) × (n.page ≡ p)

abbrev pub SaysChanged : Option Note → Type 0
SaysChanged None = ⊥
SaysChanged (Some n) = n.changed ≡ true

-- frame i holds the page of the file
abbrev pub Holds : List Note → ℕ → ℕ → ℕ → Type 0
Holds notes i f p = SaysPage (slice_get notes i) f p

-- frame i was written since it was loaded
abbrev pub IsChanged : List Note → ℕ → Type 0
IsChanged notes i = SaysChanged (slice_get notes i)

-- which frames are pinned
abbrev pub pins : List Note → List Bool
pins notes = map (λ n. n.pinned) notes

abbrev pub SaysFree : Option Note → Type 0
SaysFree None = ⊥
SaysFree (Some n) = n.pinned ≡ false

-- frame i is not pinned
abbrev pub IsFree : List Note → ℕ → Type 0
IsFree notes i = SaysFree (slice_get notes i)

-- of the frames below n, frame i is changed and of this file, and none such has a smaller page than this
pub record IsLeastBelow (n : ℕ) (notes : List Note) (f page i : ℕ) : Type 0 where
  pub holds : Holds notes i f page
  pub changed : IsChanged notes i
  pub least : (j p : ℕ) → j < n → Holds notes j f p → IsChanged notes j → page ≤ p

-- frame i is changed, of this file, and no changed frame of the file has a smaller page
abbrev pub IsLeast : List Note → ℕ → ℕ → ℕ → Type 0
IsLeast notes f page i = IsLeastBelow (length notes) notes f page i

-- a changed frame of the file
abbrev pub is_dirty : Note → ℕ → Bool
is_dirty n f = n.used && n.changed && n.file == f

-- THE PAGES AS WRITTEN SO FAR. The file is told, and these are its pages with the changed frames over them: each held page
-- is one of these, each other page is on the disk as here, and no page is held twice.
pub record Shows (c : CacheView) (s : Shown) (f : ℕ) (ps : List (List ℕ)) : Type 0 where
  pub disk : List (List ℕ)
  pub told : s.files f ≡ Some disk
  pub few : length disk ≤ 2 ^ 40
  pub short : length disk ≤ length ps
  pub held : (i p : ℕ) → Holds c.notes i f p → slice_get ps p ≡ Some (slice_index_or c.frames i [])
  pub rest : (p : ℕ) → p < length ps → (slice_get disk p ≡ slice_get ps p) ⊎ ((i : ℕ) × Holds c.notes i f p × IsChanged c.notes i)
  pub once : (i j p : ℕ) → Holds c.notes i f p → Holds c.notes j f p → i ≡ j

-- what one call does to what is shown: nothing
abbrev pub SameShown : CacheView → Shown → CacheView → Shown → Type 0
SameShown c s c' s' = (f : ℕ) (ps : List (List ℕ)) → Shows c s f ps → Shows c' s' f ps

-- the pages of this file alone may change
abbrev pub OthersShown : ℕ → CacheView → Shown → CacheView → Shown → Type 0
OthersShown file c s c' s' = (f : ℕ) (ps : List (List ℕ)) → (f ≡ file → ⊥) → Shows c s f ps → Shows c' s' f ps

-- the frames hold what they held, and are pinned as they were
abbrev pub SameHeld : List Note → List Note → Type 0
SameHeld old new = (i f p : ℕ) → Holds old i f p → Holds new i f p

-- a pinned frame holds what it held
abbrev pub KeepsPinned : List Note → List Note → Type 0
KeepsPinned old new = (i f p : ℕ) → (IsFree old i → ⊥) → Holds old i f p → Holds new i f p

-- no frame of the file is changed
abbrev pub IsClean : List Note → ℕ → Type 0
IsClean notes f = (i p : ℕ) → Holds notes i f p → IsChanged notes i → ⊥

-- all frames but this one hold what they held
abbrev pub HeldBut : ℕ → List Note → List Note → Type 0
HeldBut k old new = (i f p : ℕ) → (i ≡ k → ⊥) → Holds old i f p → Holds new i f p

-- two frames are not pinned
pub record TwoFree (notes : List Note) : Type 0 where
  pub one : ℕ
  pub two : ℕ
  pub apart : one ≡ two → ⊥
  pub one_free : IsFree notes one
  pub two_free : IsFree notes two

-- the frame of the load before holds what it held
abbrev pub KeepsLast : CacheView → List Note → Type 0
KeepsLast c new = (i f p : ℕ) → c.hand ≡ i + 1 → Holds c.notes i f p → Holds new i f p

-- some frame is not pinned
abbrev pub HasFree : List Note → Type 0
HasFree notes = (i : ℕ) × IsFree notes i

-- there are four frames, and none is pinned
pub record NoPins (notes : List Note) : Type 0 where
  pub some : 4 ≤ length notes
  pub free : (i : ℕ) → i < length notes → IsFree notes i

-- the note at this place says that its frame was written
abbrev pub mark : List Note → ℕ → List Note
mark [] i = []
mark (n ∷ ns) zero = record n { changed = true } ∷ ns
mark (n ∷ ns) (suc i) = n ∷ mark ns i

-- frame i is written
abbrev pub written_frame : CacheView → ℕ → List ℕ → CacheView
written_frame c i bytes = record c { notes = mark c.notes i; frames = slice_set c.frames i bytes }

-- the note at this place says that its frame was not written
abbrev pub clean : List Note → ℕ → List Note
clean [] i = []
clean (n ∷ ns) zero = record n { changed = false } ∷ ns
clean (n ∷ ns) (suc i) = n ∷ clean ns i

-- the notes, as if no frame was written
abbrev pub bare : List Note → List Note
bare notes = map (λ (n : Note). let m : Note = record n { changed = false } in m) notes

-- frame i was not written, where it holds anything
abbrev pub IsIdle : List Note → ℕ → Type 0
IsIdle notes i = (f p : ℕ) → Holds notes i f p → IsChanged notes i → ⊥

-- the note of a frame into which a page was loaded, and of one for a new page
abbrev pub loaded : ℕ → ℕ → Note
loaded f p = record { used = true; changed = false; pinned = false; file = f; page = p }

abbrev pub fresh : ℕ → ℕ → Note
fresh f p = record { used = true; changed = true; pinned = false; file = f; page = p }

-- what a load leaves shown: all, but where it goes past the end of the file that it names
abbrev pub ShownAfterLoad : ℕ → ℕ → CacheView → Shown → CacheView → Shown → Type 0
ShownAfterLoad file page c s c' s' = (f : ℕ) (ps : List (List ℕ)) → (f ≡ file → page < length ps) → Shows c s f ps → Shows c' s' f ps

-- what a new page at the end leaves shown
pub record ShownAfterNew (file page : ℕ) (c : CacheView) (s : Shown) (c' : CacheView) (s' : Shown) : Type 0 where
  pub others : OthersShown file c s c' s'
  pub added : (ps : List (List ℕ)) → page ≡ length ps → Shows c s file ps → Shows c' s' file (ps ++ replicate c.len 0 ∷ [])

-- how many frames are changed
abbrev pub changes : List Note → ℕ
changes [] = 0
changes (n ∷ ns) = (if n.changed then 1 else 0) + changes ns

-- of this file, the same frames hold the same pages, and are changed where they were
pub record AlikeIn (f : ℕ) (old new : List Note) : Type 0 where
  pub same : (i p : ℕ) → Holds old i f p → Holds new i f p
  pub back : (i p : ℕ) → Holds new i f p → Holds old i f p
  pub changed : (i : ℕ) → IsChanged old i → IsChanged new i

-- no page of the file is held, the frames that held one are not pinned, and the other files' are as they were
pub record IsForgotten (file : ℕ) (old new : List Note) : Type 0 where
  pub gone : (i p : ℕ) → Holds new i file p → ⊥
  pub let_go : (i p : ℕ) → Holds old i file p → IsFree new i
  pub others : (f : ℕ) → (f ≡ file → ⊥) → AlikeIn f old new
  pub pinned : (i f p : ℕ) → (f ≡ file → ⊥) → Holds old i f p → IsFree new i → IsFree old i
  pub free : (i : ℕ) → IsFree old i → IsFree new i
  pub length : length new ≡ length old

-- what no call with a disk changes, and so, what is not pinned
pub record SameCache (old new : CacheView) : Type 0 where
  pub len : new.len ≡ old.len
  pub size : length new.notes ≡ length old.notes
  pub pins : pins new.notes ≡ pins old.notes
  pub none : NoPins old.notes → NoPins new.notes
  pub free : HasFree old.notes → HasFree new.notes

-- at most, frames that were changed were written
pub record OnlyCleaned (old new : CacheView) : Type 0 where
  pub len : new.len ≡ old.len
  pub frames : new.frames ≡ old.frames
  pub bare : bare new.notes ≡ bare old.notes
  pub hand : new.hand ≡ old.hand
  pub still : (i : ℕ) → IsChanged new.notes i → IsChanged old.notes i

-- frame i now holds the page, and at most one page is not held any more: none that is pinned, and where two frames are not
-- pinned, not that of the call before
pub record Brought (file page i : ℕ) (old new : CacheView) : Type 0 where
  pub holds : Holds new.notes i file page
  pub at : i < length new.notes
  pub hand : new.hand ≡ i + 1
  pub others : HeldBut i old.notes new.notes
  pub pinned : KeepsPinned old.notes new.notes
  pub last : TwoFree old.notes → KeepsLast old new.notes

-- any file
abbrev pub AnyFile : ℕ → Type 0
AnyFile f = Unit {0}

-- no call of the disk failed, and no more than so many pages were read
pub record ReadsUpTo (n : ℕ) (old new : Shown) : Type 0 where
  pub touches : Touches AnyFile old new
  pub no_fault : new.faults ≡ old.faults
  pub reads : new.reads ≤ old.reads + n

-- a call failed, and nothing was read
pub record Breaks (old new : Shown) (e : Stop) : Type 0 where
  pub only : e ≡ Graph
  pub touches : Touches AnyFile old new
  pub rose : Rose old.faults new.faults
  pub reads : new.reads ≡ old.reads
