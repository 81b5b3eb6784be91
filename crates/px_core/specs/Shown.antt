-- What a disk shows to a contract, and what its calls do to that.
use Rattle.std.specs.Prelude.{◌≡◌, ◌⊎◌, ◌<◌, ◌≤◌, ℕ, ◌^◌, Bool, true, if◌then◌else◌, nat_lt, ◌==◌, List, [], ◌∷◌, ◌++◌, length, slice_get, slice_set, Option, Some, None, Result, IsOk}
use Rattle.px_core.specs.Counts.{Rose, bumped_by}
use Rattle.px_core.specs.declared.stop.Stop.{Stop}

-- one page is its bytes, one file its pages
pub record Shown : Type 0 where
  -- whether the disk tells what it holds
  pub tells : Bool
  -- the pages of a file, where they are told
  pub files : ℕ → Option (List (List ℕ))
  pub page_len : ℕ
  pub faults : ℕ
  pub reads : ℕ
  pub writes : ℕ

-- these pages, of a disk that tells
abbrev pub told_if : Bool → List (List ℕ) → Option (List (List ℕ))
told_if tells pages = if tells then Some pages else None

-- a page below the end is replaced, one at the end is added, one past it changes nothing
abbrev pub written : ℕ → List ℕ → List (List ℕ) → List (List ℕ)
written page bytes pages =
    if nat_lt page (length pages) then slice_set pages page bytes else (if page == length pages then pages ++ bytes ∷ [] else pages)

-- the page, where it is below the end
abbrev pub Gives : ℕ → List ℕ → List (List ℕ) → Type 0
Gives page bytes pages = page < length pages → slice_get pages page ≡ Some bytes

-- a page added stands within the longest file
abbrev pub HasRoom : ℕ → List (List ℕ) → Type 0
HasRoom page pages = page ≡ length pages → length pages < 2 ^ 40

-- neither count fell
pub record NotFewer (old new : Shown) : Type 0 where
  pub reads : old.reads ≤ new.reads
  pub writes : old.writes ≤ new.writes

-- what stays, whatever a call answers, where it may change the files in `mine` alone
pub record Touches (mine : ℕ → Type 0) (old new : Shown) : Type 0 where
  pub others : (f : ℕ) → (mine f → ⊥) → new.files f ≡ old.files f
  pub tells : new.tells ≡ old.tells
  pub page_len : new.page_len ≡ old.page_len
  pub counts : NotFewer old new

-- no file may change
abbrev pub NoFile : ℕ → Type 0
NoFile f = ⊥

-- only this file may change
abbrev pub Only : ℕ → ℕ → Type 0
Only file f = f ≡ file

-- only these two
abbrev pub Either : ℕ → ℕ → ℕ → Type 0
Either a b f = (f ≡ a) ⊎ (f ≡ b)

-- no call failed
pub record Clean (mine : ℕ → Type 0) (old new : Shown) : Type 0 where
  pub touches : Touches mine old new
  pub no_fault : new.faults ≡ old.faults

-- no call failed, and so many reads and writes answered Ok
pub record Worked (mine : ℕ → Type 0) (r w : ℕ) (old new : Shown) : Type 0 where
  pub touches : Touches mine old new
  pub no_fault : new.faults ≡ old.faults
  pub reads : new.reads ≡ bumped_by r old.reads
  pub writes : new.writes ≡ bumped_by w old.writes

-- a call failed, after so many reads and writes that answered Ok
pub record Stopped (mine : ℕ → Type 0) (r w : ℕ) (old new : Shown) : Type 0 where
  pub touches : Touches mine old new
  pub rose : Rose old.faults new.faults
  pub reads : new.reads ≡ bumped_by r old.reads
  pub writes : new.writes ≡ bumped_by w old.writes

-- an operator over the disk ended with this stop, since a call failed after so many reads and writes that answered Ok
pub record StopsAt (stop : Stop) (mine : ℕ → Type 0) (r w : ℕ) (old new : Shown) (e : Stop) : Type 0 where
  pub only : e ≡ stop
  pub touches : Touches mine old new
  pub rose : Rose old.faults new.faults
  pub reads : new.reads ≡ bumped_by r old.reads
  pub writes : new.writes ≡ bumped_by w old.writes

-- the same, without the counts
pub record Broke (stop : Stop) (mine : ℕ → Type 0) (old new : Shown) (e : Stop) : Type 0 where
  pub only : e ≡ stop
  pub touches : Touches mine old new
  pub rose : Rose old.faults new.faults

-- the disk was not asked, and the call answers Ok
pub record Idle {A E : Type 0} (answer : Result A E) (old new : Shown) : Type 0 where
  pub ok : IsOk answer
  pub same : new ≡ old

-- a start worked: every file is empty, and the page length is this
pub record Started (page_len : ℕ) (old new : Shown) : Type 0 where
  pub empty : (f : ℕ) → new.files f ≡ told_if new.tells []
  pub len : new.page_len ≡ page_len
  pub tells : new.tells ≡ old.tells
  pub no_fault : new.faults ≡ old.faults
  pub reads : new.reads ≡ old.reads
  pub writes : new.writes ≡ old.writes

-- a start failed
pub record Unstarted (old new : Shown) : Type 0 where
  pub tells : new.tells ≡ old.tells
  pub rose : Rose old.faults new.faults
  pub reads : new.reads ≡ old.reads
  pub writes : new.writes ≡ old.writes

-- the disk tells that these are the pages of the file. Of a disk that does not tell, and of a file after a fault, this never holds
pub record Tells (s : Shown) (file : ℕ) (pages : List (List ℕ)) : Type 0 where
  pub on : s.tells ≡ true
  pub is : s.files file ≡ Some pages

-- the disk tells that the file has so many pages
pub record TellsPages (s : Shown) (file pages : ℕ) : Type 0 where
  pub told : List (List ℕ)
  pub tells : Tells s file told
  pub end : length told ≡ pages
