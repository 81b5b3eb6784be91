-- A sink over a frame: what is put goes on to another sink a frame at a time.
use Rattle.std.specs.Prelude.{◌≡◌, ◌≤◌, ◌<◌, ◌++◌, ◌⊎◌, ℕ, List, [], ◌∷◌, length, take, drop, Result, Ok, Err}
use Rattle.px_core.specs.Counts.{Rose}
use Rattle.px_load.specs.declared.stops.DumpStop.{DumpStop}
use Rattle.px_load.specs.declared.stops.DumpStop.TheVariants.{Sink}

-- what is true of it whatever was put: the length of its frame, and that the bytes which wait to go on stand in the frame
pub record IsFramed (len : ℕ) (frame : List ℕ) (from to : ℕ) : Type 0 where
  pub len_is : length frame ≡ len
  pub some : 0 < len
  pub order : from ≤ to
  pub within : to ≤ len

-- the bytes that wait
abbrev pub waiting : List ℕ → ℕ → ℕ → List ℕ
waiting frame from to = drop from (take to frame)

-- all that was put: first what went on, behind what the sink held before, and then what waits
pub record IsPut (Began Holds : List ℕ → Type 0) (frame : List ℕ) (from to : ℕ) (all : List ℕ) : Type 0 where
  pub sent : List ℕ
  pub is : all ≡ sent ++ waiting frame from to
  pub holds : (h : List ℕ) → Began h → Holds (h ++ sent)

-- the list of what it holds begins with the names of the sink and of the frame that it was lent. So who made it knows after calls that it has the same
abbrev pub IsNamed : ℕ → ℕ → (List ℕ → Type 0) → List ℕ → Type 0
IsNamed out frame Puts [] = ⊥
IsNamed out frame Puts (n ∷ []) = ⊥
IsNamed out frame Puts (n ∷ m ∷ all) = (n ≡ out) × (m ≡ frame) × Puts all

-- it ended so since what came before did, or since the sink failed
abbrev pub EndsFramed : Result (Unit {0}) DumpStop → DumpStop → ℕ → ℕ → Type 0
EndsFramed put e before now = ((put ≡ Err e) × (now ≡ before)) ⊎ ((put ≡ Ok tt) × (e ≡ Sink) × Rose before now)
