-- Connectors, as their callers see them.
use Rattle.std.specs.Prelude.{◌≤◌, ◌<◌, ℕ, ◌+◌, ◌*◌, ◌==◌, if◌then◌else◌, nat_le, IsTrue}
use Rattle.std.specs.List.{list_all}
use Rattle.px_meaning.specs.Merge.{Pairs}
use Rattle.px_connectors.specs.Writers.{IsPartFile}

-- the number of partitions, the sender that was begun last, the length of the frames, the places of the share that they came from, and the number of frames that were in it
pub record ConnectorView : Type 0 where
  pub parts : ℕ
  pub sender : ℕ
  pub frame_len : ℕ
  pub size : ℕ
  pub frames : ℕ

-- the files of a sender, one for each receiver
abbrev pub IsSenderFile : ℕ → ℕ → Type 0
IsSenderFile p f = IsPartFile (256 + 16 * p) f

-- a file of some sender
pub record IsConnectorFile (f : ℕ) : Type 0 where
  pub low : 256 ≤ f
  pub high : f < 512

-- no vid is above this one
abbrev pub AllUpTo : ℕ → Pairs → Type 0
AllUpTo v pairs = IsTrue (list_all (λ e. nat_le e.0 v) pairs)

-- the lists with another one in one place
abbrev pub at : ℕ → Pairs → (ℕ → Pairs) → ℕ → Pairs
at p l ls q = if q == p then l else ls q
