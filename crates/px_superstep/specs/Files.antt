-- The files of a superstep on the scratch disk.
use Rattle.std.specs.Prelude.{◌≡◌, ◌<◌, ◌≤◌, ◌⊎◌, ℕ, ◌+◌, ◌*◌}
use Rattle.px_connectors.specs.Asking.{IsRequestFile}
use Rattle.px_connectors.specs.Views.{IsSenderFile}
use Rattle.px_store.specs.declared.join.Inputs.{Inputs}

-- the file of messages to partition q that a superstep of this parity reads, and that of vids
abbrev pub msg_file : ℕ → ℕ → ℕ
msg_file parity q = 16 + 2 * q + parity

abbrev pub vid_file : ℕ → ℕ → ℕ
vid_file parity q = 64 + 2 * q + parity

-- the file of a partition's updates
abbrev pub update_file : ℕ → ℕ
update_file q = 128 + q

-- files for the time of one call
pub record IsSpareFile (f : ℕ) : Type 0 where
  pub low : f < 16

pub record IsMsgFile (f : ℕ) : Type 0 where
  pub low : 16 ≤ f
  pub high : f < 64

pub record IsVidFile (f : ℕ) : Type 0 where
  pub low : 64 ≤ f
  pub high : f < 128

-- the files that a join reads are files of messages and of vids
pub record AreInputFiles (ins : Inputs) : Type 0 where
  pub msg : IsMsgFile ins.msg_file
  pub vid : IsVidFile ins.vid_file

-- what the compute phase of partition q changes
abbrev pub IsComputeFile : ℕ → ℕ → Type 0
IsComputeFile q f = IsSpareFile f ⊎ IsRequestFile f ⊎ (f ≡ update_file q) ⊎ IsSenderFile q f

-- what a call changes that writes one file
abbrev pub IsResultFile : ℕ → ℕ → Type 0
IsResultFile to f = IsSpareFile f ⊎ (f ≡ to)

-- what the delivery changes: files of messages, and those for the time of one call
pub record IsDeliveryFile (f : ℕ) : Type 0 where
  pub low : f < 64

-- what the settling changes: files of vids, and those for the time of one call
abbrev pub IsSettlingFile : ℕ → Type 0
IsSettlingFile f = IsSpareFile f ⊎ IsVidFile f

-- what a superstep changes
pub record IsStepFile (f : ℕ) : Type 0 where
  pub high : f < 512
