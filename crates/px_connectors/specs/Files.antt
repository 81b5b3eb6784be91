-- The files that a gathering may change.
use Rattle.std.specs.Prelude.{◌≡◌, ◌⊎◌, ℕ}
use Rattle.px_program.specs.Groups.{GroupMade, IsOwn}
use Rattle.px_connectors.specs.Views.{IsConnectorFile}

-- a group's own files, and one more
abbrev pub OwnOr : GroupMade → ℕ → ℕ → Type 0
OwnOr made file f = IsOwn made f ⊎ (f ≡ file)

-- and two more
abbrev pub OwnOrEither : GroupMade → ℕ → ℕ → ℕ → Type 0
OwnOrEither made file other f = IsOwn made f ⊎ (f ≡ file) ⊎ (f ≡ other)

-- a group's own files, and those of all senders
abbrev pub OwnOrSent : GroupMade → ℕ → Type 0
OwnOrSent made f = IsOwn made f ⊎ IsConnectorFile f

-- and one more
abbrev pub OwnOrConnector : GroupMade → ℕ → ℕ → Type 0
OwnOrConnector made file f = IsOwn made f ⊎ (f ≡ file) ⊎ IsConnectorFile f
