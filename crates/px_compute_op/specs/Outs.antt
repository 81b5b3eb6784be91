-- An outbox that borrows a group, requests and a disk.
use Rattle.std.specs.Prelude.{◌≡◌, ◌≤◌, ◌<◌, ◌⊎◌, ℕ, ◌^◌, ◌+◌, Bool, true, false, IsTrue, [], ◌++◌, fold, length, nat_lt, None}
use Rattle.std.specs.List.{list_any}
use Rattle.px_core.specs.Same.{Apart}
use Rattle.px_core.specs.Shown.{Shown, Touches}
use Rattle.px_frames.specs.Buffer.{BufView, SameRoom}
use Rattle.px_meaning.specs.Graph.{fresh, pair_size}
use Rattle.px_meaning.specs.Merge.{Pairs}
use Rattle.px_meaning.specs.Program.{ProgramMeaning, Keeps}
use Rattle.px_program.specs.Groups.{GroupMade, IsOwn, room_in}
use Rattle.px_program.specs.Posted.{Posted}
use Rattle.px_connectors.specs.Asking.{IsRequestFile, RequestsView, SameRequests}
use Rattle.px_global_state.specs.declared.part.Part.{Part}

-- the files that an outbox changes
abbrev pub IsOutFile : GroupMade → ℕ → Type 0
IsOutFile made f = IsOwn made f ⊎ IsRequestFile f

-- what an outbox was made with
pub record Start : Type 0 where
  pub program : ProgramMeaning
  pub group : GroupMade
  pub requests : RequestsView
  pub disk : Shown
  pub spare : BufView

-- what is true of an outbox whatever was sent: it borrows what it was made with, its disk changed in its own files alone, and the group takes pairs while the outbox does
pub record IsOut (start : Start) (program : ProgramMeaning) (group : GroupMade) (grouping : Bool) (requests : RequestsView) (disk : Shown) (spare : BufView) (room : ℕ) (made : Part) (open_still : Bool) : Type 0 where
  pub program_is : program ≡ start.program
  pub group_is : group ≡ start.group
  pub group_open : IsTrue open_still → IsTrue grouping
  pub requests_are : SameRequests start.requests requests
  pub spare_is : SameRoom start.spare spare
  pub spare_fits : 13 + start.spare.limit ≡ room_in start.group
  pub touches : Touches (IsOutFile start.group) start.disk disk
  pub apart : Apart (IsOwn start.group) IsRequestFile
  pub group_len : start.group.frame_len ≡ start.disk.page_len
  pub requests_len : start.requests.frame_len ≡ start.disk.page_len
  pub room_is : room ≡ room_in start.group
  pub few_sends : made.sends ≤ 2 ^ 40
  pub few_requests : made.requests ≤ 2 ^ 40
  pub small : made.contributed < 2 ^ 64

-- some pair by itself is above room
abbrev pub has_wide_pair : ℕ → Pairs → Bool
has_wide_pair room pairs = list_any (λ e. nat_lt room (pair_size e.1)) pairs

-- the group took the sends, the requests stand behind those from before, each within room, and the numbers are theirs
pub record HasTaken (m : ProgramMeaning) (room : ℕ) (grouping asking asked_before : Pairs → Type 0) (made : Part) (p : Posted) : Type 0 where
  pub group : grouping p.sends
  pub requests : (l : Pairs) → asked_before l → asking (l ++ p.requests)
  pub sends_are : length p.sends ≡ made.sends
  pub requests_are : length p.requests ≡ made.requests
  pub contributed_is : fold m.join m.unit p.contributions ≡ made.contributed
  pub requests_fit : has_wide_pair room p.requests ≡ false

-- a program that does nothing, and where it begins
abbrev pub idle_program : ProgramMeaning
idle_program = record {
  out_of = λ at row. record { vertex = fresh; sends = []; requests = []; contributions = [] };
  settle_of = λ v o m. Keeps;
  message = record { valid = λ a. true; merge = λ a b. a };
  verdict = record { valid = λ a. true; merge = λ a b. a };
  unit = 0;
  join = λ a b. a;
  value_text = λ x. [];
}

abbrev pub idle_start : Start
idle_start = record {
  program = idle_program;
  group = record { size = 0; frames = 0; frame_len = 0; capacity = 0; first = 0; second = 0 };
  requests = record { frame_len = 0; size = 0; frames = 0; writers = record { first = 0; frame_len = 0; writers = []; pages = [] } };
  disk = record { tells = false; files = λ f. None; page_len = 0; faults = 0; reads = 0; writes = 0 };
  spare = record { bytes = []; limit = 0; frame_len = 0 };
}
