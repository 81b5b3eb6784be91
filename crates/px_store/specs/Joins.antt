-- A join of a store with the messages to its vids.
use Rattle.std.specs.Prelude.{◌≡◌, ◌⊎◌, ℕ, Bool, true, false, not, if◌then◌else◌, List, [], ◌∷◌, ◌++◌, map, filter, Option, Some, None}
use Rattle.px_core.specs.Shown.{Shown, NoFile, Clean, Broke}
use Rattle.px_core.specs.declared.stop.Stop.{Stop}
use Rattle.px_core.specs.declared.stop.Stop.TheVariants.{Graph as GraphStop, Scratch}
use Rattle.px_meaning.specs.Graph.{Graph, Vertex, vids, vertex_or_fresh}
use Rattle.px_meaning.specs.Merge.{Pairs}
use Rattle.px_meaning.specs.Graph.{IsMap}
use Rattle.px_meaning.specs.Program.{Row as MeantRow}
use Rattle.px_meaning.specs.Step.{is_active}
use Rattle.px_meaning.specs.Attached.{joined}
use Rattle.px_cache.specs.View.{AnyFile}
use Rattle.px_pages.specs.Entry.{Entry, entry}
use Rattle.px_record.specs.Body.{body_of}
use Rattle.px_record.specs.Held.{HeldVertex}
use Rattle.px_stream.specs.Stream.{Holds}
use Rattle.px_store.specs.declared.join.Row.{Row}
use Rattle.px_store.specs.declared.join.Inputs.{Inputs}

-- a join as the places of its share, the length of its frames, the number of frames that were in it, and what it was started with last
pub record JoinView : Type 0 where
  pub size : ℕ
  pub frame_len : ℕ
  pub frames : ℕ
  pub inputs : Inputs

-- the files that a join reads
abbrev pub IsInput : Inputs → ℕ → Type 0
IsInput ins f = (f ≡ ins.msg_file) ⊎ (f ≡ ins.vid_file)

-- messages as the tuples of a file
abbrev pub message_tuples : Pairs → List Entry
message_tuples m = map (λ e. entry e.0 0 e.1) m

-- the vids of the vertices that have not voted to halt, as the tuples of a file
abbrev pub vid_tuples : Graph → List Entry
vid_tuples l = map (λ v. entry v 4 []) (vids (filter (λ e. not e.1.halt) l))

-- vertices as the tuples of a file
abbrev pub vertex_tuples : Graph → List Entry
vertex_tuples l = map (λ e. entry e.0 1 (body_of e.1)) l

-- the files hold these messages, of which each vid has one at most, and, for a join that looks vids up, the vids that are awake
pub record AreInputs (probing : Bool) (s : Shown) (ins : Inputs) (l : Graph) (m : Pairs) : Type 0 where
  pub messages : Holds s ins.msg_file ins.msg_pages (message_tuples m)
  pub ascend : IsMap m
  pub awake : probing ≡ true → Holds s ins.vid_file ins.vid_pages (vid_tuples l)

-- the active vids of a graph and of the messages to it, ascending
abbrev pub rows_in : Graph → Pairs → List MeantRow
rows_in l m = filter is_active (joined l m)

-- the row that these three hold. A vid without a vertex has the fresh one in its place
pub record IsRow (r : Row) (v : HeldVertex) (payload : List ℕ) (meant : MeantRow) : Type 0 where
  pub vid : meant.vid ≡ r.vid
  pub vertex : meant.vertex ≡ (if r.has_vertex then Some v.vertex else None)
  pub held : v.vertex ≡ vertex_or_fresh meant.vertex
  pub message : meant.message ≡ (if r.has_message then Some payload else None)

-- the rows begin with this one, and this holds of the rest
pub record LeadsRow (r : Row) (v : HeldVertex) (payload : List ℕ) (rows : List MeantRow) (After : List MeantRow → Type 0) : Type 0 where
  pub first : MeantRow
  pub rest : List MeantRow
  pub is : rows ≡ first ∷ rest
  pub row : IsRow r v payload first
  pub after : After rest

-- a row is given and the rest stays, or none is given since none is left
abbrev pub GivesRow : Option Row → HeldVertex → List ℕ → List MeantRow → (List MeantRow → Type 0) → Type 0
GivesRow None v payload rows After = (rows ≡ []) × After []
GivesRow (Some r) v payload rows After = LeadsRow r v payload rows After

-- beside a store that holds this graph a join has these rows still to give. Where it does not look vids up, it goes on from where the store's cursor stands
pub record HasRows (probing : Bool) (holds : Graph → Type 0) (scans : Graph → Graph → Type 0) (gives : Graph → Graph → List MeantRow → Type 0) (l : Graph) (rows : List MeantRow) : Type 0 where
  pub given : Graph
  pub coming : Graph
  pub whole : l ≡ given ++ coming
  pub held : holds l
  pub scanned : probing ≡ false → scans given coming
  pub to_give : gives given coming rows

-- a call of one of the two disks failed: of the graph disk, or of the scratch disk, where only these files may have changed
abbrev pub OneBroke : (ℕ → Type 0) → Shown → Shown → Shown → Shown → Stop → Type 0
OneBroke mine g g' s s' e = (Broke GraphStop AnyFile g g' e × Clean NoFile s s') ⊎ (Broke Scratch mine s s' e × Clean AnyFile g g')
