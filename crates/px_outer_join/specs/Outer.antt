-- An outer join, as its callers see it.
use Rattle.std.specs.Prelude.{◌≡◌, ◌≤◌, ℕ, ◌+◌, Bool, true, false, not, ◌&&◌, if◌then◌else◌, List, [], ◌∷◌, ◌++◌, length, drop, filter, Option, Some, None}
use Rattle.std.proofs.Common.{◌∙◌, inl}
use Rattle.px_core.specs.Same.{Same}
use Rattle.px_core.specs.Shown.{Shown, Only}
use Rattle.px_core.proofs.Keeping.{same_fewer}
use Rattle.px_frames.specs.Shares.{ShareView}
use Rattle.px_meaning.specs.Attached.{attached, plain}
use Rattle.px_meaning.specs.Graph.{Graph, room_of}
use Rattle.px_meaning.specs.Merge.{Pairs}
use Rattle.px_meaning.specs.Program.{Row as MeantRow}
use Rattle.px_meaning.specs.Step.{is_active}
use Rattle.px_pages.specs.Page.{IsPageLen}
use Rattle.px_record.specs.Held.{HeldVertex}
use Rattle.px_stream.specs.Counts.{left}
use Rattle.px_stream.specs.Stream.{ToGive}
use Rattle.px_stream.specs.Views.{ReaderView}
use Rattle.px_stream.proofs.Kept.{to_give_same}
use Rattle.px_store.specs.Joins.{JoinView, IsInput, message_tuples}
use Rattle.px_store.specs.declared.join.Inputs.{Inputs}
use Rattle.px_store.specs.declared.join.Row.{Row}
use Rattle.px_outer_join.specs.Due.{is_before, first_vid, first_payload}

-- an outer join as its share, the reader of the messages, the record for the store's next vertex and whether that is held, and what it was started with last
pub record OuterView : Type 0 where
  pub share : ShareView
  pub messages : ReaderView
  pub ahead : HeldVertex
  pub held : Bool
  pub inputs : Inputs

-- two of its frames are with the reader and the record, and one at least is in the share
pub record IsOuter (j : OuterView) : Type 0 where
  pub some : 1 ≤ length j.share.frames
  pub room : length j.share.frames + 2 ≤ j.share.size
  pub len : IsPageLen j.share.frame_len
  pub reader_len : j.messages.page_len ≡ j.share.frame_len
  pub ahead_len : j.ahead.frame_len ≡ j.share.frame_len
  pub ahead_room : j.ahead.room ≡ room_of j.share.frame_len
  pub file : j.messages.file ≡ j.inputs.msg_file

abbrev pub view_of : OuterView → JoinView
view_of j = record { size = j.share.size; frame_len = j.share.frame_len; frames = length j.share.frames + 2; inputs = j.inputs }

-- the vertex that is held
abbrev pub ahead_of : Bool → HeldVertex → Graph
ahead_of held v = if held then (v.vid, v.vertex) ∷ [] else []

abbrev pub ahead_vid : Bool → HeldVertex → Option ℕ
ahead_vid held v = if held then Some v.vid else None

-- whether a vertex is held that has a row, where the next message is to this vid
abbrev pub is_due : Bool → HeldVertex → Option ℕ → Bool
is_due held v message = held && not (v.vertex.halt && is_before v.vid message)

-- the rows of the vertex that is held, of those to come and of messages
abbrev pub rows_of : Bool → HeldVertex → Graph → Pairs → List MeantRow
rows_of held v coming m = filter is_active (attached (plain (ahead_of held v ++ coming)) m)

-- the disk tells, and these rows are still to be given, where the store gave the first vertices and will give the second
pub record GivesRows (j : OuterView) (s : Shown) (given coming : Graph) (rows : List MeantRow) : Type 0 where
  pub file : j.messages.file ≡ j.inputs.msg_file
  pub messages : Pairs
  pub to_give : ToGive s j.messages (message_tuples messages)
  pub is : rows ≡ rows_of j.held j.ahead coming messages

-- how many rows may still be given of what is held
abbrev pub left_of : OuterView → ℕ
left_of j = left j.messages + (if j.held then 1 else 0)

pub gives_rows_same : (j : OuterView) (s t : Shown) (given coming : Graph) (rows : List MeantRow) → Same (IsInput j.inputs) s t → GivesRows j s given coming rows → GivesRows j t given coming rows
gives_rows_same j s t given coming rows same g = record {
  file = g.file;
  messages = g.messages;
  to_give = to_give_same s t j.messages (message_tuples g.messages) (same_fewer (Only j.messages.file) (IsInput j.inputs) s t (λ f is. inl (is ∙ g.file)) same) g.to_give;
  is = g.is;
}

-- beside a store that holds this graph, and with these messages, these rows are still to be given
pub record Beside (scans : Graph → Graph → Type 0) (held : Bool) (v : HeldVertex) (l : Graph) (m : Pairs) (rows : List MeantRow) : Type 0 where
  pub given : Graph
  pub coming : Graph
  pub whole : l ≡ given ++ coming
  pub scanned : scans given coming
  pub is : rows ≡ rows_of held v coming m

-- the same, and a vertex that has a row is held, or none is left
pub record AtHand (scans : Graph → Graph → Type 0) (held : Bool) (v : HeldVertex) (l : Graph) (m : Pairs) (rows : List MeantRow) : Type 0 where
  pub given : Graph
  pub coming : Graph
  pub whole : l ≡ given ++ coming
  pub scanned : scans given coming
  pub is : rows ≡ rows_of held v coming m
  pub last : held ≡ false → coming ≡ []
  pub due : held ≡ true → is_due held v (first_vid m) ≡ true

-- the first of the rows, and those behind it, where this row is due
pub record IsFirst (r : Row) (held : Bool) (v : HeldVertex) (coming : Graph) (m : Pairs) (rows : List MeantRow) : Type 0 where
  pub first : MeantRow
  pub rest : List MeantRow
  pub is : rows ≡ first ∷ rest
  pub vid : first.vid ≡ r.vid
  pub vertex : first.vertex ≡ (if r.has_vertex then Some v.vertex else None)
  pub message : first.message ≡ (if r.has_message then Some (first_payload m) else None)
  pub after : rest ≡ rows_of (if r.has_vertex then false else held) v coming (if r.has_message then drop 1 m else m)

abbrev pub AreDue : Option Row → Bool → HeldVertex → Graph → Pairs → List MeantRow → Type 0
AreDue None held v coming m rows = (rows ≡ []) × (rows_of held v coming m ≡ [])
AreDue (Some r) held v coming m rows = IsFirst r held v coming m rows

-- the message that is next
pub record LeadsMessage (payload : List ℕ) (m : Pairs) (After : Pairs → Type 0) : Type 0 where
  pub vid : ℕ
  pub rest : Pairs
  pub is : m ≡ (vid, payload) ∷ rest
  pub after : After rest
