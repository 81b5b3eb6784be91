-- A line that is followed byte by byte, with what it has spelled in a record.
use Rattle.std.specs.Prelude.{◌≡◌, ℕ, ◌<◌, ◌≤◌, ◌≢◌, Bool, true, false, IsTrue, if◌then◌else◌, nat_lt, List, [], ◌∷◌, length, take, slice_index, Option, Some, None, Result, Ok, Err}
use Rattle.px_meaning.specs.Graph.{Vertex}
use Rattle.px_meaning.specs.GraphText.{line_feed}
use Rattle.px_meaning.specs.Line.{Edges, Spot, Start as AtStart, Comment as InComment, InVid, Gap as InGap, InTarget, Colon as AtColon, InWeight, On, Off, move, ending, Nothing, Spelled, Refused, has_room, with_digit}
use Rattle.px_record.specs.Held.{HeldVertex}
use Rattle.px_graph_text.specs.declared.refusal.Kind.{Kind}
use Rattle.px_graph_text.specs.declared.line.State.{State}
use Rattle.px_graph_text.specs.declared.line.State.TheVariants.{Start, Comment, Vid, Gap, Target, Colon, Weight}
use Rattle.px_graph_text.specs.declared.line.Stop.{Stop}
use Rattle.px_graph_text.specs.declared.line.Stop.TheVariants.{Bytes, LineFeed, Offence}
use Rattle.px_graph_text.specs.declared.line.Followed.{Followed}
use Rattle.px_graph_text.specs.Kinds.{kind_of}

-- a number with one digit more, unless it passes the greatest
abbrev pub number_with : ℕ → ℕ → ℕ → Option ℕ
number_with greatest n digit = if nat_lt greatest (with_digit n digit) then None else Some (with_digit n digit)

-- where in the grammar a line stands whose vid and whole edges the record has
abbrev pub spot_of : State → HeldVertex → Spot
spot_of Start held = AtStart
spot_of Comment held = InComment
spot_of (Vid vid) held = InVid vid
spot_of Gap held = InGap held.vid held.vertex.edges
spot_of (Target dst) held = InTarget held.vid held.vertex.edges dst
spot_of (Colon dst) held = AtColon held.vid held.vertex.edges dst
spot_of (Weight dst weight) held = InWeight held.vid held.vertex.edges dst weight

-- the vertex that a line gives which spells these edges
abbrev pub vertex_with : Edges → Vertex
vertex_with edges = record { halt = false; value = []; edges = edges }

-- what the record of such a line is known to hold: nothing but edges, and with room for the one that is begun
pub record HasBegun (held : HeldVertex) : Type 0 where
  pub is : held.vertex ≡ vertex_with held.vertex.edges
  pub room : IsTrue (has_room held.room held.vertex.edges)

abbrev pub Holds : State → HeldVertex → Type 0
Holds Start held = Unit {0}
Holds Comment held = Unit {0}
Holds (Vid vid) held = Unit {0}
Holds Gap held = held.vertex ≡ vertex_with held.vertex.edges
Holds (Target dst) held = HasBegun held
Holds (Colon dst) held = HasBegun held
Holds (Weight dst weight) held = HasBegun held

-- what reading a text leaves as it was in the record: room, and the length of the frame
pub record SameFrame (old new : HeldVertex) : Type 0 where
  pub room : new.room ≡ old.room
  pub frame_len : new.frame_len ≡ old.frame_len

pub record StepsOn (spot : Spot) (byte : ℕ) (old new : HeldVertex) (next : State) : Type 0 where
  pub on : move old.room spot byte ≡ On (spot_of next new)
  pub holds : Holds next new
  pub frame : SameFrame old new

pub record StepsOff (spot : Spot) (byte : ℕ) (old new : HeldVertex) (kind : Kind) : Type 0 where
  pub off : move old.room spot byte ≡ Off (kind_of kind)
  pub same : new ≡ old

-- what a byte does to a line
abbrev pub Steps : Spot → ℕ → HeldVertex → HeldVertex → Result State Kind → Type 0
Steps spot byte old new (Ok next) = StepsOn spot byte old new next
Steps spot byte old new (Err kind) = StepsOff spot byte old new kind

pub record Gives (spot : Spot) (old new : HeldVertex) : Type 0 where
  pub spells : ending spot ≡ Spelled new.vid new.vertex.edges
  pub is : new.vertex ≡ vertex_with new.vertex.edges
  pub frame : SameFrame old new

pub record GivesNothing (spot : Spot) (old new : HeldVertex) : Type 0 where
  pub nothing : ending spot ≡ Nothing
  pub same : new ≡ old

pub record EndsOff (spot : Spot) (old new : HeldVertex) (kind : Kind) : Type 0 where
  pub off : ending spot ≡ Refused 0 (kind_of kind)
  pub same : new ≡ old

-- what a line is that ends here
abbrev pub Ends : Spot → HeldVertex → HeldVertex → Result Bool Kind → Type 0
Ends spot old new (Ok true) = Gives spot old new
Ends spot old new (Ok false) = GivesNothing spot old new
Ends spot old new (Err kind) = EndsOff spot old new kind

-- bytes of one line lead from a spot to another
abbrev pub Leads : ℕ → Spot → List ℕ → Spot → Type 0
Leads room spot [] end = spot ≡ end
Leads room spot (b ∷ bs) end = (b ≢ line_feed) × ((next : Spot) × ((move room spot b ≡ On next) × Leads room next bs end))

-- why a stretch of bytes was left at a spot, after so many of them
abbrev pub Stops : ℕ → Spot → List ℕ → ℕ → Stop → Type 0
Stops room spot bytes count Bytes = count ≡ length bytes
Stops room spot bytes count LineFeed = (count < length bytes) × (slice_index bytes count ≡ line_feed)
Stops room spot bytes count (Offence kind) = (count < length bytes) × ((slice_index bytes count ≢ line_feed) × (move room spot (slice_index bytes count) ≡ Off (kind_of kind)))

pub record Follows (spot : Spot) (bytes : List ℕ) (old new : HeldVertex) (f : Followed) : Type 0 where
  pub within : f.count ≤ length bytes
  pub leads : Leads old.room spot (take f.count bytes) (spot_of f.state new)
  pub stops : Stops old.room (spot_of f.state new) bytes f.count f.stop
  pub holds : Holds f.state new
  pub frame : SameFrame old new
