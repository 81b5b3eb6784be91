-- How a parser goes over the bytes of its frame.
use Rattle.std.specs.Prelude.{◌≡◌, ◌≢◌, ℕ, zero, suc, ◌+◌, ◌-◌, ◌<◌, Bool, true, false, List, [], ◌∷◌, ◌++◌, take, length, Option, Some, None, Result, Ok, Err}
use Rattle.std.specs.List.{cons_option}
use Rattle.px_meaning.specs.Graph.{Vertex}
use Rattle.px_meaning.specs.GraphText.{line_feed, lines_of, Offence, offence_of, first_offence, earlier, vertex_given, vertices_given}
use Rattle.px_meaning.specs.Line.{Spot, Start as AtStart, Off, move, ending, reading_from}
use Rattle.px_record.specs.Held.{HeldVertex}
use Rattle.px_graph_text.specs.declared.refusal.Kind.{Kind}
use Rattle.px_graph_text.specs.declared.refusal.TextStop.{TextStop}
use Rattle.px_graph_text.specs.declared.refusal.TextStop.TheVariants.{Source, Bad}
use Rattle.px_graph_text.specs.declared.line.State.{State}
use Rattle.px_graph_text.specs.declared.line.State.TheVariants.{Start}
use Rattle.px_graph_text.specs.declared.line.Stop.{Stop}
use Rattle.px_graph_text.specs.declared.line.Stop.TheVariants.{Bytes, LineFeed, Offence as Offends}
use Rattle.px_graph_text.specs.Kinds.{kind_of}
use Rattle.px_graph_text.specs.Steps.{spot_of, vertex_with, Holds}
use Rattle.px_graph_text.specs.Reading.{ParserView, ToGive, IsRefused, left, too_long_from}

-- lines of which the first is followed up to a spot: their vertices
abbrev pub given_in : ℕ → Spot → List (List ℕ) → List (ℕ × Vertex)
given_in room spot [] = cons_option (vertex_given (ending spot)) []
given_in room spot (l ∷ ls) = cons_option (vertex_given (reading_from room spot l)) (vertices_given room ls)

-- the vertices of so many of them
abbrev pub given_of : ℕ → Spot → ℕ → List (List ℕ) → List (ℕ × Vertex)
given_of room spot zero lines = []
given_of room spot (suc n) [] = given_in room spot []
given_of room spot (suc n) (l ∷ ls) = given_in room spot (l ∷ take n ls)

-- the vertices of those before an offence, where the spot's line has this number
abbrev pub given_before : ℕ → Spot → ℕ → Option Offence → List (List ℕ) → List (ℕ × Vertex)
given_before room spot line None lines = given_in room spot lines
given_before room spot line (Some o) lines = given_of room spot (o.line - line) lines

abbrev pub or_else : Option Offence → Option Offence → Option Offence
or_else (Some o) other = Some o
or_else None other = other

-- and their first offence, where the spot has this line's number and this place
abbrev pub refused_in : ℕ → Spot → ℕ → ℕ → List (List ℕ) → Option Offence
refused_in room spot line place [] = offence_of line place (ending spot)
refused_in room spot line place (l ∷ ls) = or_else (offence_of line place (reading_from room spot l)) (first_offence room (suc line) (place + length l + 1) ls)

-- the same of the rest of a text, from a spot in a line on
abbrev pub given_at : ℕ → Spot → ℕ → Option Offence → List ℕ → List (ℕ × Vertex)
given_at room spot line offence rest = given_before room spot line offence (lines_of rest)

abbrev pub refused_at : ℕ → ℕ → Spot → ℕ → ℕ → List ℕ → Option Offence
refused_at room limit spot line place rest = earlier (too_long_from limit line place rest) (refused_in room spot line place (lines_of rest))

-- what a text has still to give, in the midst of a line
pub record ToGiveAt (room : ℕ) (spot : Spot) (parser : ParserView) (bytes : List ℕ) (vertices : List (ℕ × Vertex)) (offence : Option Offence) : Type 0 where
  pub given : vertices ≡ given_at room spot parser.line offence (parser.ahead ++ bytes)
  pub refused : offence ≡ refused_at room parser.limit spot parser.line parser.place (parser.ahead ++ bytes)

-- some bytes are left, with which this is so
pub record Still (AreLeft IsSo : List ℕ → Type 0) : Type 0 where
  pub bytes : List ℕ
  pub are_left : AreLeft bytes
  pub is_so : IsSo bytes

-- a byte is ahead, within the limit
pub record HasNext (parser : ParserView) (byte : ℕ) : Type 0 where
  pub others : List ℕ
  pub is : parser.ahead ≡ byte ∷ others
  pub within : parser.place < parser.limit

-- a byte ahead is refused at this spot
pub record HasOffence (room : ℕ) (spot : Spot) (parser : ParserView) (kind : Kind) : Type 0 where
  pub byte : ℕ
  pub next : HasNext parser byte
  pub in_line : byte ≢ line_feed
  pub off : move room spot byte ≡ Off (kind_of kind)

-- what comes next where a line was left at a spot
abbrev pub Meets : ℕ → Spot → ParserView → ParserView → Stop → Type 0
Meets room spot old new Bytes = left new < left old
Meets room spot old new LineFeed = HasNext new line_feed
Meets room spot old new (Offends kind) = HasOffence room spot new kind

-- what was to be given is still to be given, now in this state
pub record GoesOn (spot : Spot) (was held : HeldVertex) (old new : ParserView) (next : State) : Type 0 where
  pub to_give : (bytes : List ℕ) (vs : List (ℕ × Vertex)) (o : Option Offence) → ToGiveAt was.room spot old bytes vs o → ToGiveAt was.room (spot_of next held) new bytes vs o
  pub holds : Holds next held

-- the first vertex is given, and the others are still to be given
pub record First (held : HeldVertex) (vertices : List (ℕ × Vertex)) (AreToGive : List (ℕ × Vertex) → Type 0) : Type 0 where
  pub others : List (ℕ × Vertex)
  pub is : vertices ≡ (held.vid, held.vertex) ∷ others
  pub to_give : AreToGive others

pub record GivesFirst (spot : Spot) (was held : HeldVertex) (old new : ParserView) : Type 0 where
  pub to_give : (bytes : List ℕ) (vs : List (ℕ × Vertex)) (o : Option Offence) → ToGiveAt was.room spot old bytes vs o → First held vs (λ others. ToGive was.room new bytes others o)
  pub vertex : held.vertex ≡ vertex_with held.vertex.edges

-- the text is refused on the line that it stands in, and gives no vertex before
pub record Refuses (spot : Spot) (was : HeldVertex) (old : ParserView) (kind : Kind) : Type 0 where
  pub at : (bytes : List ℕ) (vs : List (ℕ × Vertex)) (o : Option Offence) → ToGiveAt was.room spot old bytes vs o → IsRefused old.line kind vs o

-- the end of a line was gone over
abbrev pub EndsLine : Spot → HeldVertex → HeldVertex → ParserView → ParserView → Result Bool Kind → Type 0
EndsLine spot was held old new (Ok true) = GivesFirst spot was held old new
EndsLine spot was held old new (Ok false) = GoesOn spot was held old new Start
EndsLine spot was held old new (Err kind) = Refuses spot was old kind

-- bytes ahead were gone over, up to the end of a line at most
abbrev pub Passes : Spot → HeldVertex → HeldVertex → ParserView → ParserView → Result (Option State) Kind → Type 0
Passes spot was held old new (Ok None) = GivesFirst spot was held old new
Passes spot was held old new (Ok (Some next)) = GoesOn spot was held old new next
Passes spot was held old new (Err kind) = Refuses spot was old kind

-- the last vertex of a text, of which nothing is left
pub record GivesLast (spot : Spot) (was held : HeldVertex) (parser : ParserView) : Type 0 where
  pub to_give : (vs : List (ℕ × Vertex)) (o : Option Offence) → ToGiveAt was.room spot parser [] vs o → First held vs (λ others. ToGive was.room parser [] others o)
  pub vertex : held.vertex ≡ vertex_with held.vertex.edges
  pub begun : spot ≢ AtStart

pub record GivesNone (spot : Spot) (was : HeldVertex) (parser : ParserView) : Type 0 where
  pub none : (vs : List (ℕ × Vertex)) (o : Option Offence) → ToGiveAt was.room spot parser [] vs o → vs ≡ []
  pub good : (vs : List (ℕ × Vertex)) (o : Option Offence) → ToGiveAt was.room spot parser [] vs o → o ≡ None

pub record EndsBad (spot : Spot) (was : HeldVertex) (parser : ParserView) (line : ℕ) (kind : Kind) : Type 0 where
  pub at : (vs : List (ℕ × Vertex)) (o : Option Offence) → ToGiveAt was.room spot parser [] vs o → IsRefused line kind vs o

-- the end of the text was reached
abbrev pub EndsText : Spot → HeldVertex → HeldVertex → ParserView → Result Bool TextStop → Type 0
EndsText spot was held parser (Ok true) = GivesLast spot was held parser
EndsText spot was held parser (Ok false) = GivesNone spot was parser
EndsText spot was held parser (Err Source) = ⊥
EndsText spot was held parser (Err (Bad line kind)) = EndsBad spot was parser line kind
