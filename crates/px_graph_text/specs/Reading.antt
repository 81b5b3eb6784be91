-- A text that is read through a parser, and what it is still to give.
use Rattle.std.specs.Prelude.{◌≡◌, ℕ, ◌+◌, ◌-◌, Bool, if◌then◌else◌, nat_lt, ◌==◌, List, [], ◌∷◌, ◌++◌, take, length, Option, Some, None, count_by}
use Rattle.px_meaning.specs.Graph.{Vertex}
use Rattle.px_meaning.specs.GraphText.{line_feed, lines_of, Offence, first_offence, earlier, vertices_given, offence}
use Rattle.px_meaning.specs.Line.{Long}
use Rattle.px_record.specs.Held.{HeldVertex}
use Rattle.px_graph_text.specs.declared.refusal.Kind.{Kind}
use Rattle.px_graph_text.specs.declared.refusal.TextStop.{TextStop}
use Rattle.px_graph_text.specs.declared.refusal.TextStop.TheVariants.{Source, Bad}
use Rattle.px_graph_text.specs.Kinds.{kind_of}

-- a parser as its callers see it
pub record ParserView : Type 0 where
  -- the bytes read from the source that are not yet gone over
  pub ahead : List ℕ
  -- the number of bytes gone over
  pub place : ℕ
  -- the number of the line that stands there, from 1
  pub line : ℕ
  -- the most bytes that the text may have
  pub limit : ℕ
  pub frame_len : ℕ
  -- an error was answered
  pub spent : Bool

-- what no call changes
pub record SameParser (old new : ParserView) : Type 0 where
  pub limit : new.limit ≡ old.limit
  pub frame_len : new.frame_len ≡ old.frame_len

-- how many bytes the text may still have
abbrev pub left : ParserView → ℕ
left parser = parser.limit - parser.place

-- the first place past the limit, of a text of which this rest begins at this place on this line
abbrev pub too_long_from : ℕ → ℕ → ℕ → List ℕ → Option Offence
too_long_from limit line place rest =
    if nat_lt limit (place + length rest)
    then Some (record { line = line + count_by (λ b. b == line_feed) (take (limit - place) rest); place = limit; kind = Long })
    else None

-- the first offending place of such a rest, which begins a line
abbrev pub offence_from : ℕ → ℕ → ℕ → ℕ → List ℕ → Option Offence
offence_from room limit line place rest = earlier (too_long_from limit line place rest) (first_offence room line place (lines_of rest))

-- the lines before the line of an offence, where the first of these lines has this number; all lines where there is no offence
abbrev pub lines_before : ℕ → Option Offence → List (List ℕ) → List (List ℕ)
lines_before line None lines = lines
lines_before line (Some o) lines = take (o.line - line) lines

-- the vertices that a text gives before its first offending place
abbrev pub vertices_before : ℕ → ℕ → List ℕ → List (ℕ × Vertex)
vertices_before room limit text = vertices_given room (lines_before 1 (offence room limit text) (lines_of text))

-- with these bytes left in the source, this is the offence of the rest of the text, or it has none, and these are the vertices before it
pub record ToGive (room : ℕ) (parser : ParserView) (bytes : List ℕ) (vertices : List (ℕ × Vertex)) (offence : Option Offence) : Type 0 where
  pub given : vertices ≡ vertices_given room (lines_before parser.line offence (lines_of (parser.ahead ++ bytes)))
  pub refused : offence ≡ offence_from room parser.limit parser.line parser.place (parser.ahead ++ bytes)

-- this is so of the vertices and the offence that are to be given, where the source tells what it has left
abbrev pub OfRest : (List ℕ → Type 0) → ℕ → ParserView → (List (ℕ × Vertex) → Option Offence → Type 0) → Type 0
OfRest AreLeft room parser IsSo = (bytes : List ℕ) (vertices : List (ℕ × Vertex)) (offence : Option Offence) → AreLeft bytes → ToGive room parser bytes vertices offence → IsSo vertices offence

-- the first vertex stands in the record, and the others are still to be given
pub record Begins (AreLeft : List ℕ → Type 0) (room : ℕ) (parser : ParserView) (held : HeldVertex) (vertices : List (ℕ × Vertex)) (offence : Option Offence) : Type 0 where
  pub bytes : List ℕ
  pub others : List (ℕ × Vertex)
  pub is : vertices ≡ (held.vid, held.vertex) ∷ others
  pub are_left : AreLeft bytes
  pub to_give : ToGive room parser bytes others offence

-- the text is at its end, and has no offence
pub record IsOver (AreLeft : List ℕ → Type 0) (vertices : List (ℕ × Vertex)) (offence : Option Offence) : Type 0 where
  pub given : vertices ≡ []
  pub good : offence ≡ None
  pub are_left : AreLeft []

-- the offence is on this line and of this kind
pub record IsAt (line : ℕ) (kind : Kind) (offence : Option Offence) : Type 0 where
  pub place : ℕ
  pub is : offence ≡ Some (record { line = line; place = place; kind = kind_of kind })

-- all vertices before the offence were given, and it is on this line and of this kind
pub record IsRefused (line : ℕ) (kind : Kind) (vertices : List (ℕ × Vertex)) (offence : Option Offence) : Type 0 where
  pub given : vertices ≡ []
  pub at : IsAt line kind offence

-- a text is refused as its offence says, once all before it is given. Of a source that fails nothing is said
abbrev pub IsBad : TextStop → List (ℕ × Vertex) → Option Offence → Type 0
IsBad Source vertices offence = Unit {0}
IsBad (Bad line kind) vertices offence = IsRefused line kind vertices offence
