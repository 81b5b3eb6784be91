-- What a graph text means: its graph, or the one refusal that it gets.
use Rattle.std.specs.Prelude.{ℕ, suc, ◌+◌, false, if◌then◌else◌, nat_lt, nat_le, ◌==◌, List, [], ◌∷◌, take, find, fold, length, Option, Some, None, count_by}
use Rattle.std.specs.List.{filter_map}
use Rattle.px_meaning.specs.Graph.{Vertex, Graph, put, ascending, vids}
use Rattle.px_meaning.specs.Line.{Kind, Long, Reading, Nothing, Spelled, Refused, reading}

abbrev pub line_feed : ℕ
line_feed = 10

-- a byte at the front of the first line
abbrev pub join_line : ℕ → List (List ℕ) → List (List ℕ)
join_line b [] = (b ∷ []) ∷ []
join_line b (line ∷ lines) = (b ∷ line) ∷ lines

-- the lines of a text, without their LF. A nonempty rest after the last LF is a line too
abbrev pub lines_of : List ℕ → List (List ℕ)
lines_of [] = []
lines_of (b ∷ bs) = if b == line_feed then [] ∷ lines_of bs else join_line b (lines_of bs)

-- an offending place: the line's number from 1, the place in the text from 0, and the kind
pub record Offence : Type 0 where
  pub line : ℕ
  pub place : ℕ
  pub kind : Kind

-- the offence of a line with this number that begins at this place
abbrev pub offence_of : ℕ → ℕ → Reading → Option Offence
offence_of number at Nothing = None
offence_of number at (Spelled v edges) = None
offence_of number at (Refused place kind) = Some (record { line = number; place = at + place; kind = kind })

-- the first offending place of lines, of which the first has this number and begins at this place
abbrev pub first_offence : ℕ → ℕ → ℕ → List (List ℕ) → Option Offence
first_offence room number at [] = None
first_offence room number at (line ∷ lines) =
    elim (offence_of number at (reading room line)) [
      | Some offence ↦ Some offence
      | None ↦ first_offence room (suc number) (at + length line + 1) lines
    ]

-- the line on which a place stands
abbrev pub line_at : List ℕ → ℕ → ℕ
line_at text place = 1 + count_by (λ b. b == line_feed) (take place text)

-- the first place past the limit on the text's length, where there is one
abbrev pub too_long : ℕ → List ℕ → Option Offence
too_long limit text = if nat_lt limit (length text) then Some (record { line = line_at text limit; place = limit; kind = Long }) else None

-- the one that comes first; of two at one place the first
abbrev pub earlier : Option Offence → Option Offence → Option Offence
earlier None b = b
earlier (Some a) None = Some a
earlier (Some a) (Some b) = if nat_le a.place b.place then Some a else Some b

-- the first offending place of a text
abbrev pub offence : ℕ → ℕ → List ℕ → Option Offence
offence room limit text = earlier (too_long limit text) (first_offence room 1 0 (lines_of text))

-- the vertex that a line gives: it has not voted to halt, and has no value
abbrev pub vertex_given : Reading → Option (ℕ × Vertex)
vertex_given Nothing = None
vertex_given (Spelled v edges) = Some (v, record { halt = false; value = []; edges = edges })
vertex_given (Refused place kind) = None

-- the vertices of lines, in their order
abbrev pub vertices_given : ℕ → List (List ℕ) → List (ℕ × Vertex)
vertices_given room lines = filter_map (λ line. vertex_given (reading room line)) lines

-- the least vid that stands on two lines
abbrev pub least_twice : List ℕ → Option ℕ
least_twice vs = find (λ v. nat_lt 1 (count_by (λ w. w == v) vs)) (ascending vs)

-- what a text is
pub data TextMeaning : Type 0 where
  Bad : ℕ → Kind → TextMeaning
  Twice : ℕ → TextMeaning
  Good : Graph → TextMeaning

-- the map of vertices, each under its vid
abbrev pub map_of : List (ℕ × Vertex) → Graph
map_of given = fold (λ g e. put e.0 e.1 g) [] given

-- what vertices are that stand on different lines
abbrev pub graph_given : List (ℕ × Vertex) → TextMeaning
graph_given given = elim (least_twice (vids given)) [ Some v ↦ Twice v | None ↦ Good (map_of given) ]

-- bad at the first offending place; else the least vid that stands on two lines; else the graph
abbrev pub graph_of : List ℕ → ℕ → ℕ → TextMeaning
graph_of text room limit =
    elim (offence room limit text) [
      | Some o ↦ Bad o.line o.kind
      | None ↦ graph_given (vertices_given room (lines_of text))
    ]
