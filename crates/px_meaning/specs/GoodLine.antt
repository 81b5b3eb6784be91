-- What a good line of graph text is, by its words, and what it spells. Nothing here reads byte by byte.
use Rattle.std.specs.Prelude.{◌≡◌, ◌⊎◌, ℕ, ◌+◌, ◌<◌, ◌≤◌, IsTrue, List, [], ◌∷◌, ◌++◌, fold, take, length, Option, Some, None}
use Rattle.std.specs.List.{list_all}
use Rattle.px_meaning.specs.Graph.{size_of}
use Rattle.px_meaning.specs.Line.{Kind, Edges, is_blank, is_digit, with_digit, greatest_vid, greatest_weight, Reading, Nothing, Spelled, Refused, reading}

abbrev pub AreBlanks : List ℕ → Type 0
AreBlanks bytes = IsTrue (list_all is_blank bytes)

-- one or more digits that write the number, which is at most the greatest
pub record IsNumber (greatest : ℕ) (digits : List ℕ) (n : ℕ) : Type 0 where
  pub some : 0 < length digits
  pub all_digits : IsTrue (list_all is_digit digits)
  pub value : fold with_digit 0 digits ≡ n
  pub within : n ≤ greatest

-- a vid, or a vid, `:` and a weight. Without a weight it is 1
pub data IsEdge : List ℕ → ℕ × ℕ → Type 0 where
  Plain : (word : List ℕ) (dst : ℕ) → IsNumber greatest_vid word dst → IsEdge word (dst, 1)
  Weighted : (word tail : List ℕ) (dst weight : ℕ) → IsNumber greatest_vid word dst → IsNumber greatest_weight tail weight → IsEdge (word ++ 58 ∷ tail) (dst, weight)

-- edges in their order, each after at least one blank
pub data AreEdges : List ℕ → Edges → Type 0 where
  NoEdges : AreEdges [] []
  EdgeAfter : (gap word rest : List ℕ) (edge : ℕ × ℕ) (edges : Edges) → AreBlanks gap → 0 < length gap → IsEdge word edge → AreEdges rest edges → AreEdges (gap ++ (word ++ rest)) (edge ∷ edges)

-- the vertex with these edges is within room
abbrev pub Fits : ℕ → Edges → Type 0
Fits room edges = (edges ≡ []) ⊎ (size_of 0 (length edges) ≤ room)

-- a good line, and the vid with its edges that it spells, or nothing
pub data IsGoodLine (room : ℕ) : List ℕ → Option (ℕ × Edges) → Type 0 where
  BlankLine : (bytes : List ℕ) → AreBlanks bytes → IsGoodLine room bytes None
  CommentLine : (before rest : List ℕ) → AreBlanks before → IsGoodLine room (before ++ 35 ∷ rest) None
  VertexLine : (before word middle after : List ℕ) (vid : ℕ) (edges : Edges) → AreBlanks before → IsNumber greatest_vid word vid → AreEdges middle edges → AreBlanks after → Fits room edges → IsGoodLine room (before ++ (word ++ (middle ++ after))) (Some (vid, edges))

-- how a good line that spells this is read
abbrev pub reading_of : Option (ℕ × Edges) → Reading
reading_of None = Nothing
reading_of (Some x) = Spelled x.0 x.1

-- some good line begins so
abbrev pub BeginsGoodLine : ℕ → List ℕ → Type 0
BeginsGoodLine room bytes = (rest : List ℕ) × ((x : Option (ℕ × Edges)) × IsGoodLine room (bytes ++ rest) x)

abbrev pub IsGood : ℕ → List ℕ → Type 0
IsGood room line = (x : Option (ℕ × Edges)) × IsGoodLine room line x

-- the first place at which no good line goes on as this one does: at a byte, or at its end
pub record IsFirstOffence (room : ℕ) (line : List ℕ) (place : ℕ) : Type 0 where
  pub within : place ≤ length line
  pub before : BeginsGoodLine room (take place line)
  pub at_byte : place < length line → BeginsGoodLine room (take (place + 1) line) → ⊥
  pub at_end : place ≡ length line → IsGood room line → ⊥

-- the laws: what a good line spells is what it is read as, and only good lines are read so
abbrev pub GoodLinesAreRead : Type 0
GoodLinesAreRead = (room : ℕ) (line : List ℕ) (x : Option (ℕ × Edges)) → IsGoodLine room line x → reading room line ≡ reading_of x

abbrev pub ReadLinesAreGood : Type 0
ReadLinesAreGood = (room : ℕ) (line : List ℕ) (x : Option (ℕ × Edges)) → reading room line ≡ reading_of x → IsGoodLine room line x

-- a line is refused exactly at the first place where no good line begins so
abbrev pub RefusedAtFirstOffence : Type 0
RefusedAtFirstOffence = (room : ℕ) (line : List ℕ) (place : ℕ) (kind : Kind) → reading room line ≡ Refused place kind → IsFirstOffence room line place

abbrev pub FirstOffenceIsRefused : Type 0
FirstOffenceIsRefused = (room : ℕ) (line : List ℕ) (place : ℕ) → IsFirstOffence room line place → (kind : Kind) × (reading room line ≡ Refused place kind)
