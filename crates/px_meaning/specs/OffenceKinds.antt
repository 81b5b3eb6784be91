-- Of which kind the first offence of a line is. Nothing here reads byte by byte.
use Rattle.std.specs.Prelude.{◌≡◌, ◌≢◌, ◌↔◌, ℕ, ◌+◌, ◌<◌, ◌≤◌, Bool, true, false, if◌then◌else◌, ◌==◌, IsTrue, List, [], ◌∷◌, ◌++◌, fold, length, Some}
use Rattle.std.specs.List.{list_all}
use Rattle.px_meaning.specs.Graph.{size_of}
use Rattle.px_meaning.specs.Line.{Kind, Number, Wide, Long, Edges, is_blank, is_digit, with_digit, greatest_vid, greatest_weight, Refused, reading}
use Rattle.px_meaning.specs.GoodLine.{IsGoodLine}

-- the last of these bytes is such a byte
abbrev pub ends_in : (ℕ → Bool) → List ℕ → Bool
ends_in is [] = false
ends_in is (b ∷ []) = is b
ends_in is (b ∷ c ∷ bytes) = ends_in is (c ∷ bytes)

-- the greatest value of a number that begins behind these bytes: behind a `:` it is a weight, else a vid
abbrev pub greatest_behind : List ℕ → ℕ
greatest_behind front = if ends_in (λ b. b == 58) front then greatest_weight else greatest_vid

-- at this place stands the first digit of an edge with which the vertex passes room: a good line and a blank are before it
pub record PassesRoom (room : ℕ) (line : List ℕ) (place : ℕ) : Type 0 where
  pub front : List ℕ
  pub digit : ℕ
  pub rest : List ℕ
  pub vid : ℕ
  pub edges : Edges
  pub whole : line ≡ front ++ digit ∷ rest
  pub at : length front ≡ place
  pub good : IsGoodLine room front (Some (vid, edges))
  pub gap : ends_in is_blank front ≡ true
  pub is : is_digit digit ≡ true
  pub passes : room < size_of 0 (length edges + 1)

-- at this place stands the digit with which a number passes its greatest value: without it the digits are within
pub record PassesGreatest (line : List ℕ) (place : ℕ) : Type 0 where
  pub front : List ℕ
  pub word : List ℕ
  pub digit : ℕ
  pub rest : List ℕ
  pub whole : line ≡ (front ++ word) ++ digit ∷ rest
  pub at : length (front ++ word) ≡ place
  pub begins : ends_in is_digit front ≡ false
  pub digits : IsTrue (list_all is_digit word)
  pub is : is_digit digit ≡ true
  pub within : fold with_digit 0 word ≤ greatest_behind front
  pub passes : greatest_behind front < with_digit (fold with_digit 0 word) digit

-- the kind is Wide exactly where an edge passes room, Number exactly where a number passes its greatest value, never Long, and so Form else
pub record IsKindAt (room : ℕ) (line : List ℕ) (place : ℕ) (kind : Kind) : Type 0 where
  pub wide : kind ≡ Wide ↔ PassesRoom room line place
  pub number : kind ≡ Number ↔ PassesGreatest line place
  pub short : kind ≢ Long

-- the law: a line that is refused is refused for the kind of its first offence
abbrev pub RefusedForKind : Type 0
RefusedForKind = (room : ℕ) (line : List ℕ) (place : ℕ) (kind : Kind) → reading room line ≡ Refused place kind → IsKindAt room line place kind
