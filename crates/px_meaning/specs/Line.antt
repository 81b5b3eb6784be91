-- One line of graph text, byte by byte: where in the grammar the line stands, and what each byte does there.
--
-- A line is blanks alone, or blanks and a comment that `#` begins, or blanks, a vid, edges with at least one blank before each, and blanks.
-- An edge is a vid, or a vid, `:` and a weight. A blank is a space, a tab or a CR.
use Rattle.std.specs.Prelude.{ℕ, suc, ◌+◌, ◌-◌, ◌*◌, ◌^◌, Bool, ◌&&◌, ◌||◌, if◌then◌else◌, nat_lt, nat_le, ◌==◌, List, [], ◌∷◌, ◌++◌, length}
use Rattle.px_meaning.specs.Graph.{size_of}

-- why a line is refused
pub data Kind : Type 0 where
  -- a byte, or the end of the line, that no good line has here
  Form : Kind
  -- a number passes its greatest value
  Number : Kind
  -- an edge with which the vertex passes room
  Wide : Kind
  -- the text passes its greatest length
  Long : Kind

abbrev pub is_blank : ℕ → Bool
is_blank b = b == 32 || b == 9 || b == 13

abbrev pub is_digit : ℕ → Bool
is_digit b = nat_le 48 b && nat_le b 57

-- a number with one digit more
abbrev pub with_digit : ℕ → ℕ → ℕ
with_digit n b = 10 * n + (b - 48)

abbrev pub greatest_vid : ℕ
greatest_vid = 2 ^ 64 - 1

abbrev pub greatest_weight : ℕ
greatest_weight = 2 ^ 32 - 1

abbrev pub Edges : Type 0
Edges = List (ℕ × ℕ)

-- where in the grammar a line stands, with what it has spelled so far
pub data Spot : Type 0 where
  -- before anything but blanks
  Start : Spot
  -- in a comment
  Comment : Spot
  -- in the vid
  InVid : ℕ → Spot
  -- after a blank: an edge or the end may come
  Gap : ℕ → Edges → Spot
  -- in an edge's target
  InTarget : ℕ → Edges → ℕ → Spot
  -- after an edge's `:`
  Colon : ℕ → Edges → ℕ → Spot
  -- in an edge's weight
  InWeight : ℕ → Edges → ℕ → ℕ → Spot

-- what a byte does: the line goes on, or is refused here
pub data Move : Type 0 where
  On : Spot → Move
  Off : Kind → Move

-- one more digit of a number, which the next spot has
abbrev pub digit_move : ℕ → ℕ → ℕ → (ℕ → Spot) → Move
digit_move greatest n b next = if nat_lt greatest (with_digit n b) then Off Number else On (next (with_digit n b))

-- one edge more fits room
abbrev pub has_room : ℕ → Edges → Bool
has_room room edges = nat_le (size_of 0 (length edges + 1)) room

abbrev pub move : ℕ → Spot → ℕ → Move
move room Start b =
    if is_blank b then On Start
    else if b == 35 then On Comment
    else if is_digit b then digit_move greatest_vid 0 b InVid
    else Off Form
move room Comment b = On Comment
move room (InVid v) b =
    if is_blank b then On (Gap v [])
    else if is_digit b then digit_move greatest_vid v b InVid
    else Off Form
move room (Gap v edges) b =
    if is_blank b then On (Gap v edges)
    else if is_digit b then (if has_room room edges then digit_move greatest_vid 0 b (InTarget v edges) else Off Wide)
    else Off Form
move room (InTarget v edges dst) b =
    if is_blank b then On (Gap v (edges ++ (dst, 1) ∷ []))
    else if b == 58 then On (Colon v edges dst)
    else if is_digit b then digit_move greatest_vid dst b (InTarget v edges)
    else Off Form
move room (Colon v edges dst) b =
    if is_digit b then digit_move greatest_weight 0 b (InWeight v edges dst)
    else Off Form
move room (InWeight v edges dst weight) b =
    if is_blank b then On (Gap v (edges ++ (dst, weight) ∷ []))
    else if is_digit b then digit_move greatest_weight weight b (InWeight v edges dst)
    else Off Form

-- what a line is: nothing, a vid with its edges, or refused at a place, counted from 0
pub data Reading : Type 0 where
  Nothing : Reading
  Spelled : ℕ → Edges → Reading
  Refused : ℕ → Kind → Reading

-- what a line is that ends here
abbrev pub ending : Spot → Reading
ending Start = Nothing
ending Comment = Nothing
ending (InVid v) = Spelled v []
ending (Gap v edges) = Spelled v edges
ending (InTarget v edges dst) = Spelled v (edges ++ (dst, 1) ∷ [])
ending (Colon v edges dst) = Refused 0 Form
ending (InWeight v edges dst weight) = Spelled v (edges ++ (dst, weight) ∷ [])

-- one place further on
abbrev pub later : Reading → Reading
later Nothing = Nothing
later (Spelled v edges) = Spelled v edges
later (Refused at kind) = Refused (suc at) kind

-- what the rest of a line is, from a spot on
abbrev pub reading_from : ℕ → Spot → List ℕ → Reading
reading_from room spot [] = ending spot
reading_from room spot (b ∷ bs) = elim (move room spot b) [ On next ↦ later (reading_from room next bs) | Off kind ↦ Refused 0 kind ]

abbrev pub reading : ℕ → List ℕ → Reading
reading room line = reading_from room Start line
