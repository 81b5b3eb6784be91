-- Worked graph texts, which the definition computes.
use Rattle.std.proofs.Common.{◌≡◌, ℕ, false, List, [], ◌∷◌, refl}
use Rattle.std.specs.Prelude.{codes}
use Rattle.px_meaning.specs.Graph.{Vertex}
use Rattle.px_meaning.specs.Line.{Form, Number, Wide, Long}
use Rattle.px_meaning.specs.GraphText.{TextMeaning, Bad, Twice, Good, graph_of}

abbrev live : List (ℕ × ℕ) → Vertex
live edges = record { halt = false; value = []; edges = edges }

abbrev room : ℕ
room = 112

-- the meaning of a text where room is that of the smallest frame
abbrev means : List ℕ → TextMeaning
means text = graph_of text room 1000

empty_text : means [] ≡ Good []
empty_text = refl

lines_in_any_order : means (codes "3\n1 2\n2 3\n") ≡ Good ((1, live ((2, 1) ∷ [])) ∷ (2, live ((3, 1) ∷ [])) ∷ (3, live []) ∷ [])
lines_in_any_order = refl

no_lf_at_the_end : means (codes "7 8") ≡ Good ((7, live ((8, 1) ∷ [])) ∷ [])
no_lf_at_the_end = refl

weights_and_repeated_edges : means (codes "1 2:5 2:5 1 3:4294967295\n") ≡ Good ((1, live ((2, 5) ∷ (2, 5) ∷ (1, 1) ∷ (3, 4294967295) ∷ [])) ∷ [])
weights_and_repeated_edges = refl

leading_zeros : means (codes "007 0008:010\n") ≡ Good ((7, live ((8, 10) ∷ [])) ∷ [])
leading_zeros = refl

greatest_vid : means (codes "18446744073709551615 0\n") ≡ Good ((18446744073709551615, live ((0, 1) ∷ [])) ∷ [])
greatest_vid = refl

blanks_and_comments : means (codes " \t\n# c\n7\r\n  # 1 2 x\n\n") ≡ Good ((7, live []) ∷ [])
blanks_and_comments = refl

tabs_and_crlf : means (codes "1\t2\r\n2 \t 1 \r\n") ≡ Good ((1, live ((2, 1) ∷ [])) ∷ (2, live ((1, 1) ∷ [])) ∷ [])
tabs_and_crlf = refl

comment_without_lf : means (codes "1\n#") ≡ Good ((1, live []) ∷ [])
comment_without_lf = refl

twice : means (codes "5 6\n5 7\n3\n3\n") ≡ Twice 3
twice = refl

-- a bad line goes before a vid on two lines
bad_after_twice : means (codes "5\n5\nx\n") ≡ Bad 3 Form
bad_after_twice = refl

form_at_a_letter : means (codes "1 x\n1 2\n") ≡ Bad 1 Form
form_at_a_letter = refl

form_at_the_end_of_a_line : means (codes "1\n1 2:\n") ≡ Bad 2 Form
form_at_the_end_of_a_line = refl

form_at_the_end_of_the_text : means (codes "1 2:") ≡ Bad 1 Form
form_at_the_end_of_the_text = refl

comment_after_a_vid : means (codes "1 # c\n") ≡ Bad 1 Form
comment_after_a_vid = refl

weight_of_the_vid : means (codes "1:2\n") ≡ Bad 1 Form
weight_of_the_vid = refl

vid_too_great : means (codes "1 18446744073709551616\n") ≡ Bad 1 Number
vid_too_great = refl

weight_too_great : means (codes "1 2:4294967296\n") ≡ Bad 1 Number
weight_too_great = refl

-- the letter stands before the digit at which the number is too great
earlier_place_first : means (codes "x\n18446744073709551616\n") ≡ Bad 1 Form
earlier_place_first = refl

seven_edges_fit : means (codes "1 2 3 4 5 6 7 8\n") ≡ Good ((1, live ((2, 1) ∷ (3, 1) ∷ (4, 1) ∷ (5, 1) ∷ (6, 1) ∷ (7, 1) ∷ (8, 1) ∷ [])) ∷ [])
seven_edges_fit = refl

eight_edges_do_not : means (codes "1 2 3 4 5 6 7 8 9\n") ≡ Bad 1 Wide
eight_edges_do_not = refl

-- at the eighth edge a letter is no digit
form_before_wide : means (codes "1 2 3 4 5 6 7 8 x\n") ≡ Bad 1 Form
form_before_wide = refl

-- the limit on the text's length
limit_met : graph_of (codes "################") room 16 ≡ Good []
limit_met = refl

limit_passed : graph_of (codes "#################") room 16 ≡ Bad 1 Long
limit_passed = refl

-- the byte past the limit ends the first line, at a place where the end is Form too
long_before_form : graph_of (codes "1 2:\n") room 4 ≡ Bad 1 Long
long_before_form = refl

form_before_long : graph_of (codes "1 x:\n") room 4 ≡ Bad 1 Form
form_before_long = refl

long_on_the_second_line : graph_of (codes "1\n2\n") room 2 ≡ Bad 2 Long
long_on_the_second_line = refl
