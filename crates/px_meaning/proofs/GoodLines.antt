-- A good line is read as what it spells: the reading goes over one word after another.
use Rattle.std.proofs.Common.{◌≡◌, ℕ, ◌+◌, ◌<◌, ◌≤◌, List, [], ◌∷◌, ◌++◌, length, fold, true, false, IsTrue, Option, Some, None, sym, ◌∙◌, ap, refl, subst, arith, inl, inr, append_assoc, append-nil, length-append, leb, le-ltb, le-leb, leb-true, ne_eqb, le_trans}
use Rattle.std.specs.Prelude.{◌==◌, ◌||◌, nat_lt}
use Rattle.std.specs.List.{list_all}
use Rattle.std.proofs.lemmas.Bool.{and_parts, cond-true, cond-false, or_from}
use Rattle.px_meaning.specs.Graph.{size_of}
use Rattle.px_meaning.specs.Line.{Edges, is_blank, is_digit, with_digit, greatest_vid, greatest_weight, digit_move, has_room, Spot, Start, Comment, InVid, Gap, InTarget, Colon, InWeight, Move, On, Off, move, ending, later, Spelled, Refused, reading_from}
use Rattle.px_meaning.proofs.LineWords.{regroup}
use Rattle.px_meaning.specs.GoodLine.{AreBlanks, IsNumber, IsEdge, Plain, Weighted, AreEdges, NoEdges, EdgeAfter, Fits, BlankLine, CommentLine, VertexLine, reading_of, GoodLinesAreRead}

-- from this spot on the rest is read as this, and not refused
abbrev Reads : ℕ → Spot → List ℕ → Option (ℕ × Edges) → Type 0
Reads room spot rest x = reading_from room spot rest ≡ reading_of x

later_same : (x : Option (ℕ × Edges)) → later (reading_of x) ≡ reading_of x
later_same None = refl
later_same (Some x) = refl

over_byte : (room : ℕ) (spot next : Spot) (b : ℕ) (rest : List ℕ) (x : Option (ℕ × Edges)) → move room spot b ≡ On next → Reads room next rest x → Reads room spot (b ∷ rest) x
over_byte room spot next b rest x e h =
    ap (λ (m : Move). elim m [ On next ↦ later (reading_from room next rest) | Off kind ↦ Refused 0 kind ]) e ∙ (ap later h ∙ later_same x)

-- a digit is no blank, no `:` and no `#`

pub digit_bounds : (b : ℕ) → is_digit b ≡ true → (48 ≤ b) × (b ≤ 57)
digit_bounds b e = let parts = and_parts (leb 48 b) (leb b 57) e in (leb-true 48 b parts.0, leb-true b 57 parts.1)

pub digit_not : (b other : ℕ) → is_digit b ≡ true → (48 ≤ b → b ≤ 57 → b ≡ other → ⊥) → (b == other) ≡ false
digit_not b other e h = let bounds = digit_bounds b e in ne_eqb b other (h bounds.0 bounds.1)

pub digit_no_blank : (b : ℕ) → is_digit b ≡ true → is_blank b ≡ false
digit_no_blank b e =
    or_from (b == 32 || b == 9) (b == 13) (or_from (b == 32) (b == 9) (digit_not b 32 e (λ low high is. omega arith)) (digit_not b 9 e (λ low high is. omega arith)))
    (digit_not b 13 e (λ low high is. omega arith))

-- over a number

-- more digits make no lesser number
pub fold_grows : (n : ℕ) (word : List ℕ) → n ≤ fold with_digit n word
fold_grows n [] = omega arith
fold_grows n (b ∷ word) = omega (arith, fold_grows (with_digit n b) word)

-- a digit goes from the spot into the number
abbrev TakesDigit : ℕ → ℕ → ℕ → Spot → (ℕ → Spot) → Type 0
TakesDigit room greatest n spot next = (b : ℕ) → is_digit b ≡ true → move room spot b ≡ digit_move greatest n b next

over_digit : (room greatest n b : ℕ) (spot : Spot) (next : ℕ → Spot) (rest : List ℕ) (x : Option (ℕ × Edges)) → TakesDigit room greatest n spot next → is_digit b ≡ true → with_digit n b ≤ greatest → Reads room (next (with_digit n b)) rest x → Reads room spot (b ∷ rest) x
over_digit room greatest n b spot next rest x takes e le h =
    over_byte room spot (next (with_digit n b)) b rest x (takes b e ∙ cond-false (nat_lt greatest (with_digit n b)) _ _ (le-ltb greatest (with_digit n b) le)) h

over_digits : (room greatest n : ℕ) (next : ℕ → Spot) (word rest : List ℕ) (x : Option (ℕ × Edges)) → ((k : ℕ) → TakesDigit room greatest k (next k) next) → IsTrue (list_all is_digit word) → fold with_digit n word ≤ greatest → Reads room (next (fold with_digit n word)) rest x → Reads room (next n) (word ++ rest) x
over_digits room greatest n next [] rest x takes digits within h = h
over_digits room greatest n next (b ∷ word) rest x takes digits within h =
    let parts = and_parts (is_digit b) (list_all is_digit word) digits in
    over_digit room greatest n b (next n) next (word ++ rest) x (takes n) parts.0 (le_trans (fold_grows (with_digit n b) word) within)
    (over_digits room greatest (with_digit n b) next word rest x takes parts.1 within h)

over_number : (room greatest n : ℕ) (spot : Spot) (next : ℕ → Spot) (word rest : List ℕ) (x : Option (ℕ × Edges)) → TakesDigit room greatest 0 spot next → ((k : ℕ) → TakesDigit room greatest k (next k) next) → IsNumber greatest word n → Reads room (next n) rest x → Reads room spot (word ++ rest) x
over_number room greatest n spot next [] rest x first takes number h = absurd (omega (arith, number.some))
over_number room greatest n spot next (b ∷ word) rest x first takes number h =
    let parts = and_parts (is_digit b) (list_all is_digit word) number.all_digits in
    let within : fold with_digit (with_digit 0 b) word ≤ greatest = subst (λ k. k ≤ greatest) (sym number.value) number.within in
    over_digit room greatest 0 b spot next (word ++ rest) x first parts.0 (le_trans (fold_grows (with_digit 0 b) word) within)
    (over_digits room greatest (with_digit 0 b) next word rest x takes parts.1 within (subst (λ k. Reads room (next k) rest x) (sym number.value) h))

start_takes : (room : ℕ) → TakesDigit room greatest_vid 0 Start InVid
start_takes room b e = cond-false (is_blank b) _ _ (digit_no_blank b e) ∙ (cond-false (b == 35) _ _ (digit_not b 35 e (λ low high is. omega arith)) ∙ cond-true (is_digit b) _ _ e)

vid_takes : (room v : ℕ) → TakesDigit room greatest_vid v (InVid v) InVid
vid_takes room v b e = cond-false (is_blank b) _ _ (digit_no_blank b e) ∙ cond-true (is_digit b) _ _ e

gap_takes : (room v : ℕ) (es : Edges) → has_room room es ≡ true → TakesDigit room greatest_vid 0 (Gap v es) (InTarget v es)
gap_takes room v es fits b e = cond-false (is_blank b) _ _ (digit_no_blank b e) ∙ (cond-true (is_digit b) _ _ e ∙ cond-true (has_room room es) _ _ fits)

target_takes : (room v : ℕ) (es : Edges) (dst : ℕ) → TakesDigit room greatest_vid dst (InTarget v es dst) (InTarget v es)
target_takes room v es dst b e = cond-false (is_blank b) _ _ (digit_no_blank b e) ∙ (cond-false (b == 58) _ _ (digit_not b 58 e (λ low high is. omega arith)) ∙ cond-true (is_digit b) _ _ e)

colon_takes : (room v : ℕ) (es : Edges) (dst : ℕ) → TakesDigit room greatest_weight 0 (Colon v es dst) (InWeight v es dst)
colon_takes room v es dst b e = cond-true (is_digit b) _ _ e

weight_takes : (room v : ℕ) (es : Edges) (dst weight : ℕ) → TakesDigit room greatest_weight weight (InWeight v es dst weight) (InWeight v es dst)
weight_takes room v es dst weight b e = cond-false (is_blank b) _ _ (digit_no_blank b e) ∙ cond-true (is_digit b) _ _ e

-- over blanks

over_blanks : (room : ℕ) (spot : Spot) (gap rest : List ℕ) (x : Option (ℕ × Edges)) → ((b : ℕ) → is_blank b ≡ true → move room spot b ≡ On spot) → AreBlanks gap → Reads room spot rest x → Reads room spot (gap ++ rest) x
over_blanks room spot [] rest x stays blanks h = h
over_blanks room spot (b ∷ gap) rest x stays blanks h =
    let parts = and_parts (is_blank b) (list_all is_blank gap) blanks in
    over_byte room spot spot b (gap ++ rest) x (stays b parts.0) (over_blanks room spot gap rest x stays parts.1 h)

-- a spot at which the vid and these edges are spelled: a blank leads into the gap, and the line may end
record Closes (room : ℕ) (spot : Spot) (v : ℕ) (es : Edges) : Type 0 where
  gaps : (b : ℕ) → is_blank b ≡ true → move room spot b ≡ On (Gap v es)
  at_end : ending spot ≡ Spelled v es

over_gap : (room : ℕ) (spot : Spot) (v : ℕ) (es : Edges) (gap rest : List ℕ) (x : Option (ℕ × Edges)) → Closes room spot v es → AreBlanks gap → 0 < length gap → Reads room (Gap v es) rest x → Reads room spot (gap ++ rest) x
over_gap room spot v es [] rest x closes blanks some h = absurd (omega arith)
over_gap room spot v es (b ∷ gap) rest x closes blanks some h =
    let parts = and_parts (is_blank b) (list_all is_blank gap) blanks in
    over_byte room spot (Gap v es) b (gap ++ rest) x (closes.gaps b parts.0) (over_blanks room (Gap v es) gap rest x (λ k e. cond-true (is_blank k) _ _ e) parts.1 h)

to_end : (room : ℕ) (spot : Spot) (v : ℕ) (es : Edges) (after : List ℕ) → Closes room spot v es → AreBlanks after → Reads room spot after (Some (v, es))
to_end room spot v es [] closes blanks = closes.at_end
to_end room spot v es (b ∷ after) closes blanks =
    subst (λ l. Reads room spot (b ∷ l) (Some (v, es))) (append-nil after) (over_gap room spot v es (b ∷ after) [] (Some (v, es)) closes blanks (omega arith) refl)

-- over an edge, and over edges

over_edge : (room v : ℕ) (es : Edges) (e : ℕ × ℕ) (word rest : List ℕ) (x : Option (ℕ × Edges)) → has_room room es ≡ true → IsEdge word e → ((spot : Spot) → Closes room spot v (es ++ e ∷ []) → Reads room spot rest x) → Reads room (Gap v es) (word ++ rest) x
over_edge room v es e word rest x fits (Plain w dst number) h =
    over_number room greatest_vid dst (Gap v es) (InTarget v es) w rest x (gap_takes room v es fits) (target_takes room v es) number
    (h (InTarget v es dst) (record { gaps = λ b k. cond-true (is_blank b) _ _ k; at_end = refl }))
over_edge room v es e word rest x fits (Weighted w tail dst weight number weighs) h =
    subst (λ l. Reads room (Gap v es) l x) (sym (append_assoc w (58 ∷ tail) rest))
    (over_number room greatest_vid dst (Gap v es) (InTarget v es) w (58 ∷ (tail ++ rest)) x (gap_takes room v es fits) (target_takes room v es) number
    (over_byte room (InTarget v es dst) (Colon v es dst) 58 (tail ++ rest) x refl
    (over_number room greatest_weight weight (Colon v es dst) (InWeight v es dst) tail rest x (colon_takes room v es dst) (weight_takes room v es dst) weighs
    (h (InWeight v es dst weight) (record { gaps = λ b k. cond-true (is_blank b) _ _ k; at_end = refl })))))

room_for : (room : ℕ) (done es : Edges) (e : ℕ × ℕ) → Fits room (done ++ e ∷ es) → has_room room done ≡ true
room_for room done es e fits =
    let long = length-append done (e ∷ es) in
    le-leb (size_of 0 (length done + 1)) room (elim fits [ inl none ↦ omega (arith, ap length none) | inr within ↦ omega arith ])

over_edges : (room : ℕ) (spot : Spot) (v : ℕ) (done : Edges) (middle after : List ℕ) (es : Edges) → Closes room spot v done → AreEdges middle es → AreBlanks after → Fits room (done ++ es) → Reads room spot (middle ++ after) (Some (v, done ++ es))
over_edges room spot v done middle after es closes NoEdges blanks fits =
    subst (λ l. Reads room spot after (Some (v, l))) (sym (append-nil done)) (to_end room spot v done after closes blanks)
over_edges room spot v done middle after es closes (EdgeAfter gap word more e others hg hs he hes) blanks fits =
    subst (λ l. Reads room spot l (Some (v, done ++ e ∷ others))) (sym (regroup gap word more after))
    (over_gap room spot v done gap (word ++ (more ++ after)) (Some (v, done ++ e ∷ others)) closes hg hs
    (over_edge room v done e word (more ++ after) (Some (v, done ++ e ∷ others)) (room_for room done others e fits) he
    (λ next k. subst (λ l. Reads room next (more ++ after) (Some (v, l))) (append_assoc done (e ∷ []) others)
    (over_edges room next v (done ++ e ∷ []) more after others k hes blanks (subst (Fits room) (sym (append_assoc done (e ∷ []) others)) fits)))))

-- a whole line

over_comment : (room : ℕ) (rest : List ℕ) → Reads room Comment rest None
over_comment room [] = refl
over_comment room (b ∷ rest) = over_byte room Comment Comment b rest None refl (over_comment room rest)

before_words : (room : ℕ) (before rest : List ℕ) (x : Option (ℕ × Edges)) → AreBlanks before → Reads room Start rest x → Reads room Start (before ++ rest) x
before_words room before rest x blanks h = over_blanks room Start before rest x (λ b e. cond-true (is_blank b) _ _ e) blanks h

pub good_is_read : GoodLinesAreRead
good_is_read room line x (BlankLine bytes blanks) = subst (λ l. Reads room Start l None) (append-nil bytes) (before_words room bytes [] None blanks refl)
good_is_read room line x (CommentLine before rest blanks) = before_words room before (35 ∷ rest) None blanks (over_byte room Start Comment 35 rest None refl (over_comment room rest))
good_is_read room line x (VertexLine before word middle after vid edges blanks number are_edges ends fits) =
    before_words room before (word ++ (middle ++ after)) (Some (vid, edges)) blanks
    (over_number room greatest_vid vid Start InVid word (middle ++ after) (Some (vid, edges)) (start_takes room) (vid_takes room) number
    (over_edges room (InVid vid) vid [] middle after edges (record { gaps = λ b e. cond-true (is_blank b) _ _ e; at_end = refl }) are_edges ends fits))
