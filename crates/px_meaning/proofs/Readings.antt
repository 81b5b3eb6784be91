-- What is read is good: what a spot holds is what the bytes before it spell.
use Rattle.std.proofs.Common.{◌≡◌, ℕ, ◌+◌, ◌≤◌, List, [], ◌∷◌, ◌++◌, length, take, true, Some, None, sym, ◌∙◌, ap, refl, subst, arith, inl, append_assoc, append-nil, length-append, ltb-false, leb-true, eqb-true}
use Rattle.std.specs.Prelude.{◌==◌, nat_lt}
use Rattle.std.proofs.lemmas.Bool.{cond_both}
use Rattle.px_meaning.specs.Graph.{size_of}
use Rattle.px_meaning.specs.Line.{Edges, is_blank, is_digit, with_digit, greatest_vid, greatest_weight, digit_move, has_room, Spot, Start, Comment, InVid, Gap, InTarget, Colon, InWeight, Move, On, Off, move, ending, later, Reading, Nothing, Spelled, Refused, reading, reading_from}
use Rattle.px_meaning.specs.GoodLine.{AreBlanks, IsNumber, IsGoodLine, BlankLine, CommentLine, VertexLine, NoEdges, BeginsGoodLine, ReadLinesAreGood}
use Rattle.px_meaning.proofs.LineWords.{more_blanks, one_blank, number_begins, number_grows, Spells, Gapped, Targeted, Weighed, closes_target, closes_weight}

-- what the bytes before a spot are

pub record Commented (line : List ℕ) : Type 0 where
  before : List ℕ
  rest : List ℕ
  blanks : AreBlanks before
  whole : line ≡ before ++ 35 ∷ rest

pub record Named (v : ℕ) (line : List ℕ) : Type 0 where
  pub before : List ℕ
  pub word : List ℕ
  pub blanks : AreBlanks before
  pub vid : IsNumber greatest_vid word v
  pub whole : line ≡ before ++ word

pub record Coloned (room v : ℕ) (es : Edges) (dst : ℕ) (line : List ℕ) : Type 0 where
  pub front : List ℕ
  targeted : Targeted room v es dst front
  pub whole : line ≡ front ++ 58 ∷ []

abbrev pub At : ℕ → Spot → List ℕ → Type 0
At room Start line = AreBlanks line
At room Comment line = Commented line
At room (InVid v) line = Named v line
At room (Gap v es) line = Gapped room v es line
At room (InTarget v es dst) line = Targeted room v es dst line
At room (Colon v es dst) line = Coloned room v es dst line
At room (InWeight v es dst weight) line = Weighed room v es dst weight line

-- a spot with its bytes, where a move goes on
abbrev pub Lands : ℕ → Move → List ℕ → Type 0
Lands room (On spot) line = At room spot line
Lands room (Off kind) line = Unit {0}

lands_digit : (room greatest n b : ℕ) (next : ℕ → Spot) (line : List ℕ) → (with_digit n b ≤ greatest → At room (next (with_digit n b)) line) → Lands room (digit_move greatest n b next) line
lands_digit room greatest n b next line h =
    cond_both (nat_lt greatest (with_digit n b)) _ _ (λ m. Lands room m line) (λ _. tt) (λ e. h (ltb-false greatest (with_digit n b) e))

names_alone : (room v : ℕ) (line : List ℕ) → Named v line → Spells room v [] line
names_alone room v line h =
    record { before = h.before; word = h.word; middle = []; blanks = h.blanks; vid = h.vid; edges = NoEdges; fits = inl refl; whole = h.whole ∙ ap (λ l. h.before ++ l) (sym (append-nil h.word)) }

gap_begins : (room v b : ℕ) (es : Edges) (line : List ℕ) → Spells room v es line → is_blank b ≡ true → Gapped room v es (line ++ b ∷ [])
gap_begins room v b es line h e = record { front = line; gap = b ∷ []; spelled = h; blanks = one_blank b e; some = omega arith; whole = refl }

-- one more byte behind a part that grows
grown : (line front part : List ℕ) (b : ℕ) → line ≡ front ++ part → line ++ b ∷ [] ≡ front ++ (part ++ b ∷ [])
grown line front part b e = ap (λ l. l ++ b ∷ []) e ∙ append_assoc front part (b ∷ [])

pub steps : (room : ℕ) (spot : Spot) (line : List ℕ) (b : ℕ) → At room spot line → Lands room (move room spot b) (line ++ b ∷ [])
steps room Start line b h =
    let P = λ (m : Move). Lands room m (line ++ b ∷ []) in
    cond_both (is_blank b) _ _ P (λ e. more_blanks line b h e) (λ _.
    cond_both (b == 35) _ _ P (λ e. record { before = line; rest = []; blanks = h; whole = ap (λ k. line ++ k ∷ []) (eqb-true b 35 e) }) (λ _.
    cond_both (is_digit b) _ _ P
    (λ e. lands_digit room greatest_vid 0 b InVid (line ++ b ∷ []) (λ le. record { before = line; word = b ∷ []; blanks = h; vid = number_begins greatest_vid b e le; whole = refl }))
    (λ _. tt)))
steps room Comment line b h = record { before = h.before; rest = h.rest ++ b ∷ []; blanks = h.blanks; whole = grown line h.before (35 ∷ h.rest) b h.whole }
steps room (InVid v) line b h =
    let P = λ (m : Move). Lands room m (line ++ b ∷ []) in
    cond_both (is_blank b) _ _ P (λ e. gap_begins room v b [] line (names_alone room v line h) e) (λ _.
    cond_both (is_digit b) _ _ P
    (λ e. lands_digit room greatest_vid v b InVid (line ++ b ∷ [])
    (λ le. record { before = h.before; word = h.word ++ b ∷ []; blanks = h.blanks; vid = number_grows greatest_vid v b h.word h.vid e le; whole = grown line h.before h.word b h.whole }))
    (λ _. tt))
steps room (Gap v es) line b h =
    let P = λ (m : Move). Lands room m (line ++ b ∷ []) in
    cond_both (is_blank b) _ _ P
    (λ e. record { front = h.front; gap = h.gap ++ b ∷ []; spelled = h.spelled; blanks = more_blanks h.gap b h.blanks e; some = let k = length-append h.gap (b ∷ []) in omega (arith, h.some); whole = grown line h.front h.gap b h.whole }) (λ _.
    cond_both (is_digit b) _ _ P
    (λ e. cond_both (has_room room es) _ _ P
    (λ r. lands_digit room greatest_vid 0 b (InTarget v es) (line ++ b ∷ [])
    (λ le. record { front = line; word = b ∷ []; gapped = h; more = leb-true (size_of 0 (length es + 1)) room r; target = number_begins greatest_vid b e le; whole = refl }))
    (λ _. tt))
    (λ _. tt))
steps room (InTarget v es dst) line b h =
    let P = λ (m : Move). Lands room m (line ++ b ∷ []) in
    cond_both (is_blank b) _ _ P (λ e. gap_begins room v b (es ++ (dst, 1) ∷ []) line (closes_target room v es dst line h) e) (λ _.
    cond_both (b == 58) _ _ P (λ e. record { front = line; targeted = h; whole = ap (λ k. line ++ k ∷ []) (eqb-true b 58 e) }) (λ _.
    cond_both (is_digit b) _ _ P
    (λ e. lands_digit room greatest_vid dst b (InTarget v es) (line ++ b ∷ [])
    (λ le. record { front = h.front; word = h.word ++ b ∷ []; gapped = h.gapped; more = h.more; target = number_grows greatest_vid dst b h.word h.target e le; whole = grown line h.front h.word b h.whole }))
    (λ _. tt)))
steps room (Colon v es dst) line b h =
    let P = λ (m : Move). Lands room m (line ++ b ∷ []) in
    cond_both (is_digit b) _ _ P
    (λ e. lands_digit room greatest_weight 0 b (InWeight v es dst) (line ++ b ∷ [])
    (λ le. record { front = h.front; tail = b ∷ []; targeted = h.targeted; number = number_begins greatest_weight b e le; whole = grown line h.front (58 ∷ []) b h.whole }))
    (λ _. tt)
steps room (InWeight v es dst weight) line b h =
    let P = λ (m : Move). Lands room m (line ++ b ∷ []) in
    cond_both (is_blank b) _ _ P (λ e. gap_begins room v b (es ++ (dst, weight) ∷ []) line (closes_weight room v es dst weight line h) e) (λ _.
    cond_both (is_digit b) _ _ P
    (λ e. lands_digit room greatest_weight weight b (InWeight v es dst) (line ++ b ∷ [])
    (λ le. record { front = h.front; tail = h.tail ++ b ∷ []; targeted = h.targeted; number = number_grows greatest_weight weight b h.tail h.number e le; whole = grown line h.front (58 ∷ h.tail) b h.whole }))
    (λ _. tt))

-- what a reading of the rest tells of the whole line
abbrev pub Tells : ℕ → Reading → List ℕ → List ℕ → Type 0
Tells room Nothing line rest = IsGoodLine room (line ++ rest) None
Tells room (Spelled v es) line rest = IsGoodLine room (line ++ rest) (Some (v, es))
Tells room (Refused place kind) line rest = (place ≤ length rest) × BeginsGoodLine room (line ++ take place rest)

good_when_spelled : (room v : ℕ) (es : Edges) (line after : List ℕ) → Spells room v es line → AreBlanks after → IsGoodLine room (line ++ after) (Some (v, es))
good_when_spelled room v es line after h blanks =
    subst (λ l. IsGoodLine room l (Some (v, es)))
    (sym (ap (λ l. l ++ after) h.whole ∙ append_assoc h.before (h.word ++ h.middle) after ∙ ap (λ l. h.before ++ l) (append_assoc h.word h.middle after)))
    (VertexLine h.before h.word h.middle after v es h.blanks h.vid h.edges blanks h.fits)

pub good_when_gapped : (room v : ℕ) (es : Edges) (line : List ℕ) → Gapped room v es line → IsGoodLine room (line ++ []) (Some (v, es))
good_when_gapped room v es line h =
    subst (λ l. IsGoodLine room l (Some (v, es))) (sym (append-nil line ∙ h.whole)) (good_when_spelled room v es h.front h.gap h.spelled h.blanks)

-- after a `:` a digit makes the line good
colon_begins : (room v : ℕ) (es : Edges) (dst : ℕ) (line : List ℕ) → Coloned room v es dst line → BeginsGoodLine room line
colon_begins room v es dst line h =
    let w : Weighed room v es dst 0 (line ++ 48 ∷ []) = record { front = h.front; tail = 48 ∷ []; targeted = h.targeted; number = number_begins greatest_weight 48 refl (omega arith); whole = grown line h.front (58 ∷ []) 48 h.whole } in (
      48 ∷ [],
      (
        Some (v, es ++ (dst, 0) ∷ []),
        subst (λ l. IsGoodLine room l (Some (v, es ++ (dst, 0) ∷ []))) (append-nil (line ++ 48 ∷ []))
            (good_when_spelled room v (es ++ (dst, 0) ∷ []) (line ++ 48 ∷ []) [] (closes_weight room v es dst 0 (line ++ 48 ∷ []) w) refl),
      ),
    )

ends : (room : ℕ) (spot : Spot) (line : List ℕ) → At room spot line → Tells room (ending spot) line []
ends room Start line h = BlankLine (line ++ []) (subst AreBlanks (sym (append-nil line)) h)
ends room Comment line h = subst (λ l. IsGoodLine room l None) (sym (append-nil line ∙ h.whole)) (CommentLine h.before h.rest h.blanks)
ends room (InVid v) line h = good_when_spelled room v [] line [] (names_alone room v line h) refl
ends room (Gap v es) line h = good_when_gapped room v es line h
ends room (InTarget v es dst) line h = good_when_spelled room v (es ++ (dst, 1) ∷ []) line [] (closes_target room v es dst line h) refl
ends room (Colon v es dst) line h = (omega arith, subst (BeginsGoodLine room) (sym (append-nil line)) (colon_begins room v es dst line h))
ends room (InWeight v es dst weight) line h = good_when_spelled room v (es ++ (dst, weight) ∷ []) line [] (closes_weight room v es dst weight line h) refl

-- every spot is on the way to a good line
begins : (room : ℕ) (spot : Spot) (line : List ℕ) → At room spot line → BeginsGoodLine room line
begins room Start line h = ([], (None, ends room Start line h))
begins room Comment line h = ([], (None, ends room Comment line h))
begins room (InVid v) line h = ([], (Some (v, []), ends room (InVid v) line h))
begins room (Gap v es) line h = ([], (Some (v, es), ends room (Gap v es) line h))
begins room (InTarget v es dst) line h = ([], (Some (v, es ++ (dst, 1) ∷ []), ends room (InTarget v es dst) line h))
begins room (Colon v es dst) line h = colon_begins room v es dst line h
begins room (InWeight v es dst weight) line h = ([], (Some (v, es ++ (dst, weight) ∷ []), ends room (InWeight v es dst weight) line h))

tells_later : (room : ℕ) (r : Reading) (line : List ℕ) (b : ℕ) (rest : List ℕ) → Tells room r (line ++ b ∷ []) rest → Tells room (later r) line (b ∷ rest)
tells_later room Nothing line b rest h = subst (λ l. IsGoodLine room l None) (append_assoc line (b ∷ []) rest) h
tells_later room (Spelled v es) line b rest h = subst (λ l. IsGoodLine room l (Some (v, es))) (append_assoc line (b ∷ []) rest) h
tells_later room (Refused place kind) line b rest h = (omega (arith, h.0), subst (BeginsGoodLine room) (append_assoc line (b ∷ []) (take place rest)) h.1)

tells : (room : ℕ) (spot : Spot) (line rest : List ℕ) → At room spot line → Tells room (reading_from room spot rest) line rest
tells room spot line [] h = ends room spot line h
tells room spot line (b ∷ rest) h =
    (elim (move room spot b) as (λ m. Lands room m (line ++ b ∷ []) → Tells room (elim m [ On next ↦ later (reading_from room next rest) | Off kind ↦ Refused 0 kind ]) line (b ∷ rest)) [
      | On next ↦ λ k. tells_later room (reading_from room next rest) line b rest (tells room next (line ++ b ∷ []) rest k)
      | Off kind ↦ λ _. (omega arith, subst (BeginsGoodLine room) (sym (append-nil line)) (begins room spot line h))
    ]) (steps room spot line b h)

pub reading_tells : (room : ℕ) (line : List ℕ) → Tells room (reading room line) [] line
reading_tells room line = tells room Start [] line refl

pub read_is_good : ReadLinesAreGood
read_is_good room line None e = subst (λ r. Tells room r [] line) e (reading_tells room line)
read_is_good room line (Some x) e = subst (λ r. Tells room r [] line) e (reading_tells room line)
