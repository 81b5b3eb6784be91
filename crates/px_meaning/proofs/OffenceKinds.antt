-- A line is refused for the kind of its first offence.
use Rattle.std.proofs.Common.{◌≡◌, ℕ, suc, ◌+◌, ◌<◌, ◌≤◌, Bool, true, false, IsTrue, List, [], ◌∷◌, ◌++◌, length, fold, take, Some, sym, ◌∙◌, ap, refl, subst, arith, inl, inr, true≢false, append_assoc, append-nil, length-append, eqb-true}
use Rattle.std.specs.Prelude.{◌==◌, ◌⊎◌, nat_lt}
use Rattle.std.specs.List.{list_all}
use Rattle.std.proofs.Math.Seq.{take-append_seam}
use Rattle.std.proofs.lemmas.Bool.{and_parts, cond_both, cond-true, cond-false, leb-false, ltb-true}
use Rattle.std.proofs.lemmas.List.{append_cancel_left}
use Rattle.px_meaning.specs.Graph.{size_of}
use Rattle.px_meaning.specs.Line.{Kind, Form, Number, Wide, Long, Edges, is_blank, is_digit, with_digit, greatest_vid, greatest_weight, digit_move, has_room, Spot, Start, Comment, InVid, Gap, InTarget, Colon, InWeight, Move, On, Off, move, ending, later, Refused, reading_from}
use Rattle.px_meaning.specs.GoodLine.{AreBlanks, IsNumber, IsGoodLine}
use Rattle.px_meaning.specs.OffenceKinds.{ends_in, greatest_behind, PassesRoom, PassesGreatest, IsKindAt, RefusedForKind}
use Rattle.px_meaning.proofs.LineWords.{Gapped}
use Rattle.px_meaning.proofs.GoodLines.{digit_bounds, digit_no_blank}
use Rattle.px_meaning.proofs.Readings.{At, Lands, steps, good_when_gapped}
use Rattle.px_meaning.proofs.Offences.{later_refused}

-- the last byte of bytes

end_behind : (is : ℕ → Bool) (xs : List ℕ) (y : ℕ) (ys : List ℕ) → ends_in is (xs ++ y ∷ ys) ≡ ends_in is (y ∷ ys)
end_behind is [] y ys = refl
end_behind is (x ∷ []) y ys = refl
end_behind is (x ∷ z ∷ xs) y ys = end_behind is (z ∷ xs) y ys

end_of_all : (all is : ℕ → Bool) (v : Bool) → ((b : ℕ) → all b ≡ true → is b ≡ v) → (b : ℕ) (bs : List ℕ) → IsTrue (list_all all (b ∷ bs)) → ends_in is (b ∷ bs) ≡ v
end_of_all all is v h b [] each = h b (and_parts (all b) true each).0
end_of_all all is v h b (c ∷ bs) each = end_of_all all is v h c bs (and_parts (all b) (list_all all (c ∷ bs)) each).1

end_of_part : (all is : ℕ → Bool) (v : Bool) → ((b : ℕ) → all b ≡ true → is b ≡ v) → (front part : List ℕ) → 0 < length part → IsTrue (list_all all part) → ends_in is (front ++ part) ≡ v
end_of_part all is v h front [] some each = absurd (omega arith)
end_of_part all is v h front (b ∷ bs) some each = end_behind is front b bs ∙ end_of_all all is v h b bs each

blank_no_digit : (b : ℕ) → is_blank b ≡ true → is_digit b ≡ false
blank_no_digit b e = (elim (is_digit b) as (λ d. is_digit b ≡ d → d ≡ false) [ true ↦ λ h. absurd (true≢false (sym e ∙ digit_no_blank b h)) | false ↦ λ h. refl ]) refl

blank_no_colon : (b : ℕ) → is_blank b ≡ true → (b == 58) ≡ false
blank_no_colon b e = (elim (b == 58) as (λ d. (b == 58) ≡ d → d ≡ false) [ true ↦ λ h. absurd (colon b (eqb-true b 58 h) e) | false ↦ λ h. refl ]) refl where
  colon : (b : ℕ) → b ≡ 58 → is_blank b ≡ true → ⊥
  colon b is h = true≢false (sym (subst (λ n. is_blank n ≡ true) is h))

-- behind blanks alone, or none, a vid begins
record VidBegins (front : List ℕ) : Type 0 where
  no_digit : ends_in is_digit front ≡ false
  no_colon : ends_in (λ b. b == 58) front ≡ false

begins_in_blanks : (front : List ℕ) → AreBlanks front → VidBegins front
begins_in_blanks [] blanks = record { no_digit = refl; no_colon = refl }
begins_in_blanks (b ∷ bs) blanks =
    record { no_digit = end_of_all is_blank is_digit false blank_no_digit b bs blanks; no_colon = end_of_all is_blank (λ b. b == 58) false blank_no_colon b bs blanks }

begins_in_gap : (room v : ℕ) (es : Edges) (front : List ℕ) → Gapped room v es front → VidBegins front
begins_in_gap room v es front g =
    let digit = end_of_part is_blank is_digit false blank_no_digit g.front g.gap g.some g.blanks in
    let colon = end_of_part is_blank (λ b. b == 58) false blank_no_colon g.front g.gap g.some g.blanks in
    record { no_digit = ap (ends_in is_digit) g.whole ∙ digit; no_colon = ap (ends_in (λ b. b == 58)) g.whole ∙ colon }

greatest_of_vid : (front : List ℕ) → VidBegins front → greatest_behind front ≡ greatest_vid
greatest_of_vid front h = cond-false (ends_in (λ b. b == 58) front) greatest_weight greatest_vid h.no_colon

-- what a refused byte is, by the kind of the refusal
abbrev OfKind : ℕ → List ℕ → ℕ → List ℕ → Kind → Type 0
OfKind room front b rest Form = is_digit b ≡ false
OfKind room front b rest Number = PassesGreatest (front ++ b ∷ rest) (length front)
OfKind room front b rest Wide = PassesRoom room (front ++ b ∷ rest) (length front)
OfKind room front b rest Long = ⊥

abbrev Refuses : ℕ → List ℕ → ℕ → List ℕ → Move → Type 0
Refuses room front b rest (On spot) = Unit {0}
Refuses room front b rest (Off kind) = OfKind room front b rest kind

-- a digit behind such digits
refuses_digit : (room greatest n b : ℕ) (next : ℕ → Spot) (line before word rest : List ℕ) → is_digit b ≡ true → line ≡ before ++ word → ends_in is_digit before ≡ false → greatest_behind before ≡ greatest → IsTrue (list_all is_digit word) → fold with_digit 0 word ≡ n → n ≤ greatest → Refuses room line b rest (digit_move greatest n b next)
refuses_digit room greatest n b next line before word rest e whole begins is digits value le =
    cond_both (nat_lt greatest (with_digit n b)) _ _ (Refuses room line b rest)
    (λ gt. record {
      front = before;
      word = word;
      digit = b;
      rest = rest;
      whole = ap (λ l. l ++ b ∷ rest) whole;
      at = ap length (sym whole);
      begins = begins;
      digits = digits;
      is = e;
      within = subst (λ m. m ≤ greatest_behind before) (sym value) (subst (λ m. n ≤ m) (sym is) le);
      passes = subst (λ m. greatest_behind before < with_digit m b) (sym value) (subst (λ m. m < with_digit n b) (sym is) (ltb-true greatest (with_digit n b) gt));
    }) (λ _. tt)

refuses_number : (room greatest n b : ℕ) (next : ℕ → Spot) (line before word rest : List ℕ) → is_digit b ≡ true → line ≡ before ++ word → ends_in is_digit before ≡ false → greatest_behind before ≡ greatest → IsNumber greatest word n → Refuses room line b rest (digit_move greatest n b next)
refuses_number room greatest n b next line before word rest e whole begins is number =
    refuses_digit room greatest n b next line before word rest e whole begins is number.all_digits number.value number.within

refuses_first : (room greatest b : ℕ) (next : ℕ → Spot) (line rest : List ℕ) → is_digit b ≡ true → ends_in is_digit line ≡ false → greatest_behind line ≡ greatest → Refuses room line b rest (digit_move greatest 0 b next)
refuses_first room greatest b next line rest e begins is =
    refuses_digit room greatest 0 b next line line [] rest e (sym (append-nil line)) begins is refl refl (omega arith)

refuses : (room : ℕ) (spot : Spot) (line : List ℕ) (b : ℕ) (rest : List ℕ) → At room spot line → Refuses room line b rest (move room spot b)
refuses room Start line b rest h =
    let P = λ (m : Move). Refuses room line b rest m in
    let begins = begins_in_blanks line h in
    cond_both (is_blank b) _ _ P (λ _. tt) (λ _.
    cond_both (b == 35) _ _ P (λ _. tt) (λ _.
    cond_both (is_digit b) _ _ P (λ e. refuses_first room greatest_vid b InVid line rest e begins.no_digit (greatest_of_vid line begins)) (λ e. e)))
refuses room Comment line b rest h = tt
refuses room (InVid v) line b rest h =
    let P = λ (m : Move). Refuses room line b rest m in
    let begins = begins_in_blanks h.before h.blanks in
    cond_both (is_blank b) _ _ P (λ _. tt) (λ _.
    cond_both (is_digit b) _ _ P (λ e. refuses_number room greatest_vid v b InVid line h.before h.word rest e h.whole begins.no_digit (greatest_of_vid h.before begins) h.vid) (λ e. e))
refuses room (Gap v es) line b rest h =
    let P = λ (m : Move). Refuses room line b rest m in
    let begins = begins_in_gap room v es line h in
    cond_both (is_blank b) _ _ P (λ _. tt) (λ _.
    cond_both (is_digit b) _ _ P
    (λ e. cond_both (has_room room es) _ _ P (λ _. refuses_first room greatest_vid b (InTarget v es) line rest e begins.no_digit (greatest_of_vid line begins))
    (λ full. record {
      front = line;
      digit = b;
      rest = rest;
      vid = v;
      edges = es;
      whole = refl;
      at = refl;
      good = subst (λ l. IsGoodLine room l (Some (v, es))) (append-nil line) (good_when_gapped room v es line h);
      gap = ap (ends_in is_blank) h.whole ∙ end_of_part is_blank is_blank true (λ c is. is) h.front h.gap h.some h.blanks;
      is = e;
      passes = leb-false (size_of 0 (length es + 1)) room full;
    }))
    (λ e. e))
refuses room (InTarget v es dst) line b rest h =
    let P = λ (m : Move). Refuses room line b rest m in
    let begins = begins_in_gap room v es h.front h.gapped in
    cond_both (is_blank b) _ _ P (λ _. tt) (λ _.
    cond_both (b == 58) _ _ P (λ _. tt) (λ _.
    cond_both (is_digit b) _ _ P (λ e. refuses_number room greatest_vid dst b (InTarget v es) line h.front h.word rest e h.whole begins.no_digit (greatest_of_vid h.front begins) h.target) (λ e. e)))
refuses room (Colon v es dst) line b rest h =
    let P = λ (m : Move). Refuses room line b rest m in
    cond_both (is_digit b) _ _ P
    (λ e. refuses_first room greatest_weight b (InWeight v es dst) line rest e (ap (ends_in is_digit) h.whole ∙ end_behind is_digit h.front 58 [])
    (cond-true (ends_in (λ b. b == 58) line) greatest_weight greatest_vid (ap (ends_in (λ b. b == 58)) h.whole ∙ end_behind (λ b. b == 58) h.front 58 []))) (λ e. e)
refuses room (InWeight v es dst weight) line b rest h =
    let P = λ (m : Move). Refuses room line b rest m in
    cond_both (is_blank b) _ _ P (λ _. tt) (λ _.
    cond_both (is_digit b) _ _ P
    (λ e. refuses_number room greatest_weight weight b (InWeight v es dst) line (h.front ++ 58 ∷ []) h.tail rest e (h.whole ∙ sym (append_assoc h.front (58 ∷ []) h.tail)) (end_behind is_digit h.front 58 [])
    (cond-true (ends_in (λ b. b == 58) (h.front ++ 58 ∷ [])) greatest_weight greatest_vid (end_behind (λ b. b == 58) h.front 58 [])) h.number) (λ e. e))

-- where a line is refused: at a byte, or at its end
record AtByte (room : ℕ) (line : List ℕ) (place : ℕ) (kind : Kind) : Type 0 where
  front : List ℕ
  b : ℕ
  rest : List ℕ
  whole : line ≡ front ++ b ∷ rest
  at : length front ≡ place
  is : OfKind room front b rest kind

record AtEnd (line : List ℕ) (place : ℕ) (kind : Kind) : Type 0 where
  at : place ≡ length line
  form : kind ≡ Form

abbrev Offends : ℕ → List ℕ → ℕ → Kind → Type 0
Offends room line place kind = AtByte room line place kind ⊎ AtEnd line place kind

ends_offend : (room : ℕ) (spot : Spot) (front : List ℕ) (place : ℕ) (kind : Kind) → ending spot ≡ Refused place kind → Offends room (front ++ []) (length front + place) kind
ends_offend room Start front place kind e = absurd cc
ends_offend room Comment front place kind e = absurd cc
ends_offend room (InVid v) front place kind e = absurd cc
ends_offend room (Gap v es) front place kind e = absurd cc
ends_offend room (InTarget v es dst) front place kind e = absurd cc
ends_offend room (Colon v es dst) front place kind e = let zero : place ≡ 0 = cc in inr (record { at = let len = ap length (append-nil front) in omega (arith, zero, len); form = cc })
ends_offend room (InWeight v es dst weight) front place kind e = absurd cc

offends : (room : ℕ) (spot : Spot) (front rest : List ℕ) (place : ℕ) (kind : Kind) → At room spot front → reading_from room spot rest ≡ Refused place kind → Offends room (front ++ rest) (length front + place) kind
offends room spot front [] place kind h e = ends_offend room spot front place kind e
offends room spot front (b ∷ rest) place kind h e =
    (elim (move room spot b) as (λ m. Refuses room front b rest m → Lands room m (front ++ b ∷ []) →
    elim m [ On next ↦ later (reading_from room next rest) | Off k ↦ Refused 0 k ] ≡ Refused place kind → Offends room (front ++ b ∷ rest) (length front + place) kind) [
      | On next ↦ λ _ lands is. (let found = later_refused (reading_from room next rest) place kind is in
          let place_is : place ≡ suc found.0 = found.1 in
          let here = offends room next (front ++ b ∷ []) rest found.0 kind lands found.2 in
          let len = length-append front (b ∷ []) in
          subst (λ l. Offends room l (length front + place) kind) (append_assoc front (b ∷ []) rest)
          (subst (λ n. Offends room ((front ++ b ∷ []) ++ rest) n kind) (omega (arith, place_is, len)) here))
      | Off k ↦ λ off _ is. (let place_is : place ≡ 0 = cc in let kind_is : k ≡ kind = cc in
          inl (record { front = front; b = b; rest = rest; whole = refl; at = omega (arith, place_is); is = subst (OfKind room front b rest) kind_is off }))
    ]) (refuses room spot front b rest h) (steps room spot front b h) e

-- two parts of a line up to one place are the same

same_front : (line xs ys : List ℕ) (b c : ℕ) (more others : List ℕ) → line ≡ xs ++ b ∷ more → line ≡ ys ++ c ∷ others → length xs ≡ length ys → xs ≡ ys
same_front line xs ys b c more others ex ey len =
    sym (take-append_seam xs (b ∷ more)) ∙ ap (take (length xs)) (sym ex ∙ ey) ∙ ap (λ n. take n (ys ++ c ∷ others)) len ∙ take-append_seam ys (c ∷ others)

same_byte : (line xs ys : List ℕ) (b c : ℕ) (more others : List ℕ) → line ≡ xs ++ b ∷ more → line ≡ ys ++ c ∷ others → length xs ≡ length ys → b ≡ c
same_byte line xs ys b c more others ex ey len =
    let fronts = same_front line xs ys b c more others ex ey len in
    let tails : b ∷ more ≡ c ∷ others = append_cancel_left ys (b ∷ more) (c ∷ others) (ap (λ l. l ++ b ∷ more) (sym fronts) ∙ sym ex ∙ ey) in
    cc

small_greatest : (front : List ℕ) → 9 ≤ greatest_behind front
small_greatest front = cond_both (ends_in (λ b. b == 58) front) greatest_weight greatest_vid (λ n. 9 ≤ n) (λ _. omega arith) (λ _. omega arith)

-- no digit is both

not_both : (room : ℕ) (line : List ℕ) (place : ℕ) → PassesRoom room line place → PassesGreatest line place → ⊥
not_both room line place wide number = by_word number.word refl where
  fronts : wide.front ≡ number.front ++ number.word
  fronts = same_front line wide.front (number.front ++ number.word) wide.digit number.digit wide.rest number.rest wide.whole number.whole (wide.at ∙ sym number.at)

  by_word : (word : List ℕ) → number.word ≡ word → ⊥
  by_word [] is =
      let bounds = digit_bounds number.digit number.is in
      let passes : greatest_behind number.front < with_digit 0 number.digit = subst (λ w. greatest_behind number.front < with_digit (fold with_digit 0 w) number.digit) is number.passes in
      omega (arith, bounds.1, small_greatest number.front, passes)
  by_word (c ∷ cs) is =
      let digits : IsTrue (list_all is_digit (c ∷ cs)) = subst (λ w. IsTrue (list_all is_digit w)) is number.digits in
      let last : ends_in is_blank wide.front ≡ false = ap (ends_in is_blank) (fronts ∙ ap (λ w. number.front ++ w) is) ∙ end_of_part is_digit is_blank false digit_no_blank number.front (c ∷ cs) (omega arith) digits in
      true≢false (sym wide.gap ∙ last)

-- the kind of an offence at a byte, and at the end of a line

kind_at_byte : (room : ℕ) (line : List ℕ) (place : ℕ) (kind : Kind) → AtByte room line place kind → IsKindAt room line place kind
kind_at_byte room line place Form o =
    record {
      wide = (λ e. absurd cc, λ w. absurd (no_digit w.digit (same_byte line o.front w.front o.b w.digit o.rest w.rest o.whole w.whole (o.at ∙ sym w.at)) w.is));
      number = (λ e. absurd cc, λ n. absurd (no_digit n.digit (same_byte line o.front (n.front ++ n.word) o.b n.digit o.rest n.rest o.whole n.whole (o.at ∙ sym n.at)) n.is));
      short = λ e. cc;
    } where
      no_digit : (d : ℕ) → o.b ≡ d → is_digit d ≡ true → ⊥
      no_digit d same is = true≢false (sym is ∙ ap is_digit (sym same) ∙ o.is)
kind_at_byte room line place Number o =
    let is : PassesGreatest line place = subst (λ l. PassesGreatest l place) (sym o.whole) (subst (PassesGreatest (o.front ++ o.b ∷ o.rest)) o.at o.is) in
    record { wide = (λ e. absurd cc, λ w. absurd (not_both room line place w is)); number = (λ _. is, λ _. refl); short = λ e. cc }
kind_at_byte room line place Wide o =
    let is : PassesRoom room line place = subst (λ l. PassesRoom room l place) (sym o.whole) (subst (PassesRoom room (o.front ++ o.b ∷ o.rest)) o.at o.is) in
    record { wide = (λ _. is, λ _. refl); number = (λ e. absurd cc, λ n. absurd (not_both room line place is n)); short = λ e. cc }
kind_at_byte room line place Long o = absurd o.is

before_end : (line front : List ℕ) (b : ℕ) (rest : List ℕ) → line ≡ front ++ b ∷ rest → length front < length line
before_end line front b rest whole = let len = ap length whole ∙ length-append front (b ∷ rest) in omega (arith, len)

kind_at_end : (room : ℕ) (line : List ℕ) (place : ℕ) (kind : Kind) → AtEnd line place kind → IsKindAt room line place kind
kind_at_end room line place kind o =
    let form = o.form in
    record {
      wide = (λ e. absurd cc, λ w. absurd (let lt = before_end line w.front w.digit w.rest w.whole in omega (arith, lt, w.at, o.at)));
      number = (λ e. absurd cc, λ n. absurd (let lt = before_end line (n.front ++ n.word) n.digit n.rest n.whole in omega (arith, lt, n.at, o.at)));
      short = λ e. cc;
    }

pub refused_is_for_kind : RefusedForKind
refused_is_for_kind room line place kind e =
    let here : Offends room line place kind = subst (λ n. Offends room line n kind) (omega arith) (offends room Start [] line place kind refl e) in
    elim here [ inl o ↦ kind_at_byte room line place kind o | inr o ↦ kind_at_end room line place kind o ]
