-- A text from the midst of a line on, byte by byte.
use Rattle.std.proofs.Common.{◌≡◌, ◌≢◌, ℕ, zero, suc, ◌+◌, ◌-◌, ◌<◌, ◌≤◌, List, [], ◌∷◌, ◌++◌, length, take, Option, Some, None, ◌∙◌, ap, refl, sym, subst, arith}
use Rattle.std.specs.Prelude.{◌==◌, nat_lt, nat_le, if◌then◌else◌, cond, count_by}
use Rattle.std.proofs.lemmas.Bool.{cond-true, cond-false, cond_both, ne_eqb, lt-ltb, le-ltb, le-leb, lt-leb}
use Rattle.std.proofs.lemmas.List.Sums.{sum_by-cons}
use Rattle.std.proofs.Math.Seq.{take-nil}
use Rattle.std.specs.List.{cons_option}
use Rattle.px_meaning.specs.Graph.{Vertex}
use Rattle.px_meaning.specs.GraphText.{line_feed, join_line, lines_of, Offence, offence_of, first_offence, earlier, vertex_given, vertices_given, offence}
use Rattle.px_meaning.specs.Line.{Kind, Long, Spot, Start, Move, On, Off, move, ending, later, Reading, Nothing, Spelled, Refused, reading, reading_from}
use Rattle.px_graph_text.specs.Steps.{Leads}
use Rattle.px_graph_text.specs.Reading.{too_long_from, offence_from, lines_before, vertices_before}
use Rattle.px_graph_text.specs.Passing.{given_in, given_of, given_before, or_else, refused_in, given_at, refused_at}

-- at a line's beginning

given_at_start : (room : ℕ) (lines : List (List ℕ)) → given_in room Start lines ≡ vertices_given room lines
given_at_start room [] = refl
given_at_start room (l ∷ ls) = refl

given_of_start : (room n : ℕ) (lines : List (List ℕ)) → given_of room Start n lines ≡ vertices_given room (take n lines)
given_of_start room zero lines = refl
given_of_start room (suc n) [] = refl
given_of_start room (suc n) (l ∷ ls) = refl

given_before_start : (room line : ℕ) (o : Option Offence) (lines : List (List ℕ)) → given_before room Start line o lines ≡ vertices_given room (lines_before line o lines)
given_before_start room line None lines = given_at_start room lines
given_before_start room line (Some o) lines = given_of_start room (o.line - line) lines

refused_at_start : (room line place : ℕ) (lines : List (List ℕ)) → refused_in room Start line place lines ≡ first_offence room line place lines
refused_at_start room line place [] = refl
refused_at_start room line place (l ∷ ls) = first (offence_of line place (reading room l)) where
  first : (o : Option Offence) → or_else o (first_offence room (suc line) (place + length l + 1) ls) ≡ (elim o [ Some offence ↦ Some offence | None ↦ first_offence room (suc line) (place + length l + 1) ls ])
  first None = refl
  first (Some o) = refl

-- one byte that goes on

abbrev after_move : ℕ → List ℕ → Move → Reading
after_move room rest m = elim m [ On next ↦ later (reading_from room next rest) | Off kind ↦ Refused 0 kind ]

reading_on : (room : ℕ) (spot next : Spot) (b : ℕ) (rest : List ℕ) → move room spot b ≡ On next → reading_from room spot (b ∷ rest) ≡ later (reading_from room next rest)
reading_on room spot next b rest on = ap (after_move room rest) on

reading_off : (room : ℕ) (spot : Spot) (kind : Kind) (b : ℕ) (rest : List ℕ) → move room spot b ≡ Off kind → reading_from room spot (b ∷ rest) ≡ Refused 0 kind
reading_off room spot kind b rest off = ap (after_move room rest) off

given_later : (r : Reading) → vertex_given (later r) ≡ vertex_given r
given_later Nothing = refl
given_later (Spelled v es) = refl
given_later (Refused at kind) = refl

offence_later : (line place : ℕ) (r : Reading) → offence_of line place (later r) ≡ offence_of line (place + 1) r
offence_later line place Nothing = refl
offence_later line place (Spelled v es) = refl
offence_later line place (Refused at kind) = let e : place + suc at ≡ place + 1 + at = omega arith in ap (λ (n : ℕ). Some (record { line = line; place = n; kind = kind })) e

lines_on : (b : ℕ) (rest : List ℕ) → b ≢ line_feed → lines_of (b ∷ rest) ≡ join_line b (lines_of rest)
lines_on b rest ne = cond-false (b == line_feed) _ _ (ne_eqb b line_feed ne)

or_none : (o : Option Offence) → or_else o None ≡ o
or_none None = refl
or_none (Some o) = refl

given_on : (room : ℕ) (spot next : Spot) (b : ℕ) (lines : List (List ℕ)) → move room spot b ≡ On next → given_in room spot (join_line b lines) ≡ given_in room next lines
given_on room spot next b [] on = ap (λ (r : Reading). cons_option (vertex_given r) []) (reading_on room spot next b [] on) ∙ ap (λ (o : Option (ℕ × Vertex)). cons_option o []) (given_later (ending next))
given_on room spot next b (l ∷ ls) on =
    ap (λ (r : Reading). cons_option (vertex_given r) (vertices_given room ls)) (reading_on room spot next b l on) ∙ ap (λ (o : Option (ℕ × Vertex)). cons_option o (vertices_given room ls)) (given_later (reading_from room next l))

given_of_on : (room : ℕ) (spot next : Spot) (n b : ℕ) (lines : List (List ℕ)) → move room spot b ≡ On next → given_of room spot n (join_line b lines) ≡ given_of room next n lines
given_of_on room spot next zero b lines on = refl
given_of_on room spot next (suc n) b [] on = ap (λ (ls : List (List ℕ)). given_in room spot ((b ∷ []) ∷ ls)) (take-nil n) ∙ given_on room spot next b [] on
given_of_on room spot next (suc n) b (l ∷ ls) on = given_on room spot next b (l ∷ take n ls) on

given_before_on : (room : ℕ) (spot next : Spot) (line : ℕ) (o : Option Offence) (b : ℕ) (lines : List (List ℕ)) → move room spot b ≡ On next → given_before room spot line o (join_line b lines) ≡ given_before room next line o lines
given_before_on room spot next line None b lines on = given_on room spot next b lines on
given_before_on room spot next line (Some o) b lines on = given_of_on room spot next (o.line - line) b lines on

refused_on : (room : ℕ) (spot next : Spot) (line place b : ℕ) (lines : List (List ℕ)) → move room spot b ≡ On next → refused_in room spot line place (join_line b lines) ≡ refused_in room next line (place + 1) lines
refused_on room spot next line place b [] on =
    or_none _ ∙ ap (offence_of line place) (reading_on room spot next b [] on) ∙ offence_later line place (ending next)
refused_on room spot next line place b (l ∷ ls) on =
    let same : offence_of line place (reading_from room spot (b ∷ l)) ≡ offence_of line (place + 1) (reading_from room next l) = ap (offence_of line place) (reading_on room spot next b l on) ∙ offence_later line place (reading_from room next l) in
    let at : place + suc (length l) + 1 ≡ place + 1 + length l + 1 = omega arith in
    ap (λ (o : Option Offence). or_else o (first_offence room (suc line) (place + suc (length l) + 1) ls)) same
    ∙ ap (λ (n : ℕ). or_else (offence_of line (place + 1) (reading_from room next l)) (first_offence room (suc line) n ls)) at

-- the limit, one byte on

counted : (limit place b : ℕ) (rest : List ℕ) → place < limit → count_by (λ x. x == line_feed) (take (limit - place) (b ∷ rest)) ≡ cond (b == line_feed) 1 0 + count_by (λ x. x == line_feed) (take (limit - (place + 1)) rest)
counted limit place b rest lt =
    let e : limit - place ≡ suc (limit - (place + 1)) = omega arith in
    ap (λ (n : ℕ). count_by (λ x. x == line_feed) (take n (b ∷ rest))) e ∙ sum_by-cons (λ (x : ℕ). cond (x == line_feed) 1 0) b (take (limit - (place + 1)) rest)

too_long_on : (limit line place b : ℕ) (rest : List ℕ) → place < limit → too_long_from limit line place (b ∷ rest) ≡ too_long_from limit (line + cond (b == line_feed) 1 0) (place + 1) rest
too_long_on limit line place b rest lt =
    let len : place + suc (length rest) ≡ place + 1 + length rest = omega arith in
    let count : line + count_by (λ x. x == line_feed) (take (limit - place) (b ∷ rest)) ≡ line + cond (b == line_feed) 1 0 + count_by (λ x. x == line_feed) (take (limit - (place + 1)) rest) = omega (arith, counted limit place b rest lt) in
    ap (λ (n : ℕ). if nat_lt limit n then Some (record { line = line + count_by (λ x. x == line_feed) (take (limit - place) (b ∷ rest)); place = limit; kind = Long }) else None) len
    ∙ ap (λ (n : ℕ). if nat_lt limit (place + 1 + length rest) then Some (record { line = n; place = limit; kind = Long }) else None) count

refused_at_on : (room limit : ℕ) (spot next : Spot) (line place b : ℕ) (rest : List ℕ) → place < limit → b ≢ line_feed → move room spot b ≡ On next
    → refused_at room limit spot line place (b ∷ rest) ≡ refused_at room limit next line (place + 1) rest
refused_at_on room limit spot next line place b rest lt ne on =
    let none : line + cond (b == line_feed) 1 0 ≡ line = omega (arith, cond-false {A = ℕ} (b == line_feed) 1 0 (ne_eqb b line_feed ne)) in
    ap (λ (o : Option Offence). earlier o (refused_in room spot line place (lines_of (b ∷ rest)))) (too_long_on limit line place b rest lt ∙ ap (λ (n : ℕ). too_long_from limit n (place + 1) rest) none)
    ∙ ap (earlier (too_long_from limit line (place + 1) rest)) (ap (refused_in room spot line place) (lines_on b rest ne) ∙ refused_on room spot next line place b (lines_of rest) on)

given_at_on : (room : ℕ) (spot next : Spot) (line : ℕ) (o : Option Offence) (b : ℕ) (rest : List ℕ) → b ≢ line_feed → move room spot b ≡ On next → given_at room spot line o (b ∷ rest) ≡ given_at room next line o rest
given_at_on room spot next line o b rest ne on = ap (given_before room spot line o) (lines_on b rest ne) ∙ given_before_on room spot next line o b (lines_of rest) on

-- bytes of one line

pub given_leads : (room : ℕ) (spot end : Spot) (line : ℕ) (o : Option Offence) (front rest : List ℕ) → Leads room spot front end → given_at room spot line o (front ++ rest) ≡ given_at room end line o rest
given_leads room spot end line o [] rest led = ap (λ (s : Spot). given_at room s line o rest) led
given_leads room spot end line o (b ∷ front) rest led = given_at_on room spot led.1.0 line o b (front ++ rest) led.0 led.1.1.0 ∙ given_leads room led.1.0 end line o front rest led.1.1.1

pub refused_leads : (room limit : ℕ) (spot end : Spot) (line place : ℕ) (front rest : List ℕ) → place + length front ≤ limit → Leads room spot front end
    → refused_at room limit spot line place (front ++ rest) ≡ refused_at room limit end line (place + length front) rest
refused_leads room limit spot end line place [] rest within led =
    let e : place ≡ place + 0 = omega arith in
    ap (λ (s : Spot). refused_at room limit s line place rest) led ∙ ap (λ (n : ℕ). refused_at room limit end line n rest) e
refused_leads room limit spot end line place (b ∷ front) rest within led =
    let lt : place < limit = omega (arith, within) in
    let more : place + 1 + length front ≤ limit = omega (arith, within) in
    let e : place + 1 + length front ≡ place + suc (length front) = omega arith in
    refused_at_on room limit spot led.1.0 line place b (front ++ rest) lt led.0 led.1.1.0
    ∙ refused_leads room limit led.1.0 end line (place + 1) front rest more led.1.1.1
    ∙ ap (λ (n : ℕ). refused_at room limit end line n rest) e

-- an offence at the place itself

earlier_here : (limit line place : ℕ) (rest : List ℕ) (number : ℕ) (kind : Kind) → place < limit
    → earlier (too_long_from limit line place rest) (Some (record { line = number; place = place; kind = kind })) ≡ Some (record { line = number; place = place; kind = kind })
earlier_here limit line place rest number kind lt =
    let here : Offence = record { line = number; place = place; kind = kind } in
    cond_both (nat_lt limit (place + length rest)) _ _ (λ (o : Option Offence). earlier o (Some here) ≡ Some here)
    (λ _. cond-false (nat_le limit place) _ _ (lt-leb limit place lt)) (λ _. refl)

refused_here : (line place : ℕ) (r : Reading) (kind : Kind) (other : Option Offence) → r ≡ Refused 0 kind → or_else (offence_of line place r) other ≡ Some (record { line = line; place = place; kind = kind })
refused_here line place r kind other is =
    let e : place + 0 ≡ place = omega arith in
    ap (λ (q : Reading). or_else (offence_of line place q) other) is ∙ ap (λ (n : ℕ). Some (record { line = line; place = n; kind = kind })) e

-- a byte that is refused
pub refused_off : (room limit : ℕ) (spot : Spot) (line place b : ℕ) (rest : List ℕ) (kind : Kind) → place < limit → b ≢ line_feed → move room spot b ≡ Off kind
    → refused_at room limit spot line place (b ∷ rest) ≡ Some (record { line = line; place = place; kind = kind })
refused_off room limit spot line place b rest kind lt ne off =
    ap (earlier (too_long_from limit line place (b ∷ rest))) (ap (refused_in room spot line place) (lines_on b rest ne) ∙ at (lines_of rest)) ∙ earlier_here limit line place (b ∷ rest) line kind lt where
      at : (lines : List (List ℕ)) → refused_in room spot line place (join_line b lines) ≡ Some (record { line = line; place = place; kind = kind })
      at [] = refused_here line place (reading_from room spot (b ∷ [])) kind None (reading_off room spot kind b [] off)
      at (l ∷ ls) = refused_here line place (reading_from room spot (b ∷ l)) kind _ (reading_off room spot kind b l off)

-- an LF

pub refused_feed : (room limit : ℕ) (spot : Spot) (line place : ℕ) (rest : List ℕ) (kind : Kind) → place < limit → ending spot ≡ Refused 0 kind
    → refused_at room limit spot line place (line_feed ∷ rest) ≡ Some (record { line = line; place = place; kind = kind })
refused_feed room limit spot line place rest kind lt is =
    ap (earlier (too_long_from limit line place (line_feed ∷ rest))) (refused_here line place (ending spot) kind _ is) ∙ earlier_here limit line place (line_feed ∷ rest) line kind lt

pub good_feed : (room limit : ℕ) (spot : Spot) (line place : ℕ) (rest : List ℕ) → place < limit → offence_of line place (ending spot) ≡ None
    → refused_at room limit spot line place (line_feed ∷ rest) ≡ offence_from room limit (line + 1) (place + 1) rest
good_feed room limit spot line place rest lt is =
    let number : suc line ≡ line + 1 = omega arith in
    let at : place + 0 + 1 ≡ place + 1 = omega arith in
    ap (λ (o : Option Offence). earlier o (refused_in room spot line place (lines_of (line_feed ∷ rest)))) (too_long_on limit line place line_feed rest lt)
    ∙ ap (λ (o : Option Offence). earlier (too_long_from limit (line + 1) (place + 1) rest) (or_else o (first_offence room (suc line) (place + 0 + 1) (lines_of rest)))) is
    ∙ ap (λ (n : ℕ). earlier (too_long_from limit (line + 1) (place + 1) rest) (first_offence room n (place + 0 + 1) (lines_of rest))) number
    ∙ ap (λ (n : ℕ). earlier (too_long_from limit (line + 1) (place + 1) rest) (first_offence room (line + 1) n (lines_of rest))) at

-- an offence is not before this line and this place

abbrev IsFrom : ℕ → ℕ → Option Offence → Type 0
IsFrom line place None = Unit {0}
IsFrom line place (Some o) = (line ≤ o.line) × (place ≤ o.place)

from_more : (line later place more : ℕ) (o : Option Offence) → line ≤ later → place ≤ more → IsFrom later more o → IsFrom line place o
from_more line later place more None le at h = tt
from_more line later place more (Some o) le at h = (omega (arith, le, h.0), omega (arith, at, h.1))

reading_from_place : (line place : ℕ) (r : Reading) → IsFrom line place (offence_of line place r)
reading_from_place line place Nothing = tt
reading_from_place line place (Spelled v es) = tt
reading_from_place line place (Refused at kind) = (omega arith, omega arith)

else_from : (line place : ℕ) (o other : Option Offence) → IsFrom line place o → IsFrom line place other → IsFrom line place (or_else o other)
else_from line place None other h k = k
else_from line place (Some o) other h k = h

refused_from : (room : ℕ) (spot : Spot) (line place : ℕ) (lines : List (List ℕ)) → IsFrom line place (refused_in room spot line place lines)
refused_from room spot line place [] = reading_from_place line place (ending spot)
refused_from room spot line place (l ∷ ls) =
    let at = place + length l + 1 in
    let others = subst (IsFrom (suc line) at) (refused_at_start room (suc line) at ls) (refused_from room Start (suc line) at ls) in
    else_from line place _ _ (reading_from_place line place (reading_from room spot l)) (from_more line (suc line) place at _ (omega arith) (omega arith) others)

first_from : (room line place : ℕ) (lines : List (List ℕ)) → IsFrom line place (first_offence room line place lines)
first_from room line place lines = subst (IsFrom line place) (refused_at_start room line place lines) (refused_from room Start line place lines)

long_from : (limit line place : ℕ) (rest : List ℕ) → place ≤ limit → IsFrom line place (too_long_from limit line place rest)
long_from limit line place rest le = cond_both (nat_lt limit (place + length rest)) _ _ (IsFrom line place) (λ _. (omega arith, le)) (λ _. tt)

earlier_from : (line place : ℕ) (a b : Option Offence) → IsFrom line place a → IsFrom line place b → IsFrom line place (earlier a b)
earlier_from line place None b h k = k
earlier_from line place (Some a) None h k = h
earlier_from line place (Some a) (Some b) h k = cond_both (nat_le a.place b.place) _ _ (IsFrom line place) (λ _. h) (λ _. k)

offence_from_line : (room limit line place : ℕ) (rest : List ℕ) → place ≤ limit → IsFrom line place (offence_from room limit line place rest)
offence_from_line room limit line place rest le = earlier_from line place _ _ (long_from limit line place rest le) (first_from room line place (lines_of rest))

given_before_feed : (room : ℕ) (spot : Spot) (line place : ℕ) (o : Option Offence) (lines : List (List ℕ)) → IsFrom (line + 1) place o
    → given_before room spot line o ([] ∷ lines) ≡ cons_option (vertex_given (ending spot)) (vertices_given room (lines_before (line + 1) o lines))
given_before_feed room spot line place None lines h = refl
given_before_feed room spot line place (Some o) lines h = let e : o.line - line ≡ suc (o.line - (line + 1)) = omega (arith, h.0) in ap (λ (n : ℕ). given_of room spot n ([] ∷ lines)) e

pub given_feed : (room limit : ℕ) (spot : Spot) (line place : ℕ) (o : Option Offence) (rest : List ℕ) → place < limit → o ≡ offence_from room limit (line + 1) (place + 1) rest
    → given_at room spot line o (line_feed ∷ rest) ≡ cons_option (vertex_given (ending spot)) (vertices_given room (lines_before (line + 1) o (lines_of rest)))
given_feed room limit spot line place o rest lt is =
    given_before_feed room spot line (place + 1) o (lines_of rest) (subst (IsFrom (line + 1) (place + 1)) (sym is) (offence_from_line room limit (line + 1) (place + 1) rest (omega (arith, lt))))

-- a line that is refused gives nothing
pub given_refused : (room : ℕ) (spot : Spot) (line : ℕ) (o : Offence) (rest : List ℕ) → o.line ≡ line → given_at room spot line (Some o) rest ≡ []
given_refused room spot line o rest same = let e : o.line - line ≡ 0 = omega (arith, same) in ap (λ (n : ℕ). given_of room spot n (lines_of rest)) e

-- the limit

earlier_limit : (a : Offence) (line : ℕ) (o : Option Offence) → IsFrom line a.place o → earlier (Some a) o ≡ Some a
earlier_limit a line None h = refl
earlier_limit a line (Some o) h = cond-true (nat_le a.place o.place) _ _ (le-leb a.place o.place h.1)

-- a byte past the limit
pub refused_long : (room limit : ℕ) (spot : Spot) (line place b : ℕ) (rest : List ℕ) → place ≡ limit
    → refused_at room limit spot line place (b ∷ rest) ≡ Some (record { line = line; place = limit; kind = Long })
refused_long room limit spot line place b rest same =
    let lt : limit < place + suc (length rest) = omega (arith, same) in
    let none : limit - place ≡ 0 = omega (arith, same) in
    let count : line + count_by (λ x. x == line_feed) (take (limit - place) (b ∷ rest)) ≡ line = ap (λ (n : ℕ). line + count_by (λ x. x == line_feed) (take n (b ∷ rest))) none ∙ omega arith in
    let is : too_long_from limit line place (b ∷ rest) ≡ Some (record { line = line; place = limit; kind = Long }) =
    cond-true (nat_lt limit (place + suc (length rest))) _ _ (lt-ltb limit (place + suc (length rest)) lt) ∙ ap (λ (n : ℕ). Some (record { line = n; place = limit; kind = Long })) count in
    ap (λ (o : Option Offence). earlier o (refused_in room spot line place (lines_of (b ∷ rest)))) is
    ∙ earlier_limit _ line _ (subst (λ (n : ℕ). IsFrom line n (refused_in room spot line place (lines_of (b ∷ rest)))) same (refused_from room spot line place (lines_of (b ∷ rest))))

-- the end of the text

within_limit : (limit line place : ℕ) → place ≤ limit → too_long_from limit line place [] ≡ None
within_limit limit line place le = let h : place + 0 ≤ limit = omega (arith, le) in cond-false (nat_lt limit (place + 0)) _ _ (le-ltb limit (place + 0) h)

earlier_none : (o : Option Offence) → earlier None o ≡ o
earlier_none None = refl
earlier_none (Some o) = refl

pub refused_end : (room limit : ℕ) (spot : Spot) (line place : ℕ) → place ≤ limit → refused_at room limit spot line place [] ≡ offence_of line place (ending spot)
refused_end room limit spot line place le = ap (λ (o : Option Offence). earlier o (offence_of line place (ending spot))) (within_limit limit line place le) ∙ earlier_none _

pub offence_end : (room limit line place : ℕ) → place ≤ limit → offence_from room limit line place [] ≡ None
offence_end room limit line place le = ap (λ (o : Option Offence). earlier o None) (within_limit limit line place le)

-- the beginning of a line, and of the text

pub given_begins : (room line : ℕ) (o : Option Offence) (rest : List ℕ) → given_at room Start line o rest ≡ vertices_given room (lines_before line o (lines_of rest))
given_begins room line o rest = given_before_start room line o (lines_of rest)

pub refused_begins : (room limit line place : ℕ) (rest : List ℕ) → refused_at room limit Start line place rest ≡ offence_from room limit line place rest
refused_begins room limit line place rest = ap (earlier (too_long_from limit line place rest)) (refused_at_start room line place (lines_of rest))

pub offence_begins : (room limit : ℕ) (text : List ℕ) → offence room limit text ≡ offence_from room limit 1 0 text
offence_begins room limit text =
    let len : length text ≡ 0 + length text = omega arith in
    let all : limit ≡ limit - 0 = omega arith in
    let line : ℕ → ℕ = λ n. 1 + count_by (λ x. x == line_feed) (take n text) in
    let long : ℕ → ℕ → Option Offence = λ n k. if nat_lt limit n then Some (record { line = line k; place = limit; kind = Long }) else None in
    ap (λ (o : Option Offence). earlier o (first_offence room 1 0 (lines_of text))) (ap (λ (n : ℕ). long n limit) len ∙ ap (long (0 + length text)) all)

-- a text without an offence gives the vertices of all its lines
pub good_before : (room limit : ℕ) (text : List ℕ) → offence room limit text ≡ None → vertices_before room limit text ≡ vertices_given room (lines_of text)
good_before room limit text good = ap (λ (o : Option Offence). vertices_given room (lines_before 1 o (lines_of text))) good
