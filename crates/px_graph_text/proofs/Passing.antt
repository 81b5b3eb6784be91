-- A parser that goes over bytes.
use Rattle.std.proofs.Common.{◌≡◌, ℕ, suc, ◌+◌, ◌<◌, ◌≤◌, Bool, true, false, List, [], ◌∷◌, ◌++◌, length, take, drop, get_or, Option, Some, None, Ok, sym, ◌∙◌, ap, refl, subst, arith, append_assoc, drop-cons}
use Rattle.std.proofs.lemmas.List.{take-append-drop, take-take, length-take, length-take-le, get_or-take}
use Rattle.px_meaning.specs.Graph.{Vertex}
use Rattle.px_meaning.specs.GraphText.{line_feed, Offence, offence_of, vertex_given, vertices_given, lines_of}
use Rattle.px_meaning.specs.Line.{Spot, ending, Reading}
use Rattle.px_record.specs.Held.{HeldVertex}
use Rattle.std.specs.List.{cons_option}
use Rattle.px_graph_text.specs.declared.refusal.Kind.{Kind}
use Rattle.px_graph_text.specs.declared.refusal.Kind.TheVariants.{Long}
use Rattle.px_graph_text.specs.declared.line.State.{State}
use Rattle.px_graph_text.specs.declared.line.State.TheVariants.{Start}
use Rattle.px_graph_text.specs.declared.line.Stop.{Stop}
use Rattle.px_graph_text.specs.declared.line.Stop.TheVariants.{Bytes, LineFeed, Offence as Offends}
use Rattle.px_graph_text.specs.declared.line.Followed.{Followed}
use Rattle.px_graph_text.specs.Kinds.{kind_of}
use Rattle.px_graph_text.specs.Steps.{spot_of, Leads, Stops, Follows, Ends, Gives, GivesNothing, EndsOff}
use Rattle.px_graph_text.specs.Reading.{ParserView, ToGive, IsRefused, offence_from, lines_before}
use Rattle.px_graph_text.specs.Passing.{ToGiveAt, given_at, refused_at, HasNext, HasOffence, Meets, GoesOn, GivesFirst, Refuses, EndsLine}
use Rattle.px_graph_text.proofs.Texts.{given_leads, refused_leads, refused_off, refused_feed, good_feed, given_feed, given_refused, refused_long, refused_begins, given_begins}

-- bytes of one line are gone over

abbrev pub moved : ParserView → ℕ → ParserView
moved old n = record old { ahead = drop n old.ahead; place = old.place + n }

moved_to_give : (room : ℕ) (spot end : Spot) (old : ParserView) (n : ℕ) → n ≤ length old.ahead → old.place + n ≤ old.limit → Leads room spot (take n old.ahead) end
    → (bytes : List ℕ) (vs : List (ℕ × Vertex)) (o : Option Offence) → ToGiveAt room spot old bytes vs o → ToGiveAt room end (moved old n) bytes vs o
moved_to_give room spot end old n len within led bytes vs o h =
    let split : old.ahead ++ bytes ≡ take n old.ahead ++ (drop n old.ahead ++ bytes) =
    ap (λ (l : List ℕ). l ++ bytes) (sym (take-append-drop n old.ahead)) ∙ append_assoc (take n old.ahead) (drop n old.ahead) bytes in
    let long : length (take n old.ahead) ≡ n = length-take-le n old.ahead len in
    record {
      given = h.given ∙ ap (given_at room spot old.line o) split ∙ given_leads room spot end old.line o (take n old.ahead) (drop n old.ahead ++ bytes) led;
      refused = h.refused ∙ ap (refused_at room old.limit spot old.line old.place) split
          ∙ refused_leads room old.limit spot end old.line old.place (take n old.ahead) (drop n old.ahead ++ bytes) (omega (arith, long, within)) led
          ∙ ap (λ (k : ℕ). refused_at room old.limit end old.line (old.place + k) (drop n old.ahead ++ bytes)) long;
    }

-- what is known after a stretch of the bytes ahead
shorter : (most : ℕ) (ahead : List ℕ) (n : ℕ) → n ≤ length (take most ahead) → n ≤ most
shorter most ahead n le = omega (arith, length-take most ahead, le)

within_ahead : (most : ℕ) (ahead : List ℕ) (n : ℕ) → n ≤ length (take most ahead) → n ≤ length ahead
within_ahead most ahead n le = omega (arith, length-take most ahead, le)

pub advanced : (spot : Spot) (was held : HeldVertex) (old new : ParserView) (most : ℕ) (f : Followed) → new ≡ moved old f.count → old.place + most ≤ old.limit
    → Follows spot (take most old.ahead) was held f → GoesOn spot was held old new f.state
advanced spot was held old new most f is within h =
    let n = f.count in
    let le : n ≤ most = shorter most old.ahead n h.within in
    subst (λ (v : ParserView). GoesOn spot was held old v f.state) (sym is) (record {
      to_give = moved_to_give was.room spot (spot_of f.state held) old n (within_ahead most old.ahead n h.within) (omega (arith, le, within))
          (subst (λ (l : List ℕ). Leads was.room spot l (spot_of f.state held)) (take-take n most old.ahead le) h.leads);
      holds = h.holds;
    })

next_is : (old : ParserView) (most n byte : ℕ) → n < length (take most old.ahead) → old.place + most ≤ old.limit → get_or (take most old.ahead) n 0 ≡ byte → HasNext (moved old n) byte
next_is old most n byte lt within is =
    let short : n < most = omega (arith, length-take most old.ahead, lt) in
    let inside : n < length old.ahead = omega (arith, length-take most old.ahead, lt) in
    record {
      others = drop (suc n) old.ahead;
      is = drop-cons old.ahead n 0 inside ∙ ap (λ (b : ℕ). b ∷ drop (suc n) old.ahead) (sym (get_or-take most old.ahead n 0 short) ∙ is);
      within = omega (arith, short, within);
    }

meets_stop : (room : ℕ) (spot : Spot) (old : ParserView) (most n : ℕ) (stop : Stop) → 0 < most → most ≤ length old.ahead → old.place + most ≤ old.limit
    → Stops room spot (take most old.ahead) n stop → Meets room spot old (moved old n) stop
meets_stop room spot old most n Bytes some len within h = let all : length (take most old.ahead) ≡ most = length-take-le most old.ahead len in omega (arith, h, all)
meets_stop room spot old most n LineFeed some len within h = next_is old most n line_feed h.0 within h.1
meets_stop room spot old most n (Offends kind) some len within h = record { byte = get_or (take most old.ahead) n 0; next = next_is old most n _ h.0 within refl; in_line = h.1.0; off = h.1.1 }

pub meets : (spot : Spot) (was held : HeldVertex) (old new : ParserView) (most : ℕ) (f : Followed) → new ≡ moved old f.count → 0 < most → most ≤ length old.ahead → old.place + most ≤ old.limit
    → Follows spot (take most old.ahead) was held f → Meets was.room (spot_of f.state held) old new f.stop
meets spot was held old new most f is some len within h =
    subst (λ (v : ParserView). Meets was.room (spot_of f.state held) old v f.stop) (sym is) (meets_stop was.room (spot_of f.state held) old most f.count f.stop some len within h.stops)

-- an LF is gone over

abbrev pub fed : ParserView → ParserView
fed old = record old { ahead = drop 1 old.ahead; place = old.place + 1; line = old.line + 1 }

fed_ahead : (old : ParserView) (h : HasNext old line_feed) → drop 1 old.ahead ≡ h.others
fed_ahead old h = ap (λ (l : List ℕ). drop 1 l) h.is

feed_ahead : (old : ParserView) (bytes : List ℕ) (h : HasNext old line_feed) → old.ahead ++ bytes ≡ line_feed ∷ (drop 1 old.ahead ++ bytes)
feed_ahead old bytes h = ap (λ (l : List ℕ). l ++ bytes) (h.is ∙ ap (λ (l : List ℕ). line_feed ∷ l) (sym (fed_ahead old h)))

-- what is refused once the LF is gone over, where the line is good
feed_good : (room : ℕ) (spot : Spot) (old : ParserView) (bytes : List ℕ) (vs : List (ℕ × Vertex)) (o : Option Offence) → HasNext old line_feed → offence_of old.line old.place (ending spot) ≡ None
    → ToGiveAt room spot old bytes vs o → o ≡ offence_from room old.limit (old.line + 1) (old.place + 1) (drop 1 old.ahead ++ bytes)
feed_good room spot old bytes vs o next good h =
    h.refused ∙ ap (refused_at room old.limit spot old.line old.place) (feed_ahead old bytes next) ∙ good_feed room old.limit spot old.line old.place (drop 1 old.ahead ++ bytes) next.within good

-- and what is given from it on
feed_given : (room : ℕ) (spot : Spot) (old : ParserView) (bytes : List ℕ) (vs : List (ℕ × Vertex)) (o : Option Offence) (r : Reading) → HasNext old line_feed → ending spot ≡ r → offence_of old.line old.place r ≡ None
    → ToGiveAt room spot old bytes vs o → vs ≡ cons_option (vertex_given r) (vertices_given room (lines_before (old.line + 1) o (lines_of (drop 1 old.ahead ++ bytes))))
feed_given room spot old bytes vs o r next is good h =
    let rest = drop 1 old.ahead ++ bytes in
    h.given ∙ ap (given_at room spot old.line o) (feed_ahead old bytes next)
    ∙ given_feed room old.limit spot old.line old.place o rest next.within (feed_good room spot old bytes vs o next (ap (offence_of old.line old.place) is ∙ good) h)
    ∙ ap (λ (r : Reading). cons_option (vertex_given r) (vertices_given room (lines_before (old.line + 1) o (lines_of rest)))) is

pub feed_first : (spot : Spot) (was held : HeldVertex) (old new : ParserView) → new ≡ fed old → HasNext old line_feed → Gives spot was held → GivesFirst spot was held old new
feed_first spot was held old new is next gives =
    subst (λ (v : ParserView). GivesFirst spot was held old v) (sym is) (record {
      to_give = λ bytes vs o h.
          let others = vertices_given was.room (lines_before (old.line + 1) o (lines_of (drop 1 old.ahead ++ bytes))) in
          record {
            others = others;
            is = feed_given was.room spot old bytes vs o _ next gives.spells refl h ∙ ap (λ (x : Vertex). (held.vid, x) ∷ others) (sym gives.is);
            to_give = record { given = refl; refused = feed_good was.room spot old bytes vs o next (ap (offence_of old.line old.place) gives.spells) h };
          };
      vertex = gives.is;
    })

pub feed_on : (spot : Spot) (was held : HeldVertex) (old new : ParserView) → new ≡ fed old → HasNext old line_feed → GivesNothing spot was held → GoesOn spot was held old new Start
feed_on spot was held old new is next gives =
    subst (λ (v : ParserView). GoesOn spot was held old v Start) (sym is) (record {
      to_give = λ bytes vs o h.
          let rest = drop 1 old.ahead ++ bytes in
          record {
            given = feed_given was.room spot old bytes vs o _ next gives.nothing refl h ∙ sym (given_begins was.room (old.line + 1) o rest);
            refused = feed_good was.room spot old bytes vs o next (ap (offence_of old.line old.place) gives.nothing) h ∙ sym (refused_begins was.room old.limit (old.line + 1) (old.place + 1) rest);
          };
      holds = tt;
    })

-- the text is refused

pub refused_now : (room : ℕ) (spot : Spot) (p : ParserView) (bytes : List ℕ) (vs : List (ℕ × Vertex)) (o : Option Offence) (place : ℕ) (kind : Kind) → o ≡ Some (record { line = p.line; place = place; kind = kind_of kind })
    → ToGiveAt room spot p bytes vs o → IsRefused p.line kind vs o
refused_now room spot p bytes vs o place kind is h =
    let here : Offence = record { line = p.line; place = place; kind = kind_of kind } in
    record {
      given = h.given ∙ ap (λ (q : Option Offence). given_at room spot p.line q (p.ahead ++ bytes)) is ∙ given_refused room spot p.line here (p.ahead ++ bytes) refl;
      at = record { place = place; is = is };
    }

pub feed_refused : (spot : Spot) (was held : HeldVertex) (old : ParserView) (kind : Kind) → HasNext old line_feed → EndsOff spot was held kind → Refuses spot was old kind
feed_refused spot was held old kind next h = record {
  at = λ bytes vs o g.
      let is = g.refused ∙ ap (refused_at was.room old.limit spot old.line old.place) (feed_ahead old bytes next) ∙ refused_feed was.room old.limit spot old.line old.place (drop 1 old.ahead ++ bytes) (kind_of kind) next.within h.off in
      refused_now was.room spot old bytes vs o old.place kind is g;
}

pub byte_refused : (spot : Spot) (was : HeldVertex) (old : ParserView) (kind : Kind) → HasOffence was.room spot old kind → Refuses spot was old kind
byte_refused spot was old kind h = record {
  at = λ bytes vs o g.
      let is = g.refused ∙ ap (λ (l : List ℕ). refused_at was.room old.limit spot old.line old.place (l ++ bytes)) h.next.is
      ∙ refused_off was.room old.limit spot old.line old.place h.byte (h.next.others ++ bytes) (kind_of kind) h.next.within h.in_line h.off in
      refused_now was.room spot old bytes vs o old.place kind is g;
}

long_refused_at : (room limit : ℕ) (spot : Spot) (line place : ℕ) (ahead bytes : List ℕ) → 0 < length ahead → place ≡ limit → refused_at room limit spot line place (ahead ++ bytes) ≡ Some (record { line = line; place = limit; kind = kind_of Long })
long_refused_at room limit spot line place [] bytes some same = absurd (omega (arith, some))
long_refused_at room limit spot line place (b ∷ ahead) bytes some same = refused_long room limit spot line place b (ahead ++ bytes) same

pub long_refused : (spot : Spot) (was : HeldVertex) (old : ParserView) → 0 < length old.ahead → old.place ≡ old.limit → Refuses spot was old Long
long_refused spot was old some same = record {
  at = λ bytes vs o g. refused_now was.room spot old bytes vs o old.limit Long (g.refused ∙ long_refused_at was.room old.limit spot old.line old.place old.ahead bytes some same) g;
}

-- the end of a line, by what it gives

pub ends_line : (spot : Spot) (was held : HeldVertex) (old new : ParserView) (gives : Bool) → new ≡ fed old → HasNext old line_feed → Ends spot was held (Ok gives) → EndsLine spot was held old new (Ok gives)
ends_line spot was held old new true is next h = feed_first spot was held old new is next h
ends_line spot was held old new false is next h = feed_on spot was held old new is next h

-- one after the other

pub then_first : (spot : Spot) (was mid held : HeldVertex) (old now new : ParserView) (state : State) → mid.room ≡ was.room
    → GoesOn spot was mid old now state → GivesFirst (spot_of state mid) mid held now new → GivesFirst spot was held old new
then_first spot was mid held old now new state room h k = record {
  to_give = λ bytes vs o g.
      let first = k.to_give bytes vs o (subst (λ (r : ℕ). ToGiveAt r (spot_of state mid) now bytes vs o) (sym room) (h.to_give bytes vs o g)) in
      record { others = first.others; is = first.is; to_give = subst (λ (r : ℕ). ToGive r new bytes first.others o) room first.to_give };
  vertex = k.vertex;
}

pub then_on : (spot : Spot) (was mid held : HeldVertex) (old now new : ParserView) (state next : State) → mid.room ≡ was.room
    → GoesOn spot was mid old now state → GoesOn (spot_of state mid) mid held now new next → GoesOn spot was held old new next
then_on spot was mid held old now new state next room h k = record {
  to_give = λ bytes vs o g.
      subst (λ (r : ℕ). ToGiveAt r (spot_of next held) new bytes vs o) room (k.to_give bytes vs o (subst (λ (r : ℕ). ToGiveAt r (spot_of state mid) now bytes vs o) (sym room) (h.to_give bytes vs o g)));
  holds = k.holds;
}

pub then_refused : (spot : Spot) (was mid : HeldVertex) (old now : ParserView) (state : State) (kind : Kind) → mid.room ≡ was.room → now.line ≡ old.line
    → GoesOn spot was mid old now state → Refuses (spot_of state mid) mid now kind → Refuses spot was old kind
then_refused spot was mid old now state kind room line h k = record {
  at = λ bytes vs o g.
      subst (λ (n : ℕ). IsRefused n kind vs o) line (k.at bytes vs o (subst (λ (r : ℕ). ToGiveAt r (spot_of state mid) now bytes vs o) (sym room) (h.to_give bytes vs o g)));
}
