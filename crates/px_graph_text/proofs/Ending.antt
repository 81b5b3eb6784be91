-- The end of a text, and what a source still has for a parser.
use Rattle.std.proofs.Common.{◌≡◌, ◌≢◌, ℕ, ◌+◌, ◌≤◌, Bool, true, false, List, [], ◌∷◌, ◌++◌, Option, None, Result, Ok, Err, sym, ◌∙◌, ap, refl, subst}
use Rattle.std.specs.Prelude.{IfOk, IfErr, IsTrue, IsFalse}
use Rattle.std.proofs.lemmas.Bool.{true≢false}
use Rattle.std.specs.List.{cons_option}
use Rattle.px_meaning.specs.Graph.{Vertex}
use Rattle.px_meaning.specs.GraphText.{Offence, offence_of, vertex_given, vertices_given, lines_of}
use Rattle.px_meaning.specs.Line.{Spot, Start as AtStart, ending, Nothing, Spelled, Reading}
use Rattle.px_record.specs.Held.{HeldVertex}
use Rattle.px_graph_text.specs.declared.refusal.Kind.{Kind}
use Rattle.px_graph_text.specs.declared.refusal.TextStop.{TextStop}
use Rattle.px_graph_text.specs.declared.refusal.TextStop.TheVariants.{Source, Bad}
use Rattle.px_graph_text.specs.declared.line.State.{State}
use Rattle.px_graph_text.specs.Steps.{spot_of, Ends, Gives, GivesNothing, EndsOff}
use Rattle.px_graph_text.specs.Reading.{ParserView, ToGive, Begins, IsOver, IsRefused, IsBad, offence_from}
use Rattle.px_graph_text.specs.Passing.{ToGiveAt, given_in, given_at, refused_at, Still, GoesOn, GivesFirst, Refuses, GivesLast, GivesNone, EndsBad, EndsText}
use Rattle.px_graph_text.proofs.Texts.{refused_end, offence_end}
use Rattle.px_graph_text.proofs.Passing.{refused_now}

at_end : (spot : Spot) (room : ℕ) (p : ParserView) (o : Option Offence) (vs : List (ℕ × Vertex)) → p.ahead ≡ [] → p.place ≤ p.limit → ToGiveAt room spot p [] vs o → o ≡ offence_of p.line p.place (ending spot)
at_end spot room p o vs over le h = h.refused ∙ ap (λ (l : List ℕ). refused_at room p.limit spot p.line p.place (l ++ [])) over ∙ refused_end room p.limit spot p.line p.place le

-- the last line is good
good_end : (spot : Spot) (room : ℕ) (p : ParserView) (o : Option Offence) (vs : List (ℕ × Vertex)) (r : Reading) → p.ahead ≡ [] → p.place ≤ p.limit → ending spot ≡ r → offence_of p.line p.place r ≡ None
    → ToGiveAt room spot p [] vs o → o ≡ None
good_end spot room p o vs r over le is good h = at_end spot room p o vs over le h ∙ ap (offence_of p.line p.place) is ∙ good

given_end : (spot : Spot) (room : ℕ) (p : ParserView) (o : Option Offence) (vs : List (ℕ × Vertex)) (r : Reading) → p.ahead ≡ [] → p.place ≤ p.limit → ending spot ≡ r → offence_of p.line p.place r ≡ None
    → ToGiveAt room spot p [] vs o → vs ≡ cons_option (vertex_given r) []
given_end spot room p o vs r over le is good h =
    h.given ∙ ap (λ (q : Option Offence). given_at room spot p.line q (p.ahead ++ [])) (good_end spot room p o vs r over le is good h)
    ∙ ap (λ (l : List ℕ). given_in room spot (lines_of (l ++ []))) over ∙ ap (λ (q : Reading). cons_option (vertex_given q) []) is

start_gives_nothing : (spot : Spot) (v : ℕ) (es : List (ℕ × ℕ)) → ending spot ≡ Spelled v es → spot ≢ AtStart
start_gives_nothing spot v es spells start = let e : Nothing ≡ Spelled v es = ap ending (sym start) ∙ spells in cc

-- at its end a text gives nothing more
pub ended : (room : ℕ) (p : ParserView) → p.ahead ≡ [] → p.place ≤ p.limit → ToGive room p [] [] None
ended room p over le = record {
  given = ap (λ (l : List ℕ). vertices_given room (lines_of (l ++ []))) (sym over);
  refused = sym (ap (λ (l : List ℕ). offence_from room p.limit p.line p.place (l ++ [])) over ∙ offence_end room p.limit p.line p.place le);
}

pub gives_last : (spot : Spot) (was held : HeldVertex) (p : ParserView) → p.ahead ≡ [] → p.place ≤ p.limit → Gives spot was held → GivesLast spot was held p
gives_last spot was held p over le h = record {
  to_give = λ vs o g. record {
    others = [];
    is = given_end spot was.room p o vs _ over le h.spells refl g ∙ ap (λ (x : Vertex). (held.vid, x) ∷ []) (sym h.is);
    to_give = subst (ToGive was.room p [] []) (sym (good_end spot was.room p o vs _ over le h.spells refl g)) (ended was.room p over le);
  };
  vertex = h.is;
  begun = start_gives_nothing spot held.vid held.vertex.edges h.spells;
}

pub gives_none : (spot : Spot) (was held : HeldVertex) (p : ParserView) → p.ahead ≡ [] → p.place ≤ p.limit → GivesNothing spot was held → GivesNone spot was p
gives_none spot was held p over le h = record {
  none = λ vs o g. given_end spot was.room p o vs _ over le h.nothing refl g;
  good = λ vs o g. good_end spot was.room p o vs _ over le h.nothing refl g;
}

pub ends_text : (spot : Spot) (was held : HeldVertex) (p : ParserView) (gives : Bool) → p.ahead ≡ [] → p.place ≤ p.limit → Ends spot was held (Ok gives) → EndsText spot was held p (Ok gives)
ends_text spot was held p true over le h = gives_last spot was held p over le h
ends_text spot was held p false over le h = gives_none spot was held p over le h

pub ends_bad : (spot : Spot) (was held : HeldVertex) (p : ParserView) (line : ℕ) (kind : Kind) → line ≡ p.line → p.ahead ≡ [] → p.place ≤ p.limit → EndsOff spot was held kind → EndsBad spot was p line kind
ends_bad spot was held p line kind same over le h = record {
  at = λ vs o g.
      subst (λ (n : ℕ). IsRefused n kind vs o) (sym same) (refused_now was.room spot p [] vs o (p.place + 0) kind (at_end spot was.room p o vs over le g ∙ ap (offence_of p.line p.place) h.off) g);
}

-- what is left in the source

-- nothing, at the end of the text
pub still_none : (Left New : List ℕ → Type 0) (old new : ParserView) (bytes : List ℕ) → old.ahead ≡ [] → new.ahead ≡ [] → ((rest : List ℕ) → Left rest → rest ≡ [])
    → ((rest : List ℕ) → Left rest → Still New (λ more. new.ahead ++ more ≡ old.ahead ++ rest)) → Left bytes → New []
still_none Left New old new bytes was over none filled left =
    let s = filled bytes left in
    let is : s.bytes ≡ [] = ap (λ (l : List ℕ). l ++ s.bytes) (sym over) ∙ s.is_so ∙ ap (λ (l : List ℕ). l ++ bytes) was ∙ none bytes left in
    subst New is s.are_left

pub none_left : (Left : List ℕ → Type 0) (room : ℕ) (spot : Spot) (p : ParserView) (vs : List (ℕ × Vertex)) (o : Option Offence) → ((rest : List ℕ) → Left rest → rest ≡ []) → Still Left (λ rest. ToGiveAt room spot p rest vs o) → ToGiveAt room spot p [] vs o
none_left Left room spot p vs o none h = subst (λ (l : List ℕ). ToGiveAt room spot p l vs o) (none h.bytes h.are_left) h.is_so

pub refilled : (Left New : List ℕ → Type 0) (room : ℕ) (spot : Spot) (old new : ParserView) (vs : List (ℕ × Vertex)) (o : Option Offence) → new ≡ record old { ahead = new.ahead }
    → ((bytes : List ℕ) → Left bytes → Still New (λ rest. new.ahead ++ rest ≡ old.ahead ++ bytes)) → Still Left (λ rest. ToGiveAt room spot old rest vs o) → Still New (λ rest. ToGiveAt room spot new rest vs o)
refilled Left New room spot old new vs o same filled h =
    let s = filled h.bytes h.are_left in
    let is : ToGiveAt room spot (record old { ahead = new.ahead }) s.bytes vs o = record {
      given = h.is_so.given ∙ ap (given_at room spot old.line o) (sym s.is_so);
      refused = h.is_so.refused ∙ ap (refused_at room old.limit spot old.line old.place) (sym s.is_so);
    } in
    record { bytes = s.bytes; are_left = s.are_left; is_so = subst (λ (v : ParserView). ToGiveAt room spot v s.bytes vs o) (sym same) is }

pub still_on : (Left : List ℕ → Type 0) (room : ℕ) (spot : Spot) (was held : HeldVertex) (old new : ParserView) (next : State) (vs : List (ℕ × Vertex)) (o : Option Offence) → was.room ≡ room
    → GoesOn spot was held old new next → Still Left (λ rest. ToGiveAt room spot old rest vs o) → Still Left (λ rest. ToGiveAt room (spot_of next held) new rest vs o)
still_on Left room spot was held old new next vs o same goes h = record {
  bytes = h.bytes;
  are_left = h.are_left;
  is_so = subst (λ (r : ℕ). ToGiveAt r (spot_of next held) new h.bytes vs o) same (goes.to_give h.bytes vs o (subst (λ (r : ℕ). ToGiveAt r spot old h.bytes vs o) (sym same) h.is_so));
}

pub still_first : (Left : List ℕ → Type 0) (room : ℕ) (spot : Spot) (was held : HeldVertex) (old new : ParserView) (vs : List (ℕ × Vertex)) (o : Option Offence) → was.room ≡ room
    → GivesFirst spot was held old new → Still Left (λ rest. ToGiveAt room spot old rest vs o) → Begins Left room new held vs o
still_first Left room spot was held old new vs o same gives h =
    let first = gives.to_give h.bytes vs o (subst (λ (r : ℕ). ToGiveAt r spot old h.bytes vs o) (sym same) h.is_so) in
    record { bytes = h.bytes; others = first.others; is = first.is; are_left = h.are_left; to_give = subst (λ (r : ℕ). ToGive r new h.bytes first.others o) same first.to_give }

pub still_refused : (Left : List ℕ → Type 0) (room : ℕ) (spot : Spot) (was : HeldVertex) (old : ParserView) (kind : Kind) (vs : List (ℕ × Vertex)) (o : Option Offence) → was.room ≡ room
    → Refuses spot was old kind → Still Left (λ rest. ToGiveAt room spot old rest vs o) → IsRefused old.line kind vs o
still_refused Left room spot was old kind vs o same refuses h = refuses.at h.bytes vs o (subst (λ (r : ℕ). ToGiveAt r spot old h.bytes vs o) (sym same) h.is_so)

-- the answer at the end of the text

pub last_given : (r : Result Bool TextStop) (Left New : List ℕ → Type 0) (Before : List ℕ → List (ℕ × Vertex) → Option Offence → Type 0) (room : ℕ) (spot : Spot) (was held : HeldVertex) (p : ParserView) → was.room ≡ room
    → EndsText spot was held p r → ((bytes : List ℕ) (vs : List (ℕ × Vertex)) (o : Option Offence) → Left bytes → Before bytes vs o → ToGiveAt room spot p [] vs o) → ((bytes : List ℕ) (vs : List (ℕ × Vertex)) (o : Option Offence) → Left bytes → Before bytes vs o → New [])
    → IfOk r (λ given. IsTrue given → (bytes : List ℕ) (vs : List (ℕ × Vertex)) (o : Option Offence) → Left bytes → Before bytes vs o → Begins New room p held vs o)
last_given (Ok true) Left New Before room spot was held p same ends at none = λ _ bytes vs o left before.
    let first = ends.to_give vs o (subst (λ (r : ℕ). ToGiveAt r spot p [] vs o) (sym same) (at bytes vs o left before)) in
    record { bytes = []; others = first.others; is = first.is; are_left = none bytes vs o left before; to_give = subst (λ (r : ℕ). ToGive r p [] first.others o) same first.to_give }
last_given (Ok false) Left New Before room spot was held p same ends at none = λ e. absurd (true≢false (sym e))
last_given (Err stop) Left New Before room spot was held p same ends at none = tt

pub last_over : (r : Result Bool TextStop) (Left New : List ℕ → Type 0) (Before : List ℕ → List (ℕ × Vertex) → Option Offence → Type 0) (room : ℕ) (spot : Spot) (was held : HeldVertex) (p : ParserView) → was.room ≡ room
    → EndsText spot was held p r → ((bytes : List ℕ) (vs : List (ℕ × Vertex)) (o : Option Offence) → Left bytes → Before bytes vs o → ToGiveAt room spot p [] vs o) → ((bytes : List ℕ) (vs : List (ℕ × Vertex)) (o : Option Offence) → Left bytes → Before bytes vs o → New [])
    → IfOk r (λ given. IsFalse given → (bytes : List ℕ) (vs : List (ℕ × Vertex)) (o : Option Offence) → Left bytes → Before bytes vs o → IsOver New vs o)
last_over (Ok true) Left New Before room spot was held p same ends at none = λ e. absurd (true≢false e)
last_over (Ok false) Left New Before room spot was held p same ends at none = λ _ bytes vs o left before.
    let h = subst (λ (r : ℕ). ToGiveAt r spot p [] vs o) (sym same) (at bytes vs o left before) in
    record { given = ends.none vs o h; good = ends.good vs o h; are_left = none bytes vs o left before }
last_over (Err stop) Left New Before room spot was held p same ends at none = tt

pub last_bad : (r : Result Bool TextStop) (Left : List ℕ → Type 0) (Before : List ℕ → List (ℕ × Vertex) → Option Offence → Type 0) (room : ℕ) (spot : Spot) (was held : HeldVertex) (p : ParserView) → was.room ≡ room
    → EndsText spot was held p r → ((bytes : List ℕ) (vs : List (ℕ × Vertex)) (o : Option Offence) → Left bytes → Before bytes vs o → ToGiveAt room spot p [] vs o)
    → IfErr r (λ stop. (bytes : List ℕ) (vs : List (ℕ × Vertex)) (o : Option Offence) → Left bytes → Before bytes vs o → IsBad stop vs o)
last_bad (Ok given) Left Before room spot was held p same ends at = tt
last_bad (Err Source) Left Before room spot was held p same ends at = λ _ _ _ _ _. tt
last_bad (Err (Bad line kind)) Left Before room spot was held p same ends at = λ bytes vs o left before. ends.at vs o (subst (λ (r : ℕ). ToGiveAt r spot p [] vs o) (sym same) (at bytes vs o left before))

-- what is to be given does not depend on whether the parser is spent

to_give_spent : (room : ℕ) (v p : ParserView) (spent : Bool) (bytes : List ℕ) (vs : List (ℕ × Vertex)) (o : Option Offence) → v ≡ p → ToGive room p bytes vs o → ToGive room (record v { spent = spent }) bytes vs o
to_give_spent room v p spent bytes vs o same h =
    let g = subst (λ (w : ParserView). ToGive room w bytes vs o) (sym same) h in
    record { given = g.given; refused = g.refused }

pub given_spent : (r : Result Bool TextStop) (Left New : List ℕ → Type 0) (Before : List ℕ → List (ℕ × Vertex) → Option Offence → Type 0) (room : ℕ) (held : HeldVertex) (v p : ParserView) (spent : Bool) → v ≡ p
    → IfOk r (λ given. IsTrue given → (bytes : List ℕ) (vs : List (ℕ × Vertex)) (o : Option Offence) → Left bytes → Before bytes vs o → Begins New room p held vs o)
    → IfOk r (λ given. IsTrue given → (bytes : List ℕ) (vs : List (ℕ × Vertex)) (o : Option Offence) → Left bytes → Before bytes vs o → Begins New room (record v { spent = spent }) held vs o)
given_spent (Ok given) Left New Before room held v p spent same h = λ e bytes vs o left before.
    let b = h e bytes vs o left before in
    record { bytes = b.bytes; others = b.others; is = b.is; are_left = b.are_left; to_give = to_give_spent room v p spent b.bytes b.others o same b.to_give }
given_spent (Err stop) Left New Before room held v p spent same h = tt

pub ended_spent : (r : Result Bool TextStop) (v p : ParserView) (spent : Bool) → v ≡ p → IfOk r (λ given. IsFalse given → (room : ℕ) → ToGive room p [] [] None)
    → IfOk r (λ given. IsFalse given → (room : ℕ) → ToGive room (record v { spent = spent }) [] [] None)
ended_spent (Ok given) v p spent same h = λ e room. to_give_spent room v p spent [] [] None same (h e room)
ended_spent (Err stop) v p spent same h = tt
