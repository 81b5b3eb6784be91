use Rattle.std.proofs.Common.{rules, ◌≡◌, ℕ, List, [], Option, Ok, subst, ap, ◌∙◌, sym}
use Rattle.px_meaning.specs.Graph.{Vertex}
use Rattle.px_meaning.specs.GraphText.{Offence}
use Rattle.px_graph_text.specs.declared.line.State.{State}
use Rattle.px_graph_text.specs.Steps.{spot_of}
use Rattle.px_graph_text.specs.Reading.{ParserView, ToGive, left}
use Rattle.px_graph_text.specs.Passing.{ToGiveAt, Still, Passes}
use Rattle.px_graph_text.proofs.Ending.{refilled, still_on, still_first, still_refused, still_none, none_left, last_given, last_over, last_bad}
use Rattle.px_graph_text.proofs.parser.Parser.find.Given.{Over}
use Rattle.px_graph_text.proofs.parser.Parser.find.Goals as goal
use Rattle.px_graph_text.proofs.parser.Parser.find.Goals.{After-pass, After-end_text}

-- what is still to be given before a line is gone over
before : (g : Over) (c : After-pass g) (bytes : List ℕ) (vs : List (ℕ × Vertex)) (o : Option Offence) → g.R.Source.left c.args.source.now bytes → ToGive c.args.into.now.room c.args.self.now bytes vs o
    → Still (g.R.Source.left c.fill.new.source) (λ rest. ToGiveAt c.args.into.now.room (spot_of c.loop-self.state c.loop-self.into) c.fill.new.self rest vs o)
before g c bytes vs o left h = refilled (g.R.Source.left c.loop-self.source) (g.R.Source.left c.fill.new.source) c.args.into.now.room _ c.loop-self.self c.fill.new.self vs o c.fill.ensures.same c.in_ok-fill.ensures.filled (c.loop-self.invariant.to_give bytes vs o left h)

pub loop-self-preserved : goal.loop-self-preserved
loop-self-preserved g c =
    let i = c.loop-self.invariant in
    let k = (goal.at.loop-self-preserved g c).After-pass in
    let passes = subst (λ (r : Option State). Passes (spot_of c.loop-self.state c.loop-self.into) c.loop-self.into c.pass.new.into c.fill.new.self c.pass.new.self (Ok r)) c.in-Ok-Some.field-0-is c.in-Ok-Some.ensures.passes in
    record {
      to_give = λ bytes vs o left h. still_on (g.R.Source.left c.fill.new.source) c.args.into.now.room _ c.loop-self.into _ _ _ c.in-Ok-Some.next vs o i.frame.room passes (before g k bytes vs o left h);
      holds = passes.holds;
      begun = search rules;
      forward = search rules;
      faults = search rules;
      same = search rules;
      frame = search rules;
    }

pub returns-in-Ok-None-clause-given : goal.returns-in-Ok-None-clause-given
returns-in-Ok-None-clause-given g c = λ _ bytes vs o left h.
    let passes = subst (λ (r : Option State). Passes (spot_of c.loop-self.state c.loop-self.into) c.loop-self.into c.pass.new.into c.fill.new.self c.pass.new.self (Ok r)) c.in-Ok-None.field-0-is c.in-Ok-None.ensures.passes in
    still_first (g.R.Source.left c.fill.new.source) c.args.into.now.room _ c.loop-self.into _ _ _ vs o c.loop-self.invariant.frame.room passes (before g ((goal.at.returns-in-Ok-None-clause-given g c).After-pass) bytes vs o left h)

pub returns-in-Err-clause-bad : goal.returns-in-Err-clause-bad
returns-in-Err-clause-bad g c = λ bytes vs o left h.
    let at = still_refused (g.R.Source.left c.fill.new.source) c.args.into.now.room _ c.loop-self.into _ c.in-Err.kind vs o c.loop-self.invariant.frame.room c.in-Err.ensures.passes (before g ((goal.at.returns-in-Err-clause-bad g c).After-pass) bytes vs o left h) in
    rw c.bad.ensures (rw c.in-Err.ensures.line at)

-- the same at the end of the text

none : (g : Over) (c : After-end_text g) (rest : List ℕ) → g.R.Source.left c.loop-self.source rest → rest ≡ []
none g c = c.in_ok-fill.ensures.end c.if-branch.false

at_end : (g : Over) (c : After-end_text g) (bytes : List ℕ) (vs : List (ℕ × Vertex)) (o : Option Offence) → g.R.Source.left c.args.source.now bytes → ToGive c.args.into.now.room c.args.self.now bytes vs o
    → ToGiveAt c.args.into.now.room (spot_of c.loop-self.state c.loop-self.into) c.fill.new.self [] vs o
at_end g c bytes vs o left h =
    let is : c.fill.new.self ≡ c.loop-self.self = c.fill.ensures.same ∙ ap (λ (l : List ℕ). record c.loop-self.self { ahead = l }) (c.in_ok-fill.ensures.over c.if-branch.false ∙ sym (c.in_ok-fill.ensures.was_over c.if-branch.false)) in
    subst (λ (v : ParserView). ToGiveAt c.args.into.now.room (spot_of c.loop-self.state c.loop-self.into) v [] vs o) (sym is)
    (none_left (g.R.Source.left c.loop-self.source) c.args.into.now.room _ c.loop-self.self vs o (none g c) (c.loop-self.invariant.to_give bytes vs o left h))

no_more : (g : Over) (c : After-end_text g) (bytes : List ℕ) (vs : List (ℕ × Vertex)) (o : Option Offence) → g.R.Source.left c.args.source.now bytes → ToGive c.args.into.now.room c.args.self.now bytes vs o → g.R.Source.left c.fill.new.source []
no_more g c bytes vs o left h =
    let s = c.loop-self.invariant.to_give bytes vs o left h in
    still_none (g.R.Source.left c.loop-self.source) (g.R.Source.left c.fill.new.source) c.loop-self.self c.fill.new.self s.bytes (c.in_ok-fill.ensures.was_over c.if-branch.false) (c.in_ok-fill.ensures.over c.if-branch.false) (none g c) c.in_ok-fill.ensures.filled s.are_left

pub returns-clause-given : goal.returns-clause-given
returns-clause-given g c =
    last_given c.end_text.result (g.R.Source.left c.args.source.now) (g.R.Source.left c.fill.new.source) (ToGive c.args.into.now.room c.args.self.now) c.args.into.now.room _ c.loop-self.into _ _ c.loop-self.invariant.frame.room c.end_text.ensures.ends (at_end g c) (no_more g c)

pub returns-clause-over : goal.returns-clause-over
returns-clause-over g c =
    last_over c.end_text.result (g.R.Source.left c.args.source.now) (g.R.Source.left c.fill.new.source) (ToGive c.args.into.now.room c.args.self.now) c.args.into.now.room _ c.loop-self.into _ _ c.loop-self.invariant.frame.room c.end_text.ensures.ends (at_end g c) (no_more g c)

pub returns-clause-bad : goal.returns-clause-bad
returns-clause-bad g c =
    last_bad c.end_text.result (g.R.Source.left c.args.source.now) (ToGive c.args.into.now.room c.args.self.now) c.args.into.now.room _ c.loop-self.into _ _ c.loop-self.invariant.frame.room c.end_text.ensures.ends (at_end g c)
