use Rattle.std.proofs.Common.{◌≡◌, ℕ, Bool, Ok, sym, subst, ap}
use Rattle.std.proofs.lemmas.Result.{err_from_is_err_and}
use Rattle.px_graph_text.specs.declared.line.State.TheVariants.{Start}
use Rattle.px_graph_text.specs.declared.line.Stop.{Stop}
use Rattle.px_graph_text.specs.Steps.{spot_of}
use Rattle.px_graph_text.specs.Reading.{ParserView}
use Rattle.px_graph_text.specs.Passing.{Meets, EndsLine, HasOffence}
use Rattle.px_graph_text.proofs.Passing.{long_refused, byte_refused, then_first, then_on, then_refused}
use Rattle.px_graph_text.proofs.parser.Parser.pass.Goals as goal

pub returns-then-self-clause-passes : goal.returns-then-self-clause-passes
returns-then-self-clause-passes c =
    let P : ParserView → Type 0 = λ v. v.place ≡ v.limit in
    long_refused _ _ _ c.requires.ahead (subst P c.self.view_is c.if-self.true)

pub returns-in_err-end_line-in-LineFeed-clause-passes : goal.returns-in_err-end_line-in-LineFeed-clause-passes
returns-in_err-end_line-in-LineFeed-clause-passes c =
    let a = c.advance-followed in
    let e = c.in_err-end_line-in-LineFeed in
    let is = err_from_is_err_and c.from_residual.result c.from_residual.ensures.1 in
    rw is.1 (rw is.2 (then_refused _ _ a.new.into _ a.new.self a.result.state e.field-0.0 a.ensures.frame.room (ap (λ (v : ParserView). v.line) a.ensures.same) a.ensures.goes_on e.ensures.ends))

pub returns-then-branch-clause-passes : goal.returns-then-branch-clause-passes
returns-then-branch-clause-passes c =
    let a = c.advance-followed in
    let e = c.in_ok-end_line-in-LineFeed in
    then_first _ _ a.new.into _ _ a.new.self _ a.result.state a.ensures.frame.room a.ensures.goes_on
    (subst (λ (b : Bool). EndsLine (spot_of a.result.state a.new.into) a.new.into c.end_line.new.into a.new.self c.end_line.new.self (Ok b)) c.if-branch.true e.ensures.ends)

pub returns-else-branch-clause-passes : goal.returns-else-branch-clause-passes
returns-else-branch-clause-passes c =
    let a = c.advance-followed in
    let e = c.in_ok-end_line-in-LineFeed in
    then_on _ _ a.new.into _ _ a.new.self _ a.result.state Start a.ensures.frame.room a.ensures.goes_on
    (subst (λ (b : Bool). EndsLine (spot_of a.result.state a.new.into) a.new.into c.end_line.new.into a.new.self c.end_line.new.self (Ok b)) c.if-branch.false e.ensures.ends)

pub returns-in-Offence-clause-passes : goal.returns-in-Offence-clause-passes
returns-in-Offence-clause-passes c =
    let a = c.advance-followed in
    let meets = subst (λ (s : Stop). Meets c.args.into.now.room (spot_of a.result.state a.new.into) c.args.self.now a.new.self s) c.in-Offence.is a.ensures.meets in
    let offence = subst (λ (r : ℕ). HasOffence r (spot_of a.result.state a.new.into) a.new.self c.in-Offence.kind) (sym a.ensures.frame.room) meets in
    then_refused _ _ a.new.into _ a.new.self a.result.state c.in-Offence.kind a.ensures.frame.room (ap (λ (v : ParserView). v.line) a.ensures.same) a.ensures.goes_on (byte_refused _ _ _ _ offence)
