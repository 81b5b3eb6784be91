use Rattle.std.proofs.Common.{◌≤◌, subst, arith, ap}
use Rattle.px_graph_text.specs.Reading.{ParserView}
use Rattle.px_graph_text.proofs.Ending.{ended, ends_text, ends_bad}
use Rattle.px_graph_text.proofs.parser.Parser.end_text.Goals as goal

pub returns-in-Ok-clause-ends : goal.returns-in-Ok-clause-ends
returns-in-Ok-clause-ends c =
    let P : ParserView → Type 0 = λ v. v.place ≤ v.limit in
    let le : c.self.inside.place ≤ c.self.inside.limit = omega (arith, c.self.invariant) in
    ends_text _ _ _ _ c.in-Ok.gives c.requires.over (subst P c.self.view_is le) c.in-Ok.ensures

pub returns-in-Err-clause-ends : goal.returns-in-Err-clause-ends
returns-in-Err-clause-ends c =
    let P : ParserView → Type 0 = λ v. v.place ≤ v.limit in
    let le : c.self.inside.place ≤ c.self.inside.limit = omega (arith, c.self.invariant) in
    ends_bad _ _ _ _ _ _ (ap (λ (v : ParserView). v.line) c.self.view_is) c.requires.over (subst P c.self.view_is le) c.in-Err.ensures

pub returns-in-Ok-clause-ended : goal.returns-in-Ok-clause-ended
returns-in-Ok-clause-ended c = λ room.
    let P : ParserView → Type 0 = λ v. v.place ≤ v.limit in
    let le : c.self.inside.place ≤ c.self.inside.limit = omega (arith, c.self.invariant) in
    ended room _ c.requires.over (subst P c.self.view_is le)

pub returns-in-Err-clause-ended : goal.returns-in-Err-clause-ended
returns-in-Err-clause-ended c = λ room.
    let P : ParserView → Type 0 = λ v. v.place ≤ v.limit in
    let le : c.self.inside.place ≤ c.self.inside.limit = omega (arith, c.self.invariant) in
    ended room _ c.requires.over (subst P c.self.view_is le)
