use Rattle.std.proofs.Common.{◌≤◌, ◌+◌, ◌-◌, ℕ, List, length, take, drop, sym, subst, ap, ◌∙◌, arith}
use Rattle.std.proofs.lemmas.Result.{err_from_is_err_and}
use Rattle.px_meaning.specs.GraphText.{line_feed}
use Rattle.px_graph_text.specs.Reading.{ParserView}
use Rattle.px_graph_text.specs.Passing.{HasNext}
use Rattle.px_graph_text.proofs.Frames.{skipped}
use Rattle.px_graph_text.proofs.Passing.{fed, ends_line, feed_refused}
use Rattle.px_graph_text.proofs.parser.Parser.end_line.Goals as goal

pub returns-clause-ends : goal.returns-clause-ends
returns-clause-ends c =
    let p = c.self.inside in
    let view : ParserView = record { ahead = take (p.to - p.from) (drop p.from p.frame); place = p.place; line = p.line; limit = p.limit; frame_len = length p.frame; spent = p.spent } in
    let feed : HasNext view line_feed = subst (λ (v : ParserView). HasNext v line_feed) (sym c.self.view_is) c.requires.feed in
    let some : 1 ≤ length view.ahead = omega (arith, ap length feed.is) in
    let is = ap (λ (l : List ℕ). record view { ahead = l; place = p.place + 1; line = p.line + 1 }) (skipped p.from p.to 1 p.frame some) in
    ends_line _ _ _ _ _ c.in_ok-gives.gives (is ∙ ap fed c.self.view_is) c.requires.feed c.in_ok-gives.ensures

pub returns-in_err-gives-clause-ends : goal.returns-in_err-gives-clause-ends
returns-in_err-gives-clause-ends c =
    let is = err_from_is_err_and c.from_residual.result c.from_residual.ensures.1 in
    rw is.1 (rw is.2 (feed_refused _ _ _ _ _ c.requires.feed c.in_err-gives.ensures))
