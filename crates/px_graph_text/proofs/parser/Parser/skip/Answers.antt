use Rattle.std.proofs.Common.{◌≤◌, ◌+◌, length, sym, subst, ap}
use Rattle.px_graph_text.specs.Reading.{ParserView}
use Rattle.px_graph_text.proofs.Frames.{skipped}
use Rattle.px_graph_text.proofs.parser.Parser.skip.Goals as goal

pub returns : goal.returns
returns c =
    let P : ParserView → Type 0 = λ v. c.args.count ≤ length v.ahead in
    let le = subst P (sym c.self.view_is) c.requires.ahead in
    rw (← c.self.view_is) (ap (λ l. record { ahead = l; place = c.self.inside.place + c.args.count; line = c.self.inside.line; limit = c.self.inside.limit; frame_len = length c.self.inside.frame; spent = c.self.inside.spent }) (skipped c.self.inside.from c.self.inside.to c.args.count c.self.inside.frame le))
