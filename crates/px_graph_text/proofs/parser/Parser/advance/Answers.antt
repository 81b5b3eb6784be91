use Rattle.std.proofs.Common.{◌≡◌, ◌≤◌, ◌+◌, ◌<◌, ℕ, List, length, take, subst, ap, arith}
use Rattle.px_graph_text.specs.Steps.{spot_of, Follows}
use Rattle.px_graph_text.specs.Reading.{ParserView}
use Rattle.px_graph_text.proofs.Passing.{advanced, meets}
use Rattle.px_graph_text.proofs.parser.Parser.advance.Goals as goal

pub returns-clause-goes_on : goal.returns-clause-goes_on
returns-clause-goes_on c =
    let f = c.follow-followed in
    let within : c.args.self.now.place + c.min-most.result ≤ c.args.self.now.limit =
    omega (arith, c.min-most.ensures, ap (λ (v : ParserView). v.place) c.self.view_is, ap (λ (v : ParserView). v.limit) c.self.view_is, c.self.invariant) in
    advanced _ _ _ _ _ c.min-most.result f.result c.skip.ensures within
    (subst (λ (l : List ℕ). Follows (spot_of c.args.state c.args.into.now) (take c.min-most.result l) c.args.into.now f.new.into f.result) c.ahead-ahead.ensures f.ensures)

pub returns-clause-meets : goal.returns-clause-meets
returns-clause-meets c =
    let f = c.follow-followed in
    let place : c.self.inside.place ≡ c.args.self.now.place = ap (λ (v : ParserView). v.place) c.self.view_is in
    let limit : c.self.inside.limit ≡ c.args.self.now.limit = ap (λ (v : ParserView). v.limit) c.self.view_is in
    let ahead : length c.ahead-ahead.result.now ≡ length c.args.self.now.ahead = ap length c.ahead-ahead.ensures in
    let within : c.args.self.now.place + c.min-most.result ≤ c.args.self.now.limit = omega (arith, c.min-most.ensures, place, limit, c.self.invariant) in
    let some : 0 < c.min-most.result = omega (arith, c.min-most.ensures, place, limit, ahead, c.requires.ahead, c.requires.limit) in
    let len : c.min-most.result ≤ length c.args.self.now.ahead = omega (arith, c.min-most.ensures, ahead) in
    meets (spot_of c.args.state c.args.into.now) c.args.into.now f.new.into c.args.self.now c.skip.new.self c.min-most.result f.result c.skip.ensures some len within
    (subst (λ (l : List ℕ). Follows (spot_of c.args.state c.args.into.now) (take c.min-most.result l) c.args.into.now f.new.into f.result) c.ahead-ahead.ensures f.ensures)
