use Rattle.px_graph_text.specs.Reading.{ToGive}
use Rattle.px_graph_text.proofs.Ending.{given_spent, ended_spent}
use Rattle.px_graph_text.proofs.parser.Parser.next.Goals as goal

pub returns-clause-given : goal.returns-clause-given
returns-clause-given g c =
    let f = c.find-given in
    given_spent f.result (g.R.Source.left c.args.source.now) (g.R.Source.left f.new.source) (ToGive c.args.into.now.room c.args.self.now) c.args.into.now.room f.new.into _ f.new.self c.is_err-self-inside.result c.self.view_is f.ensures.given

pub returns-clause-ended : goal.returns-clause-ended
returns-clause-ended g c = ended_spent c.find-given.result _ c.find-given.new.self c.is_err-self-inside.result c.self.view_is c.find-given.ensures.ended
