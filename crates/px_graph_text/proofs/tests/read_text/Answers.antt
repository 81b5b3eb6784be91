use Rattle.std.proofs.Common.{refl}
use Rattle.px_meaning.specs.GraphText.{offence}
use Rattle.px_graph_text.specs.Reading.{vertices_before}
use Rattle.px_graph_text.proofs.Collecting.{answers_so, ends_so, stops_so}
use Rattle.px_graph_text.proofs.tests.read_text.Goals as goal

pub returns-clause-found : goal.returns-clause-found
returns-clause-found c =
    let room = c.args.into.now.room in
    let text = c.args.source.now.left in
    answers_so c.read_all.result _ _ (λ end h not. h not text (vertices_before room c.args.limit text) (offence room c.args.limit text) refl (c.open-parser.ensures.to_give room text)) c.read_all.ensures.found

pub returns-clause-good : goal.returns-clause-good
returns-clause-good c =
    let room = c.args.into.now.room in
    let text = c.args.source.now.left in
    ends_so c.read_all.result _ _ (λ h. h text (vertices_before room c.args.limit text) (offence room c.args.limit text) refl (c.open-parser.ensures.to_give room text)) c.read_all.ensures.good

pub returns-clause-bad : goal.returns-clause-bad
returns-clause-bad c =
    let room = c.args.into.now.room in
    let text = c.args.source.now.left in
    stops_so c.read_all.result _ _ (λ stop h. h text (vertices_before room c.args.limit text) (offence room c.args.limit text) refl (c.open-parser.ensures.to_give room text)) c.read_all.ensures.bad
