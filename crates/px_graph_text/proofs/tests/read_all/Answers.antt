use Rattle.std.proofs.Common.{rules, ◌++◌, ◌∷◌, [], ℕ, Err, ap, ◌∙◌}
use Rattle.px_graph_text.proofs.Collecting.{collects_more, collected, bad_given, collected_good, collected_bad}
use Rattle.px_graph_text.proofs.tests.read_all.Goals as goal

pub vertices-preserved : goal.vertices-preserved
vertices-preserved g c =
    let i = c.vertices.invariant in
    let e = c.in-Ok-true in
    let is = c.in_ok-push-in-Ok-true.ensures.items ∙ ap (λ (v : ℕ). c.vertices.found.items ++ v ∷ []) c.vid.ensures in
    record {
      collects = λ bytes vs o left h.
          collects_more (g.R.Source.left c.vertices.source) (g.R.Source.left c.next.new.source) c.args.into.now.room c.vertices.into.room c.vertices.parser c.next.new.self c.args.found.now.items c.vertices.found.items c.push.new.self.items
          c.next.new.into vs o i.room is (e.ensures.given e.field-0-test) (i.collects bytes vs o left h);
      spent = search rules;
      room = search rules;
      faults = search rules;
      same = search rules;
    }

pub returns-in-Ok-false-clause-found : goal.returns-in-Ok-false-clause-found
returns-in-Ok-false-clause-found g c = λ _ bytes vs o left h.
    let e = c.in-Ok-false in
    collected (g.R.Source.left c.vertices.source) c.args.into.now.room c.vertices.into.room c.vertices.parser c.args.found.now.items c.vertices.found.items vs o c.vertices.invariant.room
    (λ rest ws p are_left to_give. (e.ensures.over e.field-0-test rest ws p are_left to_give).given) (c.vertices.invariant.collects bytes vs o left h)

pub returns-in-Err-clause-found : goal.returns-in-Err-clause-found
returns-in-Err-clause-found g c = λ not bytes vs o left h.
    collected (g.R.Source.left c.vertices.source) c.args.into.now.room c.vertices.into.room c.vertices.parser c.args.found.now.items c.vertices.found.items vs o c.vertices.invariant.room
    (λ rest ws p are_left to_give. bad_given c.in-Err.stop ws p (λ is. not (ap Err is)) (c.in-Err.ensures.bad rest ws p are_left to_give)) (c.vertices.invariant.collects bytes vs o left h)

pub returns-in-Ok-false-clause-good : goal.returns-in-Ok-false-clause-good
returns-in-Ok-false-clause-good g c = λ bytes vs o left h.
    let e = c.in-Ok-false in
    collected_good (g.R.Source.left c.vertices.source) (g.R.Source.left c.next.new.source) c.args.into.now.room c.vertices.into.room c.vertices.parser c.args.found.now.items c.vertices.found.items vs o c.vertices.invariant.room
    (e.ensures.over e.field-0-test) (c.vertices.invariant.collects bytes vs o left h)

pub returns-in-Err-clause-bad : goal.returns-in-Err-clause-bad
returns-in-Err-clause-bad g c = λ bytes vs o left h.
    collected_bad (g.R.Source.left c.vertices.source) c.args.into.now.room c.vertices.into.room c.vertices.parser c.args.found.now.items c.vertices.found.items vs o c.in-Err.stop c.vertices.invariant.room
    c.in-Err.ensures.bad (c.vertices.invariant.collects bytes vs o left h)
