use Rattle.std.proofs.Common.{rules, ◌<◌, ◌∙◌, arith}
use Rattle.px_connectors.specs.Writers.{parts_in}
use Rattle.px_connectors.proofs.Parting.{starting_next, started}
use Rattle.px_connectors.proofs.writers.PartWriters.start.Goals as goal

pub loop-q-preserved : goal.loop-q-preserved
loop-q-preserved g c =
    let i = c.loop-q.invariant in
    let s = g.D.Disk.shown c.loop-q.disk in
    let v = c.loop-q.self in
    let lt : c.loop-q.q < parts_in v = omega (arith, c.loop-q-test.true, c.parts-q-end.ensures.value, i.stays.parts) in
    record {
      starting = λ tells. starting_next s _ c.loop-q.q v c.start_at.new.self i.are c.in_ok-start_at.ensures.ok.touches lt (c.in_ok-start_at.ensures.took (i.clean.touches.tells ∙ tells)) c.start_at.ensures.others (i.starting tells);
      clean = search rules;
      stays = search rules;
      are = search rules;
      pages = search rules;
    }

pub returns-clause-took : goal.returns-clause-took
returns-clause-took g c = λ tells tag.
    let i = c.loop-q.invariant in
    started _ c.loop-q.q c.loop-q.self tag i.are (omega (arith, c.loop-q-test.false, c.parts-q-end.ensures.value, i.stays.parts)) (i.starting tells)
