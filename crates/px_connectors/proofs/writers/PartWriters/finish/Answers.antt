use Rattle.std.proofs.Common.{rules, ◌<◌, arith}
use Rattle.px_connectors.specs.Writers.{parts_in}
use Rattle.px_connectors.proofs.Parting.{ending_next, ended}
use Rattle.px_connectors.proofs.writers.PartWriters.finish.Goals as goal

pub loop-q-preserved : goal.loop-q-preserved
loop-q-preserved g c =
    let i = c.loop-q.invariant in
    let s = g.D.Disk.shown c.loop-q.disk in
    let v = c.loop-q.self in
    let lt : c.loop-q.q < parts_in c.args.self.now = omega (arith, c.loop-q-test.true, c.parts-q-end.ensures.value) in
    record {
      ending = λ tag k took. ending_next s _ tag c.loop-q.q _ _ v c.finish_at.new.self k i.are i.stays.first i.stays.parts lt c.in_ok-finish_at.ensures.ok.touches
          (c.in_ok-finish_at.ensures.holds tag) c.finish_at.ensures.others c.finish_at.ensures.other_pages (i.ending tag k took);
      clean = search rules;
      stays = search rules;
      are = search rules;
    }

pub returns-clause-holds : goal.returns-clause-holds
returns-clause-holds g c = λ tag k took.
    let i = c.loop-q.invariant in
    ended _ tag c.loop-q.q _ _ c.loop-q.self k c.parts-q-end.ensures.are.most (omega (arith, c.loop-q-test.false, c.parts-q-end.ensures.value)) (i.ending tag k took)
