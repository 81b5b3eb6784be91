use Rattle.std.proofs.Common.{◌≡◌, ◌+◌, ◌-◌, ◌≤◌, subst, ℕ, length, arith}
use Rattle.px_cache.proofs.Pins.{some_free, same_then}
use Rattle.px_store.proofs.Apart.{clean_then}
use Rattle.px_btree.specs.Find.{CameTo}
use Rattle.px_btree.proofs.Levels.{came_leaf}
use Rattle.px_btree.proofs.Marking.{down_spot}
use Rattle.px_btree.proofs.descent.descend.Goals as goal

pub step-requires-clause-pins : goal.step-requires-clause-pins
step-requires-clause-pins g c = c.loop-level.invariant.stays.none c.requires.pins

pub loop-level-preserved : goal.loop-level-preserved
loop-level-preserved g c =
    let shown = g.D.Disk.shown in
    let inv = c.loop-level.invariant in
    let step = c.in_ok-page.ensures in
    let k = c.loop-level.level - 1 in
    let next : k + 1 ≡ c.loop-level.level + 1 - 1 = omega (arith, inv.least) in
    record {
      came = λ ps levels sh at is.
          let two : k + 2 ≤ length levels = omega (arith, inv.least, is, c.loop-level-test.true) in
          subst (λ (n : ℕ). CameTo c.args.vid n c.args.file (shown c.args.disk.now).page_len levels c.in_ok-page.page c.step.new.cache (shown c.step.new.disk) ps) next
          (step.down k (shown c.args.disk.now).page_len ps levels (inv.came ps levels sh at is) two);
      least = omega arith;
      most = omega (arith, c.loop-level-test.true);
      others = λ f ps other sh. step.others f ps other (inv.others f ps other sh);
      stays = same_then c.args.cache.now c.loop-level.cache c.step.new.cache inv.stays step.stays;
      reads = omega (arith, step.reads, inv.reads);
      clean = clean_then (shown c.args.disk.now) (shown c.loop-level.disk) (shown c.step.new.disk) inv.clean step.ok;
    }

pub load-requires-clause-free : goal.load-requires-clause-free
load-requires-clause-free g c = some_free c.loop-level.cache.notes (c.loop-level.invariant.stays.none c.requires.pins)

pub returns-clause-goes : goal.returns-clause-goes
returns-clause-goes g c = λ ps levels sh at is.
    let shown = g.D.Disk.shown in
    let inv = c.loop-level.invariant in
    let load = c.in_ok-frame.ensures in
    let i = c.in_ok-frame.frame in
    let last : length levels ≡ c.loop-level.level - 1 + 1 = omega (arith, is, inv.least, inv.most, c.loop-level-test.false) in
    let reaches = came_leaf c.args.vid (c.loop-level.level - 1) c.args.file (shown c.args.disk.now).page_len c.loop-level.page i levels c.loop-level.cache c.load.new.self (shown c.loop-level.disk) (shown c.load.new.disk) ps
    (inv.came ps levels sh at is) last load.shows load.brought.holds in
    down_spot c.args.vid c.args.file i c.loop-level.page c.find-place.result c.frame-leaf.result.now c.load.new.self (shown c.load.new.disk) ps levels reaches load.brought.holds c.frame-leaf.ensures.bytes c.find-place.ensures.place c.find-place.ensures.first
