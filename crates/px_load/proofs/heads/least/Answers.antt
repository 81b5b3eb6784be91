use Rattle.std.proofs.Common.{arith, refl, ◌≡◌, ◌+◌, sym, subst, ℕ, suc, add-one, get_or}
use Rattle.px_load.specs.Heads.{heads_of}
use Rattle.px_load.proofs.HeadsSteps.{Best, best_next, best_over, best_at, best_least, head_at, reader_at, count_heads}
use Rattle.px_load.proofs.heads.least.Goals as goal

pub loop-i-preserved : goal.loop-i-preserved
loop-i-preserved c =
    let i = c.loop-i.invariant in
    let n = c.loop-i.i in
    let ps = c.args.readers.now in
    let os = heads_of ps in
    let p = get_or ps n c.index-readers-i.result in
    let at = head_at ps n p (reader_at ps n c.index-readers-i.result (omega (arith, c.loop-i-test.true, i.end))) in
    let e : suc n ≡ n + 1 = sym (add-one n) in
    let b = c.better-best.ensures in
    record {
      best = subst (λ (m : ℕ). Best m os c.better-best.result) e (best_next n os _ c.loop-i.best c.better-best.result at b.over b.before b.first b.lower b.chosen i.best);
      end = refl;
    }

pub returns-clause-none : goal.returns-clause-none
returns-clause-none c = let i = c.loop-i.invariant in best_over c.loop-i.i (heads_of c.args.readers.now) c.loop-i.best (omega (arith, c.loop-i-test.false, i.end, count_heads c.args.readers.now)) i.best

pub returns-clause-at : goal.returns-clause-at
returns-clause-at c = best_at c.loop-i.i (heads_of c.args.readers.now) c.loop-i.best c.loop-i.invariant.best

pub returns-clause-least : goal.returns-clause-least
returns-clause-least c = let i = c.loop-i.invariant in best_least c.loop-i.i (heads_of c.args.readers.now) c.loop-i.best (omega (arith, c.loop-i-test.false, i.end, count_heads c.args.readers.now)) i.best
