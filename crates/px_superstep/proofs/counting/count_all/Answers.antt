use Rattle.std.proofs.Common.{rules, arith, ◌≡◌, ◌<◌, ℕ, subst, length}
use Rattle.std.proofs.lemmas.Result.{err_from_is_err_and}
use Rattle.px_core.specs.Parts.{to_part}
use Rattle.px_core.proofs.Steps.{broke_after}
use Rattle.px_cache.specs.View.{AnyFile}
use Rattle.px_store.proofs.Apart.{desk_refl, desk_then}
use Rattle.px_load.proofs.ScanningSteps.{keep_refl, keep_then, hold_kept}
use Rattle.px_superstep.specs.Counting.{IsCounted}
use Rattle.px_superstep.proofs.Tallying.{counted_next}
use Rattle.px_superstep.proofs.counting.count_all.Goals as goal

pub loop-q-init : goal.loop-q-init
loop-q-init g c = record {
  keeps = keep_refl _ c.args.stores.now;
  counted = λ k hold. record { each = λ q low. absurd (omega (arith, low)) };
  count = search rules;
  end = search rules;
  below = omega arith;
  parts = search rules;
  desk = desk_refl _;
  free = search rules;
  clean = search rules;
  vertex = search rules;
}

pub loop-q-preserved : goal.loop-q-preserved
loop-q-preserved g c =
    let i = c.loop-q.invariant in
    let q = c.loop-q.q in
    let xs = c.args.stores.now in
    let parts = length xs in
    let low : q < parts = omega (arith, c.loop-q-test.true, i.end) in
    let one = c.in_ok-tally.ensures in
    record {
      keeps = keep_then _ _ _ xs c.loop-q.stores c.count_at.new.stores i.keeps one.keeps;
      counted = λ k hold.
          let now = one.counted k (hold_kept _ _ xs c.loop-q.stores k i.count i.keeps hold) in
          let mine = subst (λ (n : ℕ). IsCounted c.in_ok-tally.tally (to_part n q k)) i.count now in
          counted_next parts q c.loop-q.tallies c.note_tally.new.tallies c.in_ok-tally.tally k c.note_tally.ensures.at c.note_tally.ensures.others mine (i.counted k hold);
      count = search rules;
      end = search rules;
      below = omega (arith, low);
      parts = search rules;
      desk = desk_then _ _ _ i.desk c.count_at.ensures.desk;
      free = search rules;
      clean = search rules;
      vertex = search rules;
    }

pub returns-clause-counted : goal.returns-clause-counted
returns-clause-counted g c = λ k hold.
    let i = c.loop-q.invariant in
    let f = i.counted k hold in
    record { each = λ q low. f.each q (omega (arith, low, c.loop-q-test.false, i.end)) }

pub returns-in_err-tally-clause-desk : goal.returns-in_err-tally-clause-desk
returns-in_err-tally-clause-desk g c = desk_then _ _ _ c.loop-q.invariant.desk c.count_at.ensures.desk

pub returns-in_err-tally-clause-err : goal.returns-in_err-tally-clause-err
returns-in_err-tally-clause-err g c =
    let end = err_from_is_err_and c.from_residual.result c.from_residual.ensures.1 in
    let stop : end.0 ≡ c.in_err-tally.field-0.0 = cc in
    rw (end.1, stop) (broke_after _ AnyFile _ _ _ _ c.loop-q.invariant.clean c.in_err-tally.ensures.err)
