use Rattle.std.proofs.Common.{◌≡◌, ◌≤◌, ◌<◌, ◌+◌, ◌-◌, ◌/◌, ℕ, true, false, [], length, get_or, ap, sym, arith}
use Rattle.std.proofs.lemmas.Bool.Decides.{nat_tests}
use Rattle.std.proofs.lemmas.List.Sums.{prefix_len_is}
use Rattle.px_pages.specs.Entry.{Entry, entry}
use Rattle.px_pages.specs.Page.{tuples_of}
use Rattle.px_pages.specs.Children.{is_up_to}
use Rattle.px_pages.specs.declared.inner.Child.{Child}
use Rattle.px_pages.proofs.inner.children_to.Goals as goal

up_to : (key : ℕ) (e : Entry) → e.key ≤ key → is_up_to key e ≡ true
up_to key e le = grind (arith, nat_tests)

not_up_to : (key : ℕ) (e : Entry) → key < e.key → is_up_to key e ≡ false
not_up_to key e lt = grind (arith, nat_tests)

pub loop-low-preserved-then-child_at-key : goal.loop-low-preserved-then-child_at-key
loop-low-preserved-then-child_at-key c =
    let is = c.loop-low.invariant in
    let mid = c.loop-low.low + (c.loop-low.high - c.loop-low.low) / 2 in
    record {
      order = omega arith;
      within = is.within;
      below = λ all up k d lt.
          let ts = tuples_of c.args.page.now in
          let count : c.child_count-high.result ≡ length ts = c.child_count-high.ensures.all all in
          let in_range : mid < length ts = omega (arith, count, c.child_count-high.ensures.value) in
          let same = ap (λ (x : Child). x.key) (c.child_at.ensures all d) in
          omega (arith, up k mid d (omega (arith, lt)) in_range, same, c.if-child_at-key.true);
      above = is.above;
    }

pub loop-low-preserved : goal.loop-low-preserved
loop-low-preserved c =
    let is = c.loop-low.invariant in
    let mid = c.loop-low.low + (c.loop-low.high - c.loop-low.low) / 2 in
    record {
      order = omega arith;
      within = omega arith;
      below = is.below;
      above = λ all up k d ge lt.
          let ts = tuples_of c.args.page.now in
          let same = ap (λ (x : Child). x.key) (c.child_at.ensures all d) in
          omega (arith, up mid k d ge lt, same, c.if-child_at-key.false);
    }

pub returns-clause-value : goal.returns-clause-value
returns-clause-value c = λ all up.
    let is = c.loop-low.invariant in
    let ts = tuples_of c.args.page.now in
    let low = c.loop-low.low in
    let d = entry 0 0 [] in
    let count : c.child_count-high.result ≡ length ts = c.child_count-high.ensures.all all in
    let in_range : low ≤ length ts = omega (arith, count, c.child_count-high.ensures.value, c.loop-low-test.false) in
    sym (prefix_len_is (is_up_to c.args.key) ts low d in_range
    (λ k lt. up_to c.args.key (get_or ts k d) (is.below all up k d lt))
    (λ lt. not_up_to c.args.key (get_or ts low d) (is.above all up low d (omega (arith, c.loop-low-test.false)) lt)))
