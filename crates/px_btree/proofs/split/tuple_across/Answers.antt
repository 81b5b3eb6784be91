use Rattle.std.proofs.Common.{◌≡◌, ◌∷◌, ◌∙◌, ap, drop, rules, arith}
use Rattle.px_pages.specs.Page.{tuples_of, used_of, left_of, entry_of}
use Rattle.px_pages.proofs.Places.{head_is, here_at, next_at}
use Rattle.px_btree.proofs.Halving.{whole_of}
use Rattle.px_btree.proofs.split.tuple_across.Goals as goal

pub place_at-after-requires-clause-left : goal.place_at-after-requires-clause-left
place_at-after-requires-clause-left c =
    let is = c.loop-tuple.invariant in
    let page = c.args.page.now in
    let t = c.in-Some.tuple in
    let now : drop c.loop-tuple.index (tuples_of page) ≡ entry_of t page ∷ left_of c.next.new.self page = is.left ∙ c.in-Some.ensures.some in
    (head_is c.loop-tuple.index (tuples_of page) (entry_of t page) (left_of c.next.new.self page) now).rest_is

pub place_at-after-requires-clause-at : goal.place_at-after-requires-clause-at
place_at-after-requires-clause-at c =
    let is = c.loop-tuple.invariant in
    let page = c.args.page.now in
    let t = c.in-Some.tuple in
    let now : drop c.loop-tuple.index (tuples_of page) ≡ entry_of t page ∷ left_of c.next.new.self page = is.left ∙ c.in-Some.ensures.some in
    next_at page c.loop-tuple.index c.loop-tuple.at is.index is.at t _ now c.in-Some.ensures.within (omega (arith, is.reader, c.in-Some.ensures.place))

pub returns-then-at-limit-clause-some : goal.returns-then-at-limit-clause-some
returns-then-at-limit-clause-some c =
    let is = c.loop-tuple.invariant in
    let page = c.args.page.now in
    let t = c.in-Some.tuple in
    let now : drop c.loop-tuple.index (tuples_of page) ≡ entry_of t page ∷ left_of c.next.new.self page = is.left ∙ c.in-Some.ensures.some in
    let after = c.place_at-after.ensures in
    record {
      before = here_at page c.loop-tuple.index c.loop-tuple.at is.index is.at t _ now c.in-Some.ensures.within;
      after = after.place;
      next = after.index;
      tuple = (head_is c.loop-tuple.index (tuples_of page) (entry_of t page) (left_of c.next.new.self page) now).get;
      low = is.below;
      high = omega (arith, after.at, c.if-at-limit.true);
    }

pub loop-tuple-preserved : goal.loop-tuple-preserved
loop-tuple-preserved c =
    let is = c.loop-tuple.invariant in
    let page = c.args.page.now in
    let t = c.in-Some.tuple in
    let now : drop c.loop-tuple.index (tuples_of page) ≡ entry_of t page ∷ left_of c.next.new.self page = is.left ∙ c.in-Some.ensures.some in
    let head = head_is c.loop-tuple.index (tuples_of page) (entry_of t page) (left_of c.next.new.self page) now in
    record {
      index = head.within;
      left = head.rest_is;
      at = next_at page c.loop-tuple.index c.loop-tuple.at is.index is.at t _ now c.in-Some.ensures.within (omega (arith, is.reader, c.in-Some.ensures.place));
      reader = c.in-Some.ensures.after;
      below = search rules;
      few = omega (arith, is.few, is.reader, c.in-Some.ensures.place);
      end = c.in-Some.ensures.within;
    }

pub returns-clause-none : goal.returns-clause-none
returns-clause-none c =
    let is = c.loop-tuple.invariant in
    omega (arith, is.at, is.below, ap used_of (whole_of c.loop-tuple.index (tuples_of c.args.page.now) (is.left ∙ c.in_default.ensures.none)))
