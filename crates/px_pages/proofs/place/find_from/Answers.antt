use Rattle.std.proofs.Common.{◌≡◌, ◌≤◌, ◌+◌, ℕ, List, length, take, drop, sym, ◌∙◌, ap, subst, ◌∷◌, arith}
use Rattle.std.specs.List.{prefix_len}
use Rattle.px_pages.specs.Entry.{Entry}
use Rattle.px_pages.specs.Page.{PageReaderView, tuples_of, left_of, used_of, entry_of}
use Rattle.px_pages.specs.Place.{IsFront, is_below}
use Rattle.px_pages.proofs.Places.{head_is, here_at, end_at, next_at, left_behind, prefix_behind, prefix_more, few_tuples}
use Rattle.px_pages.proofs.place.find_from.Goals as goal

pub loop-t-init : goal.loop-t-init
loop-t-init c =
    let page = c.args.page.now in
    let from = c.args.from in
    let left : IsFront from.index from.at page → drop from.index (tuples_of page) ≡ left_of c.behind-reader.result page =
    λ is. sym (left_behind page from.index from.at is) ∙ ap (λ (r : PageReaderView). left_of r page) (sym c.behind-reader.ensures) in
    record {
      front = λ is. is;
      left = left;
      reader = ap (λ (r : PageReaderView). r.at) c.behind-reader.ensures;
      before =
          λ is le. prefix_behind (is_below c.args.key) from.index (tuples_of page) le
          ∙ ap (λ (es : List Entry). from.index + prefix_len (is_below c.args.key) es) (left is);
    }

pub returns-then-t-key-clause-place : goal.returns-then-t-key-clause-place
returns-then-t-key-clause-place c =
    λ is. let front = c.loop-t.invariant.front is in
    here_at c.args.page.now c.loop-t.index c.loop-t.at front.index front.at c.in-Some.t _ (c.loop-t.invariant.left is ∙ c.in-Some.ensures.some) c.in-Some.ensures.within

pub loop-t-preserved : goal.loop-t-preserved
loop-t-preserved c =
    let before = c.loop-t.invariant in
    let page = c.args.page.now in
    let from = c.args.from in
    let t = c.in-Some.t in
    let i = c.loop-t.index in
    let rest = left_of c.next.new.self page in
    let now : IsFront from.index from.at page → drop i (tuples_of page) ≡ entry_of t page ∷ rest = λ is. before.left is ∙ c.in-Some.ensures.some in
    let one : IsFront from.index from.at page → c.saturating_add-index.result ≡ i + 1 =
    λ is. omega (
      arith,
      c.saturating_add-index.ensures,
      c.requires.0,
      c.requires.1,
      few_tuples page c.requires.0,
      (head_is i (tuples_of page) (entry_of t page) rest (now is)).within,
    ) in
    record {
      front =
          λ is. let front = before.front is in
          record {
            index = subst (λ (k : ℕ). k ≤ length (tuples_of page)) (sym (one is)) (head_is i (tuples_of page) (entry_of t page) rest (now is)).within;
            at =
                next_at page i c.loop-t.at front.index front.at t rest (now is) c.in-Some.ensures.within (omega (arith, before.reader, c.in-Some.ensures.place))
                ∙ ap (λ (k : ℕ). used_of (take k (tuples_of page))) (sym (one is));
          };
      left =
          λ is. ap (λ (k : ℕ). drop k (tuples_of page)) (one is) ∙ (head_is i (tuples_of page) (entry_of t page) rest (now is)).rest_is;
      reader = c.in-Some.ensures.after;
      before =
          λ is le. omega (
            arith,
            before.before is le,
            ap (λ (es : List Entry). prefix_len (is_below c.args.key) es) c.in-Some.ensures.some,
            prefix_more c.args.key (entry_of t page) rest c.if-t-key.false,
            one is,
          );
    }

pub returns-clause-place : goal.returns-clause-place
returns-clause-place c =
    λ is. let front = c.loop-t.invariant.front is in
    end_at c.args.page.now c.loop-t.index c.loop-t.at front.index front.at (c.loop-t.invariant.left is ∙ c.in_default.ensures.none)
