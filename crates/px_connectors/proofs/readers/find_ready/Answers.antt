use Rattle.std.proofs.Common.{rules, arith, ◌≡◌, ◌<◌, ◌≤◌, ◌∙◌, ℕ, sym, subst, length, get_or}
use Rattle.std.specs.Prelude.{Some, slice_get}
use Rattle.std.proofs.lemmas.List.{length-set}
use Rattle.std.proofs.lemmas.Option.{slice_get-get_or}
use Rattle.px_connectors.specs.Receiving.{OfReader, IsReader}
use Rattle.px_connectors.proofs.ByTurns.{each_change, gives_set, left_stays, looking_first, looking_next, looked_has, looked_none}
use Rattle.px_connectors.proofs.readers.find_ready.Goals as goal

pub loop-p-init : goal.loop-p-init
loop-p-init g c = record {
  gives = λ ls gives. gives;
  looking = looking_first c.args.readers.now;
  left = search rules;
  low = omega arith;
  end = search rules;
  count = search rules;
  clean = search rules;
  are = search rules;
}

pub has_tuple-requires : goal.has_tuple-requires
has_tuple-requires g c =
    let i = c.loop-p.invariant in
    let rs = c.loop-p.readers in
    let p = c.loop-p.p in
    let o = get_or rs p c.index-readers-p.result in
    let low : p < length rs = omega (arith, c.loop-p-test.true, i.end, i.count) in
    let here : slice_get rs p ≡ Some o = slice_get-get_or rs p c.index-readers-p.result low in
    record { is = subst (λ (n : ℕ). OfReader (IsReader n) o) (sym i.clean.touches.page_len) (i.are p o here) }

pub loop-p-preserved : goal.loop-p-preserved
loop-p-preserved g c =
    let i = c.loop-p.invariant in
    let rs = c.loop-p.readers in
    let p = c.loop-p.p in
    let o = get_or rs p c.index-readers-p.result in
    let x = c.has_tuple.new.reader in
    let low : p < length rs = omega (arith, c.loop-p-test.true, i.end, i.count) in
    let here : slice_get rs p ≡ Some o = slice_get-get_or rs p c.index-readers-p.result low in
    let len = (g.D.Disk.shown c.args.disk.now).page_len in
    record {
      gives = λ ls gives. gives_set _ _ p rs o x ls c.in_ok-has.ensures.ok.touches here low c.in_ok-has.ensures.gives (i.gives ls gives);
      looking = looking_next p c.loop-p.ready c.marked-ready.result c.in_ok-has.has rs x low c.in_ok-has.ensures.has c.in_ok-has.ensures.over c.marked-ready.ensures.set c.marked-ready.ensures.unset c.marked-ready.ensures.others i.looking;
      left = omega (arith, i.left, left_stays p rs o x here c.has_tuple.ensures.left);
      low = omega (arith, c.loop-p-test.true);
      end = search rules;
      count = length-set rs p x ∙ i.count;
      clean = search rules;
      are = each_change (λ j z. OfReader (IsReader len) z) rs p x low (subst (λ (n : ℕ). OfReader (IsReader n) x) i.clean.touches.page_len c.has_tuple.ensures.is) (λ j z other at. i.are j z at);
    }

pub returns-clause-ready : goal.returns-clause-ready
returns-clause-ready g c = let i = c.loop-p.invariant in looked_has c.loop-p.p c.loop-p.ready c.loop-p.readers (omega (arith, i.end, i.count, i.low)) i.looking

pub returns-clause-none : goal.returns-clause-none
returns-clause-none g c = let i = c.loop-p.invariant in looked_none c.loop-p.p c.loop-p.ready c.loop-p.readers (omega (arith, c.loop-p-test.false, i.end, i.count)) i.looking

pub returns-in_err-has-clause-left : goal.returns-in_err-has-clause-left
returns-in_err-has-clause-left g c =
    let i = c.loop-p.invariant in
    let rs = c.loop-p.readers in
    let p = c.loop-p.p in
    let low : p < length rs = omega (arith, c.loop-p-test.true, i.end, i.count) in
    omega (arith, i.left, left_stays p rs (get_or rs p c.index-readers-p.result) c.has_tuple.new.reader (slice_get-get_or rs p c.index-readers-p.result low) c.has_tuple.ensures.left)

pub returns-in_err-has-clause-are : goal.returns-in_err-has-clause-are
returns-in_err-has-clause-are g c =
    let i = c.loop-p.invariant in
    let rs = c.loop-p.readers in
    let p = c.loop-p.p in
    let x = c.has_tuple.new.reader in
    let low : p < length rs = omega (arith, c.loop-p-test.true, i.end, i.count) in
    let len = (g.D.Disk.shown c.args.disk.now).page_len in
    each_change (λ j z. OfReader (IsReader len) z) rs p x low (subst (λ (n : ℕ). OfReader (IsReader n) x) i.clean.touches.page_len c.has_tuple.ensures.is) (λ j z other at. i.are j z at)

pub returns-in_err-has-clause-count : goal.returns-in_err-has-clause-count
returns-in_err-has-clause-count g c = length-set c.loop-p.readers c.loop-p.p c.has_tuple.new.reader ∙ c.loop-p.invariant.count
