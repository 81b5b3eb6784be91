use Rattle.std.proofs.Common.{◌≡◌, List, sym, ◌∙◌, inr}
use Rattle.std.proofs.lemmas.Result.{err_from_is_err_and, on_ok_weaker}
use Rattle.px_core.specs.Shown.{NoFile, Only, Either, Clean}
use Rattle.px_core.proofs.Keeping.{same_by_none}
use Rattle.px_core.proofs.Steps.{clean_of, clean_then, clean_more, broke_of, broke_more, broke_after}
use Rattle.px_pages.specs.Entry.{Entry}
use Rattle.px_stream.specs.Stream.{ToGive}
use Rattle.px_stream.proofs.Kept.{to_give_same}
use Rattle.px_stream.proofs.Merging.{a_leads, peeks_tell, first_none, first_some, second_none, second_some}
use Rattle.px_stream.proofs.tests.merging.next_of.Given.{Over}
use Rattle.px_stream.proofs.tests.merging.next_of.Goals as goal
use Rattle.px_stream.proofs.tests.merging.next_of.Goals.{After-is_first}

-- the heads tell which list leads
tell : (g : Over) (c : After-is_first g) (la lb : List Entry) → ToGive (g.D.Disk.shown c.args.disk.now) c.args.a.now la → ToGive (g.D.Disk.shown c.args.disk.now) c.args.b.now lb → c.is_first.result ≡ a_leads la lb
tell g c la lb a b =
    let shown = g.D.Disk.shown in
    c.is_first.ensures ∙ peeks_tell (ToGive (shown c.args.disk.now) c.args.a.now) (ToGive (shown c.peek.new.disk) c.args.b.now) _ _ _ _ la lb
    c.in_ok-in_a.ensures.none c.in_ok-in_a.ensures.some c.in_ok-in_b.ensures.none c.in_ok-in_b.ensures.some
    a (to_give_same _ _ c.args.b.now lb (same_by_none _ _ _ c.in_ok-in_a.ensures.ok.touches) b)

-- after the two peeks, each reader has still to give what it had
a_same : (g : Over) (c : After-is_first g) (l : List Entry) → ToGive (g.D.Disk.shown c.args.disk.now) c.args.a.now l → ToGive (g.D.Disk.shown c.peek-2.new.disk) c.peek.new.self l
a_same g c l h = to_give_same _ _ c.peek.new.self l (same_by_none _ _ _ c.in_ok-in_b.ensures.ok.touches) (c.in_ok-in_a.ensures.to_give l h)

b_same : (g : Over) (c : After-is_first g) (l : List Entry) → ToGive (g.D.Disk.shown c.args.disk.now) c.args.b.now l → ToGive (g.D.Disk.shown c.peek-2.new.disk) c.peek-2.new.self l
b_same g c l h = c.in_ok-in_b.ensures.to_give l (to_give_same _ _ c.args.b.now l (same_by_none _ _ _ c.in_ok-in_a.ensures.ok.touches) h)

-- and no call has failed
clean : (g : Over) (c : After-is_first g) → Clean NoFile (g.D.Disk.shown c.args.disk.now) (g.D.Disk.shown c.peek-2.new.disk)
clean g c = clean_then NoFile _ _ _ (clean_of NoFile _ _ _ _ c.in_ok-in_a.ensures.ok) (clean_of NoFile _ _ _ _ c.in_ok-in_b.ensures.ok)

pub returns-then-is_first-clause-none : goal.returns-then-is_first-clause-none
returns-then-is_first-clause-none g c =
    let k = (goal.at.returns-then-is_first-clause-none g c).After-is_first in
    first_none _ _ _ _ c.next.result (a_same g k) (λ la lb a b. sym c.if-is_first.true ∙ tell g k la lb a b) c.next.ensures.none

pub returns-then-is_first-clause-some : goal.returns-then-is_first-clause-some
returns-then-is_first-clause-some g c =
    let k = (goal.at.returns-then-is_first-clause-some g c).After-is_first in
    first_some _ _ _ _ _ _ c.next.result _ (a_same g k) (λ la lb a b. sym c.if-is_first.true ∙ tell g k la lb a b)
    _ c.next.ensures.ok (λ ok l h. to_give_same _ _ _ l (same_by_none _ _ _ ok.touches) (b_same g k l h)) c.next.ensures.some

pub returns-else-is_first-clause-none : goal.returns-else-is_first-clause-none
returns-else-is_first-clause-none g c =
    let k = (goal.at.returns-else-is_first-clause-none g c).After-is_first in
    second_none _ _ _ _ c.next-else-is_first.result (b_same g k) (λ la lb a b. sym c.if-is_first.false ∙ tell g k la lb a b) c.next-else-is_first.ensures.none

pub returns-else-is_first-clause-some : goal.returns-else-is_first-clause-some
returns-else-is_first-clause-some g c =
    let k = (goal.at.returns-else-is_first-clause-some g c).After-is_first in
    second_some _ _ _ _ _ _ c.next-else-is_first.result _ (b_same g k) (λ la lb a b. sym c.if-is_first.false ∙ tell g k la lb a b)
    _ c.next-else-is_first.ensures.ok (λ ok l h. to_give_same _ _ _ l (same_by_none _ _ _ ok.touches) (a_same g k l h)) c.next-else-is_first.ensures.some

pub returns-then-is_first-clause-ok : goal.returns-then-is_first-clause-ok
returns-then-is_first-clause-ok g c =
    let k = (goal.at.returns-then-is_first-clause-ok g c).After-is_first in
    on_ok_weaker c.next.result (λ ok. clean_then NoFile _ _ _ (clean g k) (clean_of NoFile _ _ _ _ ok)) c.next.ensures.ok

pub returns-else-is_first-clause-ok : goal.returns-else-is_first-clause-ok
returns-else-is_first-clause-ok g c =
    let k = (goal.at.returns-else-is_first-clause-ok g c).After-is_first in
    on_ok_weaker c.next-else-is_first.result (λ ok. clean_then NoFile _ _ _ (clean g k) (clean_of NoFile _ _ _ _ ok)) c.next-else-is_first.ensures.ok

pub returns-in_err-in_b-clause-err : goal.returns-in_err-in_b-clause-err
returns-in_err-in_b-clause-err g c =
    let is = err_from_is_err_and c.from_residual-in_err-in_b.result c.from_residual-in_err-in_b.ensures.1 in
    let stop = c.in_err-in_b.ensures.err in
    let theirs = broke_more _ (Only c.args.b.now.file) (Either c.args.a.now.file c.args.b.now.file) _ _ _ (λ f h. inr h) (broke_of _ _ _ _ _ _ _ stop) in
    let before = clean_more NoFile (Either c.args.a.now.file c.args.b.now.file) _ _ (λ f h. absurd h) (clean_of NoFile _ _ _ _ c.in_ok-in_a.ensures.ok) in
    let e : is.0 ≡ c.in_err-in_b.field-0.0 = cc in
    rw (is.1, e) (broke_after _ _ _ _ _ _ before theirs)
