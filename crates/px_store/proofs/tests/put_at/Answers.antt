use Rattle.std.proofs.Common.{◌≡◌, sym, ◌∙◌, subst, get_or}
use Rattle.std.proofs.lemmas.Option.{slice_get-get_or}
use Rattle.std.specs.Prelude.{Some, slice_get}
use Rattle.px_cache.proofs.Lists.{some_is}
use Rattle.px_meaning.specs.Graph.{put as put_item}
use Rattle.px_store.proofs.Apart.{kept_for, not_owner}
use Rattle.px_store.proofs.Hold.{hold_change, parts_set, none_owns}
use Rattle.px_store.proofs.tests.put_at.Goals as goal

pub returns-clause-holds : goal.returns-clause-holds
returns-clause-holds g c = λ ls.
    let st = g.St.Store in
    let shown = g.D.Disk.shown in
    let q = c.args.q in
    let xs = c.args.stores.now in
    let d0 = c.args.desk.now in
    let s0 = shown c.args.disk.now in
    let d1 = c.put.new.desk in
    let s1 = shown c.put.new.disk in
    let d2 = c.settle.new.desk in
    let s2 = shown c.settle.new.disk in
    let x0 = get_or xs q c.index-stores-q.result in
    let here : slice_get xs q ≡ Some x0 = slice_get-get_or xs q c.index-stores-q.result c.requires.at in
    let part_is : st.part x0 ≡ q = c.requires.parts q x0 here in
    let put = c.in_ok-put.ensures in
    let settle = c.in_ok-settle.ensures in
    hold_change (λ x l. st.holds x d0 s0 l) (λ x l. st.holds x d2 s2 l) xs ls q c.settle.new.self (put_item c.args.v.now.vid c.args.v.now.vertex) c.requires.at
    (λ x m at held.
    let same : x ≡ x0 = some_is (sym at ∙ here) in
    settle.holds (put_item c.args.v.now.vid c.args.v.now.vertex m) (put.holds m (subst (λ (z : _). st.holds z d0 s0 m) same held)))
    (λ i x l other at held.
    let x_part = c.requires.parts i x at in
    let apart : st.part x0 ≡ st.part x → ⊥ = λ e. other (sym x_part ∙ sym e ∙ part_is) in
    let apart' : st.part c.put.new.self ≡ st.part x → ⊥ = λ e. apart (sym put.part ∙ e) in
    let one = g.met.St.Store.stays x d0 d1 s0 s1 l (kept_for _ (st.part x) d0 d1 s0 s1 apart put.done.others) put.done.clean.touches.page_len (none_owns (st.part x) d0.owner c.requires.owner) (not_owner _ (st.part x) d1.owner apart put.done.ready.owner) held in
    g.met.St.Store.stays x d1 d2 s1 s2 l (kept_for _ (st.part x) d1 d2 s1 s2 apart' settle.done.others) settle.done.clean.touches.page_len (not_owner _ (st.part x) d1.owner apart put.done.ready.owner) (none_owns (st.part x) d2.owner settle.owner) one)

pub returns-clause-parts : goal.returns-clause-parts
returns-clause-parts g c =
    let st = g.St.Store in
    let xs = c.args.stores.now in
    let x0 = get_or xs c.args.q c.index-stores-q.result in
    let here : slice_get xs c.args.q ≡ Some x0 = slice_get-get_or xs c.args.q c.index-stores-q.result c.requires.at in
    parts_set st.part xs c.args.q c.settle.new.self c.requires.at (c.settle.ensures.part ∙ c.put.ensures.part ∙ c.requires.parts c.args.q x0 here) c.requires.parts
