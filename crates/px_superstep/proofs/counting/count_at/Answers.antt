use Rattle.std.proofs.Common.{arith, ◌≡◌, ◌∙◌, sym, length, get_or}
use Rattle.std.specs.Prelude.{Some, slice_get}
use Rattle.std.proofs.lemmas.Option.{slice_get-get_or}
use Rattle.std.proofs.lemmas.List.{length-set}
use Rattle.px_core.specs.Parts.{to_part}
use Rattle.px_store.proofs.Apart.{kept_for, ready_for}
use Rattle.px_store.proofs.Hold.{none_owns, parts_set}
use Rattle.px_load.proofs.ScanningSteps.{keep_one}
use Rattle.px_superstep.proofs.counting.count_at.Goals as goal

pub count_store-requires-clause-ready : goal.count_store-requires-clause-ready
count_store-requires-clause-ready g c = ready_for g.St.Store.counted 0 _ c.args.desk.now (g.D.Disk.shown c.args.disk.now) c.requires.free.owner c.requires.free.ready

pub returns-clause-keeps : goal.returns-clause-keeps
returns-clause-keeps g c =
    let st = g.St.Store in
    let graph = g.D.Disk.shown in
    let q = c.args.q in
    let xs = c.args.stores.now in
    let d0 = c.args.desk.now in
    let s0 = graph c.args.disk.now in
    let d1 = c.count_store.new.desk in
    let s1 = graph c.count_store.new.disk in
    let x0 = get_or xs q c.index-stores-q.result in
    let here : slice_get xs q ≡ Some x0 = slice_get-get_or xs q c.index-stores-q.result c.requires.at in
    let part_is : st.part x0 ≡ q = c.requires.parts.parts q x0 here in
    let scan = c.in_ok-tally.ensures in
    keep_one (λ x h. st.holds x d0 s0 h) (λ x h. st.holds x d1 s1 h) xs q x0 c.count_store.new.store c.requires.at here scan.keeps
    (λ i x l other at held.
    let x_part = c.requires.parts.parts i x at in
    let apart : st.part x0 ≡ st.part x → ⊥ = λ e. other (sym x_part ∙ sym e ∙ part_is) in
    g.met.St.Store.stays x d0 d1 s0 s1 l (kept_for _ (st.part x) d0 d1 s0 s1 apart scan.done.others) scan.done.clean.touches.page_len (none_owns (st.part x) d0.owner c.requires.free.owner) (none_owns (st.part x) d1.owner scan.owner) held)

pub returns-clause-counted : goal.returns-clause-counted
returns-clause-counted g c = λ k hold.
    let q = c.args.q in
    let xs = c.args.stores.now in
    let x0 = get_or xs q c.index-stores-q.result in
    let here : slice_get xs q ≡ Some x0 = slice_get-get_or xs q c.index-stores-q.result c.requires.at in
    c.in_ok-tally.ensures.counted (to_part (length xs) q k) (hold q x0 here)

pub returns-clause-parts : goal.returns-clause-parts
returns-clause-parts g c =
    let st = g.St.Store in
    let q = c.args.q in
    let xs = c.args.stores.now in
    let x0 = get_or xs q c.index-stores-q.result in
    let here : slice_get xs q ≡ Some x0 = slice_get-get_or xs q c.index-stores-q.result c.requires.at in
    let new = c.count_store.new.store in
    let long = length-set xs q new in
    record {
      some = omega (arith, long, c.requires.parts.some);
      most = omega (arith, long, c.requires.parts.most);
      parts = parts_set st.part xs q new c.requires.at (c.count_store.ensures.part ∙ c.requires.parts.parts q x0 here) c.requires.parts.parts;
    }

pub returns-in_err-tally-clause-parts : goal.returns-in_err-tally-clause-parts
returns-in_err-tally-clause-parts g c =
    let st = g.St.Store in
    let q = c.args.q in
    let xs = c.args.stores.now in
    let x0 = get_or xs q c.index-stores-q.result in
    let here : slice_get xs q ≡ Some x0 = slice_get-get_or xs q c.index-stores-q.result c.requires.at in
    let new = c.count_store.new.store in
    let long = length-set xs q new in
    record {
      some = omega (arith, long, c.requires.parts.some);
      most = omega (arith, long, c.requires.parts.most);
      parts = parts_set st.part xs q new c.requires.at (c.count_store.ensures.part ∙ c.requires.parts.parts q x0 here) c.requires.parts.parts;
    }
