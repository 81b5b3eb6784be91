use Rattle.std.proofs.Common.{arith, inr, ◌≡◌, ◌≤◌, ◌+◌, ◌∙◌, ℕ, sym, ap, subst, length, get_or}
use Rattle.std.specs.Prelude.{Some, slice_get}
use Rattle.std.proofs.lemmas.Bool.{OnTrue_at, OnTrue_from}
use Rattle.std.proofs.lemmas.Option.{slice_get-get_or}
use Rattle.std.proofs.lemmas.Result.{err_from_is_err_and}
use Rattle.px_store.proofs.Apart.{kept_for, ready_for}
use Rattle.px_store.proofs.Hold.{none_owns, parts_set}
use Rattle.std.proofs.lemmas.List.{length-set}
use Rattle.px_stream.specs.Stream.{Holds}
use Rattle.px_load.specs.Held.{tuples}
use Rattle.px_load.specs.Stops.{IsLoadFile}
use Rattle.px_load.proofs.FillingSteps.{hold_next}
use Rattle.px_load.proofs.LoadingSteps.{sorted_length}
use Rattle.px_load.proofs.filling.fill_at.Goals as goal

pub fill_store-answer-requires-clause-ready : goal.fill_store-answer-requires-clause-ready
fill_store-answer-requires-clause-ready g c = ready_for g.St.Store.counted 0 _ c.args.desk.now (g.GD.Disk.shown c.args.graph.now) c.requires.free.owner c.requires.free.ready

pub returns-clause-holds : goal.returns-clause-holds
returns-clause-holds g c = λ graphs l bodies m hold tells is up.
    let st = g.St.Store in
    let graph = g.GD.Disk.shown in
    let q = c.args.q in
    let xs = c.args.stores.now in
    let d0 = c.args.desk.now in
    let s0 = graph c.args.graph.now in
    let d1 = c.fill_store-answer.new.desk in
    let s1 = graph c.fill_store-answer.new.graph in
    let x0 = get_or xs q c.index-stores-q.result in
    let here : slice_get xs q ≡ Some x0 = slice_get-get_or xs q c.index-stores-q.result c.requires.at in
    let part_is : st.part x0 ≡ q = c.requires.parts.parts q x0 here in
    let fill = c.in_ok-answer.ensures in
    hold_next (λ x h. st.holds x d0 s0 h) (λ x h. st.holds x d1 s1 h) xs q c.fill_store-answer.new.store graphs c.requires.at
    (subst (st.holds c.fill_store-answer.new.store d1 s1) (sym is) (fill.holds l bodies m (c.start.ensures.to_give (g.SD.Disk.shown c.args.scratch.now) (tuples l) (subst (λ (f : ℕ). Holds (g.SD.Disk.shown c.args.scratch.now) f c.args.pages (tuples l)) (sym c.new-reader.ensures.file) hold)) tells))
    (λ i x other at held.
    let x_part = c.requires.parts.parts i x at in
    let apart : st.part x0 ≡ st.part x → ⊥ = λ e. other (sym x_part ∙ sym e ∙ part_is) in
    g.met.St.Store.stays x d0 d1 s0 s1 (graphs i) (kept_for _ (st.part x) d0 d1 s0 s1 apart fill.done.others) fill.done.clean.touches.page_len (none_owns (st.part x) d0.owner c.requires.free.owner) (none_owns (st.part x) d1.owner fill.owner) held) up

pub returns-clause-leaves : goal.returns-clause-leaves
returns-clause-leaves g c = OnTrue_from g.St.Store.counted _ (λ is. λ graphs l bodies m hold at up.
    let st = g.St.Store in
    let give = c.start.ensures.to_give (g.SD.Disk.shown c.args.scratch.now) (tuples l) (subst (λ (f : ℕ). Holds (g.SD.Disk.shown c.args.scratch.now) f c.args.pages (tuples l)) (sym c.new-reader.ensures.file) hold) in
    let new = c.fill_store-answer.new.store in
    hold_next (λ x h. st.leaves x ≤ length h + 1) (λ x h. st.leaves x ≤ length h + 1) c.args.stores.now c.args.q new graphs c.requires.at
    (omega (arith, OnTrue_at is c.in_ok-answer.ensures.leaves l bodies m give, sorted_length l, ap length at)) (λ i x other here held. held) up)

pub returns-clause-parts : goal.returns-clause-parts
returns-clause-parts g c =
    let st = g.St.Store in
    let q = c.args.q in
    let xs = c.args.stores.now in
    let x0 = get_or xs q c.index-stores-q.result in
    let here : slice_get xs q ≡ Some x0 = slice_get-get_or xs q c.index-stores-q.result c.requires.at in
    let new = c.fill_store-answer.new.store in
    let long = length-set xs q new in
    record {
      some = omega (arith, long, c.requires.parts.some);
      most = omega (arith, long, c.requires.parts.most);
      parts = parts_set st.part xs q new c.requires.at (c.fill_store-answer.ensures.part ∙ c.requires.parts.parts q x0 here) c.requires.parts.parts;
    }

pub returns-in_err-answer-clause-parts : goal.returns-in_err-answer-clause-parts
returns-in_err-answer-clause-parts g c =
    let st = g.St.Store in
    let q = c.args.q in
    let xs = c.args.stores.now in
    let x0 = get_or xs q c.index-stores-q.result in
    let here : slice_get xs q ≡ Some x0 = slice_get-get_or xs q c.index-stores-q.result c.requires.at in
    let new = c.fill_store-answer.new.store in
    let long = length-set xs q new in
    record {
      some = omega (arith, long, c.requires.parts.some);
      most = omega (arith, long, c.requires.parts.most);
      parts = parts_set st.part xs q new c.requires.at (c.fill_store-answer.ensures.part ∙ c.requires.parts.parts q x0 here) c.requires.parts.parts;
    }

pub returns-in_err-answer-clause-err : goal.returns-in_err-answer-clause-err
returns-in_err-answer-clause-err g c =
    let end = err_from_is_err_and c.from_residual.result c.from_residual.ensures.1 in
    let file : IsLoadFile (192 + c.args.q) = inr (omega arith, omega (arith, c.requires.at, c.requires.parts.most)) in
    rw (end.1, end.2) (λ n. c.in_err-answer.ensures.err (subst IsLoadFile (sym (c.start.ensures.stays.file ∙ c.new-reader.ensures.file)) file) n)
