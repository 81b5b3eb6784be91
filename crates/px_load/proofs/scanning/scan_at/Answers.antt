use Rattle.std.proofs.Common.{arith, ◌≡◌, ◌∙◌, ℕ, sym, subst, length, get_or}
use Rattle.std.specs.Prelude.{Some, slice_get}
use Rattle.std.proofs.lemmas.Bool.{OnTrue_at, OnTrue_from}
use Rattle.std.proofs.lemmas.Option.{slice_get-get_or}
use Rattle.std.proofs.lemmas.List.{length-set}
use Rattle.px_core.specs.Parts.{to_part}
use Rattle.std.proofs.lemmas.Result.{err_from_is_err_and}
use Rattle.px_core.specs.Shown.{Only, Clean}
use Rattle.px_store.proofs.Apart.{kept_for, ready_for}
use Rattle.px_store.proofs.Hold.{none_owns, parts_set}
use Rattle.px_load.specs.Scanning.{HoldsVertices}
use Rattle.px_load.proofs.ScanningSteps.{keep_one, map_set, map_at, far_kept, own_file}
use Rattle.px_load.proofs.scanning.scan_at.Goals as goal

pub scan_store-answer-requires-clause-ready : goal.scan_store-answer-requires-clause-ready
scan_store-answer-requires-clause-ready g c = ready_for g.St.Store.counted 0 _ c.args.desk.now (g.GD.Disk.shown c.args.graph.now) c.requires.free.owner c.requires.free.ready

pub returns-clause-keeps : goal.returns-clause-keeps
returns-clause-keeps g c =
    let st = g.St.Store in
    let graph = g.GD.Disk.shown in
    let q = c.args.q in
    let xs = c.args.stores.now in
    let d0 = c.args.desk.now in
    let s0 = graph c.args.graph.now in
    let d1 = c.scan_store-answer.new.desk in
    let s1 = graph c.scan_store-answer.new.graph in
    let x0 = get_or xs q c.index-stores-q.result in
    let here : slice_get xs q ≡ Some x0 = slice_get-get_or xs q c.index-stores-q.result c.requires.at in
    let part_is : st.part x0 ≡ q = c.requires.parts.parts q x0 here in
    let scan = c.in_ok-pages.ensures in
    keep_one (λ x h. st.holds x d0 s0 h) (λ x h. st.holds x d1 s1 h) xs q x0 c.scan_store-answer.new.store c.requires.at here scan.keeps
    (λ i x l other at held.
    let x_part = c.requires.parts.parts i x at in
    let apart : st.part x0 ≡ st.part x → ⊥ = λ e. other (sym x_part ∙ sym e ∙ part_is) in
    g.met.St.Store.stays x d0 d1 s0 s1 l (kept_for _ (st.part x) d0 d1 s0 s1 apart scan.done.others) scan.done.clean.touches.page_len (none_owns (st.part x) d0.owner c.requires.free.owner) (none_owns (st.part x) d1.owner scan.owner) held)

pub returns-clause-file : goal.returns-clause-file
returns-clause-file g c = λ k hold tells.
    let q = c.args.q in
    let xs = c.args.stores.now in
    let x0 = get_or xs q c.index-stores-q.result in
    let here : slice_get xs q ≡ Some x0 = slice_get-get_or xs q c.index-stores-q.result c.requires.at in
    let u = g.SD.Disk.shown c.scan_store-answer.new.scratch in
    subst (λ (f : ℕ). HoldsVertices u c.args.frames.now.vertex.room f c.in_ok-pages.pages (to_part (length xs) q k)) c.new-writer.ensures.file (c.in_ok-pages.ensures.file (to_part (length xs) q k) (hold q x0 here) tells)

pub returns-clause-leaves : goal.returns-clause-leaves
returns-clause-leaves g c = OnTrue_from g.St.Store.counted _ (λ is.
    let q = c.args.q in
    let xs = c.args.stores.now in
    let x0 = get_or xs q c.index-stores-q.result in
    let here : slice_get xs q ≡ Some x0 = slice_get-get_or xs q c.index-stores-q.result c.requires.at in
    map_set g.St.Store.leaves xs q x0 c.scan_store-answer.new.store here (OnTrue_at is c.scan_store-answer.ensures.leaves))

pub returns-in_err-pages-clause-leaves : goal.returns-in_err-pages-clause-leaves
returns-in_err-pages-clause-leaves g c = OnTrue_from g.St.Store.counted _ (λ is.
    let q = c.args.q in
    let xs = c.args.stores.now in
    let x0 = get_or xs q c.index-stores-q.result in
    let here : slice_get xs q ≡ Some x0 = slice_get-get_or xs q c.index-stores-q.result c.requires.at in
    map_set g.St.Store.leaves xs q x0 c.scan_store-answer.new.store here (OnTrue_at is c.scan_store-answer.ensures.leaves))

pub returns-clause-reads : goal.returns-clause-reads
returns-clause-reads g c = OnTrue_from g.St.Store.counted _ (λ is.
    let q = c.args.q in
    let xs = c.args.stores.now in
    let x0 = get_or xs q c.index-stores-q.result in
    let here : slice_get xs q ≡ Some x0 = slice_get-get_or xs q c.index-stores-q.result c.requires.at in
    omega (arith, OnTrue_at is c.scan_store-answer.ensures.reads, map_at g.St.Store.leaves xs q x0 here))

pub returns-in_err-pages-clause-reads : goal.returns-in_err-pages-clause-reads
returns-in_err-pages-clause-reads g c = OnTrue_from g.St.Store.counted _ (λ is.
    let q = c.args.q in
    let xs = c.args.stores.now in
    let x0 = get_or xs q c.index-stores-q.result in
    let here : slice_get xs q ≡ Some x0 = slice_get-get_or xs q c.index-stores-q.result c.requires.at in
    omega (arith, OnTrue_at is c.scan_store-answer.ensures.reads, map_at g.St.Store.leaves xs q x0 here))

pub returns-clause-parts : goal.returns-clause-parts
returns-clause-parts g c =
    let st = g.St.Store in
    let q = c.args.q in
    let xs = c.args.stores.now in
    let x0 = get_or xs q c.index-stores-q.result in
    let here : slice_get xs q ≡ Some x0 = slice_get-get_or xs q c.index-stores-q.result c.requires.at in
    let new = c.scan_store-answer.new.store in
    let long = length-set xs q new in
    record {
      some = omega (arith, long, c.requires.parts.some);
      most = omega (arith, long, c.requires.parts.most);
      parts = parts_set st.part xs q new c.requires.at (c.scan_store-answer.ensures.part ∙ c.requires.parts.parts q x0 here) c.requires.parts.parts;
    }

pub returns-in_err-pages-clause-parts : goal.returns-in_err-pages-clause-parts
returns-in_err-pages-clause-parts g c =
    let st = g.St.Store in
    let q = c.args.q in
    let xs = c.args.stores.now in
    let x0 = get_or xs q c.index-stores-q.result in
    let here : slice_get xs q ≡ Some x0 = slice_get-get_or xs q c.index-stores-q.result c.requires.at in
    let new = c.scan_store-answer.new.store in
    let long = length-set xs q new in
    record {
      some = omega (arith, long, c.requires.parts.some);
      most = omega (arith, long, c.requires.parts.most);
      parts = parts_set st.part xs q new c.requires.at (c.scan_store-answer.ensures.part ∙ c.requires.parts.parts q x0 here) c.requires.parts.parts;
    }

pub returns-clause-far : goal.returns-clause-far
returns-clause-far g c =
    let q = c.args.q in
    let xs = c.args.stores.now in
    let x0 = get_or xs q c.index-stores-q.result in
    let here : slice_get xs q ≡ Some x0 = slice_get-get_or xs q c.index-stores-q.result c.requires.at in
    far_kept (g.St.Store.part x0) (length xs) c.args.desk.now c.scan_store-answer.new.desk _ _ (omega (arith, c.requires.parts.parts q x0 here, c.requires.at)) c.in_ok-pages.ensures.done.others

pub returns-clause-scratch : goal.returns-clause-scratch
returns-clause-scratch g c = subst (λ (f : ℕ). Clean (Only f) (g.SD.Disk.shown c.args.scratch.now) (g.SD.Disk.shown c.scan_store-answer.new.scratch)) c.new-writer.ensures.file c.in_ok-pages.ensures.scratch

pub returns-in_err-pages-clause-err : goal.returns-in_err-pages-clause-err
returns-in_err-pages-clause-err g c =
    let end = err_from_is_err_and c.from_residual.result c.from_residual.ensures.1 in
    let q = c.args.q in
    rw (end.1, end.2) (λ n. c.in_err-pages.ensures.err (own_file q (omega (arith, c.requires.at, c.requires.parts.most)) _ (c.new-writer.ensures.file)) n)
