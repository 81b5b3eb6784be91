use Rattle.std.proofs.Common.{◌≡◌, ◌∙◌, ℕ, [], sym, subst}
use Rattle.std.proofs.lemmas.List.{append-nil}
use Rattle.std.proofs.lemmas.Result.{err_from_is_err_and}
use Rattle.px_cache.specs.View.{AnyFile}
use Rattle.px_core.proofs.Steps.{broke_after, clean_then}
use Rattle.px_store.specs.Desks.{IsDone, IsReady}
use Rattle.px_store.proofs.Apart.{done_then, desk_then}
use Rattle.px_superstep.proofs.counting.count_store.Goals as goal

pub count_rest-requires-clause-ready : goal.count_rest-requires-clause-ready
count_rest-requires-clause-ready g c = subst (λ (q : ℕ). IsReady g.St.Store.counted q c.rewind.new.desk (g.D.Disk.shown c.rewind.new.disk)) (sym c.rewind.ensures.part) c.in_ok-rewind.ensures.done.ready

pub settle-requires : goal.settle-requires
settle-requires g c = subst (λ (q : ℕ). IsReady g.St.Store.counted q c.count_rest.new.desk (g.D.Disk.shown c.count_rest.new.disk)) (sym c.count_rest.ensures.part) c.in_ok-tally.ensures.done.ready

pub returns-clause-keeps : goal.returns-clause-keeps
returns-clause-keeps g c = λ l holds.
    let st = g.St.Store in
    let graph = g.D.Disk.shown c.count_rest.new.disk in
    c.in_ok-settle.ensures.holds l (subst (st.holds c.count_rest.new.store c.count_rest.new.desk graph) (append-nil l) (g.met.St.Store.scan_holds c.count_rest.new.store c.count_rest.new.desk graph l [] (c.in_ok-tally.ensures.scans l (c.in_ok-rewind.ensures.scans l holds))))

pub returns-clause-counted : goal.returns-clause-counted
returns-clause-counted g c = λ l holds. c.in_ok-tally.ensures.counted l (c.in_ok-rewind.ensures.scans l holds)

pub returns-clause-desk : goal.returns-clause-desk
returns-clause-desk g c = desk_then _ _ _ c.rewind.ensures.desk (desk_then _ _ _ c.count_rest.ensures.desk c.settle.ensures.desk)

pub returns-clause-done : goal.returns-clause-done
returns-clause-done g c =
    let st = g.St.Store in
    let graph = g.D.Disk.shown in
    let put = subst (λ (q : ℕ). IsDone st.counted q c.rewind.new.desk (graph c.rewind.new.disk) c.count_rest.new.desk (graph c.count_rest.new.disk)) c.rewind.ensures.part c.in_ok-tally.ensures.done in
    let last = subst (λ (q : ℕ). IsDone st.counted q c.count_rest.new.desk (graph c.count_rest.new.disk) c.settle.new.desk (graph c.settle.new.disk)) (c.count_rest.ensures.part ∙ c.rewind.ensures.part) c.in_ok-settle.ensures.done in
    done_then _ _ _ _ _ _ _ _ c.in_ok-rewind.ensures.done (done_then _ _ _ _ _ _ _ _ put last)

pub returns-in_err-tally-clause-err : goal.returns-in_err-tally-clause-err
returns-in_err-tally-clause-err g c =
    let end = err_from_is_err_and c.from_residual-in_err-tally.result c.from_residual-in_err-tally.ensures.1 in
    let stop : end.0 ≡ c.in_err-tally.field-0.0 = cc in
    rw (end.1, stop) (broke_after _ AnyFile _ _ _ _ c.in_ok-rewind.ensures.done.clean c.in_err-tally.ensures.err)

pub returns-in_err-settle-clause-err : goal.returns-in_err-settle-clause-err
returns-in_err-settle-clause-err g c =
    let end = err_from_is_err_and c.from_residual-in_err-settle.result c.from_residual-in_err-settle.ensures.1 in
    let stop : end.0 ≡ c.in_err-settle.field-0.0 = cc in
    rw (end.1, stop) (broke_after _ AnyFile _ _ _ _ (clean_then AnyFile _ _ _ c.in_ok-rewind.ensures.done.clean c.in_ok-tally.ensures.done.clean) c.in_err-settle.ensures.err)
