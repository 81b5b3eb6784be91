use Rattle.std.proofs.Common.{arith, ◌∙◌, ℕ, sym, subst, refl}
use Rattle.std.proofs.lemmas.Bool.{OnTrue_at, OnTrue_from}
use Rattle.std.proofs.lemmas.Result.{err_from_is_err_and}
use Rattle.px_cache.specs.View.{AnyFile}
use Rattle.px_core.specs.Shown.{NoFile}
use Rattle.px_core.proofs.Steps.{clean_refl, clean_more, clean_then}
use Rattle.px_store.specs.Desks.{IsDone, IsReady}
use Rattle.px_store.proofs.Apart.{done_then, desk_then}
use Rattle.px_load.specs.Reading.{vertices_of}
use Rattle.px_load.specs.Stops.{IsLoadFile}
use Rattle.px_load.proofs.Stopping.{disk_fault, stops_after, stops_graph}
use Rattle.px_load.proofs.filling.fill_store.Goals as goal

no_file : (f : ℕ) → NoFile f → IsLoadFile f
no_file f none = absurd none

pub take_all-requires-clause-ready : goal.take_all-requires-clause-ready
take_all-requires-clause-ready g c = subst (λ (q : ℕ). IsReady g.St.Store.counted q c.start.new.desk (g.GD.Disk.shown c.start.new.disk)) (sym c.start.ensures.part) c.in_ok-start.ensures.done.ready

pub bulk_end-requires : goal.bulk_end-requires
bulk_end-requires g c = subst (λ (q : ℕ). IsReady g.St.Store.counted q c.take_all.new.desk (g.GD.Disk.shown c.take_all.new.graph)) (sym c.take_all.ensures.part) c.in_ok-take_all.ensures.done.ready

pub settle-requires : goal.settle-requires
settle-requires g c = subst (λ (q : ℕ). IsReady g.St.Store.counted q c.bulk_end.new.desk (g.GD.Disk.shown c.bulk_end.new.disk)) (sym c.bulk_end.ensures.part) c.in_ok-bulk_end.ensures.done.ready

pub returns-clause-holds : goal.returns-clause-holds
returns-clause-holds g c = λ l bodies m give tells.
    c.in_ok-settle.ensures.holds (vertices_of l) (c.in_ok-bulk_end.ensures.holds (vertices_of l) (c.in_ok-take_all.ensures.took l bodies m give (OnTrue_at (c.in_ok-start.ensures.done.clean.touches.tells ∙ tells) c.in_ok-start.ensures.fills)))

pub returns-clause-leaves : goal.returns-clause-leaves
returns-clause-leaves g c = OnTrue_from g.St.Store.counted _ (λ is. λ l bodies m give.
    omega (arith, OnTrue_at is c.settle.ensures.leaves, OnTrue_at is c.bulk_end.ensures.leaves, OnTrue_at is c.in_ok-take_all.ensures.leaves l bodies m give, OnTrue_at is c.start.ensures.leaves))

pub returns-clause-reads : goal.returns-clause-reads
returns-clause-reads g c = OnTrue_from g.St.Store.counted _ (λ is. λ l bodies m give.
    omega (arith, OnTrue_at is c.settle.ensures.reads, OnTrue_at is c.bulk_end.ensures.reads, OnTrue_at is c.take_all.ensures.reads l bodies m give, OnTrue_at is c.start.ensures.reads))

pub returns-in_err-settle-clause-reads : goal.returns-in_err-settle-clause-reads
returns-in_err-settle-clause-reads g c = OnTrue_from g.St.Store.counted _ (λ is. λ l bodies m give.
    omega (arith, OnTrue_at is c.settle.ensures.reads, OnTrue_at is c.bulk_end.ensures.reads, OnTrue_at is c.take_all.ensures.reads l bodies m give, OnTrue_at is c.start.ensures.reads))

pub returns-in_err-bulk_end-clause-reads : goal.returns-in_err-bulk_end-clause-reads
returns-in_err-bulk_end-clause-reads g c = OnTrue_from g.St.Store.counted _ (λ is. λ l bodies m give.
    omega (arith, OnTrue_at is c.bulk_end.ensures.reads, OnTrue_at is c.take_all.ensures.reads l bodies m give, OnTrue_at is c.start.ensures.reads))

pub returns-in_err-take_all-clause-reads : goal.returns-in_err-take_all-clause-reads
returns-in_err-take_all-clause-reads g c = OnTrue_from g.St.Store.counted _ (λ is. λ l bodies m give.
    omega (arith, OnTrue_at is c.take_all.ensures.reads l bodies m give, OnTrue_at is c.start.ensures.reads))

pub returns-in_err-start-clause-reads : goal.returns-in_err-start-clause-reads
returns-in_err-start-clause-reads g c = OnTrue_from g.St.Store.counted _ (λ is. λ l bodies m give. omega (arith, OnTrue_at is c.start.ensures.reads))

pub returns-clause-desk : goal.returns-clause-desk
returns-clause-desk g c = desk_then _ _ _ c.start.ensures.desk (desk_then _ _ _ c.take_all.ensures.desk (desk_then _ _ _ c.bulk_end.ensures.desk c.settle.ensures.desk))

pub returns-in_err-settle-clause-desk : goal.returns-in_err-settle-clause-desk
returns-in_err-settle-clause-desk g c = desk_then _ _ _ c.start.ensures.desk (desk_then _ _ _ c.take_all.ensures.desk (desk_then _ _ _ c.bulk_end.ensures.desk c.settle.ensures.desk))

pub returns-in_err-bulk_end-clause-desk : goal.returns-in_err-bulk_end-clause-desk
returns-in_err-bulk_end-clause-desk g c = desk_then _ _ _ c.start.ensures.desk (desk_then _ _ _ c.take_all.ensures.desk c.bulk_end.ensures.desk)

pub returns-in_err-take_all-clause-desk : goal.returns-in_err-take_all-clause-desk
returns-in_err-take_all-clause-desk g c = desk_then _ _ _ c.start.ensures.desk c.take_all.ensures.desk

pub returns-clause-done : goal.returns-clause-done
returns-clause-done g c =
    let st = g.St.Store in
    let graph = g.GD.Disk.shown in
    let take = subst (λ (q : ℕ). IsDone st.counted q c.start.new.desk (graph c.start.new.disk) c.take_all.new.desk (graph c.take_all.new.graph)) c.start.ensures.part c.in_ok-take_all.ensures.done in
    let end = subst (λ (q : ℕ). IsDone st.counted q c.take_all.new.desk (graph c.take_all.new.graph) c.bulk_end.new.desk (graph c.bulk_end.new.disk)) (c.take_all.ensures.part ∙ c.start.ensures.part) c.in_ok-bulk_end.ensures.done in
    let last = subst (λ (q : ℕ). IsDone st.counted q c.bulk_end.new.desk (graph c.bulk_end.new.disk) c.settle.new.desk (graph c.settle.new.disk)) (c.bulk_end.ensures.part ∙ c.take_all.ensures.part ∙ c.start.ensures.part) c.in_ok-settle.ensures.done in
    done_then _ _ _ _ _ _ _ _ c.in_ok-start.ensures.done (done_then _ _ _ _ _ _ _ _ take (done_then _ _ _ _ _ _ _ _ end last))

pub returns-in_err-start-clause-err : goal.returns-in_err-start-clause-err
returns-in_err-start-clause-err g c =
    let end = err_from_is_err_and c.from_residual.result c.from_residual.ensures.1 in
    rw (end.1, end.2) (λ own n. stops_graph n _ _ _ c.in_err-start.field-0.0 c.in_err-start.ensures.err)

pub returns-in_err-take_all-clause-err : goal.returns-in_err-take_all-clause-err
returns-in_err-take_all-clause-err g c =
    let end = err_from_is_err_and c.from_residual-in_err-take_all.result c.from_residual-in_err-take_all.ensures.1 in
    rw (end.1, end.2) (λ own n. stops_after n n n _ _ _ _ _ _ _ refl c.in_ok-start.ensures.done.clean (clean_refl IsLoadFile _) (c.in_err-take_all.ensures.err own n))

pub returns-in_err-bulk_end-clause-err : goal.returns-in_err-bulk_end-clause-err
returns-in_err-bulk_end-clause-err g c =
    let end = err_from_is_err_and c.from_residual-in_err-bulk_end.result c.from_residual-in_err-bulk_end.ensures.1 in
    rw (end.1, end.2) (λ own n. stops_after n n n _ _ _ _ _ _ _ refl (clean_then AnyFile _ _ _ c.in_ok-start.ensures.done.clean c.in_ok-take_all.ensures.done.clean) (clean_more NoFile IsLoadFile _ _ no_file c.in_ok-take_all.ensures.scratch)
    (stops_graph n _ _ _ c.in_err-bulk_end.field-0.0 c.in_err-bulk_end.ensures.err))

pub returns-in_err-settle-clause-err : goal.returns-in_err-settle-clause-err
returns-in_err-settle-clause-err g c =
    let end = err_from_is_err_and c.from_residual-in_err-settle.result c.from_residual-in_err-settle.ensures.1 in
    rw (end.1, end.2) (λ own n. stops_after n n n _ _ _ _ _ _ _ refl
    (clean_then AnyFile _ _ _ c.in_ok-start.ensures.done.clean (clean_then AnyFile _ _ _ c.in_ok-take_all.ensures.done.clean c.in_ok-bulk_end.ensures.done.clean)) (clean_more NoFile IsLoadFile _ _ no_file c.in_ok-take_all.ensures.scratch)
    (stops_graph n _ _ _ c.in_err-settle.field-0.0 c.in_err-settle.ensures.err))

pub returns-in_err-start-clause-fault : goal.returns-in_err-start-clause-fault
returns-in_err-start-clause-fault g c =
    let end = err_from_is_err_and c.from_residual.result c.from_residual.ensures.1 in
    rw (end.1, end.2) (disk_fault c.in_err-start.field-0.0)

pub returns-in_err-bulk_end-clause-fault : goal.returns-in_err-bulk_end-clause-fault
returns-in_err-bulk_end-clause-fault g c =
    let end = err_from_is_err_and c.from_residual-in_err-bulk_end.result c.from_residual-in_err-bulk_end.ensures.1 in
    rw (end.1, end.2) (disk_fault c.in_err-bulk_end.field-0.0)

pub returns-in_err-settle-clause-fault : goal.returns-in_err-settle-clause-fault
returns-in_err-settle-clause-fault g c =
    let end = err_from_is_err_and c.from_residual-in_err-settle.result c.from_residual-in_err-settle.ensures.1 in
    rw (end.1, end.2) (disk_fault c.in_err-settle.field-0.0)

pub returns-in_err-take_all-clause-fault : goal.returns-in_err-take_all-clause-fault
returns-in_err-take_all-clause-fault g c =
    let end = err_from_is_err_and c.from_residual-in_err-take_all.result c.from_residual-in_err-take_all.ensures.1 in
    rw (end.1, end.2) c.in_err-take_all.ensures.fault
