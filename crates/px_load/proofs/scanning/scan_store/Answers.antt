use Rattle.std.proofs.Common.{arith, ◌≡◌, ◌∙◌, ℕ, [], ap, sym, subst, refl}
use Rattle.std.proofs.lemmas.List.{append-nil}
use Rattle.std.proofs.lemmas.Bool.{OnTrue_at, OnTrue_from}
use Rattle.std.proofs.lemmas.Result.{err_from_is_err_and}
use Rattle.px_cache.specs.View.{AnyFile}
use Rattle.px_core.specs.Shown.{Clean, Only}
use Rattle.px_core.proofs.Steps.{clean_refl, clean_more, clean_then, clean_of, broke_of}
use Rattle.px_store.specs.Desks.{IsDone, IsReady}
use Rattle.px_store.proofs.Apart.{done_then, desk_then}
use Rattle.px_stream.specs.Stream.{Has}
use Rattle.px_stream.specs.Views.{WriterView}
use Rattle.px_load.specs.Dumping.{IsDumpFile}
use Rattle.px_load.proofs.DumpStopping.{dump_after, dump_graph, dump_scratch}
use Rattle.px_load.proofs.ScanningSteps.{spelled_more}
use Rattle.px_load.proofs.scanning.scan_store.Goals as goal

pub put_all-requires-clause-ready : goal.put_all-requires-clause-ready
put_all-requires-clause-ready g c = subst (λ (q : ℕ). IsReady g.St.Store.counted q c.rewind.new.desk (g.GD.Disk.shown c.rewind.new.disk)) (sym c.rewind.ensures.part) c.in_ok-rewind.ensures.done.ready

pub settle-requires : goal.settle-requires
settle-requires g c = subst (λ (q : ℕ). IsReady g.St.Store.counted q c.put_all.new.desk (g.GD.Disk.shown c.put_all.new.graph)) (sym c.put_all.ensures.part) c.in_ok-put_all.ensures.done.ready

pub returns-clause-keeps : goal.returns-clause-keeps
returns-clause-keeps g c = λ l holds.
    c.in_ok-settle.ensures.holds l (subst (g.St.Store.holds c.put_all.new.store c.put_all.new.desk (g.GD.Disk.shown c.put_all.new.graph)) (append-nil l) (g.met.St.Store.scan_holds c.put_all.new.store c.put_all.new.desk (g.GD.Disk.shown c.put_all.new.graph) l [] (c.in_ok-put_all.ensures.scans l (c.in_ok-rewind.ensures.scans l holds))))

pub returns-clause-file : goal.returns-clause-file
returns-clause-file g c = λ l holds tells.
    let s = g.SD.Disk.shown c.finish.new.disk in
    let took = c.in_ok-put_all.ensures.took l (c.in_ok-rewind.ensures.scans l holds) (c.in_ok-start.ensures.took tells) in
    let first = c.in_ok-finish.ensures.ok.first ∙ c.in_ok-put_all.ensures.first ∙ ap (λ (w : WriterView). w.first) c.in_ok-start.ensures.after in
    let file = c.finish.ensures.stays.file ∙ c.put_all.ensures.file ∙ c.start.ensures.stays.file in
    spelled_more _ _ (Has s c.args.writer.now.file 0 c.pages.result) l
    (λ es had. rw (c.pages.ensures) (subst (λ (n : ℕ). Has s c.args.writer.now.file n c.finish.new.self.pages es) first (subst (λ (n : ℕ). Has s n c.finish.new.self.first c.finish.new.self.pages es) file (c.in_ok-finish.ensures.holds es had)))) took

pub returns-clause-leaves : goal.returns-clause-leaves
returns-clause-leaves g c = OnTrue_from g.St.Store.counted _ (λ is. OnTrue_at is c.settle.ensures.leaves ∙ OnTrue_at is c.put_all.ensures.leaves ∙ OnTrue_at is c.rewind.ensures.leaves)

pub returns-clause-reads : goal.returns-clause-reads
returns-clause-reads g c = OnTrue_from g.St.Store.counted _ (λ is. omega (arith, OnTrue_at is c.settle.ensures.reads, OnTrue_at is c.put_all.ensures.reads, OnTrue_at is c.rewind.ensures.reads))

pub returns-clause-desk : goal.returns-clause-desk
returns-clause-desk g c = desk_then _ _ _ c.rewind.ensures.desk (desk_then _ _ _ c.put_all.ensures.desk c.settle.ensures.desk)

pub returns-clause-done : goal.returns-clause-done
returns-clause-done g c =
    let st = g.St.Store in
    let graph = g.GD.Disk.shown in
    let put = subst (λ (q : ℕ). IsDone st.counted q c.rewind.new.desk (graph c.rewind.new.disk) c.put_all.new.desk (graph c.put_all.new.graph)) c.rewind.ensures.part c.in_ok-put_all.ensures.done in
    let last = subst (λ (q : ℕ). IsDone st.counted q c.put_all.new.desk (graph c.put_all.new.graph) c.settle.new.desk (graph c.settle.new.disk)) (c.put_all.ensures.part ∙ c.rewind.ensures.part) c.in_ok-settle.ensures.done in
    done_then _ _ _ _ _ _ _ _ c.in_ok-rewind.ensures.done (done_then _ _ _ _ _ _ _ _ put last)

-- the writer's calls before the last
pub returns-clause-scratch : goal.returns-clause-scratch
returns-clause-scratch g c =
    let file = c.args.writer.now.file in
    let one = clean_of (Only file) 0 0 _ _ c.in_ok-start.ensures.ok in
    let two = clean_more (Only c.start.new.self.file) (Only file) _ _ (λ f is. is ∙ c.start.ensures.stays.file) c.in_ok-put_all.ensures.scratch in
    let last : Clean (Only c.put_all.new.writer.file) (g.SD.Disk.shown c.put_all.new.scratch) (g.SD.Disk.shown c.finish.new.disk) = record { touches = c.in_ok-finish.ensures.ok.touches; no_fault = c.in_ok-finish.ensures.ok.no_fault } in
    let three = clean_more (Only c.put_all.new.writer.file) (Only file) _ _ (λ f is. is ∙ c.put_all.ensures.file ∙ c.start.ensures.stays.file) last in
    clean_then (Only file) _ _ _ one (clean_then (Only file) _ _ _ two three)

pub returns-in_err-rewind-clause-err : goal.returns-in_err-rewind-clause-err
returns-in_err-rewind-clause-err g c =
    let end = err_from_is_err_and c.from_residual.result c.from_residual.ensures.1 in
    rw (end.1, end.2) (λ own n. dump_graph n _ _ _ c.in_err-rewind.field-0.0 c.in_err-rewind.ensures.err)

pub returns-in_err-start-clause-err : goal.returns-in_err-start-clause-err
returns-in_err-start-clause-err g c =
    let end = err_from_is_err_and c.from_residual-in_err-start.result c.from_residual-in_err-start.ensures.1 in
    let file = c.args.writer.now.file in
    rw (end.1, end.2) (λ own n. dump_after n n n _ _ _ _ _ _ _ refl c.in_ok-rewind.ensures.done.clean (clean_refl IsDumpFile _)
    (dump_scratch (Only file) n _ _ _ c.in_err-start.field-0.0 (λ f is. subst IsDumpFile (sym is) own) (broke_of _ _ 0 0 _ _ _ c.in_err-start.ensures.err)))

pub returns-in_err-put_all-clause-err : goal.returns-in_err-put_all-clause-err
returns-in_err-put_all-clause-err g c =
    let end = err_from_is_err_and c.from_residual-in_err-put_all.result c.from_residual-in_err-put_all.ensures.1 in
    let file = c.args.writer.now.file in
    rw (end.1, end.2) (λ own n. dump_after n n n _ _ _ _ _ _ _ refl c.in_ok-rewind.ensures.done.clean (clean_more (Only file) IsDumpFile _ _ (λ f is. subst IsDumpFile (sym is) own) (clean_of (Only file) 0 0 _ _ c.in_ok-start.ensures.ok))
    (c.in_err-put_all.ensures.err (subst IsDumpFile (sym c.start.ensures.stays.file) own) n))

pub returns-in_err-settle-clause-err : goal.returns-in_err-settle-clause-err
returns-in_err-settle-clause-err g c =
    let end = err_from_is_err_and c.from_residual-in_err-settle.result c.from_residual-in_err-settle.ensures.1 in
    let file = c.args.writer.now.file in
    let one = clean_of (Only file) 0 0 _ _ c.in_ok-start.ensures.ok in
    let two = clean_more (Only c.start.new.self.file) (Only file) _ _ (λ f is. is ∙ c.start.ensures.stays.file) c.in_ok-put_all.ensures.scratch in
    rw (end.1, end.2) (λ own n. dump_after n n n _ _ _ _ _ _ _ refl (clean_then AnyFile _ _ _ c.in_ok-rewind.ensures.done.clean c.in_ok-put_all.ensures.done.clean)
    (clean_more (Only file) IsDumpFile _ _ (λ f is. subst IsDumpFile (sym is) own) (clean_then (Only file) _ _ _ one two))
    (dump_graph n _ _ _ c.in_err-settle.field-0.0 c.in_err-settle.ensures.err))

pub returns-in_err-finish-clause-err : goal.returns-in_err-finish-clause-err
returns-in_err-finish-clause-err g c =
    let end = err_from_is_err_and c.from_residual-in_err-finish.result c.from_residual-in_err-finish.ensures.1 in
    let file = c.args.writer.now.file in
    let one = clean_of (Only file) 0 0 _ _ c.in_ok-start.ensures.ok in
    let two = clean_more (Only c.start.new.self.file) (Only file) _ _ (λ f is. is ∙ c.start.ensures.stays.file) c.in_ok-put_all.ensures.scratch in
    let mine = λ (f : ℕ) (is : f ≡ c.put_all.new.writer.file). is ∙ c.put_all.ensures.file ∙ c.start.ensures.stays.file in
    rw (end.1, end.2) (λ own n. dump_after n n n _ _ _ _ _ _ _ refl (clean_then AnyFile _ _ _ c.in_ok-rewind.ensures.done.clean (clean_then AnyFile _ _ _ c.in_ok-put_all.ensures.done.clean c.in_ok-settle.ensures.done.clean))
    (clean_more (Only file) IsDumpFile _ _ (λ f is. subst IsDumpFile (sym is) own) (clean_then (Only file) _ _ _ one two))
    (dump_scratch (Only c.put_all.new.writer.file) n _ _ _ c.in_err-finish.field-0.0 (λ f is. subst IsDumpFile (sym (mine f is)) own) (broke_of _ _ 0 0 _ _ _ c.in_err-finish.ensures.err)))
