use Rattle.std.proofs.Common.{rules, arith, ◌∙◌, ℕ, Bool, sym, subst, refl}
use Rattle.std.proofs.lemmas.Bool.{OnTrue_at, OnTrue_from}
use Rattle.std.proofs.lemmas.Result.{err_from_is_err_and}
use Rattle.px_cache.specs.View.{AnyFile}
use Rattle.px_core.specs.Shown.{Only}
use Rattle.px_core.proofs.Steps.{clean_more, clean_then, broke_of}
use Rattle.px_meaning.specs.Graph.{Graph}
use Rattle.px_record.specs.Held.{IsBody}
use Rattle.px_store.specs.Desks.{IsDone, GivesNext}
use Rattle.px_store.proofs.Apart.{done_refl, done_then, desk_refl, desk_then}
use Rattle.px_load.specs.Dumping.{IsDumpFile}
use Rattle.px_load.proofs.DumpStopping.{dump_after, dump_graph, dump_scratch}
use Rattle.px_load.proofs.ScanningSteps.{scans_first, scans_next, scans_over, scans_put, spelled_more}
use Rattle.px_load.proofs.scanning.put_all.Goals as goal

pub loop-writer-init : goal.loop-writer-init
loop-writer-init g c = record {
  scans = λ k first. scans_first _ _ _ k first (λ took. took);
  leaves = OnTrue_from g.St.Store.counted _ (λ is. refl);
  reads = OnTrue_from g.St.Store.counted _ (λ is. omega arith);
  part = search rules;
  done = done_refl _ _ _ _ c.requires.ready;
  desk = desk_refl _;
  clean = search rules;
  file = search rules;
  first = search rules;
  page_len = search rules;
  vertex = search rules;
}

pub loop-writer-preserved : goal.loop-writer-preserved
loop-writer-preserved g c =
    let i = c.loop-writer.invariant in
    let was = c.loop-writer in
    let st = g.St.Store in
    let graph = g.GD.Disk.shown in
    let room = c.args.v.now.room in
    let v = c.next.new.into in
    let Gives : Graph → Graph → Type 0 = λ a b. st.scans c.next.new.self c.next.new.desk (graph c.next.new.disk) a b in
    let own = subst (λ (n : ℕ). IsBody n c.body.result.now) (c.next.ensures.into.room ∙ i.vertex.room) (record { spells = c.body.ensures.valid; size = omega (arith, c.body.ensures.len, c.body.ensures.within.size) }) in
    record {
      scans = λ k first. scans_next _ Gives _ _ room v.vid c.body.result.now v.vertex k (λ a b h. subst (λ (x : Bool). GivesNext x v.vid v.vertex a b Gives) c.if-branch.true (c.in_ok-next.ensures.gives a b h)) own c.body.ensures.spells
          (λ es had took. rw (← c.vid.ensures) (c.in_ok-put.ensures.took es (had took))) (i.scans k first);
      leaves = OnTrue_from st.counted _ (λ is. OnTrue_at is c.next.ensures.leaves ∙ OnTrue_at is i.leaves);
      reads = OnTrue_from st.counted _ (λ is. omega (arith, OnTrue_at is c.next.ensures.reads, OnTrue_at is i.reads));
      part = search rules;
      done = done_then _ _ _ _ _ _ _ _ i.done (subst (λ (q : ℕ). IsDone st.counted q was.desk (graph was.graph) c.next.new.desk (graph c.next.new.disk)) i.part c.in_ok-next.ensures.done);
      desk = desk_then _ _ _ i.desk c.next.ensures.desk;
      clean = search rules;
      file = search rules;
      first = search rules;
      page_len = search rules;
      vertex = search rules;
    }

pub returns-clause-scans : goal.returns-clause-scans
returns-clause-scans g c = λ l first.
    let st = g.St.Store in
    let v = c.next.new.into in
    let Gives : Graph → Graph → Type 0 = λ a b. st.scans c.next.new.self c.next.new.desk (g.GD.Disk.shown c.next.new.disk) a b in
    scans_over _ Gives _ c.args.v.now.room v.vid v.vertex l (λ a b h. subst (λ (x : Bool). GivesNext x v.vid v.vertex a b Gives) c.if-branch.false (c.in_ok-next.ensures.gives a b h)) (c.loop-writer.invariant.scans l first)

pub returns-clause-took : goal.returns-clause-took
returns-clause-took g c = λ l first took.
    let st = g.St.Store in
    let v = c.next.new.into in
    let room = c.args.v.now.room in
    let Gives : Graph → Graph → Type 0 = λ a b. st.scans c.next.new.self c.next.new.desk (g.GD.Disk.shown c.next.new.disk) a b in
    spelled_more room _ _ l (λ es had. had took)
    (scans_put _ Gives _ room v.vid v.vertex l (λ a b h. subst (λ (x : Bool). GivesNext x v.vid v.vertex a b Gives) c.if-branch.false (c.in_ok-next.ensures.gives a b h)) (c.loop-writer.invariant.scans l first))

pub returns-clause-done : goal.returns-clause-done
returns-clause-done g c =
    let i = c.loop-writer.invariant in
    let st = g.St.Store in
    let graph = g.GD.Disk.shown in
    done_then _ _ _ _ _ _ _ _ i.done (subst (λ (q : ℕ). IsDone st.counted q c.loop-writer.desk (graph c.loop-writer.graph) c.next.new.desk (graph c.next.new.disk)) i.part c.in_ok-next.ensures.done)

pub returns-in_err-next-clause-err : goal.returns-in_err-next-clause-err
returns-in_err-next-clause-err g c =
    let end = err_from_is_err_and c.from_residual.result c.from_residual.ensures.1 in
    let i = c.loop-writer.invariant in
    let a = g.GD.Disk.shown c.args.graph.now in
    let b = g.GD.Disk.shown c.loop-writer.graph in
    let d = g.GD.Disk.shown c.next.new.disk in
    let s = g.SD.Disk.shown c.args.scratch.now in
    let t = g.SD.Disk.shown c.loop-writer.scratch in
    rw (end.1, end.2) (λ own n. dump_after n n n a b d s t t _ refl i.done.clean (clean_more (Only c.args.writer.now.file) IsDumpFile s t (λ f is. subst IsDumpFile (sym is) own) i.clean)
    (dump_graph n b d t c.in_err-next.field-0.0 c.in_err-next.ensures.err))

pub returns-in_err-put-clause-err : goal.returns-in_err-put-clause-err
returns-in_err-put-clause-err g c =
    let end = err_from_is_err_and c.from_residual-in_err-put.result c.from_residual-in_err-put.ensures.1 in
    let i = c.loop-writer.invariant in
    let a = g.GD.Disk.shown c.args.graph.now in
    let b = g.GD.Disk.shown c.loop-writer.graph in
    let d = g.GD.Disk.shown c.next.new.disk in
    let s = g.SD.Disk.shown c.args.scratch.now in
    let t = g.SD.Disk.shown c.loop-writer.scratch in
    let u = g.SD.Disk.shown c.put.new.disk in
    rw (end.1, end.2) (λ own n. dump_after n n n a d d s t u _ refl (clean_then AnyFile a b d i.done.clean c.in_ok-next.ensures.done.clean) (clean_more (Only c.args.writer.now.file) IsDumpFile s t (λ f is. subst IsDumpFile (sym is) own) i.clean)
    (dump_scratch (Only c.loop-writer.writer.file) n d t u c.in_err-put.field-0.0 (λ f is. subst IsDumpFile (sym (is ∙ i.file)) own) (broke_of _ _ 0 0 t u _ c.in_err-put.ensures.err)))
