use Rattle.std.proofs.Common.{rules, ◌∙◌, ℕ, Bool, sym, subst, refl}
use Rattle.std.proofs.lemmas.Bool.{OnTrue_at, OnTrue_from}
use Rattle.std.proofs.lemmas.Result.{err_from_is_err_and}
use Rattle.px_cache.specs.View.{AnyFile}
use Rattle.px_core.specs.Shown.{Only, NoFile}
use Rattle.px_core.proofs.Steps.{clean_refl, clean_more}
use Rattle.px_meaning.specs.Merge.{Pairs}
use Rattle.px_store.specs.Desks.{IsDone}
use Rattle.px_store.proofs.Apart.{done_refl, done_then, desk_refl, desk_then}
use Rattle.px_stream.specs.Stream.{ToGive}
use Rattle.px_load.specs.Filling.{GaveNext}
use Rattle.px_load.specs.Held.{tuples}
use Rattle.px_load.specs.Reading.{AllBodies}
use Rattle.px_load.specs.Stops.{IsLoadFile}
use Rattle.px_load.proofs.FillingSteps.{fills_first, fills_next, fills_end, fills_leaves, fills_reads, fills_reads_more}
use Rattle.px_load.proofs.Stopping.{disk_fault, stops_after, stops_graph, stops_scratch}
use Rattle.px_load.proofs.filling.take_all.Goals as goal

pub loop-store-init : goal.loop-store-init
loop-store-init g c = record {
  fills = λ k bodies m give. fills_first _ _ g.St.Store.counted _ _ k (λ h. h) give;
  part = search rules;
  done = done_refl _ _ _ _ c.requires.ready;
  desk = desk_refl _;
  clean = search rules;
  reader = search rules;
  body = search rules;
  vertex = search rules;
}

pub loop-store-preserved : goal.loop-store-preserved
loop-store-preserved g c =
    let i = c.loop-store.invariant in
    let was = c.loop-store in
    let st = g.St.Store in
    let graph = g.GD.Disk.shown in
    let room = c.args.v.now.room in
    let Are = λ (rest : Pairs). ToGive (g.SD.Disk.shown c.next_vertex.new.disk) c.next_vertex.new.reader (tuples rest) in
    record {
      fills = λ k bodies m give. fills_next room _ _ _ Are st.counted _ _ _ _ _ _ c.next_vertex.new.v k bodies m
          (λ rest own h. subst (λ (b : Bool). GaveNext b c.next_vertex.new.v rest Are) c.if-branch.true (c.in_ok-next_vertex.ensures.gave rest (subst (λ (n : ℕ). AllBodies n rest) (sym i.vertex.room) own) h))
          (λ h below had first. c.in_ok-bulk_put.ensures.fills h below (had first))
          c.bulk_put.ensures.reads c.bulk_put.ensures.leaves (i.fills k bodies m give);
      part = search rules;
      done = done_then _ _ _ _ _ _ _ _ i.done (subst (λ (q : ℕ). IsDone st.counted q was.desk (graph was.graph) c.bulk_put.new.desk (graph c.bulk_put.new.disk)) i.part c.in_ok-bulk_put.ensures.done);
      desk = desk_then _ _ _ i.desk c.bulk_put.ensures.desk;
      clean = search rules;
      reader = search rules;
      body = search rules;
      vertex = search rules;
    }

pub returns-clause-took : goal.returns-clause-took
returns-clause-took g c = λ k bodies m give first.
    let i = c.loop-store.invariant in
    let room = c.args.v.now.room in
    let Are = λ (rest : Pairs). ToGive (g.SD.Disk.shown c.next_vertex.new.disk) c.next_vertex.new.reader (tuples rest) in
    fills_end room _ _ g.St.Store.counted _ _ _ _ k bodies
    (λ rest own h. subst (λ (b : Bool). GaveNext b c.next_vertex.new.v rest Are) c.if-branch.false (c.in_ok-next_vertex.ensures.gave rest (subst (λ (n : ℕ). AllBodies n rest) (sym i.vertex.room) own) h))
    (i.fills k bodies m give) first

pub returns-clause-leaves : goal.returns-clause-leaves
returns-clause-leaves g c = OnTrue_from g.St.Store.counted _ (λ is. λ k bodies m give. OnTrue_at is (fills_leaves _ _ g.St.Store.counted _ _ _ _ k (c.loop-store.invariant.fills k bodies m give)))

pub returns-clause-reads : goal.returns-clause-reads
returns-clause-reads g c = OnTrue_from g.St.Store.counted _ (λ is. λ k bodies m give. OnTrue_at is (fills_reads _ _ g.St.Store.counted _ _ _ _ k (c.loop-store.invariant.fills k bodies m give)))

pub returns-in_err-next_vertex-clause-reads : goal.returns-in_err-next_vertex-clause-reads
returns-in_err-next_vertex-clause-reads g c = OnTrue_from g.St.Store.counted _ (λ is. λ k bodies m give. OnTrue_at is (fills_reads _ _ g.St.Store.counted _ _ _ _ k (c.loop-store.invariant.fills k bodies m give)))

pub returns-in_err-bulk_put-clause-reads : goal.returns-in_err-bulk_put-clause-reads
returns-in_err-bulk_put-clause-reads g c =
    let i = c.loop-store.invariant in
    let room = c.args.v.now.room in
    let Are = λ (rest : Pairs). ToGive (g.SD.Disk.shown c.next_vertex.new.disk) c.next_vertex.new.reader (tuples rest) in
    OnTrue_from g.St.Store.counted _ (λ is. λ k bodies m give. OnTrue_at is (fills_reads_more room _ _ Are g.St.Store.counted _ _ _ _ _ c.next_vertex.new.v k bodies
    (λ rest own h. subst (λ (b : Bool). GaveNext b c.next_vertex.new.v rest Are) c.if-branch.true (c.in_ok-next_vertex.ensures.gave rest (subst (λ (n : ℕ). AllBodies n rest) (sym i.vertex.room) own) h))
    c.bulk_put.ensures.reads (i.fills k bodies m give)))

no_file : (f : ℕ) → NoFile f → IsLoadFile f
no_file f none = absurd none

pub returns-in_err-next_vertex-clause-err : goal.returns-in_err-next_vertex-clause-err
returns-in_err-next_vertex-clause-err g c =
    let end = err_from_is_err_and c.from_residual.result c.from_residual.ensures.1 in
    let i = c.loop-store.invariant in
    let a = g.GD.Disk.shown c.args.graph.now in
    let b = g.GD.Disk.shown c.loop-store.graph in
    let s = g.SD.Disk.shown c.args.scratch.now in
    let t = g.SD.Disk.shown c.loop-store.scratch in
    let u = g.SD.Disk.shown c.next_vertex.new.disk in
    let file = c.loop-store.reader.file in
    rw (end.1, end.2) (λ own n. stops_after n n n a b b s t u _ refl i.done.clean (clean_more NoFile IsLoadFile s t no_file i.clean)
    (stops_scratch (Only file) n b t u c.in_err-next_vertex.field-0.0 (λ f is. subst IsLoadFile (sym (is ∙ i.reader.file)) own) c.in_err-next_vertex.ensures.err))

pub returns-in_err-bulk_put-clause-err : goal.returns-in_err-bulk_put-clause-err
returns-in_err-bulk_put-clause-err g c =
    let end = err_from_is_err_and c.from_residual-in_err-bulk_put.result c.from_residual-in_err-bulk_put.ensures.1 in
    let i = c.loop-store.invariant in
    let a = g.GD.Disk.shown c.args.graph.now in
    let b = g.GD.Disk.shown c.loop-store.graph in
    let d = g.GD.Disk.shown c.bulk_put.new.disk in
    let s = g.SD.Disk.shown c.args.scratch.now in
    let t = g.SD.Disk.shown c.loop-store.scratch in
    let u = g.SD.Disk.shown c.next_vertex.new.disk in
    rw (end.1, end.2) (λ own n. stops_after n n n a b d s t u _ refl i.done.clean (clean_more NoFile IsLoadFile s t no_file i.clean)
    (stops_after n n n b b d t u u _ refl (clean_refl AnyFile b) (clean_more NoFile IsLoadFile t u no_file c.in_ok-next_vertex.ensures.ok) (stops_graph n b d u c.in_err-bulk_put.field-0.0 c.in_err-bulk_put.ensures.err)))

pub returns-in_err-next_vertex-clause-fault : goal.returns-in_err-next_vertex-clause-fault
returns-in_err-next_vertex-clause-fault g c =
    let end = err_from_is_err_and c.from_residual.result c.from_residual.ensures.1 in
    rw (end.1, end.2) (disk_fault c.in_err-next_vertex.field-0.0)

pub returns-in_err-bulk_put-clause-fault : goal.returns-in_err-bulk_put-clause-fault
returns-in_err-bulk_put-clause-fault g c =
    let end = err_from_is_err_and c.from_residual-in_err-bulk_put.result c.from_residual-in_err-bulk_put.ensures.1 in
    rw (end.1, end.2) (disk_fault c.in_err-bulk_put.field-0.0)
