use Rattle.std.proofs.Common.{rules, ◌≡◌, ◌<◌, ◌+◌, ◌^◌, ℕ, Bool, subst, refl}
use Rattle.std.specs.Prelude.{if◌then◌else◌}
use Rattle.std.proofs.lemmas.Result.{err_from_is_err_and}
use Rattle.px_core.proofs.Steps.{broke_after}
use Rattle.px_cache.specs.View.{AnyFile}
use Rattle.px_meaning.specs.Graph.{Graph}
use Rattle.px_store.specs.Desks.{IsDone, GivesNext}
use Rattle.px_store.proofs.Apart.{done_refl, done_then, desk_refl, desk_then}
use Rattle.px_superstep.proofs.Tallying.{counts_first, counts_next, counts_over, counts_all}
use Rattle.px_superstep.proofs.counting.count_rest.Goals as goal

pub loop-v-init : goal.loop-v-init
loop-v-init g c = record {
  counts = λ k first. counts_first _ _ k refl refl first;
  part = search rules;
  done = done_refl _ _ _ _ c.requires.ready;
  desk = desk_refl _;
  vertex = search rules;
}

pub loop-v-preserved : goal.loop-v-preserved
loop-v-preserved g c =
    let i = c.loop-v.invariant in
    let was = c.loop-v in
    let st = g.St.Store in
    let graph = g.D.Disk.shown in
    let v = c.next.new.into in
    let Gives : Graph → Graph → Type 0 = λ a b. st.scans c.next.new.self c.next.new.desk (graph c.next.new.disk) a b in
    record {
      counts = λ k first. counts_next _ Gives was.tally c.with_vertex-tally.result v.vid v.vertex k (λ a b h. subst (λ (x : Bool). GivesNext x v.vid v.vertex a b Gives) c.if-branch.true (c.in_ok-next.ensures.gives a b h))
          c.with_vertex-tally.ensures.count (subst (λ (b : Bool). was.tally.live + 1 < 2 ^ 64 → c.with_vertex-tally.result.live ≡ was.tally.live + (if b then 0 else 1)) c.halt.ensures c.with_vertex-tally.ensures.live) (i.counts k first);
      part = search rules;
      done = done_then _ _ _ _ _ _ _ _ i.done (subst (λ (q : ℕ). IsDone st.counted q was.desk (graph was.disk) c.next.new.desk (graph c.next.new.disk)) i.part c.in_ok-next.ensures.done);
      desk = desk_then _ _ _ i.desk c.next.ensures.desk;
      vertex = search rules;
    }

pub returns-clause-scans : goal.returns-clause-scans
returns-clause-scans g c = λ l first.
    let st = g.St.Store in
    let v = c.next.new.into in
    let Gives : Graph → Graph → Type 0 = λ a b. st.scans c.next.new.self c.next.new.desk (g.D.Disk.shown c.next.new.disk) a b in
    counts_over _ Gives _ v.vid v.vertex l (λ a b h. subst (λ (x : Bool). GivesNext x v.vid v.vertex a b Gives) c.if-branch.false (c.in_ok-next.ensures.gives a b h)) (c.loop-v.invariant.counts l first)

pub returns-clause-counted : goal.returns-clause-counted
returns-clause-counted g c = λ l first.
    let st = g.St.Store in
    let v = c.next.new.into in
    let Gives : Graph → Graph → Type 0 = λ a b. st.scans c.next.new.self c.next.new.desk (g.D.Disk.shown c.next.new.disk) a b in
    counts_all _ Gives _ v.vid v.vertex l (λ a b h. subst (λ (x : Bool). GivesNext x v.vid v.vertex a b Gives) c.if-branch.false (c.in_ok-next.ensures.gives a b h)) (c.loop-v.invariant.counts l first)

pub returns-clause-done : goal.returns-clause-done
returns-clause-done g c =
    let i = c.loop-v.invariant in
    let st = g.St.Store in
    let graph = g.D.Disk.shown in
    done_then _ _ _ _ _ _ _ _ i.done (subst (λ (q : ℕ). IsDone st.counted q c.loop-v.desk (graph c.loop-v.disk) c.next.new.desk (graph c.next.new.disk)) i.part c.in_ok-next.ensures.done)

pub returns-in_err-next-clause-err : goal.returns-in_err-next-clause-err
returns-in_err-next-clause-err g c =
    let end = err_from_is_err_and c.from_residual.result c.from_residual.ensures.1 in
    let stop : end.0 ≡ c.in_err-next.field-0.0 = cc in
    rw (end.1, stop) (broke_after _ AnyFile _ _ _ _ c.loop-v.invariant.done.clean c.in_err-next.ensures.err)
