use Rattle.std.proofs.Common.{rules, arith, ◌≤◌, ◌<◌, ◌+◌, ◌∙◌, ◌==◌, ℕ, sym, subst, refl, length}
use Rattle.std.specs.Prelude.{slice_index_or}
use Rattle.std.proofs.lemmas.Bool.{OnTrue_at, OnTrue_from}
use Rattle.std.proofs.lemmas.Result.{err_from_is_err_and}
use Rattle.px_core.specs.Parts.{to_part}
use Rattle.px_core.specs.Partition.{partition_of}
use Rattle.px_core.specs.Shown.{Only, NoFile}
use Rattle.px_core.proofs.Keeping.{same_by_none}
use Rattle.px_core.proofs.Steps.{clean_more}
use Rattle.px_meaning.specs.Graph.{IsMap}
use Rattle.px_meaning.specs.Merge.{Pairs}
use Rattle.px_meaning.proofs.MapParts.{IsMap-filter}
use Rattle.px_store.proofs.Apart.{desk_refl, desk_then}
use Rattle.px_stream.specs.Stream.{Holds}
use Rattle.px_stream.proofs.Kept.{has_same}
use Rattle.px_load.specs.Held.{tuples}
use Rattle.px_load.specs.Reading.{AllBodies, vertices_of}
use Rattle.px_load.specs.Stops.{IsLoadFile}
use Rattle.px_connectors.specs.Writers.{HoldParts}
use Rattle.px_load.proofs.FillingSteps.{part_bodies, count_all, count_next, count_none, hold_all}
use Rattle.px_load.proofs.Stopping.{stops_after}
use Rattle.px_load.proofs.filling.fill_all.Goals as goal

no_file : (f : ℕ) → NoFile f → IsLoadFile f
no_file f none = absurd none

pub loop-q-init : goal.loop-q-init
loop-q-init g c = record {
  holds = λ k bodies m hold tells i x low at. absurd (omega (arith, low));
  leaves = OnTrue_from g.St.Store.counted _ (λ is. λ k bodies m hold i x low at. absurd (omega (arith, low)));
  reads = OnTrue_from g.St.Store.counted _ (λ is. λ k bodies m hold. omega (arith, count_none (length c.args.stores.now) k));
  count = search rules;
  end = search rules;
  parts = search rules;
  desk = desk_refl _;
  free = search rules;
  clean = search rules;
  scratch = search rules;
  frames = search rules;
}

pub loop-q-preserved : goal.loop-q-preserved
loop-q-preserved g c =
    let i = c.loop-q.invariant in
    let q = c.loop-q.q in
    let parts = length c.args.stores.now in
    let s = g.SD.Disk.shown c.args.scratch.now in
    let t = g.SD.Disk.shown c.loop-q.scratch in
    let room = c.args.frames.now.vertex.room in
    let low : q < parts = omega (arith, c.loop-q-test.true, i.end) in
    let place = λ (k : Pairs) (hold : HoldParts s 1 192 parts c.args.pages.now k). subst (λ (n : ℕ). Holds t (192 + q) n (tuples (to_part parts q k))) (sym c.pages_at-count.ensures)
    (has_same s t (192 + q) 0 (slice_index_or c.args.pages.now q 0) (tuples (to_part parts q k)) (same_by_none (Only (192 + q)) s t i.scratch.touches) (hold.each q low)) in
    let own = λ (k : Pairs) (bodies : AllBodies room k). subst (λ (n : ℕ). AllBodies n (to_part parts q k)) (sym i.frames.vertex.room) (part_bodies room parts q k bodies) in
    let map_of = λ (k : Pairs) (m : IsMap k). IsMap-filter (λ (n : ℕ). partition_of n parts == q) k m in
    let graphs = λ (k : Pairs) (n : ℕ). vertices_of (to_part parts n k) in
    record {
      holds = λ k bodies m hold tells. c.in_ok-fill_at.ensures.holds (graphs k) (to_part parts q k) (own k bodies) (map_of k m) (place k hold) (i.clean.touches.tells ∙ tells) refl (i.holds k bodies m hold tells);
      leaves = OnTrue_from g.St.Store.counted _ (λ is. λ k bodies m hold. OnTrue_at is c.in_ok-fill_at.ensures.leaves (graphs k) (to_part parts q k) (own k bodies) (map_of k m) (place k hold) refl (OnTrue_at is i.leaves k bodies m hold));
      reads = OnTrue_from g.St.Store.counted _ (λ is. λ k bodies m hold.
          omega (arith, OnTrue_at is c.fill_at.ensures.reads (to_part parts q k) (own k bodies) (map_of k m) (place k hold), OnTrue_at is i.reads k bodies m hold, count_next parts q k));
      count = search rules;
      end = search rules;
      parts = search rules;
      desk = desk_then _ _ _ i.desk c.fill_at.ensures.desk;
      free = search rules;
      clean = search rules;
      scratch = search rules;
      frames = search rules;
    }

pub returns-clause-holds : goal.returns-clause-holds
returns-clause-holds g c = λ k bodies m hold tells.
    let i = c.loop-q.invariant in
    hold_all (λ x h. g.St.Store.holds x c.loop-q.desk (g.GD.Disk.shown c.loop-q.graph) h) c.loop-q.stores (length c.args.stores.now) c.loop-q.q k (omega (arith, c.loop-q-test.false, i.end)) i.count (i.holds k bodies m hold tells)

pub returns-clause-leaves : goal.returns-clause-leaves
returns-clause-leaves g c = OnTrue_from g.St.Store.counted _ (λ is. λ k bodies m hold.
    let i = c.loop-q.invariant in
    hold_all (λ x h. g.St.Store.leaves x ≤ length h + 1) c.loop-q.stores (length c.args.stores.now) c.loop-q.q k (omega (arith, c.loop-q-test.false, i.end)) i.count (OnTrue_at is i.leaves k bodies m hold))

pub returns-clause-reads : goal.returns-clause-reads
returns-clause-reads g c = OnTrue_from g.St.Store.counted _ (λ is. λ k bodies m hold. omega (arith, OnTrue_at is c.loop-q.invariant.reads k bodies m hold, count_all (length c.args.stores.now) c.loop-q.q k))

pub returns-in_err-fill_at-clause-reads : goal.returns-in_err-fill_at-clause-reads
returns-in_err-fill_at-clause-reads g c = OnTrue_from g.St.Store.counted _ (λ is. λ k bodies m hold.
    let i = c.loop-q.invariant in
    let q = c.loop-q.q in
    let parts = length c.args.stores.now in
    let s = g.SD.Disk.shown c.args.scratch.now in
    let t = g.SD.Disk.shown c.loop-q.scratch in
    let room = c.args.frames.now.vertex.room in
    let low : q < parts = omega (arith, c.loop-q-test.true, i.end) in
    let place = λ (k : Pairs) (hold : HoldParts s 1 192 parts c.args.pages.now k). subst (λ (n : ℕ). Holds t (192 + q) n (tuples (to_part parts q k))) (sym c.pages_at-count.ensures)
    (has_same s t (192 + q) 0 (slice_index_or c.args.pages.now q 0) (tuples (to_part parts q k)) (same_by_none (Only (192 + q)) s t i.scratch.touches) (hold.each q low)) in
    let own = λ (k : Pairs) (bodies : AllBodies room k). subst (λ (n : ℕ). AllBodies n (to_part parts q k)) (sym i.frames.vertex.room) (part_bodies room parts q k bodies) in
    let map_of = λ (k : Pairs) (m : IsMap k). IsMap-filter (λ (n : ℕ). partition_of n parts == q) k m in
    omega (arith, OnTrue_at is c.fill_at.ensures.reads (to_part parts q k) (own k bodies) (map_of k m) (place k hold), OnTrue_at is i.reads k bodies m hold, count_next parts q k, count_all parts (q + 1) k))

pub returns-in_err-fill_at-clause-err : goal.returns-in_err-fill_at-clause-err
returns-in_err-fill_at-clause-err g c =
    let end = err_from_is_err_and c.from_residual.result c.from_residual.ensures.1 in
    let i = c.loop-q.invariant in
    rw (end.1, end.2) (λ n. stops_after n n n _ _ _ _ _ _ _ refl i.clean (clean_more NoFile IsLoadFile _ _ no_file i.scratch) (c.in_err-fill_at.ensures.err n))

pub returns-in_err-fill_at-clause-fault : goal.returns-in_err-fill_at-clause-fault
returns-in_err-fill_at-clause-fault g c =
    let end = err_from_is_err_and c.from_residual.result c.from_residual.ensures.1 in
    rw (end.1, end.2) c.in_err-fill_at.ensures.fault

pub returns-in_err-fill_at-clause-desk : goal.returns-in_err-fill_at-clause-desk
returns-in_err-fill_at-clause-desk g c = desk_then _ _ _ c.loop-q.invariant.desk c.fill_at.ensures.desk
