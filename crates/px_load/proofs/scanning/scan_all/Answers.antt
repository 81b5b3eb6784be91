use Rattle.std.proofs.Common.{rules, arith, ◌≤◌, ◌<◌, ◌+◌, ◌∙◌, ℕ, ◌*◌, ap, sym, subst, refl, length, map, List}
use Rattle.std.specs.Prelude.{slice_index_or}
use Rattle.std.proofs.lemmas.Bool.{OnTrue_at, OnTrue_from}
use Rattle.std.proofs.lemmas.Result.{err_from_is_err_and}
use Rattle.px_core.specs.Parts.{to_part}
use Rattle.px_core.specs.Shown.{Only}
use Rattle.px_core.proofs.Steps.{clean_more, clean_then}
use Rattle.px_store.proofs.Apart.{desk_refl, desk_then}
use Rattle.px_load.specs.Dumping.{IsDumpFile}
use Rattle.px_load.specs.Scanning.{HoldsVertices}
use Rattle.px_load.proofs.DumpStopping.{dump_after}
use Rattle.px_load.proofs.ScanningSteps.{keep_refl, keep_then, hold_kept, files_next, map_length, total_next, total_all, own_file}
use Rattle.px_load.proofs.scanning.scan_all.Goals as goal

pub loop-q-init : goal.loop-q-init
loop-q-init g c = record {
  keeps = keep_refl _ c.args.stores.now;
  files = λ k hold tells. record { each = λ q low. absurd (omega (arith, low)) };
  leaves = OnTrue_from g.St.Store.counted _ (λ is. refl);
  reads = OnTrue_from g.St.Store.counted _ (λ is. omega arith);
  count = search rules;
  end = search rules;
  below = omega arith;
  parts = search rules;
  desk = desk_refl _;
  free = search rules;
  clean = search rules;
  far = λ f ps far shows. shows;
  scratch = search rules;
  frames = search rules;
}

pub loop-q-preserved : goal.loop-q-preserved
loop-q-preserved g c =
    let i = c.loop-q.invariant in
    let q = c.loop-q.q in
    let xs = c.args.stores.now in
    let parts = length xs in
    let st = g.St.Store in
    let graph = g.GD.Disk.shown in
    let s = g.SD.Disk.shown c.args.scratch.now in
    let t = g.SD.Disk.shown c.loop-q.scratch in
    let u = g.SD.Disk.shown c.scan_at.new.scratch in
    let room = c.args.frames.now.vertex.room in
    let low : q < parts = omega (arith, c.loop-q-test.true, i.end) in
    let one = c.in_ok-count.ensures in
    record {
      keeps = keep_then _ _ _ xs c.loop-q.stores c.scan_at.new.stores i.keeps one.keeps;
      files = λ k hold tells.
          let now = one.file k (hold_kept _ _ xs c.loop-q.stores k i.count i.keeps hold) (i.scratch.touches.tells ∙ tells) in
          let mine = subst (λ (n : ℕ). HoldsVertices u n (192 + q) c.in_ok-count.count (to_part parts q k)) i.frames.vertex.room (subst (λ (n : ℕ). HoldsVertices u c.loop-q.frames.vertex.room (192 + q) c.in_ok-count.count (to_part n q k)) i.count now) in
          files_next t u room parts q c.in_ok-count.count c.loop-q.pages c.note_pages.new.pages k one.scratch.touches c.note_pages.ensures.at c.note_pages.ensures.others mine (i.files k hold tells);
      leaves = OnTrue_from st.counted _ (λ is. OnTrue_at is c.scan_at.ensures.leaves ∙ OnTrue_at is i.leaves);
      reads = OnTrue_from st.counted _ (λ is. omega (arith, OnTrue_at is c.scan_at.ensures.reads, OnTrue_at is i.reads, ap (λ (ns : List ℕ). slice_index_or ns q 0) (OnTrue_at is i.leaves), total_next (map st.leaves xs) q (omega (arith, low, map_length st.leaves xs))));
      count = search rules;
      end = search rules;
      below = omega (arith, low);
      parts = search rules;
      desk = desk_then _ _ _ i.desk c.scan_at.ensures.desk;
      free = search rules;
      clean = search rules;
      far = λ f ps far shows. one.far f ps (subst (λ (n : ℕ). 8 * n ≤ f) (sym i.count) far) (i.far f ps far shows);
      scratch = clean_then IsDumpFile s t u i.scratch (clean_more (Only (192 + q)) IsDumpFile t u (own_file q (omega (arith, low, i.count, i.parts.most))) one.scratch);
      frames = search rules;
    }

pub returns-clause-files : goal.returns-clause-files
returns-clause-files g c = λ k hold tells.
    let i = c.loop-q.invariant in
    let f = i.files k hold tells in
    record { each = λ q low. f.each q (omega (arith, low, c.loop-q-test.false, i.end)) }

pub returns-clause-reads : goal.returns-clause-reads
returns-clause-reads g c = OnTrue_from g.St.Store.counted _ (λ is.
    let i = c.loop-q.invariant in
    omega (arith, OnTrue_at is i.reads, total_all (map g.St.Store.leaves c.args.stores.now) c.loop-q.q, i.below))

pub returns-in_err-count-clause-leaves : goal.returns-in_err-count-clause-leaves
returns-in_err-count-clause-leaves g c = OnTrue_from g.St.Store.counted _ (λ is. OnTrue_at is c.scan_at.ensures.leaves ∙ OnTrue_at is c.loop-q.invariant.leaves)

pub returns-in_err-count-clause-reads : goal.returns-in_err-count-clause-reads
returns-in_err-count-clause-reads g c = OnTrue_from g.St.Store.counted _ (λ is.
    let i = c.loop-q.invariant in
    let q = c.loop-q.q in
    let xs = c.args.stores.now in
    let ns = map g.St.Store.leaves xs in
    let low : q < length xs = omega (arith, c.loop-q-test.true, i.end) in
    omega (arith, low, OnTrue_at is c.scan_at.ensures.reads, OnTrue_at is i.reads, ap (λ (ms : List ℕ). slice_index_or ms q 0) (OnTrue_at is i.leaves), total_next ns q (omega (arith, low, map_length g.St.Store.leaves xs)), total_all ns (q + 1)))

pub returns-in_err-count-clause-desk : goal.returns-in_err-count-clause-desk
returns-in_err-count-clause-desk g c = desk_then _ _ _ c.loop-q.invariant.desk c.scan_at.ensures.desk

pub returns-in_err-count-clause-err : goal.returns-in_err-count-clause-err
returns-in_err-count-clause-err g c =
    let end = err_from_is_err_and c.from_residual.result c.from_residual.ensures.1 in
    let i = c.loop-q.invariant in
    rw (end.1, end.2) (λ n. dump_after n n n _ _ _ _ _ _ _ refl i.clean i.scratch (c.in_err-count.ensures.err n))
