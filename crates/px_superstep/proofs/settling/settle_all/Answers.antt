use Rattle.std.proofs.Common.{rules, arith, ◌≡◌, ◌<◌, ◌+◌, ℕ, length, sym, ◌∙◌, ap, subst, refl}
use Rattle.std.specs.Prelude.{IsTrue}
use Rattle.std.proofs.lemmas.Result.{err_from_is_err_and}
use Rattle.px_core.proofs.Steps.{clean_refl, clean_then, clean_more}
use Rattle.px_cache.specs.View.{AnyFile}
use Rattle.px_frames.specs.Banks.{BankView}
use Rattle.px_meaning.specs.Graph.{Graph, room_of}
use Rattle.px_meaning.specs.Merge.{Pairs}
use Rattle.px_connectors.specs.Asking.{pages_of}
use Rattle.px_store.proofs.Apart.{desk_refl, desk_then}
use Rattle.px_mutations.specs.Applying.{settled_after, is_settling_beyond}
use Rattle.px_superstep.specs.Benches.{HasBench}
use Rattle.px_superstep.specs.Files.{vid_file, IsResultFile, IsSettlingFile, IsStepFile}
use Rattle.px_superstep.specs.Steps.{SettledBelow, IsSum}
use Rattle.px_superstep.proofs.Delivering.{settled_is, settling_is_step}
use Rattle.px_superstep.proofs.SettlingSteps.{sum_next}
use Rattle.px_superstep.proofs.Ending.{stops_after}
use Rattle.px_superstep.proofs.settling.settle_all.Goals as goal

pub loop-q-init : goal.loop-q-init
loop-q-init g c = record {
  settled = λ before changes asked h. h;
  summed = λ before changes asked h. record { count = refl; live = refl };
  few = omega arith;
  live = omega arith;
  count = refl;
  tallies_are = c.requires.tallies;
  end = search rules;
  bound = omega arith;
  parts = c.requires.parts;
  free = c.requires.free;
  graph_len = c.requires.graph_len;
  scratch_len = c.requires.scratch_len;
  bench = c.requires.bench;
  bank = refl;
  desk = desk_refl _;
  clean = clean_refl AnyFile _;
  ok = clean_refl IsSettlingFile _;
}

pub loop-q-preserved : goal.loop-q-preserved
loop-q-preserved g c =
    let p = g.P.Program.meaning c.args.program.now in
    let inv = c.loop-q.invariant in
    let q = c.loop-q.q in
    let n = length c.args.stores.now in
    let par = c.args.parity in
    let t0 = g.SD.Disk.shown c.args.scratch.now in
    let t = g.SD.Disk.shown c.loop-q.scratch in
    let t' = g.SD.Disk.shown c.settle_at.new.scratch in
    let g1 = g.GD.Disk.shown c.loop-q.graph in
    let g2 = g.GD.Disk.shown c.settle_at.new.graph in
    let room = room_of t0.page_len in
    let was = c.in_ok-new.ensures in
    let same = c.settle_at.ensures in
    let low : q < n = omega (arith, c.loop-q-test.true, inv.end) in
    let few : q < 16 = omega (arith, low, c.requires.parts.most) in
    let same_room : room_of t.page_len ≡ room = ap room_of inv.ok.touches.page_len in
    let pages = pages_of c.args.requests.now in
    let here = λ (before changes : ℕ → Graph) (asked : ℕ → Pairs) (h : SettledBelow p room par (λ x k. g.St.Store.holds x c.loop-q.desk g1 k) c.loop-q.stores t c.loop-q.tallies c.args.update_pages.now pages before changes asked q).
    subst (λ (r : ℕ). SettledBelow p r par (λ x k. g.St.Store.holds x c.loop-q.desk g1 k) c.loop-q.stores t c.loop-q.tallies c.args.update_pages.now pages before changes asked q) (sym same_room) h in
    record {
      settled = λ before changes asked h. subst (λ (r : ℕ). SettledBelow p r par (λ x k. g.St.Store.holds x c.settle_at.new.desk g2 k) c.settle_at.new.stores t' c.settle_at.new.tallies c.args.update_pages.now pages before changes asked (q + 1)) same_room
          (was.next before changes asked (here before changes asked (inv.settled before changes asked h)));
      summed = λ before changes asked h. sum_next (λ i. settled_after p (before i) (changes i) (asked i)) q c.loop-q.sum c.in_ok-new.new (inv.summed before changes asked h) (was.tally before changes asked (here before changes asked (inv.settled before changes asked h)));
      few = (let a = inv.few in let b = was.few in omega (arith, a, b));
      live = (let a = inv.live in let b = was.live in omega (arith, a, b));
      count = same.count ∙ inv.count;
      tallies_are = same.tallies ∙ inv.tallies_are;
      end = search rules;
      bound = omega (arith, low);
      parts = same.parts;
      free = was.free;
      graph_len = ap (λ (b : BankView). b.frame_len) same.bank ∙ inv.graph_len ∙ sym was.clean.touches.page_len;
      scratch_len = ap (λ (b : BankView). b.frame_len) same.bank ∙ inv.scratch_len ∙ sym was.ok.touches.page_len;
      bench = subst HasBench (sym same.bank) inv.bench;
      bank = same.bank ∙ inv.bank;
      desk = desk_then _ _ _ inv.desk same.desk;
      clean = clean_then AnyFile _ _ _ inv.clean was.clean;
      ok = clean_then IsSettlingFile t0 t t' inv.ok (clean_more (IsResultFile (vid_file par q)) IsSettlingFile t t' (settled_is par q c.requires.parity few) was.ok);
    }

pub returns-clause-settled : goal.returns-clause-settled
returns-clause-settled g c = λ before changes asked h.
    let inv = c.loop-q.invariant in
    let n = length c.args.stores.now in
    let over : c.loop-q.q ≡ n = omega (arith, inv.end, inv.bound, c.loop-q-test.false) in
    subst (λ (k : ℕ). SettledBelow (g.P.Program.meaning c.args.program.now) (room_of (g.SD.Disk.shown c.args.scratch.now).page_len) c.args.parity (λ x l. g.St.Store.holds x c.loop-q.desk (g.GD.Disk.shown c.loop-q.graph) l) c.loop-q.stores (g.SD.Disk.shown c.loop-q.scratch) c.loop-q.tallies c.args.update_pages.now (pages_of c.args.requests.now) before changes asked k) over (inv.settled before changes asked h)

pub returns-clause-sum : goal.returns-clause-sum
returns-clause-sum g c = λ before changes asked h.
    let inv = c.loop-q.invariant in
    let n = length c.args.stores.now in
    let over : c.loop-q.q ≡ n = omega (arith, inv.end, inv.bound, c.loop-q-test.false) in
    subst (λ (k : ℕ). IsSum k (λ i. settled_after (g.P.Program.meaning c.args.program.now) (before i) (changes i) (asked i)) c.loop-q.sum) over (inv.summed before changes asked h)

pub returns-in_err-new-clause-err : goal.returns-in_err-new-clause-err
returns-in_err-new-clause-err g c =
    let p = g.P.Program.meaning c.args.program.now in
    let inv = c.loop-q.invariant in
    let q = c.loop-q.q in
    let par = c.args.parity in
    let t0 = g.SD.Disk.shown c.args.scratch.now in
    let t = g.SD.Disk.shown c.loop-q.scratch in
    let g0 = g.GD.Disk.shown c.args.graph.now in
    let g1 = g.GD.Disk.shown c.loop-q.graph in
    let room = room_of t0.page_len in
    let same_room : room_of t.page_len ≡ room = ap room_of inv.ok.touches.page_len in
    let end = err_from_is_err_and c.from_residual.result c.from_residual.ensures.1 in
    rw (end.1, end.2) (stops_after IsStepFile IsStepFile _ _ g0 g1 _ t0 t _ _ (λ f own. own)
    (λ too. λ before changes asked h. record {
      q = q;
      beyond = subst (λ (r : ℕ). IsTrue (is_settling_beyond p r (settled_after p (before q) (changes q) (asked q)) (asked q))) same_room
          (too before changes asked (subst (λ (r : ℕ). SettledBelow p r par (λ x k. g.St.Store.holds x c.loop-q.desk g1 k) c.loop-q.stores t c.loop-q.tallies c.args.update_pages.now (pages_of c.args.requests.now) before changes asked q) (sym same_room) (inv.settled before changes asked h)));
    })
    inv.clean (clean_more IsSettlingFile IsStepFile t0 t settling_is_step inv.ok) c.in_err-new.ensures.err)

pub returns-in_err-new-clause-desk : goal.returns-in_err-new-clause-desk
returns-in_err-new-clause-desk g c = desk_then _ _ _ c.loop-q.invariant.desk c.settle_at.ensures.desk
