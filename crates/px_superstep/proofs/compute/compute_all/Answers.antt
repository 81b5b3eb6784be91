use Rattle.std.proofs.Common.{arith, ◌≡◌, ◌<◌, ◌≤◌, ◌+◌, ◌*◌, ◌^◌, ℕ, [], ◌∷◌, ◌++◌, length, sym, ◌∙◌, ap, subst, refl, inl, inr}
use Rattle.std.specs.Int.{bit_at}
use Rattle.std.specs.Prelude.{IsTrue}
use Rattle.std.proofs.lemmas.Bool.{cases_eq}
use Rattle.std.proofs.lemmas.Result.{err_from_is_err_and}
use Rattle.px_core.proofs.Steps.{clean_refl, clean_then, clean_more}
use Rattle.px_cache.specs.View.{AnyFile}
use Rattle.px_store.proofs.Apart.{clean_then as graph_then}
use Rattle.px_meaning.specs.Graph.{room_of}
use Rattle.px_connectors.specs.Asking.{Asked}
use Rattle.px_global_state.specs.declared.part.Part.{Part}
use Rattle.px_compute_op.specs.Phase.{IsPart, is_part_beyond}
use Rattle.px_superstep.specs.Files.{IsComputeFile, IsStepFile}
use Rattle.px_superstep.specs.Parting.{times}
use Rattle.px_superstep.specs.Partial.{computed_at}
use Rattle.px_superstep.specs.Phases.{IsTotal}
use Rattle.px_superstep.specs.Steps.{StandsMidway}
use Rattle.px_superstep.proofs.Bits.{bits_below, bits_all, bits_none, bits_fewer, some_ready, below_ready, total_after}
use Rattle.px_superstep.proofs.Staying.{stays_refl, stays_then}
use Rattle.px_superstep.proofs.Parting.{times-append, times_here, times_past}
use Rattle.px_superstep.proofs.Phases.{computed_only}
use Rattle.px_superstep.proofs.Slices.{carry}
use Rattle.px_superstep.proofs.Ending.{stops_after}
use Rattle.px_superstep.proofs.compute.compute_all.Goals as goal

pub loop-init : goal.loop-init
loop-init g c =
    let p = g.P.Program.meaning c.args.program.now in
    let n = length c.args.stores.now in
    let none = c.no_part-total.ensures.part in
    record {
      going = λ s st asked. record {
        done = [];
        reached = record {
          stands = st;
          phase = record {
            updates = λ q k at once. absurd (omega (arith, once));
            sends = λ q low once. absurd (omega (arith, once));
            asked = asked;
            stored = λ q low once. absurd (omega (arith, once));
            fit = λ q low once. absurd (omega (arith, once));
          };
        };
        numbers = subst (λ (k : Part). IsTotal p n s k []) (sym none) (record { sends = refl; requests = refl; contributed = refl });
        once = λ k low. (let a = c.all_ready-ready.ensures.set k low in omega (arith, a));
      };
      ones = (let a = bits_all n c.all_ready-ready.result (λ i low. c.all_ready-ready.ensures.set i low) in omega (arith, a));
      high = λ k above within. c.all_ready-ready.ensures.clear k above;
      few_sends = (let a = ap (λ (k : Part). k.sends) none in omega (arith, a));
      few_requests = (let a = ap (λ (k : Part). k.requests) none in omega (arith, a));
      small = c.no_part-total.ensures.small;
      pages = c.requires.pages;
      lent = c.requires.lent;
      stays = stays_refl g.St.Store.part _ _ _ _ _ c.requires.lent.parts;
      clean = clean_refl AnyFile _;
      ok = clean_refl IsStepFile _;
    }

pub pick-q-requires : goal.pick-q-requires
pick-q-requires g c = some_ready (length c.args.stores.now) c.loop.ready c.loop.counter c.loop.invariant.ones (omega arith)

pub loop-preserved : goal.loop-preserved
loop-preserved g c =
    let p = g.P.Program.meaning c.args.program.now in
    let laws = g.met.P.Program.laws c.args.program.now in
    let n = length c.args.stores.now in
    let n' = length c.loop.stores in
    let t0 = g.SD.Disk.shown c.args.scratch.now in
    let t = g.SD.Disk.shown c.loop.scratch in
    let t' = g.SD.Disk.shown c.compute_at.new.scratch in
    let g1 = g.GD.Disk.shown c.loop.graph in
    let g2 = g.GD.Disk.shown c.compute_at.new.graph in
    let room = room_of t0.page_len in
    let inv = c.loop.invariant in
    let q = c.pick-q.result in
    let on = c.pick-q.ensures.set in
    let within = c.pick-q.ensures.within in
    let was = c.in_ok-part.ensures in
    let same_room : room_of t.page_len ≡ room = ap room_of inv.ok.touches.page_len in
    let same_n : n' ≡ n = inv.stays.count in
    let low : q < n = below_ready n c.loop.ready q inv.high within on in
    let sum = c.join_parts-total.ensures.part in
    let off = c.without-ready.ensures.cleared in
    let others = c.without-ready.ensures.others in
    record {
      going = λ s st asked.
          let before = inv.going s st asked in
          let free = before.once q low in
          let new : times q before.done ≡ 0 = omega (arith, free, on) in
          let here = subst (λ (r : ℕ). StandsMidway p r g.J.Join.probing (λ x l. g.St.Store.holds x c.loop.desk g1 l) c.loop.stores t c.args.msg_pages.now c.args.tallies.now c.args.gs.now (g.C.Connector.sent c.loop.connector t) (Asked t c.loop.requests) c.loop.update_pages s before.done) (sym same_room) before.reached in
          let part = subst (λ (k : ℕ). IsPart p (computed_at p k s q) c.in_ok-part.part) same_n (was.part s before.done here) in
          record {
            done = before.done ++ q ∷ [];
            reached = subst (λ (r : ℕ). StandsMidway p r g.J.Join.probing (λ x l. g.St.Store.holds x c.compute_at.new.desk g2 l) c.compute_at.new.stores t' c.args.msg_pages.now c.args.tallies.now c.args.gs.now (g.C.Connector.sent c.compute_at.new.connector t') (Asked t' c.compute_at.new.requests) c.compute_at.new.update_pages s (before.done ++ q ∷ [])) same_room
                (was.next s before.done here new);
            numbers = subst (λ (k : Part). IsTotal p n s k (before.done ++ q ∷ [])) (sym sum) (total_after p laws n s c.loop.total c.in_ok-part.part before.done q inv.small before.numbers part);
            once = λ k below. elim (cases_eq k q) [
              | inl e ↦ subst (λ (j : ℕ). times j (before.done ++ q ∷ []) + bit_at c.without-ready.result j ≡ 1) (sym e)
                  (let a = times-append q before.done (q ∷ []) in let b = times_here q q [] refl in omega (arith, a, b, off, new))
              | inr other ↦ (let a = times-append k before.done (q ∷ []) in let b = times_past k q [] other in let same = others k (omega (arith, below, c.requires.lent.parts.most)) other in let old = before.once k below in omega (arith, a, b, same, old))
            ];
          };
      ones = (let a = bits_fewer n c.loop.ready c.without-ready.result q low on off (λ i below other. others i (omega (arith, below, c.requires.lent.parts.most)) other) in let b = inv.ones in omega (arith, a, b));
      high = λ k above bound. others k bound (λ e. absurd (omega (arith, e, low, above))) ∙ inv.high k above bound;
      few_sends = subst (λ (k : Part). k.sends ≤ 2 ^ 40 * (c.loop.counter + 1)) (sym sum) (let a = inv.few_sends in let b = was.few_sends in omega (arith, a, b));
      few_requests = subst (λ (k : Part). k.requests ≤ 2 ^ 40 * (c.loop.counter + 1)) (sym sum) (let a = inv.few_requests in let b = was.few_requests in omega (arith, a, b));
      small = c.join_parts-total.ensures.small;
      pages = c.compute_at.ensures.pages;
      lent = was.lent;
      stays = stays_then g.St.Store.part _ _ _ _ _ _ _ _ _ _ _ _ _ _ _ inv.stays c.compute_at.ensures.stays;
      clean = graph_then _ _ _ inv.clean was.clean;
      ok = clean_then IsStepFile _ _ _ inv.ok (clean_more (IsComputeFile q) IsStepFile _ _ (computed_only q (omega (arith, low, c.requires.lent.parts.most))) was.ok);
    }

pub returns-in_err-part-clause-err : goal.returns-in_err-part-clause-err
returns-in_err-part-clause-err g c =
    let p = g.P.Program.meaning c.args.program.now in
    let n = length c.args.stores.now in
    let t0 = g.SD.Disk.shown c.args.scratch.now in
    let t = g.SD.Disk.shown c.loop.scratch in
    let g1 = g.GD.Disk.shown c.loop.graph in
    let room = room_of t0.page_len in
    let inv = c.loop.invariant in
    let q = c.pick-q.result in
    let low : q < n = below_ready n c.loop.ready q inv.high c.pick-q.ensures.within c.pick-q.ensures.set in
    let same_room : room_of t.page_len ≡ room = ap room_of inv.ok.touches.page_len in
    let end = err_from_is_err_and c.from_residual.result c.from_residual.ensures.1 in
    rw (end.1, end.2) (stops_after IsStepFile IsStepFile _ _ _ _ _ _ _ _ _ (λ f own. own)
    (λ too. λ s st asked.
    let before = inv.going s st asked in
    let here = subst (λ (r : ℕ). StandsMidway p r g.J.Join.probing (λ x l. g.St.Store.holds x c.loop.desk g1 l) c.loop.stores t c.args.msg_pages.now c.args.tallies.now c.args.gs.now (g.C.Connector.sent c.loop.connector t) (Asked t c.loop.requests) c.loop.update_pages s before.done) (sym same_room) before.reached in
    record {
      q = q;
      below = low;
      beyond = carry (λ r k. IsTrue (is_part_beyond p r (computed_at p k s q))) (room_of t.page_len) room (length c.loop.stores) n same_room inv.stays.count (too s before.done here);
    })
    inv.clean inv.ok c.in_err-part.ensures.err)

pub returns-in_err-part-clause-stays : goal.returns-in_err-part-clause-stays
returns-in_err-part-clause-stays g c = stays_then g.St.Store.part _ _ _ _ _ _ _ _ _ _ _ _ _ _ _ c.loop.invariant.stays c.compute_at.ensures.stays

pub returns-clause-computed : goal.returns-clause-computed
returns-clause-computed g c = λ s st asked.
    let n = length c.args.stores.now in
    let before = c.loop.invariant.going s st asked in
    let all = c.loop.invariant.ones in
    let over : bits_below n c.loop.ready ≡ 0 = omega arith in
    record {
      done = before.done;
      reached = before.reached;
      numbers = before.numbers;
      once = λ k low. (let off = bits_none n c.loop.ready over k low in let is = before.once k low in omega (arith, off, is));
    }
