use Rattle.std.proofs.Common.{rules, arith, ◌≡◌, ◌<◌, ℕ, false, length, sym, ◌∙◌, ap, subst, refl, inl, inr}
use Rattle.std.specs.Prelude.{IsTrue}
use Rattle.std.proofs.lemmas.Bool.{cases_eq}
use Rattle.std.proofs.lemmas.Result.{err_from_is_err_and}
use Rattle.px_core.specs.Parts.{to_part, all_of}
use Rattle.px_core.proofs.Steps.{clean_refl, clean_then, clean_more}
use Rattle.px_meaning.specs.Graph.{room_of}
use Rattle.px_meaning.specs.Merge.{Pairs, AllValid, grouped}
use Rattle.px_meaning.specs.Step.{has_wide_fold}
use Rattle.px_stream.specs.Stream.{Holds}
use Rattle.px_connectors.specs.Views.{ConnectorView}
use Rattle.px_store.specs.Joins.{message_tuples}
use Rattle.px_frames.specs.Banks.{BankView}
use Rattle.px_superstep.specs.Benches.{HasBench}
use Rattle.px_superstep.specs.Files.{msg_file, IsDeliveryFile, IsResultFile, IsStepFile}
use Rattle.px_superstep.proofs.Delivering.{msg_is, delivered_is, delivery_is_step, delivered_next}
use Rattle.px_superstep.proofs.Slices.{each_more, below, carry}
use Rattle.px_superstep.proofs.Ending.{grouping_then}
use Rattle.px_superstep.proofs.delivery.deliver_all.Goals as goal

pub loop-q-init : goal.loop-q-init
loop-q-init g c = record {
  holds = λ ls sent valid i n at low. absurd (omega (arith, low));
  fits = λ ls sent valid i low. absurd (omega (arith, low));
  sent = λ p k h. h;
  count = refl;
  end = search rules;
  view = refl;
  bank = refl;
  bench = c.requires.bench;
  parts_are = c.requires.parts;
  len = c.requires.len;
  connector_len = c.requires.connector_len;
  ok = clean_refl IsDeliveryFile _;
}

pub gather_part-requires-clause-to : goal.gather_part-requires-clause-to
gather_part-requires-clause-to g c = msg_is c.args.parity c.loop-q.q c.requires.parity (omega (arith, c.loop-q-test.true, c.loop-q.invariant.end, c.requires.most))

pub loop-q-preserved : goal.loop-q-preserved
loop-q-preserved g c =
    let rule = (g.P.Program.meaning c.args.program.now).message in
    let inv = c.loop-q.invariant in
    let q = c.loop-q.q in
    let parts = length c.args.msg_pages.now in
    let t0 = g.SD.Disk.shown c.args.scratch.now in
    let t = g.SD.Disk.shown c.loop-q.scratch in
    let t' = g.SD.Disk.shown c.gather_part.new.scratch in
    let was = c.in_ok-pages.ensures in
    let low : q < parts = omega (arith, c.loop-q-test.true, inv.end) in
    let few : q < 16 = omega (arith, low, c.requires.most) in
    let same = c.gather_part.ensures in
    let parts_of = λ (v : ConnectorView). v.parts in
    let sent_by = λ (ls : ℕ → Pairs) (h : (p : ℕ) → p < parts → g.C.Connector.sent c.args.connector.now t0 p (ls p)) (p : ℕ) (lt : p < (g.C.Connector.view c.loop-q.connector).parts). inv.sent p (ls p) (h p (omega (arith, lt, inv.parts_are))) in
    let valid_by = λ (ls : ℕ → Pairs) (v : AllValid rule (all_of parts ls)). subst (λ (k : ℕ). AllValid rule (all_of k ls)) (sym inv.parts_are) v in
    record {
      holds = λ ls sent valid. delivered_next c.args.parity q c.in_ok-pages.pages c.loop-q.msg_pages t t' (λ i. message_tuples (grouped rule (to_part parts i (all_of parts ls)))) (omega (arith, low, inv.count)) was.ok.touches
          (subst (λ (k : ℕ). Holds t' (msg_file c.args.parity q) c.in_ok-pages.pages (message_tuples (grouped rule (to_part k q (all_of k ls))))) inv.parts_are (was.holds ls (sent_by ls sent) (valid_by ls valid)))
          (inv.holds ls sent valid);
      fits = λ ls sent valid i lt. elim (cases_eq i q) [
        | inl e ↦ subst (λ (j : ℕ). has_wide_fold rule (room_of t0.page_len) (to_part parts j (all_of parts ls)) ≡ false) (sym e)
            (carry (λ k r. has_wide_fold rule r (to_part k q (all_of k ls)) ≡ false) (g.C.Connector.view c.loop-q.connector).parts parts (room_of t.page_len) (room_of t0.page_len) inv.parts_are (ap room_of inv.ok.touches.page_len) (was.fits ls (sent_by ls sent) (valid_by ls valid)))
        | inr other ↦ inv.fits ls sent valid i (omega (arith, lt, other))
      ];
      sent = λ p k h. was.sent p k (inv.sent p k h);
      count = search rules;
      end = search rules;
      view = same.connector ∙ inv.view;
      bank = same.bank ∙ inv.bank;
      bench = subst HasBench (sym same.bank) inv.bench;
      parts_are = ap parts_of same.connector ∙ inv.parts_are;
      len = ap (λ (b : BankView). b.frame_len) same.bank ∙ inv.len ∙ sym was.ok.touches.page_len;
      connector_len = ap (λ (v : ConnectorView). v.frame_len) same.connector ∙ inv.connector_len ∙ sym was.ok.touches.page_len;
      ok = clean_then IsDeliveryFile t0 t t' inv.ok (clean_more (IsResultFile (msg_file c.args.parity q)) IsDeliveryFile t t' (delivered_is c.args.parity q c.requires.parity few) was.ok);
    }

pub returns-clause-holds : goal.returns-clause-holds
returns-clause-holds g c = λ ls sent valid.
    let inv = c.loop-q.invariant in
    let rule = (g.P.Program.meaning c.args.program.now).message in
    let parts = length c.args.msg_pages.now in
    let t = g.SD.Disk.shown c.loop-q.scratch in
    each_more (λ i n. i < c.loop-q.q → Holds t (msg_file c.args.parity i) n (message_tuples (grouped rule (to_part parts i (all_of parts ls))))) (λ i n. Holds t (msg_file c.args.parity i) n (message_tuples (grouped rule (to_part parts i (all_of parts ls))))) c.loop-q.msg_pages
    (λ i n at held. held (let b = below c.loop-q.msg_pages i n at in omega (arith, b, inv.count, inv.end, c.loop-q-test.false))) (inv.holds ls sent valid)

pub returns-clause-fits : goal.returns-clause-fits
returns-clause-fits g c = λ ls sent valid i low. c.loop-q.invariant.fits ls sent valid i (omega (arith, low, c.loop-q.invariant.end, c.loop-q-test.false))

pub returns-in_err-pages-clause-err : goal.returns-in_err-pages-clause-err
returns-in_err-pages-clause-err g c =
    let rule = (g.P.Program.meaning c.args.program.now).message in
    let inv = c.loop-q.invariant in
    let q = c.loop-q.q in
    let parts = length c.args.msg_pages.now in
    let t0 = g.SD.Disk.shown c.args.scratch.now in
    let t = g.SD.Disk.shown c.loop-q.scratch in
    let n = (g.C.Connector.view c.loop-q.connector).parts in
    let end = err_from_is_err_and c.from_residual.result c.from_residual.ensures.1 in
    rw (end.1, end.2) (grouping_then IsStepFile IsStepFile _ _ t0 t _ _ (λ f own. own)
    (λ too. λ ls sent valid. record {
      q = q;
      wide = carry (λ k r. IsTrue (has_wide_fold rule r (to_part k q (all_of k ls)))) n parts (room_of t.page_len) (room_of t0.page_len) inv.parts_are (ap room_of inv.ok.touches.page_len)
          (too ls (λ p lt. inv.sent p (ls p) (sent p (omega (arith, lt, inv.parts_are)))) (subst (λ (k : ℕ). AllValid rule (all_of k ls)) (sym inv.parts_are) valid));
    })
    (clean_more IsDeliveryFile IsStepFile t0 t delivery_is_step inv.ok) c.in_err-pages.ensures.err)
