use Rattle.std.proofs.Common.{◌≡◌, ℕ, length, None, true, false, sym, ◌∙◌, ap, subst, arith, rules, refl}
use Rattle.std.specs.Prelude.{Some}
use Rattle.std.specs.Vec.{with_items}
use Rattle.std.proofs.lemmas.List.{with_items_is}
use Rattle.std.proofs.lemmas.Result.{on_ok_weaker, IfErr-weaker}
use Rattle.px_frames.specs.Banks.{BankView, with_home}
use Rattle.px_load.specs.Loading.{AreStores}
use Rattle.px_meaning.specs.Graph.{room_of}
use Rattle.px_meaning.specs.Step.{step}
use Rattle.px_superstep.specs.Benches.{HasBench}
use Rattle.px_superstep.specs.Plans.{IsBank}
use Rattle.px_superstep.proofs.JobStanding.{stands_here}
use Rattle.px_superstep.proofs.Stepping.{free_over, messages_slot, requests_still, bench_still, both_back}
use Rattle.px_superstep.proofs.Stopping.{phase_weaker}
use Rattle.px_superstep.proofs.job.Job.superstep.Goals as goal

pub lend-requires-clause-in_range : goal.lend-requires-clause-in_range
lend-requires-clause-in_range g c = (messages_slot c.args.self.now.bank _ c.requires.job.bank).in_range

pub lend-requires-clause-home : goal.lend-requires-clause-home
lend-requires-clause-home g c = (messages_slot c.args.self.now.bank _ c.requires.job.bank).home

pub lend-requires-2-clause-in_range : goal.lend-requires-2-clause-in_range
lend-requires-2-clause-in_range g c = rw (c.lend.ensures.out) (requests_still c.args.self.now.bank _ c.requires.job.bank).in_range

pub lend-requires-2-clause-home : goal.lend-requires-2-clause-home
lend-requires-2-clause-home g c = rw (c.lend.ensures.out) (requests_still c.args.self.now.bank _ c.requires.job.bank).home

pub superstep_with-answer-requires-clause-lent : goal.superstep_with-answer-requires-clause-lent
superstep_with-answer-requires-clause-lent g c =
    let b = c.args.self.now.bank in
    let out : c.lend-2.new.self ≡ with_home (with_home b 3 false) 4 false = c.lend-2.ensures.out ∙ ap (λ (x : BankView). with_home x 4 false) c.lend.ensures.out in
    let len : c.lend-2.new.self.frame_len ≡ b.frame_len = ap (λ (x : BankView). x.frame_len) out in
    let mid : c.lend.new.self.frame_len ≡ b.frame_len = ap (λ (x : BankView). x.frame_len) c.lend.ensures.out in
    record {
      bench = subst HasBench (sym out) (bench_still b _ c.requires.job.bank);
      parts = subst (AreStores g.St.Store.part) (sym c.deref_mut.ensures.value) c.requires.job.stores;
      free = c.requires.job.free (g.GD.Disk.shown c.args.graph.now) c.requires.graph_len;
      graph_len = len ∙ sym c.requires.graph_len;
      scratch_len = len ∙ sym c.requires.scratch_len;
      senders = search rules;
      connector_len = c.open-connector.ensures.frame_len ∙ c.lend.ensures.frame_len ∙ sym len;
      receivers_are = search rules;
      requests_len = c.open-requests.ensures.frame_len ∙ c.lend-2.ensures.frame_len ∙ mid ∙ sym len;
    }

pub returns-clause-bank : goal.returns-clause-bank
returns-clause-bank g c =
    c.give-2.ensures
    ∙ ap (λ (x : BankView). with_home x 3 true)
    (c.give.ensures ∙ ap (λ (x : BankView). with_home x 4 true) (c.superstep_with-answer.ensures.stays.bank_stays ∙ c.lend-2.ensures.out ∙ ap (λ (x : BankView). with_home x 4 false) c.lend.ensures.out))
    ∙ both_back c.args.self.now.bank _ c.requires.job.bank

pub returns-clause-job : goal.returns-clause-job
returns-clause-job g c =
    let job = c.args.self.now in
    let w = c.superstep_with-answer.ensures in
    let xs = c.superstep_with-answer.new.stores in
    let long : length xs ≡ job.stores.len = omega (arith, w.stays.count, c.deref_mut.ensures.len) in
    let items : (with_items job.stores xs).items ≡ xs = with_items_is job.stores xs long in
    let count : length job.stores.items ≡ length (with_items job.stores xs).items = sym (ap length items ∙ w.stays.count ∙ ap length c.deref_mut.ensures.value) in
    let bank : c.give-2.new.self ≡ job.bank = returns-clause-bank g c in
    let len : job.bank.frame_len ≡ c.give-2.new.self.frame_len = ap (λ (x : BankView). x.frame_len) (sym bank) in
    let sent : c.superstep_with-answer.new.bank.frame_len ≡ job.bank.frame_len =
    ap (λ (x : BankView). x.frame_len) (w.stays.bank_stays ∙ c.lend-2.ensures.out ∙ ap (λ (x : BankView). with_home x 4 false) c.lend.ensures.out) in
    on_ok_weaker c.superstep_with-answer.result
    (λ lent. record {
      bank = subst (λ (n : ℕ). IsBank n true false c.give-2.new.self) count (subst (IsBank (length job.stores.items) true false) (sym bank) c.requires.job.bank);
      stores = subst (AreStores g.St.Store.part) (sym items) w.stays.parts;
      free = free_over g.St.Store.counted _ _ _ (sym lent.graph_len ∙ sent ∙ len) lent.free;
    })
    w.lent

pub returns-clause-stands : goal.returns-clause-stands
returns-clause-stands g c =
    let job = c.args.self.now in
    let w = c.superstep_with-answer.ensures in
    let p = g.P.Program.meaning job.program in
    let xs = c.superstep_with-answer.new.stores in
    let long : length xs ≡ job.stores.len = omega (arith, w.stays.count, c.deref_mut.ensures.len) in
    let items : (with_items job.stores xs).items ≡ xs = with_items_is job.stores xs long in
    let room : room_of (g.SD.Disk.shown c.args.scratch.now).page_len ≡ room_of job.bank.frame_len = ap room_of c.requires.scratch_len in
    on_ok_weaker c.superstep_with-answer.result
    (λ all s st. (let next = all s (stands_here p _ _ _ _ _ _ _ _ _ _ _ _ _ s room c.deref_mut.ensures.value refl refl refl st) in record {
      next = next.next;
      is = subst (λ (n : ℕ). step p n s ≡ Some next.next) room next.is;
      stands = stands_here p _ _ _ _ _ _ _ _ _ _ _ _ _ next.next (sym room) items w.stays.count refl refl next.stands;
    }))
    w.stands

pub returns-clause-err : goal.returns-clause-err
returns-clause-err g c =
    let job = c.args.self.now in
    let w = c.superstep_with-answer.ensures in
    let p = g.P.Program.meaning job.program in
    let room : room_of (g.SD.Disk.shown c.args.scratch.now).page_len ≡ room_of job.bank.frame_len = ap room_of c.requires.scratch_len in
    IfErr-weaker c.superstep_with-answer.result _ _
    (λ e. phase_weaker _ _ _ _ _ _ _ _ e (λ f mine. mine) (λ why s st. subst (λ (n : ℕ). step p n s ≡ None) room (why s (stands_here p _ _ _ _ _ _ _ _ _ _ _ _ _ s room c.deref_mut.ensures.value refl refl refl st))))
    w.err
