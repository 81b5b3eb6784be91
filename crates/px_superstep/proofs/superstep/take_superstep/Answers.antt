use Rattle.std.proofs.Common.{◌≡◌, ◌<◌, ◌+◌, ℕ, suc, false, List, [], length, sym, ◌∙◌, ap, subst, refl, arith}
use Rattle.std.specs.Prelude.{◌%◌, IsTrue}
use Rattle.std.proofs.lemmas.Result.{err_from_is_err_and}
use Rattle.px_core.specs.Parts.{to_part, all_of}
use Rattle.px_core.proofs.Keeping.{same_by_touches}
use Rattle.px_core.proofs.Steps.{clean_refl, clean_then, clean_more}
use Rattle.px_cache.specs.View.{AnyFile}
use Rattle.px_frames.specs.Banks.{BankView}
use Rattle.px_connectors.specs.Asking.{IsRequestFile, Asked, pages_of, receivers, requests}
use Rattle.px_connectors.specs.Views.{IsSenderFile}
use Rattle.px_meaning.specs.Graph.{Graph, room_of}
use Rattle.px_meaning.specs.Merge.{AllValid, grouped}
use Rattle.px_meaning.specs.Step.{State, has_wide_fold}
use Rattle.px_stream.specs.Stream.{Holds}
use Rattle.px_store.specs.Joins.{message_tuples}
use Rattle.px_store.proofs.Apart.{desk_refl}
use Rattle.px_compute_op.specs.Phase.{is_part_beyond}
use Rattle.px_superstep.specs.Benches.{HasBench}
use Rattle.px_superstep.specs.Files.{msg_file, IsDeliveryFile, IsSettlingFile, IsStepFile}
use Rattle.px_superstep.specs.Partial.{graph_at, computed_at, after_at}
use Rattle.px_superstep.specs.Phases.{Each, PhaseAt}
use Rattle.px_superstep.specs.Steps.{StandsFor, SettledBelow, IsSum, IsFoldBeyond, IsSettlingBeyond}
use Rattle.px_superstep.proofs.Composed.{sent_at, asked_in, sent_valid, delivery_beyond, pairs_beyond, settled_beyond, vertices_beyond, all_ready, composed, computed_whole}
use Rattle.px_superstep.proofs.Delivering.{delivery_is_step, settling_is_step}
use Rattle.px_superstep.proofs.Exceeding.{part_beyond}
use Rattle.px_superstep.proofs.Staying.{stays_requests, stays_stores, stays_then, lent_again}
use Rattle.px_superstep.proofs.Nexting.{requests_high, sender_apart}
use Rattle.px_superstep.proofs.Slices.{carry}
use Rattle.px_superstep.proofs.Standing.{stands_moved, stands_told}
use Rattle.px_superstep.proofs.Ending.{stops_after, grouping_after, broke_after, too_much}
use Rattle.px_superstep.proofs.superstep.take_superstep.Goals as goal

request_is_step : (f : ℕ) → IsRequestFile f → IsStepFile f
request_is_step f r = (let a = r.high in record { high = omega (arith, a) })

pub compute_all-requires-clause-lent : goal.compute_all-requires-clause-lent
compute_all-requires-clause-lent g c =
    let part = g.St.Store.part in
    let b0 = c.args.bank.now in
    let xs0 = c.args.stores.now in
    let d0 = c.args.desk.now in
    let c0 = g.C.Connector.view c.args.connector.now in
    let r0 = c.args.requests.now in
    let r1 = c.start.new.self in
    let s1 = stays_requests part b0 xs0 d0 c0 r0 r1 c.requires.lent.parts c.start.ensures.stays in
    let g0 = g.GD.Disk.shown c.args.graph.now in
    let t0 = g.SD.Disk.shown c.args.scratch.now in
    let t1 = g.SD.Disk.shown c.start.new.disk in
    lent_again part g.St.Store.counted AnyFile IsRequestFile b0 b0 xs0 xs0 d0 d0 c0 c0 r0 r1 g0 g0 t0 t1 c.requires.lent s1 c.requires.lent.free (clean_refl AnyFile g0).touches c.in_ok-start.ensures.ok.touches

pub finish-requires : goal.finish-requires
finish-requires g c =
    c.in_ok-total.ensures.lent.requests_len ∙ c.in_ok-total.ensures.lent.scratch_len

pub deliver_all-requires-clause-bench : goal.deliver_all-requires-clause-bench
deliver_all-requires-clause-bench g c =
    c.in_ok-total.ensures.lent.bench

pub deliver_all-requires-clause-parts : goal.deliver_all-requires-clause-parts
deliver_all-requires-clause-parts g c =
    c.in_ok-total.ensures.lent.senders ∙ c.compute_all.ensures.stays.count ∙ sym c.requires.msgs

pub deliver_all-requires-clause-len : goal.deliver_all-requires-clause-len
deliver_all-requires-clause-len g c =
    c.in_ok-total.ensures.lent.scratch_len ∙ sym c.in_ok-finish.ensures.ok.touches.page_len

pub deliver_all-requires-clause-connector_len : goal.deliver_all-requires-clause-connector_len
deliver_all-requires-clause-connector_len g c =
    c.in_ok-total.ensures.lent.connector_len ∙ c.in_ok-total.ensures.lent.scratch_len ∙ sym c.in_ok-finish.ensures.ok.touches.page_len

pub settle_all-requires-clause-bench : goal.settle_all-requires-clause-bench
settle_all-requires-clause-bench g c =
    subst HasBench (sym c.deliver_all.ensures.bank) c.in_ok-total.ensures.lent.bench

pub settle_all-requires-clause-parts : goal.settle_all-requires-clause-parts
settle_all-requires-clause-parts g c =
    c.in_ok-total.ensures.lent.parts

pub settle_all-requires-clause-free : goal.settle_all-requires-clause-free
settle_all-requires-clause-free g c =
    c.in_ok-total.ensures.lent.free

pub settle_all-requires-clause-graph_len : goal.settle_all-requires-clause-graph_len
settle_all-requires-clause-graph_len g c =
    ap (λ (b : BankView). b.frame_len) c.deliver_all.ensures.bank ∙ c.in_ok-total.ensures.lent.graph_len

pub settle_all-requires-clause-scratch_len : goal.settle_all-requires-clause-scratch_len
settle_all-requires-clause-scratch_len g c =
    ap (λ (b : BankView). b.frame_len) c.deliver_all.ensures.bank ∙ c.in_ok-total.ensures.lent.scratch_len ∙ sym c.in_ok-finish.ensures.ok.touches.page_len ∙ sym c.in_ok-deliver_all.ensures.ok.touches.page_len

pub settle_all-requires-clause-receivers : goal.settle_all-requires-clause-receivers
settle_all-requires-clause-receivers g c =
    c.finish.ensures.stays.receivers_stay ∙ c.in_ok-total.ensures.lent.receivers_are

pub settle_all-requires-clause-tallies : goal.settle_all-requires-clause-tallies
settle_all-requires-clause-tallies g c =
    c.requires.tallies ∙ sym c.compute_all.ensures.stays.count

pub returns-in_err-start-clause-stays : goal.returns-in_err-start-clause-stays
returns-in_err-start-clause-stays g c =
    let part = g.St.Store.part in
    let b0 = c.args.bank.now in
    let xs0 = c.args.stores.now in
    let d0 = c.args.desk.now in
    let c0 = g.C.Connector.view c.args.connector.now in
    let r0 = c.args.requests.now in
    let r1 = c.start.new.self in
    let s1 = stays_requests part b0 xs0 d0 c0 r0 r1 c.requires.lent.parts c.start.ensures.stays in
    s1

pub returns-in_err-total-clause-stays : goal.returns-in_err-total-clause-stays
returns-in_err-total-clause-stays g c =
    let part = g.St.Store.part in
    let b0 = c.args.bank.now in
    let xs0 = c.args.stores.now in
    let d0 = c.args.desk.now in
    let c0 = g.C.Connector.view c.args.connector.now in
    let r0 = c.args.requests.now in
    let r1 = c.start.new.self in
    let b2 = c.compute_all.new.bank in
    let xs2 = c.compute_all.new.stores in
    let d2 = c.compute_all.new.desk in
    let c2 = g.C.Connector.view c.compute_all.new.connector in
    let r2 = c.compute_all.new.requests in
    let s1 = stays_requests part b0 xs0 d0 c0 r0 r1 c.requires.lent.parts c.start.ensures.stays in
    let s2 = stays_then part b0 b0 b2 xs0 xs0 xs2 d0 d0 d2 c0 c0 c2 r0 r1 r2 s1 c.compute_all.ensures.stays in
    s2

pub returns-in_err-check_pairs-clause-stays : goal.returns-in_err-check_pairs-clause-stays
returns-in_err-check_pairs-clause-stays g c =
    let part = g.St.Store.part in
    let b0 = c.args.bank.now in
    let xs0 = c.args.stores.now in
    let d0 = c.args.desk.now in
    let c0 = g.C.Connector.view c.args.connector.now in
    let r0 = c.args.requests.now in
    let r1 = c.start.new.self in
    let b2 = c.compute_all.new.bank in
    let xs2 = c.compute_all.new.stores in
    let d2 = c.compute_all.new.desk in
    let c2 = g.C.Connector.view c.compute_all.new.connector in
    let r2 = c.compute_all.new.requests in
    let s1 = stays_requests part b0 xs0 d0 c0 r0 r1 c.requires.lent.parts c.start.ensures.stays in
    let s2 = stays_then part b0 b0 b2 xs0 xs0 xs2 d0 d0 d2 c0 c0 c2 r0 r1 r2 s1 c.compute_all.ensures.stays in
    s2

pub returns-in_err-finish-clause-stays : goal.returns-in_err-finish-clause-stays
returns-in_err-finish-clause-stays g c =
    let part = g.St.Store.part in
    let b0 = c.args.bank.now in
    let xs0 = c.args.stores.now in
    let d0 = c.args.desk.now in
    let c0 = g.C.Connector.view c.args.connector.now in
    let r0 = c.args.requests.now in
    let r1 = c.start.new.self in
    let b2 = c.compute_all.new.bank in
    let xs2 = c.compute_all.new.stores in
    let d2 = c.compute_all.new.desk in
    let c2 = g.C.Connector.view c.compute_all.new.connector in
    let r2 = c.compute_all.new.requests in
    let r3 = c.finish.new.self in
    let s1 = stays_requests part b0 xs0 d0 c0 r0 r1 c.requires.lent.parts c.start.ensures.stays in
    let s2 = stays_then part b0 b0 b2 xs0 xs0 xs2 d0 d0 d2 c0 c0 c2 r0 r1 r2 s1 c.compute_all.ensures.stays in
    let s3 = stays_then part b0 b2 b2 xs0 xs2 xs2 d0 d2 d2 c0 c2 c2 r0 r2 r3 s2 (stays_requests part b2 xs2 d2 c2 r2 r3 s2.parts c.finish.ensures.stays) in
    s3

pub returns-in_err-deliver_all-clause-stays : goal.returns-in_err-deliver_all-clause-stays
returns-in_err-deliver_all-clause-stays g c =
    let part = g.St.Store.part in
    let b0 = c.args.bank.now in
    let xs0 = c.args.stores.now in
    let d0 = c.args.desk.now in
    let c0 = g.C.Connector.view c.args.connector.now in
    let r0 = c.args.requests.now in
    let r1 = c.start.new.self in
    let b2 = c.compute_all.new.bank in
    let xs2 = c.compute_all.new.stores in
    let d2 = c.compute_all.new.desk in
    let c2 = g.C.Connector.view c.compute_all.new.connector in
    let r2 = c.compute_all.new.requests in
    let r3 = c.finish.new.self in
    let b4 = c.deliver_all.new.bank in
    let c4 = g.C.Connector.view c.deliver_all.new.connector in
    let s1 = stays_requests part b0 xs0 d0 c0 r0 r1 c.requires.lent.parts c.start.ensures.stays in
    let s2 = stays_then part b0 b0 b2 xs0 xs0 xs2 d0 d0 d2 c0 c0 c2 r0 r1 r2 s1 c.compute_all.ensures.stays in
    let s3 = stays_then part b0 b2 b2 xs0 xs2 xs2 d0 d2 d2 c0 c2 c2 r0 r2 r3 s2 (stays_requests part b2 xs2 d2 c2 r2 r3 s2.parts c.finish.ensures.stays) in
    let s4 = stays_then part b0 b2 b4 xs0 xs2 xs2 d0 d2 d2 c0 c2 c4 r0 r3 r3 s3 (stays_stores part b2 b4 xs2 xs2 d2 d2 c2 c4 r3 c.deliver_all.ensures.bank refl s2.parts (desk_refl d2) c.deliver_all.ensures.connector) in
    s4

pub returns-in_err-sum-clause-stays : goal.returns-in_err-sum-clause-stays
returns-in_err-sum-clause-stays g c =
    let part = g.St.Store.part in
    let b0 = c.args.bank.now in
    let xs0 = c.args.stores.now in
    let d0 = c.args.desk.now in
    let c0 = g.C.Connector.view c.args.connector.now in
    let r0 = c.args.requests.now in
    let r1 = c.start.new.self in
    let b2 = c.compute_all.new.bank in
    let xs2 = c.compute_all.new.stores in
    let d2 = c.compute_all.new.desk in
    let c2 = g.C.Connector.view c.compute_all.new.connector in
    let r2 = c.compute_all.new.requests in
    let r3 = c.finish.new.self in
    let b4 = c.deliver_all.new.bank in
    let c4 = g.C.Connector.view c.deliver_all.new.connector in
    let b5 = c.settle_all.new.bank in
    let xs5 = c.settle_all.new.stores in
    let d5 = c.settle_all.new.desk in
    let s1 = stays_requests part b0 xs0 d0 c0 r0 r1 c.requires.lent.parts c.start.ensures.stays in
    let s2 = stays_then part b0 b0 b2 xs0 xs0 xs2 d0 d0 d2 c0 c0 c2 r0 r1 r2 s1 c.compute_all.ensures.stays in
    let s3 = stays_then part b0 b2 b2 xs0 xs2 xs2 d0 d2 d2 c0 c2 c2 r0 r2 r3 s2 (stays_requests part b2 xs2 d2 c2 r2 r3 s2.parts c.finish.ensures.stays) in
    let s4 = stays_then part b0 b2 b4 xs0 xs2 xs2 d0 d2 d2 c0 c2 c4 r0 r3 r3 s3 (stays_stores part b2 b4 xs2 xs2 d2 d2 c2 c4 r3 c.deliver_all.ensures.bank refl s2.parts (desk_refl d2) c.deliver_all.ensures.connector) in
    let s5 = stays_then part b0 b4 b5 xs0 xs2 xs5 d0 d2 d5 c0 c4 c4 r0 r3 r3 s4 (stays_stores part b4 b5 xs2 xs5 d2 d5 c4 c4 r3 c.settle_all.ensures.bank c.settle_all.ensures.count c.settle_all.ensures.parts c.settle_all.ensures.desk refl) in
    s5

pub returns-in_err-check_vertices-clause-stays : goal.returns-in_err-check_vertices-clause-stays
returns-in_err-check_vertices-clause-stays g c =
    let part = g.St.Store.part in
    let b0 = c.args.bank.now in
    let xs0 = c.args.stores.now in
    let d0 = c.args.desk.now in
    let c0 = g.C.Connector.view c.args.connector.now in
    let r0 = c.args.requests.now in
    let r1 = c.start.new.self in
    let b2 = c.compute_all.new.bank in
    let xs2 = c.compute_all.new.stores in
    let d2 = c.compute_all.new.desk in
    let c2 = g.C.Connector.view c.compute_all.new.connector in
    let r2 = c.compute_all.new.requests in
    let r3 = c.finish.new.self in
    let b4 = c.deliver_all.new.bank in
    let c4 = g.C.Connector.view c.deliver_all.new.connector in
    let b5 = c.settle_all.new.bank in
    let xs5 = c.settle_all.new.stores in
    let d5 = c.settle_all.new.desk in
    let s1 = stays_requests part b0 xs0 d0 c0 r0 r1 c.requires.lent.parts c.start.ensures.stays in
    let s2 = stays_then part b0 b0 b2 xs0 xs0 xs2 d0 d0 d2 c0 c0 c2 r0 r1 r2 s1 c.compute_all.ensures.stays in
    let s3 = stays_then part b0 b2 b2 xs0 xs2 xs2 d0 d2 d2 c0 c2 c2 r0 r2 r3 s2 (stays_requests part b2 xs2 d2 c2 r2 r3 s2.parts c.finish.ensures.stays) in
    let s4 = stays_then part b0 b2 b4 xs0 xs2 xs2 d0 d2 d2 c0 c2 c4 r0 r3 r3 s3 (stays_stores part b2 b4 xs2 xs2 d2 d2 c2 c4 r3 c.deliver_all.ensures.bank refl s2.parts (desk_refl d2) c.deliver_all.ensures.connector) in
    let s5 = stays_then part b0 b4 b5 xs0 xs2 xs5 d0 d2 d5 c0 c4 c4 r0 r3 r3 s4 (stays_stores part b4 b5 xs2 xs5 d2 d5 c4 c4 r3 c.settle_all.ensures.bank c.settle_all.ensures.count c.settle_all.ensures.parts c.settle_all.ensures.desk refl) in
    s5

pub returns-clause-stays : goal.returns-clause-stays
returns-clause-stays g c =
    let part = g.St.Store.part in
    let b0 = c.args.bank.now in
    let xs0 = c.args.stores.now in
    let d0 = c.args.desk.now in
    let c0 = g.C.Connector.view c.args.connector.now in
    let r0 = c.args.requests.now in
    let r1 = c.start.new.self in
    let b2 = c.compute_all.new.bank in
    let xs2 = c.compute_all.new.stores in
    let d2 = c.compute_all.new.desk in
    let c2 = g.C.Connector.view c.compute_all.new.connector in
    let r2 = c.compute_all.new.requests in
    let r3 = c.finish.new.self in
    let b4 = c.deliver_all.new.bank in
    let c4 = g.C.Connector.view c.deliver_all.new.connector in
    let b5 = c.settle_all.new.bank in
    let xs5 = c.settle_all.new.stores in
    let d5 = c.settle_all.new.desk in
    let s1 = stays_requests part b0 xs0 d0 c0 r0 r1 c.requires.lent.parts c.start.ensures.stays in
    let s2 = stays_then part b0 b0 b2 xs0 xs0 xs2 d0 d0 d2 c0 c0 c2 r0 r1 r2 s1 c.compute_all.ensures.stays in
    let s3 = stays_then part b0 b2 b2 xs0 xs2 xs2 d0 d2 d2 c0 c2 c2 r0 r2 r3 s2 (stays_requests part b2 xs2 d2 c2 r2 r3 s2.parts c.finish.ensures.stays) in
    let s4 = stays_then part b0 b2 b4 xs0 xs2 xs2 d0 d2 d2 c0 c2 c4 r0 r3 r3 s3 (stays_stores part b2 b4 xs2 xs2 d2 d2 c2 c4 r3 c.deliver_all.ensures.bank refl s2.parts (desk_refl d2) c.deliver_all.ensures.connector) in
    let s5 = stays_then part b0 b4 b5 xs0 xs2 xs5 d0 d2 d5 c0 c4 c4 r0 r3 r3 s4 (stays_stores part b4 b5 xs2 xs5 d2 d5 c4 c4 r3 c.settle_all.ensures.bank c.settle_all.ensures.count c.settle_all.ensures.parts c.settle_all.ensures.desk refl) in
    s5

pub returns-clause-lent : goal.returns-clause-lent
returns-clause-lent g c =
    let part = g.St.Store.part in
    let b0 = c.args.bank.now in
    let xs0 = c.args.stores.now in
    let d0 = c.args.desk.now in
    let c0 = g.C.Connector.view c.args.connector.now in
    let r0 = c.args.requests.now in
    let r1 = c.start.new.self in
    let b2 = c.compute_all.new.bank in
    let xs2 = c.compute_all.new.stores in
    let d2 = c.compute_all.new.desk in
    let c2 = g.C.Connector.view c.compute_all.new.connector in
    let r2 = c.compute_all.new.requests in
    let r3 = c.finish.new.self in
    let b4 = c.deliver_all.new.bank in
    let c4 = g.C.Connector.view c.deliver_all.new.connector in
    let b5 = c.settle_all.new.bank in
    let xs5 = c.settle_all.new.stores in
    let d5 = c.settle_all.new.desk in
    let s1 = stays_requests part b0 xs0 d0 c0 r0 r1 c.requires.lent.parts c.start.ensures.stays in
    let s2 = stays_then part b0 b0 b2 xs0 xs0 xs2 d0 d0 d2 c0 c0 c2 r0 r1 r2 s1 c.compute_all.ensures.stays in
    let s3 = stays_then part b0 b2 b2 xs0 xs2 xs2 d0 d2 d2 c0 c2 c2 r0 r2 r3 s2 (stays_requests part b2 xs2 d2 c2 r2 r3 s2.parts c.finish.ensures.stays) in
    let s4 = stays_then part b0 b2 b4 xs0 xs2 xs2 d0 d2 d2 c0 c2 c4 r0 r3 r3 s3 (stays_stores part b2 b4 xs2 xs2 d2 d2 c2 c4 r3 c.deliver_all.ensures.bank refl s2.parts (desk_refl d2) c.deliver_all.ensures.connector) in
    let s5 = stays_then part b0 b4 b5 xs0 xs2 xs5 d0 d2 d5 c0 c4 c4 r0 r3 r3 s4 (stays_stores part b4 b5 xs2 xs5 d2 d5 c4 c4 r3 c.settle_all.ensures.bank c.settle_all.ensures.count c.settle_all.ensures.parts c.settle_all.ensures.desk refl) in
    let g0 = g.GD.Disk.shown c.args.graph.now in
    let t0 = g.SD.Disk.shown c.args.scratch.now in
    let t1 = g.SD.Disk.shown c.start.new.disk in
    let g2 = g.GD.Disk.shown c.compute_all.new.graph in
    let t2 = g.SD.Disk.shown c.compute_all.new.scratch in
    let t3 = g.SD.Disk.shown c.finish.new.disk in
    let t4 = g.SD.Disk.shown c.deliver_all.new.scratch in
    let g5 = g.GD.Disk.shown c.settle_all.new.graph in
    let t5 = g.SD.Disk.shown c.settle_all.new.scratch in
    let cs1 = clean_more IsRequestFile IsStepFile t0 t1 request_is_step c.in_ok-start.ensures.ok in
    let cs2 = clean_then IsStepFile t0 t1 t2 cs1 c.in_ok-total.ensures.ok in
    let cg2 = c.in_ok-total.ensures.clean in
    let cs3 = clean_then IsStepFile t0 t2 t3 cs2 (clean_more IsRequestFile IsStepFile t2 t3 request_is_step c.in_ok-finish.ensures.ok) in
    let cs4 = clean_then IsStepFile t0 t3 t4 cs3 (clean_more IsDeliveryFile IsStepFile t3 t4 delivery_is_step c.in_ok-deliver_all.ensures.ok) in
    let cs5 = clean_then IsStepFile t0 t4 t5 cs4 (clean_more IsSettlingFile IsStepFile t4 t5 settling_is_step c.in_ok-sum.ensures.ok) in
    let cg5 = clean_then AnyFile g0 g2 g5 cg2 c.in_ok-sum.ensures.clean in
    lent_again part g.St.Store.counted AnyFile IsStepFile b0 b5 xs0 xs5 d0 d5 c0 c4 r0 r3 g0 g5 t0 t5 c.requires.lent s5 c.in_ok-sum.ensures.free cg5.touches cs5.touches

pub returns-clause-ok : goal.returns-clause-ok
returns-clause-ok g c =
    let g0 = g.GD.Disk.shown c.args.graph.now in
    let t0 = g.SD.Disk.shown c.args.scratch.now in
    let t1 = g.SD.Disk.shown c.start.new.disk in
    let g2 = g.GD.Disk.shown c.compute_all.new.graph in
    let t2 = g.SD.Disk.shown c.compute_all.new.scratch in
    let t3 = g.SD.Disk.shown c.finish.new.disk in
    let t4 = g.SD.Disk.shown c.deliver_all.new.scratch in
    let g5 = g.GD.Disk.shown c.settle_all.new.graph in
    let t5 = g.SD.Disk.shown c.settle_all.new.scratch in
    let cs1 = clean_more IsRequestFile IsStepFile t0 t1 request_is_step c.in_ok-start.ensures.ok in
    let cs2 = clean_then IsStepFile t0 t1 t2 cs1 c.in_ok-total.ensures.ok in
    let cg2 = c.in_ok-total.ensures.clean in
    let cs3 = clean_then IsStepFile t0 t2 t3 cs2 (clean_more IsRequestFile IsStepFile t2 t3 request_is_step c.in_ok-finish.ensures.ok) in
    let cs4 = clean_then IsStepFile t0 t3 t4 cs3 (clean_more IsDeliveryFile IsStepFile t3 t4 delivery_is_step c.in_ok-deliver_all.ensures.ok) in
    let cs5 = clean_then IsStepFile t0 t4 t5 cs4 (clean_more IsSettlingFile IsStepFile t4 t5 settling_is_step c.in_ok-sum.ensures.ok) in
    let cg5 = clean_then AnyFile g0 g2 g5 cg2 c.in_ok-sum.ensures.clean in
    cs5

pub returns-clause-clean : goal.returns-clause-clean
returns-clause-clean g c =
    let g0 = g.GD.Disk.shown c.args.graph.now in
    let t0 = g.SD.Disk.shown c.args.scratch.now in
    let t1 = g.SD.Disk.shown c.start.new.disk in
    let g2 = g.GD.Disk.shown c.compute_all.new.graph in
    let t2 = g.SD.Disk.shown c.compute_all.new.scratch in
    let t3 = g.SD.Disk.shown c.finish.new.disk in
    let t4 = g.SD.Disk.shown c.deliver_all.new.scratch in
    let g5 = g.GD.Disk.shown c.settle_all.new.graph in
    let t5 = g.SD.Disk.shown c.settle_all.new.scratch in
    clean_then AnyFile g0 g2 g5 c.in_ok-total.ensures.clean c.in_ok-sum.ensures.clean

pub returns-in_err-start-clause-err : goal.returns-in_err-start-clause-err
returns-in_err-start-clause-err g c =
    let g0 = g.GD.Disk.shown c.args.graph.now in
    let t0 = g.SD.Disk.shown c.args.scratch.now in
    let end = err_from_is_err_and c.from_residual.result c.from_residual.ensures.1 in
    rw (end.1, end.2) (broke_after IsRequestFile IsStepFile _ g0 g0 t0 t0 _ _ request_is_step (clean_refl AnyFile g0) (clean_refl IsStepFile t0) c.in_err-start.ensures.err)

pub returns-in_err-total-clause-err : goal.returns-in_err-total-clause-err
returns-in_err-total-clause-err g c =
    let g0 = g.GD.Disk.shown c.args.graph.now in
    let t0 = g.SD.Disk.shown c.args.scratch.now in
    let t1 = g.SD.Disk.shown c.start.new.disk in
    let cs1 = clean_more IsRequestFile IsStepFile t0 t1 request_is_step c.in_ok-start.ensures.ok in
    let p = g.P.Program.meaning c.args.program.now in
    let laws = g.met.P.Program.laws c.args.program.now in
    let xs = c.args.stores.now in
    let n = length xs in
    let some = c.requires.lent.parts.some in
    let most = c.requires.lent.parts.most in
    let room = room_of t0.page_len in
    let same_room : room ≡ room_of t1.page_len = sym (ap room_of c.in_ok-start.ensures.ok.touches.page_len) in
    let end = err_from_is_err_and c.from_residual-in_err-total.result c.from_residual-in_err-total.ensures.1 in
    rw (end.1, end.2) (stops_after IsStepFile IsStepFile _ _ g0 g0 _ t0 t1 _ _ (λ f own. own)
    (λ too. λ s st.
    let hold = λ (x : _) (l : Graph). g.St.Store.holds x c.args.desk.now g0 l in
    let st1 = subst (λ (r : ℕ). StandsFor p r g.J.Join.probing hold xs t1 c.args.msg_pages.now c.args.tallies.now c.args.gs.now s) same_room
    (stands_moved p room g.J.Join.probing hold hold xs xs IsRequestFile t0 t1 c.args.msg_pages.now c.args.tallies.now c.args.gs.now s refl st.hold (omega (arith, c.requires.msgs, most)) (omega (arith, c.requires.tallies, most)) requests_high c.in_ok-start.ensures.ok.touches st) in
    let beyond = too s st1 (c.in_ok-start.ensures.asked (stands_told p room g.J.Join.probing hold xs t0 c.args.msg_pages.now c.args.tallies.now c.args.gs.now s (omega (arith, c.requires.msgs, some)) st)) in
    part_beyond p laws room n some s st.is_map st.valid beyond.q beyond.below (subst (λ (r : ℕ). IsTrue (is_part_beyond p r (computed_at p n s beyond.q))) (sym same_room) beyond.beyond))
    (clean_refl AnyFile g0) cs1 c.in_err-total.ensures.err)

pub returns-in_err-check_pairs-clause-err : goal.returns-in_err-check_pairs-clause-err
returns-in_err-check_pairs-clause-err g c =
    let g0 = g.GD.Disk.shown c.args.graph.now in
    let t0 = g.SD.Disk.shown c.args.scratch.now in
    let t1 = g.SD.Disk.shown c.start.new.disk in
    let g2 = g.GD.Disk.shown c.compute_all.new.graph in
    let t2 = g.SD.Disk.shown c.compute_all.new.scratch in
    let cs1 = clean_more IsRequestFile IsStepFile t0 t1 request_is_step c.in_ok-start.ensures.ok in
    let cs2 = clean_then IsStepFile t0 t1 t2 cs1 c.in_ok-total.ensures.ok in
    let cg2 = c.in_ok-total.ensures.clean in
    let p = g.P.Program.meaning c.args.program.now in
    let laws = g.met.P.Program.laws c.args.program.now in
    let xs = c.args.stores.now in
    let n = length xs in
    let some = c.requires.lent.parts.some in
    let most = c.requires.lent.parts.most in
    let room = room_of t0.page_len in
    let sent = g.C.Connector.sent c.compute_all.new.connector in
    let total = c.in_ok-total.total in
    let updated = c.compute_all.new.update_pages in
    let whole = λ (s : State) (st : StandsFor p room g.J.Join.probing (λ x l. g.St.Store.holds x c.args.desk.now g0 l) xs t0 c.args.msg_pages.now c.args.tallies.now c.args.gs.now s).
    computed_whole p room n g.J.Join.probing (λ x l. g.St.Store.holds x c.args.desk.now g0 l) (λ x l. g.St.Store.holds x c.compute_all.new.desk g2 l) xs c.compute_all.new.stores t0 t1 t2 c.args.msg_pages.now c.args.tallies.now c.args.gs.now
    (Asked t1 c.start.new.self []) (sent t2) (Asked t2 c.compute_all.new.requests) updated total s refl c.requires.msgs c.requires.tallies some most c.in_ok-start.ensures.ok.touches c.in_ok-start.ensures.asked
    (λ st1 asked1. c.in_ok-total.ensures.computed s st1 asked1) refl st in
    let same_n = c.compute_all.ensures.stays.count in
    let phase_of = λ (s : State) (done : List ℕ) (ph : PhaseAt p room (length c.compute_all.new.stores) (sent t2) (Asked t2 c.compute_all.new.requests) t2 updated s done).
    subst (λ (k : ℕ). PhaseAt p room k (sent t2) (Asked t2 c.compute_all.new.requests) t2 updated s done) same_n ph in
    let end = err_from_is_err_and c.from_residual-in_err-check_pairs.result c.from_residual-in_err-check_pairs.ensures.1 in
    rw (end.1, end.2) (too_much IsStepFile _ g0 g2 t0 t2 _ c.in_err-check_pairs.ensures.beyond
    (λ s st. let all = whole s st in pairs_beyond p laws room n some most s st.is_map st.valid st.fit total all.done all.once all.numbers c.in_err-check_pairs.ensures.many)
    cg2 cs2)

pub returns-in_err-finish-clause-err : goal.returns-in_err-finish-clause-err
returns-in_err-finish-clause-err g c =
    let g0 = g.GD.Disk.shown c.args.graph.now in
    let t0 = g.SD.Disk.shown c.args.scratch.now in
    let t1 = g.SD.Disk.shown c.start.new.disk in
    let g2 = g.GD.Disk.shown c.compute_all.new.graph in
    let t2 = g.SD.Disk.shown c.compute_all.new.scratch in
    let cs1 = clean_more IsRequestFile IsStepFile t0 t1 request_is_step c.in_ok-start.ensures.ok in
    let cs2 = clean_then IsStepFile t0 t1 t2 cs1 c.in_ok-total.ensures.ok in
    let cg2 = c.in_ok-total.ensures.clean in
    let end = err_from_is_err_and c.from_residual-in_err-finish.result c.from_residual-in_err-finish.ensures.1 in
    rw (end.1, end.2) (broke_after IsRequestFile IsStepFile _ g0 g2 t0 t2 _ _ request_is_step cg2 cs2 c.in_err-finish.ensures.err)

pub returns-in_err-deliver_all-clause-err : goal.returns-in_err-deliver_all-clause-err
returns-in_err-deliver_all-clause-err g c =
    let g0 = g.GD.Disk.shown c.args.graph.now in
    let t0 = g.SD.Disk.shown c.args.scratch.now in
    let t1 = g.SD.Disk.shown c.start.new.disk in
    let g2 = g.GD.Disk.shown c.compute_all.new.graph in
    let t2 = g.SD.Disk.shown c.compute_all.new.scratch in
    let t3 = g.SD.Disk.shown c.finish.new.disk in
    let cs1 = clean_more IsRequestFile IsStepFile t0 t1 request_is_step c.in_ok-start.ensures.ok in
    let cs2 = clean_then IsStepFile t0 t1 t2 cs1 c.in_ok-total.ensures.ok in
    let cg2 = c.in_ok-total.ensures.clean in
    let cs3 = clean_then IsStepFile t0 t2 t3 cs2 (clean_more IsRequestFile IsStepFile t2 t3 request_is_step c.in_ok-finish.ensures.ok) in
    let p = g.P.Program.meaning c.args.program.now in
    let laws = g.met.P.Program.laws c.args.program.now in
    let xs = c.args.stores.now in
    let n = length xs in
    let some = c.requires.lent.parts.some in
    let most = c.requires.lent.parts.most in
    let room = room_of t0.page_len in
    let sent = g.C.Connector.sent c.compute_all.new.connector in
    let total = c.in_ok-total.total in
    let updated = c.compute_all.new.update_pages in
    let whole = λ (s : State) (st : StandsFor p room g.J.Join.probing (λ x l. g.St.Store.holds x c.args.desk.now g0 l) xs t0 c.args.msg_pages.now c.args.tallies.now c.args.gs.now s).
    computed_whole p room n g.J.Join.probing (λ x l. g.St.Store.holds x c.args.desk.now g0 l) (λ x l. g.St.Store.holds x c.compute_all.new.desk g2 l) xs c.compute_all.new.stores t0 t1 t2 c.args.msg_pages.now c.args.tallies.now c.args.gs.now
    (Asked t1 c.start.new.self []) (sent t2) (Asked t2 c.compute_all.new.requests) updated total s refl c.requires.msgs c.requires.tallies some most c.in_ok-start.ensures.ok.touches c.in_ok-start.ensures.asked
    (λ st1 asked1. c.in_ok-total.ensures.computed s st1 asked1) refl st in
    let same_n = c.compute_all.ensures.stays.count in
    let phase_of = λ (s : State) (done : List ℕ) (ph : PhaseAt p room (length c.compute_all.new.stores) (sent t2) (Asked t2 c.compute_all.new.requests) t2 updated s done).
    subst (λ (k : ℕ). PhaseAt p room k (sent t2) (Asked t2 c.compute_all.new.requests) t2 updated s done) same_n ph in
    let same_msgs : length c.args.msg_pages.now ≡ n = c.requires.msgs in
    let conn = c.compute_all.new.connector in
    let same_room3 : room_of t3.page_len ≡ room = ap room_of cs3.touches.page_len in
    let end = err_from_is_err_and c.from_residual-in_err-deliver_all.result c.from_residual-in_err-deliver_all.ensures.1 in
    rw (end.1, end.2) (grouping_after IsStepFile IsStepFile _ _ g0 g2 t0 t3 _ _ (λ f own. own)
    (λ too. λ s st.
    let all = whole s st in
    let ph = phase_of s all.done all.reached.phase in
    let sent3 = λ (k : ℕ) (low : k < length c.args.msg_pages.now). (let lt : k < n = omega (arith, low, same_msgs) in
    g.met.C.Connector.sent_stays conn t2 t3 k (sent_at p n s k) (same_by_touches (IsSenderFile k) IsRequestFile t2 t3 (sender_apart k) c.in_ok-finish.ensures.ok.touches) (ph.sends k lt (all.once k lt))) in
    let valid = subst (λ (k : ℕ). AllValid p.message (all_of k (sent_at p n s))) (sym same_msgs) (sent_valid p laws room n some most s st.is_map st.valid st.fit) in
    delivery_beyond p laws room n some most s st.is_map st.valid st.fit (carry (λ r k. IsFoldBeyond p.message r k (all_of k (sent_at p n s))) (room_of t3.page_len) room (length c.args.msg_pages.now) n same_room3 same_msgs (too (sent_at p n s) sent3 valid)))
    cg2 cs3 c.in_err-deliver_all.ensures.err)

pub returns-in_err-sum-clause-err : goal.returns-in_err-sum-clause-err
returns-in_err-sum-clause-err g c =
    let g0 = g.GD.Disk.shown c.args.graph.now in
    let t0 = g.SD.Disk.shown c.args.scratch.now in
    let t1 = g.SD.Disk.shown c.start.new.disk in
    let g2 = g.GD.Disk.shown c.compute_all.new.graph in
    let t2 = g.SD.Disk.shown c.compute_all.new.scratch in
    let t3 = g.SD.Disk.shown c.finish.new.disk in
    let t4 = g.SD.Disk.shown c.deliver_all.new.scratch in
    let cs1 = clean_more IsRequestFile IsStepFile t0 t1 request_is_step c.in_ok-start.ensures.ok in
    let cs2 = clean_then IsStepFile t0 t1 t2 cs1 c.in_ok-total.ensures.ok in
    let cg2 = c.in_ok-total.ensures.clean in
    let cs3 = clean_then IsStepFile t0 t2 t3 cs2 (clean_more IsRequestFile IsStepFile t2 t3 request_is_step c.in_ok-finish.ensures.ok) in
    let cs4 = clean_then IsStepFile t0 t3 t4 cs3 (clean_more IsDeliveryFile IsStepFile t3 t4 delivery_is_step c.in_ok-deliver_all.ensures.ok) in
    let p = g.P.Program.meaning c.args.program.now in
    let laws = g.met.P.Program.laws c.args.program.now in
    let xs = c.args.stores.now in
    let n = length xs in
    let some = c.requires.lent.parts.some in
    let most = c.requires.lent.parts.most in
    let room = room_of t0.page_len in
    let sent = g.C.Connector.sent c.compute_all.new.connector in
    let total = c.in_ok-total.total in
    let updated = c.compute_all.new.update_pages in
    let whole = λ (s : State) (st : StandsFor p room g.J.Join.probing (λ x l. g.St.Store.holds x c.args.desk.now g0 l) xs t0 c.args.msg_pages.now c.args.tallies.now c.args.gs.now s).
    computed_whole p room n g.J.Join.probing (λ x l. g.St.Store.holds x c.args.desk.now g0 l) (λ x l. g.St.Store.holds x c.compute_all.new.desk g2 l) xs c.compute_all.new.stores t0 t1 t2 c.args.msg_pages.now c.args.tallies.now c.args.gs.now
    (Asked t1 c.start.new.self []) (sent t2) (Asked t2 c.compute_all.new.requests) updated total s refl c.requires.msgs c.requires.tallies some most c.in_ok-start.ensures.ok.touches c.in_ok-start.ensures.asked
    (λ st1 asked1. c.in_ok-total.ensures.computed s st1 asked1) refl st in
    let same_n = c.compute_all.ensures.stays.count in
    let phase_of = λ (s : State) (done : List ℕ) (ph : PhaseAt p room (length c.compute_all.new.stores) (sent t2) (Asked t2 c.compute_all.new.requests) t2 updated s done).
    subst (λ (k : ℕ). PhaseAt p room k (sent t2) (Asked t2 c.compute_all.new.requests) t2 updated s done) same_n ph in
    let same_msgs : length c.args.msg_pages.now ≡ n = c.requires.msgs in
    let conn = c.compute_all.new.connector in
    let same_room3 : room_of t3.page_len ≡ room = ap room_of cs3.touches.page_len in
    let par = c.parity_after-parity.result in
    let same_r : receivers c.finish.new.self ≡ n = c.finish.ensures.stays.receivers_stay ∙ c.in_ok-total.ensures.lent.receivers_are ∙ same_n in
    let same_room4 : room_of t4.page_len ≡ room = ap room_of cs4.touches.page_len in
    let end = err_from_is_err_and c.from_residual-in_err-sum.result c.from_residual-in_err-sum.ensures.1 in
    rw (end.1, end.2) (stops_after IsStepFile IsStepFile _ _ g0 g2 _ t0 t4 _ _ (λ f own. own)
    (λ too. λ s st.
    let all = whole s st in
    let ph = phase_of s all.done all.reached.phase in
    let asked3 = λ (q : ℕ) (low : q < n). subst (λ (k : ℕ). Holds t3 (160 + q) (pages_of c.finish.new.self q) (requests (to_part k q (asked_in p n s all.done)))) same_r
    ((c.in_ok-finish.ensures.holds (asked_in p n s all.done) ph.asked).each q (omega (arith, low, same_r))) in
    let ready = all_ready p laws room n some most s st.is_map st.valid st.fit (λ x l. g.St.Store.holds x c.compute_all.new.desk g2 l) c.compute_all.new.stores t2 t3 t4 c.args.tallies.now updated (sent t2) (Asked t2 c.compute_all.new.requests) (pages_of c.finish.new.self) par all.done
    same_n c.requires.tallies c.compute_all.ensures.pages
    (subst (λ (k : ℕ). Each c.compute_all.new.stores (λ q x. g.St.Store.holds x c.compute_all.new.desk g2 (to_part k q s.graph))) same_n all.reached.stands.hold)
    st.counted c.in_ok-finish.ensures.ok.touches c.in_ok-deliver_all.ensures.ok.touches asked3 all.once ph in
    let ready4 = subst (λ (r : ℕ). SettledBelow p r par (λ x l. g.St.Store.holds x c.compute_all.new.desk g2 l) c.compute_all.new.stores t4 c.args.tallies.now updated (pages_of c.finish.new.self) (graph_at n s) (λ q. (computed_at p n s q).changes) (λ q. to_part n q (asked_in p n s all.done)) 0) (sym same_room4) ready in
    let before = graph_at n s in
    let changes = λ (q : ℕ). (computed_at p n s q).changes in
    let asked = λ (q : ℕ). to_part n q (asked_in p n s all.done) in
    settled_beyond p laws room n some most s st.is_map st.valid st.fit all.done all.once (subst (λ (r : ℕ). IsSettlingBeyond p r (λ q. after_at p n s (asked_in p n s all.done) q) asked) same_room4 (too before changes asked ready4)))
    cg2 cs4 c.in_err-sum.ensures.err)

pub returns-in_err-check_vertices-clause-err : goal.returns-in_err-check_vertices-clause-err
returns-in_err-check_vertices-clause-err g c =
    let g0 = g.GD.Disk.shown c.args.graph.now in
    let t0 = g.SD.Disk.shown c.args.scratch.now in
    let t1 = g.SD.Disk.shown c.start.new.disk in
    let g2 = g.GD.Disk.shown c.compute_all.new.graph in
    let t2 = g.SD.Disk.shown c.compute_all.new.scratch in
    let t3 = g.SD.Disk.shown c.finish.new.disk in
    let t4 = g.SD.Disk.shown c.deliver_all.new.scratch in
    let g5 = g.GD.Disk.shown c.settle_all.new.graph in
    let t5 = g.SD.Disk.shown c.settle_all.new.scratch in
    let cs1 = clean_more IsRequestFile IsStepFile t0 t1 request_is_step c.in_ok-start.ensures.ok in
    let cs2 = clean_then IsStepFile t0 t1 t2 cs1 c.in_ok-total.ensures.ok in
    let cg2 = c.in_ok-total.ensures.clean in
    let cs3 = clean_then IsStepFile t0 t2 t3 cs2 (clean_more IsRequestFile IsStepFile t2 t3 request_is_step c.in_ok-finish.ensures.ok) in
    let cs4 = clean_then IsStepFile t0 t3 t4 cs3 (clean_more IsDeliveryFile IsStepFile t3 t4 delivery_is_step c.in_ok-deliver_all.ensures.ok) in
    let cs5 = clean_then IsStepFile t0 t4 t5 cs4 (clean_more IsSettlingFile IsStepFile t4 t5 settling_is_step c.in_ok-sum.ensures.ok) in
    let cg5 = clean_then AnyFile g0 g2 g5 cg2 c.in_ok-sum.ensures.clean in
    let p = g.P.Program.meaning c.args.program.now in
    let laws = g.met.P.Program.laws c.args.program.now in
    let xs = c.args.stores.now in
    let n = length xs in
    let some = c.requires.lent.parts.some in
    let most = c.requires.lent.parts.most in
    let room = room_of t0.page_len in
    let sent = g.C.Connector.sent c.compute_all.new.connector in
    let total = c.in_ok-total.total in
    let updated = c.compute_all.new.update_pages in
    let whole = λ (s : State) (st : StandsFor p room g.J.Join.probing (λ x l. g.St.Store.holds x c.args.desk.now g0 l) xs t0 c.args.msg_pages.now c.args.tallies.now c.args.gs.now s).
    computed_whole p room n g.J.Join.probing (λ x l. g.St.Store.holds x c.args.desk.now g0 l) (λ x l. g.St.Store.holds x c.compute_all.new.desk g2 l) xs c.compute_all.new.stores t0 t1 t2 c.args.msg_pages.now c.args.tallies.now c.args.gs.now
    (Asked t1 c.start.new.self []) (sent t2) (Asked t2 c.compute_all.new.requests) updated total s refl c.requires.msgs c.requires.tallies some most c.in_ok-start.ensures.ok.touches c.in_ok-start.ensures.asked
    (λ st1 asked1. c.in_ok-total.ensures.computed s st1 asked1) refl st in
    let same_n = c.compute_all.ensures.stays.count in
    let phase_of = λ (s : State) (done : List ℕ) (ph : PhaseAt p room (length c.compute_all.new.stores) (sent t2) (Asked t2 c.compute_all.new.requests) t2 updated s done).
    subst (λ (k : ℕ). PhaseAt p room k (sent t2) (Asked t2 c.compute_all.new.requests) t2 updated s done) same_n ph in
    let same_msgs : length c.args.msg_pages.now ≡ n = c.requires.msgs in
    let conn = c.compute_all.new.connector in
    let same_room3 : room_of t3.page_len ≡ room = ap room_of cs3.touches.page_len in
    let par = c.parity_after-parity.result in
    let same_r : receivers c.finish.new.self ≡ n = c.finish.ensures.stays.receivers_stay ∙ c.in_ok-total.ensures.lent.receivers_are ∙ same_n in
    let same_room4 : room_of t4.page_len ≡ room = ap room_of cs4.touches.page_len in
    let end = err_from_is_err_and c.from_residual-in_err-check_vertices.result c.from_residual-in_err-check_vertices.ensures.1 in
    rw (end.1, end.2) (too_much IsStepFile _ g0 g5 t0 t5 _ c.in_err-check_vertices.ensures.beyond
    (λ s st.
    let all = whole s st in
    let ph = phase_of s all.done all.reached.phase in
    let asked3 = λ (q : ℕ) (low : q < n). subst (λ (k : ℕ). Holds t3 (160 + q) (pages_of c.finish.new.self q) (requests (to_part k q (asked_in p n s all.done)))) same_r
    ((c.in_ok-finish.ensures.holds (asked_in p n s all.done) ph.asked).each q (omega (arith, low, same_r))) in
    let ready = all_ready p laws room n some most s st.is_map st.valid st.fit (λ x l. g.St.Store.holds x c.compute_all.new.desk g2 l) c.compute_all.new.stores t2 t3 t4 c.args.tallies.now updated (sent t2) (Asked t2 c.compute_all.new.requests) (pages_of c.finish.new.self) par all.done
    same_n c.requires.tallies c.compute_all.ensures.pages
    (subst (λ (k : ℕ). Each c.compute_all.new.stores (λ q x. g.St.Store.holds x c.compute_all.new.desk g2 (to_part k q s.graph))) same_n all.reached.stands.hold)
    st.counted c.in_ok-finish.ensures.ok.touches c.in_ok-deliver_all.ensures.ok.touches asked3 all.once ph in
    let ready4 = subst (λ (r : ℕ). SettledBelow p r par (λ x l. g.St.Store.holds x c.compute_all.new.desk g2 l) c.compute_all.new.stores t4 c.args.tallies.now updated (pages_of c.finish.new.self) (graph_at n s) (λ q. (computed_at p n s q).changes) (λ q. to_part n q (asked_in p n s all.done)) 0) (sym same_room4) ready in
    let before = graph_at n s in
    let changes = λ (q : ℕ). (computed_at p n s q).changes in
    let asked = λ (q : ℕ). to_part n q (asked_in p n s all.done) in
    vertices_beyond p laws room n some most s st.is_map st.valid st.fit all.done c.in_ok-sum.sum all.once (subst (λ (k : ℕ). IsSum k (λ q. after_at p n s (asked_in p n s all.done) q) c.in_ok-sum.sum) same_n (c.in_ok-sum.ensures.sum before changes asked ready4)) c.in_err-check_vertices.ensures.many)
    cg5 cs5)

pub returns-clause-stands : goal.returns-clause-stands
returns-clause-stands g c =
    let g0 = g.GD.Disk.shown c.args.graph.now in
    let t0 = g.SD.Disk.shown c.args.scratch.now in
    let t1 = g.SD.Disk.shown c.start.new.disk in
    let g2 = g.GD.Disk.shown c.compute_all.new.graph in
    let t2 = g.SD.Disk.shown c.compute_all.new.scratch in
    let t3 = g.SD.Disk.shown c.finish.new.disk in
    let t4 = g.SD.Disk.shown c.deliver_all.new.scratch in
    let g5 = g.GD.Disk.shown c.settle_all.new.graph in
    let t5 = g.SD.Disk.shown c.settle_all.new.scratch in
    let cs1 = clean_more IsRequestFile IsStepFile t0 t1 request_is_step c.in_ok-start.ensures.ok in
    let cs2 = clean_then IsStepFile t0 t1 t2 cs1 c.in_ok-total.ensures.ok in
    let cg2 = c.in_ok-total.ensures.clean in
    let cs3 = clean_then IsStepFile t0 t2 t3 cs2 (clean_more IsRequestFile IsStepFile t2 t3 request_is_step c.in_ok-finish.ensures.ok) in
    let cs4 = clean_then IsStepFile t0 t3 t4 cs3 (clean_more IsDeliveryFile IsStepFile t3 t4 delivery_is_step c.in_ok-deliver_all.ensures.ok) in
    let cs5 = clean_then IsStepFile t0 t4 t5 cs4 (clean_more IsSettlingFile IsStepFile t4 t5 settling_is_step c.in_ok-sum.ensures.ok) in
    let cg5 = clean_then AnyFile g0 g2 g5 cg2 c.in_ok-sum.ensures.clean in
    let p = g.P.Program.meaning c.args.program.now in
    let laws = g.met.P.Program.laws c.args.program.now in
    let xs = c.args.stores.now in
    let n = length xs in
    let some = c.requires.lent.parts.some in
    let most = c.requires.lent.parts.most in
    let room = room_of t0.page_len in
    let sent = g.C.Connector.sent c.compute_all.new.connector in
    let total = c.in_ok-total.total in
    let updated = c.compute_all.new.update_pages in
    let whole = λ (s : State) (st : StandsFor p room g.J.Join.probing (λ x l. g.St.Store.holds x c.args.desk.now g0 l) xs t0 c.args.msg_pages.now c.args.tallies.now c.args.gs.now s).
    computed_whole p room n g.J.Join.probing (λ x l. g.St.Store.holds x c.args.desk.now g0 l) (λ x l. g.St.Store.holds x c.compute_all.new.desk g2 l) xs c.compute_all.new.stores t0 t1 t2 c.args.msg_pages.now c.args.tallies.now c.args.gs.now
    (Asked t1 c.start.new.self []) (sent t2) (Asked t2 c.compute_all.new.requests) updated total s refl c.requires.msgs c.requires.tallies some most c.in_ok-start.ensures.ok.touches c.in_ok-start.ensures.asked
    (λ st1 asked1. c.in_ok-total.ensures.computed s st1 asked1) refl st in
    let same_n = c.compute_all.ensures.stays.count in
    let phase_of = λ (s : State) (done : List ℕ) (ph : PhaseAt p room (length c.compute_all.new.stores) (sent t2) (Asked t2 c.compute_all.new.requests) t2 updated s done).
    subst (λ (k : ℕ). PhaseAt p room k (sent t2) (Asked t2 c.compute_all.new.requests) t2 updated s done) same_n ph in
    let same_msgs : length c.args.msg_pages.now ≡ n = c.requires.msgs in
    let conn = c.compute_all.new.connector in
    let same_room3 : room_of t3.page_len ≡ room = ap room_of cs3.touches.page_len in
    let par = c.parity_after-parity.result in
    let same_r : receivers c.finish.new.self ≡ n = c.finish.ensures.stays.receivers_stay ∙ c.in_ok-total.ensures.lent.receivers_are ∙ same_n in
    let same_room4 : room_of t4.page_len ≡ room = ap room_of cs4.touches.page_len in
    λ s st.
    let all = whole s st in
    let ph = phase_of s all.done all.reached.phase in
    let sent3 = λ (k : ℕ) (low : k < length c.args.msg_pages.now). (let lt : k < n = omega (arith, low, same_msgs) in
    g.met.C.Connector.sent_stays conn t2 t3 k (sent_at p n s k) (same_by_touches (IsSenderFile k) IsRequestFile t2 t3 (sender_apart k) c.in_ok-finish.ensures.ok.touches) (ph.sends k lt (all.once k lt))) in
    let valid = subst (λ (k : ℕ). AllValid p.message (all_of k (sent_at p n s))) (sym same_msgs) (sent_valid p laws room n some most s st.is_map st.valid st.fit) in
    let asked3 = λ (q : ℕ) (low : q < n). subst (λ (k : ℕ). Holds t3 (160 + q) (pages_of c.finish.new.self q) (requests (to_part k q (asked_in p n s all.done)))) same_r
    ((c.in_ok-finish.ensures.holds (asked_in p n s all.done) ph.asked).each q (omega (arith, low, same_r))) in
    let ready = all_ready p laws room n some most s st.is_map st.valid st.fit (λ x l. g.St.Store.holds x c.compute_all.new.desk g2 l) c.compute_all.new.stores t2 t3 t4 c.args.tallies.now updated (sent t2) (Asked t2 c.compute_all.new.requests) (pages_of c.finish.new.self) par all.done
    same_n c.requires.tallies c.compute_all.ensures.pages
    (subst (λ (k : ℕ). Each c.compute_all.new.stores (λ q x. g.St.Store.holds x c.compute_all.new.desk g2 (to_part k q s.graph))) same_n all.reached.stands.hold)
    st.counted c.in_ok-finish.ensures.ok.touches c.in_ok-deliver_all.ensures.ok.touches asked3 all.once ph in
    let ready4 = subst (λ (r : ℕ). SettledBelow p r par (λ x l. g.St.Store.holds x c.compute_all.new.desk g2 l) c.compute_all.new.stores t4 c.args.tallies.now updated (pages_of c.finish.new.self) (graph_at n s) (λ q. (computed_at p n s q).changes) (λ q. to_part n q (asked_in p n s all.done)) 0) (sym same_room4) ready in
    let before = graph_at n s in
    let changes = λ (q : ℕ). (computed_at p n s q).changes in
    let asked = λ (q : ℕ). to_part n q (asked_in p n s all.done) in
    let small = c.parity_after-parity.ensures.small in
    let par_is : par ≡ suc s.superstep % 2 = c.parity_after-parity.ensures.parity ∙ ap (λ (k : ℕ). suc k % 2) st.numbers.superstep in
    let del = c.in_ok-deliver_all.ensures in
    let settled = subst (λ (r : ℕ). SettledBelow p r par (λ x l. g.St.Store.holds x c.settle_all.new.desk g5 l) c.settle_all.new.stores t5 c.settle_all.new.tallies updated (pages_of c.finish.new.self) before changes asked n) same_room4
    (subst (λ (k : ℕ). SettledBelow p (room_of t4.page_len) par (λ x l. g.St.Store.holds x c.settle_all.new.desk g5 l) c.settle_all.new.stores t5 c.settle_all.new.tallies updated (pages_of c.finish.new.self) before changes asked k) same_n (c.in_ok-sum.ensures.settled before changes asked ready4)) in
    let summed = subst (λ (k : ℕ). IsSum k (λ q. after_at p n s (asked_in p n s all.done) q) c.in_ok-sum.sum) same_n (c.in_ok-sum.ensures.sum before changes asked ready4) in
    let next_is : c.args.gs.now.superstep + 1 ≡ suc s.superstep = (let a = st.numbers.superstep in omega (arith, a)) in
    composed p laws room n some most s st.is_map st.valid st.fit g.J.Join.probing (λ x l. g.St.Store.holds x c.settle_all.new.desk g5 l) c.settle_all.new.stores t4 t5 c.deliver_all.new.msg_pages c.settle_all.new.tallies updated (pages_of c.finish.new.self) (sent t2) (Asked t2 c.compute_all.new.requests) t2 updated par all.done total c.in_ok-sum.sum _
    small par_is (c.settle_all.ensures.count ∙ same_n) (c.settle_all.ensures.tallies ∙ c.requires.tallies) (c.deliver_all.ensures.pages ∙ same_msgs) all.once ph all.numbers c.in_ok-check_pairs.ensures.sends c.in_ok-check_pairs.ensures.requests
    (subst (λ (k : ℕ). Each c.deliver_all.new.msg_pages (λ q j. Holds t4 (msg_file par q) j (message_tuples (grouped p.message (to_part k q (all_of k (sent_at p n s))))))) same_msgs (del.holds (sent_at p n s) sent3 valid))
    (carry (λ r k. (q : ℕ) → q < k → has_wide_fold p.message r (to_part k q (all_of k (sent_at p n s))) ≡ false) (room_of t3.page_len) room (length c.args.msg_pages.now) n same_room3 same_msgs (del.fits (sent_at p n s) sent3 valid))
    c.in_ok-sum.ensures.ok.touches settled summed c.in_ok-check_vertices.ensures.few
    (ap (λ (k : ℕ). record { superstep = k; aggregate = total.contributed; live = c.in_ok-sum.sum.live; count = c.in_ok-sum.sum.count; in_flight = total.sends }) next_is)
