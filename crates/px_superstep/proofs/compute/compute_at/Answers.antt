use Rattle.std.proofs.Common.{◌≡◌, ◌<◌, ◌∙◌, ◌++◌, ◌∷◌, [], ℕ, length, get_or, set, sym, subst, arith}
use Rattle.std.proofs.lemmas.Option.{slice_get-get_or}
use Rattle.std.proofs.lemmas.Result.{err_from_is_err_and}
use Rattle.std.specs.Prelude.{Some, slice_get, flat_map, ◌%◌, IsTrue}
use Rattle.px_meaning.specs.Program.{Moment}
use Rattle.px_meaning.specs.Step.{computed}
use Rattle.px_stream.specs.Stream.{Holds}
use Rattle.px_connectors.specs.Asking.{Asked}
use Rattle.px_store.specs.Joins.{rows_in}
use Rattle.px_store.proofs.Apart.{kept_for, not_owner, none_free}
use Rattle.px_meaning.specs.Graph.{room_of}
use Rattle.px_core.proofs.Steps.{clean_refl}
use Rattle.px_cache.specs.View.{AnyFile}
use Rattle.px_compute_op.specs.Phase.{HasRun, IsPart, OrInput, is_part_beyond}
use Rattle.px_superstep.specs.Files.{AreInputFiles, IsComputeFile, IsStepFile, update_file}
use Rattle.px_superstep.specs.Partial.{graph_at, messages_at, computed_at}
use Rattle.px_superstep.specs.Phases.{PhaseAt}
use Rattle.px_superstep.proofs.Staying.{stays_set, lent_again}
use Rattle.px_superstep.proofs.Phases.{not_computed, hold_set, phase_after, computed_is_step, ready_to_compute}
use Rattle.px_superstep.proofs.Slices.{length_set}
use Rattle.px_superstep.proofs.Standing.{stands_moved, told}
use Rattle.px_superstep.proofs.Ending.{stops_after}
use Rattle.px_superstep.proofs.compute.compute_at.Goals as goal

pub returns-clause-next : goal.returns-clause-next
returns-clause-next g c = λ s done mid new.
    let p = g.P.Program.meaning c.args.program.now in
    let xs = c.args.stores.now in
    let n = length xs in
    let q = c.args.q in
    let d0 = c.args.desk.now in
    let g0 = g.GD.Disk.shown c.args.graph.now in
    let t0 = g.SD.Disk.shown c.args.scratch.now in
    let d1 = c.compute_part.new.desk in
    let g1 = g.GD.Disk.shown c.compute_part.new.graph in
    let t1 = g.SD.Disk.shown c.compute_part.new.scratch in
    let y = c.compute_part.new.store in
    let room = room_of t0.page_len in
    let x0 = get_or xs q c.index-stores-at.result in
    let here : slice_get xs q ≡ Some x0 = slice_get-get_or xs q c.index-stores-at.result c.requires.at in
    let ins = c.inputs-ins.result in
    let ins_are = c.inputs-ins.ensures in
    let before = flat_map (λ k. (computed_at p n s k).requests) done in
    let was = c.in_ok-made.ensures in
    let most = c.requires.lent.parts.most in
    let ready = ready_to_compute p (g.met.P.Program.laws c.args.program.now) room g.J.Join.probing (λ x l. g.St.Store.holds x d0 g0 l) xs t0 c.args.msg_pages.now c.args.tallies.now c.args.gs.now s (Asked t0 c.args.requests.now) before ins q x0
    here ins_are.msg_file ins_are.msg_pages ins_are.vid_file (λ tally at. ins_are.vid_pages tally at) (omega (arith, c.requires.at, c.requires.tallies)) mid.stands mid.phase.asked in
    let run : HasRun p room (computed_at p n s q) (Holds t1 (update_file q) c.in_ok-made.made.pages) (g.C.Connector.sent c.compute_part.new.connector t1 q) (Asked t1 c.compute_part.new.requests) before c.in_ok-made.made.part =
    subst (λ (m : Moment). HasRun p room (computed p m (rows_in (graph_at n s q) (messages_at p n s q))) (Holds t1 (update_file q) c.in_ok-made.made.pages) (g.C.Connector.sent c.compute_part.new.connector t1 q) (Asked t1 c.compute_part.new.requests) before c.in_ok-made.made.part)
    (told c.args.gs.now s mid.stands.numbers) (was.made (graph_at n s q) (messages_at p n s q) before ready) in
    record {
      stands = stands_moved p room g.J.Join.probing (λ x l. g.St.Store.holds x d0 g0 l) (λ x l. g.St.Store.holds x d1 g1 l) xs (set xs q y) (IsComputeFile q) t0 t1 c.args.msg_pages.now c.args.tallies.now c.args.gs.now s (length_set xs q y)
          (hold_set (λ x l. g.St.Store.holds x d0 g0 l) (λ x l. g.St.Store.holds x d1 g1 l) xs q y s.graph c.requires.at
          (was.holds (graph_at n s q) (messages_at p n s q) before ready)
          (λ i x l other at held. (let apart = λ (e : q ≡ g.St.Store.part x). other (sym (c.requires.lent.parts.parts i x at) ∙ sym e) in
          g.met.St.Store.stays x d0 d1 g0 g1 l (kept_for q (g.St.Store.part x) d0 d1 g0 g1 apart was.done.others) was.done.clean.touches.page_len
          (not_owner q (g.St.Store.part x) d0.owner apart (none_free q d0.owner c.requires.lent.free.owner)) (not_owner q (g.St.Store.part x) d1.owner apart (none_free q d1.owner was.free.owner)) held))
          mid.stands.hold)
          (omega (arith, c.requires.msgs, most)) (omega (arith, c.requires.tallies, most)) (not_computed q) was.ok.touches mid.stands;
      phase = subst (λ (k : ℕ). PhaseAt p room k (g.C.Connector.sent c.compute_part.new.connector t1) (Asked t1 c.compute_part.new.requests) t1 (set c.args.update_pages.now q c.in_ok-made.made.pages) s (done ++ q ∷ [])) (sym (length_set xs q y))
          (phase_after p room n (g.C.Connector.sent c.args.connector.now t0) (g.C.Connector.sent c.compute_part.new.connector t1) (Asked t0 c.args.requests.now) (Asked t1 c.compute_part.new.requests) t0 t1 c.args.update_pages.now s done q c.in_ok-made.made.pages c.in_ok-made.made.part
          c.requires.at most c.requires.pages (λ k l low other. was.others k l low other) was.ok.touches mid.phase run);
    }

pub returns-clause-part : goal.returns-clause-part
returns-clause-part g c = λ s done mid.
    let p = g.P.Program.meaning c.args.program.now in
    let xs = c.args.stores.now in
    let n = length xs in
    let q = c.args.q in
    let t0 = g.SD.Disk.shown c.args.scratch.now in
    let t1 = g.SD.Disk.shown c.compute_part.new.scratch in
    let room = room_of t0.page_len in
    let x0 = get_or xs q c.index-stores-at.result in
    let here : slice_get xs q ≡ Some x0 = slice_get-get_or xs q c.index-stores-at.result c.requires.at in
    let ins = c.inputs-ins.result in
    let ins_are = c.inputs-ins.ensures in
    let before = flat_map (λ k. (computed_at p n s k).requests) done in
    let ready = ready_to_compute p (g.met.P.Program.laws c.args.program.now) room g.J.Join.probing (λ x l. g.St.Store.holds x c.args.desk.now (g.GD.Disk.shown c.args.graph.now) l) xs t0 c.args.msg_pages.now c.args.tallies.now c.args.gs.now s (Asked t0 c.args.requests.now) before ins q x0
    here ins_are.msg_file ins_are.msg_pages ins_are.vid_file (λ tally at. ins_are.vid_pages tally at) (omega (arith, c.requires.at, c.requires.tallies)) mid.stands mid.phase.asked in
    subst (λ (m : Moment). IsPart p (computed p m (rows_in (graph_at n s q) (messages_at p n s q))) c.in_ok-made.made.part) (told c.args.gs.now s mid.stands.numbers) (c.in_ok-made.ensures.made (graph_at n s q) (messages_at p n s q) before ready).numbers

pub returns-clause-stays : goal.returns-clause-stays
returns-clause-stays g c =
    let xs = c.args.stores.now in
    let x0 = get_or xs c.args.q c.index-stores-at.result in
    let here : slice_get xs c.args.q ≡ Some x0 = slice_get-get_or xs c.args.q c.index-stores-at.result c.requires.at in
    let was = c.compute_part.ensures in
    stays_set g.St.Store.part _ _ xs c.args.q c.compute_part.new.store _ _ _ _ _ _ c.requires.at (was.part ∙ c.requires.lent.parts.parts c.args.q x0 here) c.requires.lent.parts was.bank was.desk was.connector was.requests

pub returns-in_err-made-clause-stays : goal.returns-in_err-made-clause-stays
returns-in_err-made-clause-stays g c =
    let xs = c.args.stores.now in
    let x0 = get_or xs c.args.q c.index-stores-at.result in
    let here : slice_get xs c.args.q ≡ Some x0 = slice_get-get_or xs c.args.q c.index-stores-at.result c.requires.at in
    let was = c.compute_part.ensures in
    stays_set g.St.Store.part _ _ xs c.args.q c.compute_part.new.store _ _ _ _ _ _ c.requires.at (was.part ∙ c.requires.lent.parts.parts c.args.q x0 here) c.requires.lent.parts was.bank was.desk was.connector was.requests

pub returns-clause-lent : goal.returns-clause-lent
returns-clause-lent g c =
    let xs = c.args.stores.now in
    let x0 = get_or xs c.args.q c.index-stores-at.result in
    let here : slice_get xs c.args.q ≡ Some x0 = slice_get-get_or xs c.args.q c.index-stores-at.result c.requires.at in
    let was = c.compute_part.ensures in
    let stays = stays_set g.St.Store.part c.args.bank.now c.compute_part.new.bank xs c.args.q c.compute_part.new.store c.args.desk.now c.compute_part.new.desk (g.C.Connector.view c.args.connector.now) (g.C.Connector.view c.compute_part.new.connector) c.args.requests.now c.compute_part.new.requests
    c.requires.at (was.part ∙ c.requires.lent.parts.parts c.args.q x0 here) c.requires.lent.parts was.bank was.desk was.connector was.requests in
    lent_again g.St.Store.part g.St.Store.counted _ _ _ _ _ _ _ _ _ _ _ _ _ _ _ _ c.requires.lent stays c.in_ok-made.ensures.free c.in_ok-made.ensures.done.clean.touches c.in_ok-made.ensures.ok.touches

pub returns-in_err-made-clause-err : goal.returns-in_err-made-clause-err
returns-in_err-made-clause-err g c =
    let p = g.P.Program.meaning c.args.program.now in
    let xs = c.args.stores.now in
    let n = length xs in
    let q = c.args.q in
    let t0 = g.SD.Disk.shown c.args.scratch.now in
    let g0 = g.GD.Disk.shown c.args.graph.now in
    let room = room_of t0.page_len in
    let x0 = get_or xs q c.index-stores-at.result in
    let here : slice_get xs q ≡ Some x0 = slice_get-get_or xs q c.index-stores-at.result c.requires.at in
    let ins = c.inputs-ins.result in
    let ins_are = c.inputs-ins.ensures in
    let few : q < 16 = omega (arith, c.requires.at, c.requires.lent.parts.most) in
    let parity : c.args.gs.now.superstep % 2 < 2 = omega arith in
    let are : AreInputFiles ins = record {
      msg = record { low = omega (arith, ins_are.msg_file, parity, few); high = omega (arith, ins_are.msg_file, parity, few) };
      vid = record { low = omega (arith, ins_are.vid_file, parity, few); high = omega (arith, ins_are.vid_file, parity, few) };
    } in
    let end = err_from_is_err_and c.from_residual.result c.from_residual.ensures.1 in
    rw (end.1, end.2) (stops_after (OrInput ins (IsComputeFile q)) IsStepFile _ _ g0 g0 _ t0 t0 _ _ (computed_is_step q ins few are)
    (λ too. λ s done mid.
    let before = flat_map (λ k. (computed_at p n s k).requests) done in
    let ready = ready_to_compute p (g.met.P.Program.laws c.args.program.now) room g.J.Join.probing (λ x l. g.St.Store.holds x c.args.desk.now g0 l) xs t0 c.args.msg_pages.now c.args.tallies.now c.args.gs.now s (Asked t0 c.args.requests.now) before ins q x0
    here ins_are.msg_file ins_are.msg_pages ins_are.vid_file (λ tally at. ins_are.vid_pages tally at) (omega (arith, c.requires.at, c.requires.tallies)) mid.stands mid.phase.asked in
    subst (λ (m : Moment). IsTrue (is_part_beyond p room (computed p m (rows_in (graph_at n s q) (messages_at p n s q))))) (told c.args.gs.now s mid.stands.numbers) (too (graph_at n s q) (messages_at p n s q) before ready))
    (clean_refl AnyFile g0) (clean_refl IsStepFile t0) c.in_err-made.ensures.err)
