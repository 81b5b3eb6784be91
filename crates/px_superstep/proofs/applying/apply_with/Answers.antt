use Rattle.std.proofs.Common.{◌≡◌, ℕ, sym, ◌∙◌, ap, subst, refl, inr}
use Rattle.std.specs.Prelude.{IsTrue, false}
use Rattle.std.proofs.lemmas.Result.{err_from_is_err_and}
use Rattle.px_core.specs.Shown.{Only}
use Rattle.px_core.proofs.Steps.{clean_refl, clean_of, clean_more, clean_then}
use Rattle.px_cache.specs.View.{AnyFile}
use Rattle.px_meaning.specs.Graph.{Graph, room_of}
use Rattle.px_meaning.specs.Merge.{Pairs}
use Rattle.px_stream.specs.Stream.{Has}
use Rattle.px_stream.specs.Views.{WriterView}
use Rattle.px_store.specs.Desks.{IsDone}
use Rattle.px_store.specs.Joins.{vid_tuples}
use Rattle.px_store.proofs.Apart.{ready_for, done_then}
use Rattle.px_mutations.specs.Applying.{settled_after, is_settling_beyond, IsReadyToSettle}
use Rattle.px_superstep.specs.Files.{IsResultFile, IsStepFile}
use Rattle.px_superstep.specs.Steps.{CanSettle}
use Rattle.px_superstep.proofs.SettleTooling.{settle_begun, settle_apart, settle_result, settle_step, result_step}
use Rattle.px_superstep.proofs.Stopping.{phase_graph, phase_after, phase_weaker}
use Rattle.px_superstep.proofs.applying.apply_with.Goals as goal

pub apply-requires-clause-ready : goal.apply-requires-clause-ready
apply-requires-clause-ready g c = ready_for g.St.Store.counted 0 (g.St.Store.part c.args.store.now) c.args.desk.now (g.GD.Disk.shown c.args.graph.now) c.requires.free.owner c.requires.free.ready

pub apply-requires-clause-graph_len : goal.apply-requires-clause-graph_len
apply-requires-clause-graph_len g c = c.requires.graph_len ∙ sym c.in_ok-start.ensures.ok.touches.page_len

pub apply-requires-clause-updates_len : goal.apply-requires-clause-updates_len
apply-requires-clause-updates_len g c = c.start.ensures.stays.page_len ∙ c.requires.tools.fit.updates_len ∙ sym c.in_ok-start.ensures.ok.touches.page_len

pub apply-requires-clause-requests_len : goal.apply-requires-clause-requests_len
apply-requires-clause-requests_len g c = c.start-2.ensures.stays.page_len ∙ c.requires.tools.fit.requests_len ∙ sym c.in_ok-start.ensures.ok.touches.page_len

pub apply-requires-clause-vids_len : goal.apply-requires-clause-vids_len
apply-requires-clause-vids_len g c = c.start-3.ensures.stays.page_len ∙ c.requires.tools.fit.vids_len ∙ sym c.in_ok-start.ensures.ok.touches.page_len

pub apply-requires-clause-group_len : goal.apply-requires-clause-group_len
apply-requires-clause-group_len g c = c.requires.tools.fit.group_len ∙ sym c.in_ok-start.ensures.ok.touches.page_len

pub apply-requires-clause-first : goal.apply-requires-clause-first
apply-requires-clause-first g c = c.requires.tools.fit.first_room ∙ ap room_of (sym c.in_ok-start.ensures.ok.touches.page_len)

pub apply-requires-clause-second : goal.apply-requires-clause-second
apply-requires-clause-second g c = c.requires.tools.fit.second_room ∙ ap room_of (sym c.in_ok-start.ensures.ok.touches.page_len)

pub apply-requires-clause-verdict : goal.apply-requires-clause-verdict
apply-requires-clause-verdict g c = c.requires.tools.fit.verdict_limit ∙ ap room_of (sym c.in_ok-start.ensures.ok.touches.page_len)

pub apply-requires-clause-spare : goal.apply-requires-clause-spare
apply-requires-clause-spare g c = c.requires.tools.fit.spare_limit ∙ ap room_of (sym c.in_ok-start.ensures.ok.touches.page_len)

pub apply-requires-clause-apart : goal.apply-requires-clause-apart
apply-requires-clause-apart g c = settle_apart (g.G.Group.made c.args.tools.now.group) c.args.q c.start.new.self.file c.start-2.new.self.file c.start-3.new.self.file c.args.to c.requires.few c.requires.tools.own_first c.requires.tools.own_second (c.start.ensures.stays.file ∙ c.requires.tools.updates) (c.start-2.ensures.stays.file ∙ c.requires.tools.requests) (c.start-3.ensures.stays.file ∙ c.requires.tools.vids) c.requires.to

pub returns-clause-ok : goal.returns-clause-ok
returns-clause-ok g c =
    let s0 = g.SD.Disk.shown c.args.scratch.now in
    let s1 = g.SD.Disk.shown c.start-3.new.disk in
    let s2 = g.SD.Disk.shown c.apply.new.scratch in
    let mine = IsResultFile c.args.to in
    clean_then mine s0 s1 s2 (clean_more (Only c.args.tools.now.vids.file) mine s0 s1 (λ f is. inr (is ∙ c.requires.tools.vids)) (clean_of (Only c.args.tools.now.vids.file) 0 0 s0 s1 c.in_ok-start.ensures.ok))
    (clean_more _ mine s1 s2 (settle_result (g.G.Group.made c.args.tools.now.group) c.args.q c.start.new.self.file c.start-2.new.self.file c.start-3.new.self.file c.args.to c.requires.few c.requires.tools.own_first c.requires.tools.own_second (c.start.ensures.stays.file ∙ c.requires.tools.updates) (c.start-2.ensures.stays.file ∙ c.requires.tools.requests) (c.start-3.ensures.stays.file ∙ c.requires.tools.vids) c.requires.to) c.in_ok-new.ensures.ok)

pub returns-clause-settled : goal.returns-clause-settled
returns-clause-settled g c = λ l changes asked ready can.
    let p = g.P.Program.meaning c.args.program.now in
    let s0 = g.SD.Disk.shown c.args.scratch.now in
    let s1 = g.SD.Disk.shown c.start-3.new.disk in
    let g0 = g.GD.Disk.shown c.args.graph.now in
    let q = c.args.q in
    let to = c.args.to in
    let old = c.args.tools.now in
    let tools = c.requires.tools in
    let one = c.in_ok-start.ensures.ok.touches in
    let begun = λ (l changes : Graph) (asked : Pairs) (ready : IsReadyToSettle p (room_of s0.page_len) c.args.tally.now l changes asked) (can : CanSettle (g.St.Store.holds c.args.store.now c.args.desk.now g0) s0 q c.args.update_pages c.args.request_pages l changes asked). settle_begun p c.args.tally.now (λ x. g.St.Store.holds c.args.store.now c.args.desk.now g0 x) (λ x. g.G.Group.took s1 old.group p.verdict x) q to c.args.update_pages c.args.request_pages s0 s1
    old.updates c.start.new.self old.requests c.start-2.new.self old.vids c.start-3.new.self l changes asked
    c.requires.few c.requires.to tools.updates tools.requests tools.vids c.start.ensures.stays.file c.start-2.ensures.stays.file
    c.start.ensures.to_give c.start-2.ensures.to_give one c.in_ok-start.ensures.took (λ on len. c.requires.took s1 p.verdict on len) ready can in
    let s2 = g.SD.Disk.shown c.apply.new.scratch in
    let writer = c.apply.new.vids in
    let after = settled_after p l changes asked in
    let b = begun l changes asked ready can in
    let file : writer.file ≡ to = c.apply.ensures.vids_file ∙ c.start-3.ensures.stays.file ∙ tools.vids in
    let first : writer.first ≡ 0 = c.in_ok-new.ensures.first_page ∙ ap (λ (w : WriterView). w.first) c.in_ok-start.ensures.after in
    record {
      counted = c.in_ok-new.ensures.tally l changes asked b;
      vids = rw (c.in_ok-new.ensures.vid_pages) (subst (λ (n : ℕ). Has s2 to n writer.pages (vid_tuples after)) first (subst (λ (n : ℕ). Has s2 n writer.first writer.pages (vid_tuples after)) file (c.in_ok-new.ensures.vids l changes asked b)));
      within = subst (λ (n : ℕ). is_settling_beyond p (room_of n) after asked ≡ false) one.page_len (c.in_ok-new.ensures.within l changes asked b);
    }

pub returns-clause-holds : goal.returns-clause-holds
returns-clause-holds g c = λ l changes asked ready can.
    let p = g.P.Program.meaning c.args.program.now in
    let s0 = g.SD.Disk.shown c.args.scratch.now in
    let s1 = g.SD.Disk.shown c.start-3.new.disk in
    let g0 = g.GD.Disk.shown c.args.graph.now in
    let q = c.args.q in
    let to = c.args.to in
    let old = c.args.tools.now in
    let tools = c.requires.tools in
    let one = c.in_ok-start.ensures.ok.touches in
    let begun = λ (l changes : Graph) (asked : Pairs) (ready : IsReadyToSettle p (room_of s0.page_len) c.args.tally.now l changes asked) (can : CanSettle (g.St.Store.holds c.args.store.now c.args.desk.now g0) s0 q c.args.update_pages c.args.request_pages l changes asked). settle_begun p c.args.tally.now (λ x. g.St.Store.holds c.args.store.now c.args.desk.now g0 x) (λ x. g.G.Group.took s1 old.group p.verdict x) q to c.args.update_pages c.args.request_pages s0 s1
    old.updates c.start.new.self old.requests c.start-2.new.self old.vids c.start-3.new.self l changes asked
    c.requires.few c.requires.to tools.updates tools.requests tools.vids c.start.ensures.stays.file c.start-2.ensures.stays.file
    c.start.ensures.to_give c.start-2.ensures.to_give one c.in_ok-start.ensures.took (λ on len. c.requires.took s1 p.verdict on len) ready can in
    c.in_ok-settle.ensures.holds (settled_after p l changes asked) (c.in_ok-new.ensures.holds l changes asked (begun l changes asked ready can))

pub returns-clause-few : goal.returns-clause-few
returns-clause-few g c = c.in_ok-new.ensures.few

pub returns-clause-live : goal.returns-clause-live
returns-clause-live g c = c.in_ok-new.ensures.live

pub returns-clause-done : goal.returns-clause-done
returns-clause-done g c =
    let k = g.St.Store.counted in
    let q = c.args.q in
    let d0 = c.args.desk.now in
    let d1 = c.apply.new.desk in
    let d2 = c.settle.new.desk in
    let g0 = g.GD.Disk.shown c.args.graph.now in
    let g1 = g.GD.Disk.shown c.apply.new.graph in
    let g2 = g.GD.Disk.shown c.settle.new.disk in
    done_then k q d0 d1 d2 g0 g1 g2
    (subst (λ (n : ℕ). IsDone k n d0 g0 d1 g1) c.requires.part c.in_ok-new.ensures.done)
    (subst (λ (n : ℕ). IsDone k n d1 g1 d2 g2) (c.apply.ensures.part ∙ c.requires.part) c.in_ok-settle.ensures.done)

pub returns-clause-free : goal.returns-clause-free
returns-clause-free g c =
    let k = g.St.Store.counted in
    let q = c.args.q in
    let d0 = c.args.desk.now in
    let d1 = c.apply.new.desk in
    let d2 = c.settle.new.desk in
    let g0 = g.GD.Disk.shown c.args.graph.now in
    let g1 = g.GD.Disk.shown c.apply.new.graph in
    let g2 = g.GD.Disk.shown c.settle.new.disk in
    record { owner = c.in_ok-settle.ensures.owner; ready = ready_for k _ 0 d2 g2 c.in_ok-settle.ensures.owner c.in_ok-settle.ensures.done.ready }

pub returns-clause-tools : goal.returns-clause-tools
returns-clause-tools g c =
    record {
      group = c.apply.ensures.group;
      updates_len = c.apply.ensures.updates_len ∙ c.start.ensures.stays.page_len;
      requests_len = c.apply.ensures.requests_len ∙ c.start-2.ensures.stays.page_len;
      vids_len = c.apply.ensures.vids_len ∙ c.start-3.ensures.stays.page_len;
      first = c.apply.ensures.first_stays;
      second = c.apply.ensures.second_stays;
      verdict = c.apply.ensures.verdict;
      spare = c.apply.ensures.spare;
      work = refl;
      join = refl;
      streams = refl;
    }

pub returns-in_err-new-clause-tools : goal.returns-in_err-new-clause-tools
returns-in_err-new-clause-tools g c =
    record {
      group = c.apply.ensures.group;
      updates_len = c.apply.ensures.updates_len ∙ c.start.ensures.stays.page_len;
      requests_len = c.apply.ensures.requests_len ∙ c.start-2.ensures.stays.page_len;
      vids_len = c.apply.ensures.vids_len ∙ c.start-3.ensures.stays.page_len;
      first = c.apply.ensures.first_stays;
      second = c.apply.ensures.second_stays;
      verdict = c.apply.ensures.verdict;
      spare = c.apply.ensures.spare;
      work = refl;
      join = refl;
      streams = refl;
    }

pub returns-in_err-settle-clause-tools : goal.returns-in_err-settle-clause-tools
returns-in_err-settle-clause-tools g c =
    record {
      group = c.apply.ensures.group;
      updates_len = c.apply.ensures.updates_len ∙ c.start.ensures.stays.page_len;
      requests_len = c.apply.ensures.requests_len ∙ c.start-2.ensures.stays.page_len;
      vids_len = c.apply.ensures.vids_len ∙ c.start-3.ensures.stays.page_len;
      first = c.apply.ensures.first_stays;
      second = c.apply.ensures.second_stays;
      verdict = c.apply.ensures.verdict;
      spare = c.apply.ensures.spare;
      work = refl;
      join = refl;
      streams = refl;
    }

pub returns-in_err-new-clause-err : goal.returns-in_err-new-clause-err
returns-in_err-new-clause-err g c =
    let p = g.P.Program.meaning c.args.program.now in
    let s0 = g.SD.Disk.shown c.args.scratch.now in
    let s1 = g.SD.Disk.shown c.start-3.new.disk in
    let g0 = g.GD.Disk.shown c.args.graph.now in
    let q = c.args.q in
    let to = c.args.to in
    let old = c.args.tools.now in
    let tools = c.requires.tools in
    let one = c.in_ok-start.ensures.ok.touches in
    let begun = λ (l changes : Graph) (asked : Pairs) (ready : IsReadyToSettle p (room_of s0.page_len) c.args.tally.now l changes asked) (can : CanSettle (g.St.Store.holds c.args.store.now c.args.desk.now g0) s0 q c.args.update_pages c.args.request_pages l changes asked). settle_begun p c.args.tally.now (λ x. g.St.Store.holds c.args.store.now c.args.desk.now g0 x) (λ x. g.G.Group.took s1 old.group p.verdict x) q to c.args.update_pages c.args.request_pages s0 s1
    old.updates c.start.new.self old.requests c.start-2.new.self old.vids c.start-3.new.self l changes asked
    c.requires.few c.requires.to tools.updates tools.requests tools.vids c.start.ensures.stays.file c.start-2.ensures.stays.file
    c.start.ensures.to_give c.start-2.ensures.to_give one c.in_ok-start.ensures.took (λ on len. c.requires.took s1 p.verdict on len) ready can in
    let s2 = g.SD.Disk.shown c.apply.new.scratch in
    let end = err_from_is_err_and c.from_residual-in_err-new.result c.from_residual-in_err-new.ensures.1 in
    let stop : end.0 ≡ c.in_err-new.field-0.0 = cc in
    rw (end.1, stop)
    (phase_after IsStepFile _ g0 g0 _ s0 s1 s2 _ (clean_refl AnyFile g0) (clean_more (Only c.args.tools.now.vids.file) IsStepFile s0 s1 (λ f is. result_step c.args.to c.requires.to f (inr (is ∙ c.requires.tools.vids))) (clean_of (Only c.args.tools.now.vids.file) 0 0 s0 s1 c.in_ok-start.ensures.ok))
    (phase_weaker _ IsStepFile _ _ g0 _ s1 s2 _ (settle_step (g.G.Group.made c.args.tools.now.group) c.args.q c.start.new.self.file c.start-2.new.self.file c.start-3.new.self.file c.args.to c.requires.few c.requires.tools.own_first c.requires.tools.own_second (c.start.ensures.stays.file ∙ c.requires.tools.updates) (c.start-2.ensures.stays.file ∙ c.requires.tools.requests) (c.start-3.ensures.stays.file ∙ c.requires.tools.vids) c.requires.to)
    (λ why l changes asked ready can. subst (λ (n : ℕ). IsTrue (is_settling_beyond p (room_of n) (settled_after p l changes asked) asked)) one.page_len (why l changes asked (begun l changes asked ready can)))
    c.in_err-new.ensures.err))

pub returns-in_err-settle-clause-err : goal.returns-in_err-settle-clause-err
returns-in_err-settle-clause-err g c =
    let d0 = c.args.desk.now in
    let d1 = c.apply.new.desk in
    let d2 = c.settle.new.desk in
    let g0 = g.GD.Disk.shown c.args.graph.now in
    let g1 = g.GD.Disk.shown c.apply.new.graph in
    let g2 = g.GD.Disk.shown c.settle.new.disk in
    let s0 = g.SD.Disk.shown c.args.scratch.now in
    let s1 = g.SD.Disk.shown c.start-3.new.disk in
    let s2 = g.SD.Disk.shown c.apply.new.scratch in
    let end = err_from_is_err_and c.from_residual-in_err-settle.result c.from_residual-in_err-settle.ensures.1 in
    let stop : end.0 ≡ c.in_err-settle.field-0.0 = cc in
    rw (end.1, stop)
    (phase_after IsStepFile _ g0 g1 g2 s0 s2 s2 _ c.in_ok-new.ensures.done.clean
    (clean_then IsStepFile s0 s1 s2 (clean_more (Only c.args.tools.now.vids.file) IsStepFile s0 s1 (λ f is. result_step c.args.to c.requires.to f (inr (is ∙ c.requires.tools.vids))) (clean_of (Only c.args.tools.now.vids.file) 0 0 s0 s1 c.in_ok-start.ensures.ok))
    (clean_more _ IsStepFile s1 s2 (λ f own. result_step c.args.to c.requires.to f (settle_result (g.G.Group.made c.args.tools.now.group) c.args.q c.start.new.self.file c.start-2.new.self.file c.start-3.new.self.file c.args.to c.requires.few c.requires.tools.own_first c.requires.tools.own_second (c.start.ensures.stays.file ∙ c.requires.tools.updates) (c.start-2.ensures.stays.file ∙ c.requires.tools.requests) (c.start-3.ensures.stays.file ∙ c.requires.tools.vids) c.requires.to f own)) c.in_ok-new.ensures.ok))
    (phase_graph IsStepFile _ g1 g2 s2 s2 _ (clean_refl IsStepFile s2) c.in_err-settle.ensures.err))
