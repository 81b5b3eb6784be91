use Rattle.std.proofs.Common.{rules, ◌≡◌, ◌<◌, ◌≤◌, ◌^◌, ℕ, [], ◌++◌, false, IsTrue, sym, ◌∙◌, ap, subst, refl}
use Rattle.std.proofs.lemmas.Bool.{or_left, or_right}
use Rattle.std.proofs.lemmas.Result.{err_from_is_err_and}
use Rattle.px_core.specs.Same.{Apart}
use Rattle.px_core.specs.Shown.{Only}
use Rattle.px_core.proofs.Keeping.{same_by_touches}
use Rattle.px_meaning.specs.Merge.{MergeRule, grouped}
use Rattle.px_meaning.specs.Step.{computed, has_wide_fold}
use Rattle.px_meaning.proofs.Grouping.{IsMap-grouped}
use Rattle.px_meaning.specs.Graph.{room_of}
use Rattle.px_program.specs.Groups.{GroupMade, IsOwn, room_in}
use Rattle.px_connectors.specs.Asking.{IsRequestFile}
use Rattle.px_connectors.specs.Frames.{asked_same}
use Rattle.px_connectors.specs.Views.{ConnectorView, IsConnectorFile, IsSenderFile}
use Rattle.px_stream.proofs.Kept.{took_same}
use Rattle.px_global_state.specs.States.{moment_of}
use Rattle.px_store.specs.Joins.{vertex_tuples}
use Rattle.px_compute_op.specs.Phase.{AreApart, IsRunFile, OwnOrSent}
use Rattle.px_compute_op.proofs.Apart.{apart_at, sender_own, sender_run, sender_update, update_own, update_moved, update_sender, request_own, request_moved, request_sender, request_update}
use Rattle.px_compute_op.proofs.Rows.{within_limits}
use Rattle.px_compute_op.proofs.phase.run_partition.Goals as goal

pub move_folds-requires-clause-apart : goal.move_folds-requires-clause-apart
move_folds-requires-clause-apart g c = subst (λ (v : GroupMade). Apart (IsOwn v) IsConnectorFile) (sym (c.seal.ensures.stays ∙ c.each_row.ensures.bench.group)) c.requires.apart.group_senders

pub returns-in_err-part-clause-err : goal.returns-in_err-part-clause-err
returns-in_err-part-clause-err g c =
    let end = err_from_is_err_and c.from_residual.result c.from_residual.ensures.1 in
    let stop : end.0 ≡ c.in_err-part.field-0.0 = cc in
    rw (end.1, stop) (record {
      beyond = λ is l rows before b asked. c.in_err-part.ensures.err.beyond is l rows b (λ a h. h);
      graph = search rules;
      scratch = search rules;
      no_graph = search rules;
      no_scratch = search rules;
      touches = search rules;
      graph_touches = search rules;
    })

pub returns-in_err-seal-clause-err : goal.returns-in_err-seal-clause-err
returns-in_err-seal-clause-err g c =
    let m = g.P.Program.meaning c.args.program.now in
    let s0 = g.SD.Disk.shown c.args.scratch.now in
    let s1 = g.SD.Disk.shown c.each_row.new.scratch in
    let group = c.each_row.new.bench.group in
    let end = err_from_is_err_and c.from_residual-in_err-seal.result c.from_residual-in_err-seal.ensures.1 in
    let stop : end.0 ≡ c.in_err-seal.field-0.0 = cc in
    rw (end.1, stop) (record {
      beyond = λ is l rows before b asked.
          let all = computed m (moment_of c.args.gs.now) rows in
          let done = c.in_ok-part.ensures.made l rows b (λ a h. h) in
          let room_is : room_in (g.G.Group.made group) ≡ room_of s0.page_len = ap room_in c.each_row.ensures.bench.group ∙ ap room_of c.requires.bench.group_len in
          let took = subst (λ (k : MergeRule). g.G.Group.took s1 group k all.sends) (sym c.message.ensures) done.taken.group in
          let wide = c.in_err-seal.ensures.err.beyond is all.sends took in
          or_right _ _ (or_left _ _ (or_left _ _ (subst (λ (n : ℕ). IsTrue (has_wide_fold m.message n all.sends)) room_is (subst (λ (k : MergeRule). IsTrue (has_wide_fold k (room_in (g.G.Group.made group)) all.sends)) c.message.ensures wide))));
      graph = search rules;
      scratch = search rules;
      no_graph = search rules;
      no_scratch = search rules;
      touches = search rules;
      graph_touches = search rules;
    })

pub returns-in_err-move_folds-clause-err : goal.returns-in_err-move_folds-clause-err
returns-in_err-move_folds-clause-err g c =
    let m = g.P.Program.meaning c.args.program.now in
    let s0 = g.SD.Disk.shown c.args.scratch.now in
    let s1 = g.SD.Disk.shown c.each_row.new.scratch in
    let s2 = g.SD.Disk.shown c.seal.new.disk in
    let group = c.each_row.new.bench.group in
    let sealed = c.seal.new.self in
    let end = err_from_is_err_and c.from_residual-in_err-move_folds.result c.from_residual-in_err-move_folds.ensures.1 in
    let stop : end.0 ≡ c.in_err-move_folds.field-0.0 = cc in
    rw (end.1, stop) (record {
      beyond = λ is l rows before b asked.
          let all = computed m (moment_of c.args.gs.now) rows in
          let done = c.in_ok-part.ensures.made l rows b (λ a h. h) in
          let room_is : room_in (g.G.Group.made sealed) ≡ room_of s0.page_len = ap room_in (c.seal.ensures.stays ∙ c.each_row.ensures.bench.group) ∙ ap room_of c.requires.bench.group_len in
          let took = subst (λ (k : MergeRule). g.G.Group.took s1 group k all.sends) (sym c.message.ensures) done.taken.group in
          let gives = subst (λ (k : MergeRule). g.G.Group.gives s2 sealed k all.sends (grouped k all.sends)) c.message.ensures (c.in_ok-seal.ensures.gives all.sends took) in
          let wide = c.in_err-move_folds.ensures.err.beyond is all.sends (grouped m.message all.sends) (subst (λ (k : MergeRule). g.G.Group.gives s2 sealed k all.sends (grouped m.message all.sends)) (sym c.message-2.ensures) gives) in
          or_right _ _ (or_left _ _ (or_left _ _ (subst (λ (n : ℕ). IsTrue (has_wide_fold m.message n all.sends)) room_is (subst (λ (k : MergeRule). IsTrue (has_wide_fold k (room_in (g.G.Group.made sealed)) all.sends)) c.message-2.ensures wide))));
      graph = search rules;
      scratch = search rules;
      no_graph = search rules;
      no_scratch = search rules;
      touches = search rules;
      graph_touches = search rules;
    })

pub returns-clause-holds : goal.returns-clause-holds
returns-clause-holds g c = λ l rows has. c.in_ok-part.ensures.holds l rows has

pub returns-clause-others : goal.returns-clause-others
returns-clause-others g c = λ p k low other h.
    let s0 = g.SD.Disk.shown c.args.scratch.now in
    let s1 = g.SD.Disk.shown c.each_row.new.scratch in
    let s2 = g.SD.Disk.shown c.seal.new.disk in
    let s4 = g.SD.Disk.shown c.finish.new.disk in
    let s5 = g.SD.Disk.shown c.finish-2.new.disk in
    let before = g.G.Group.made c.args.bench.now.group in
    let made = g.G.Group.made c.each_row.new.bench.group in
    let u = c.args.bench.now.updates.file in
    let v = c.each_row.new.bench.updates.file in
    let ins = (g.J.Join.view c.args.join.now).inputs in
    let conn = c.args.connector.now in
    let apart = c.requires.apart in
    let after : AreApart made v ins = apart_at before made u v ins ins c.each_row.ensures.bench.group c.each_row.ensures.bench.updates_file refl apart in
    let stay = g.met.C.Connector.sent_stays in
    let sent1 = stay conn s0 s1 p k (same_by_touches (IsSenderFile p) (IsRunFile before u) s0 s1 (sender_run before u ins apart p low) c.in_ok-part.ensures.ok.touches) h in
    let sent2 = stay conn s1 s2 p k (same_by_touches (IsSenderFile p) (IsOwn made) s1 s2 (sender_own made v ins after p low) c.in_ok-seal.ensures.ok.touches) sent1 in
    let sent3 = c.in_ok-move_folds.ensures.others p k low other sent2 in
    let sent4 = c.in_ok-finish.ensures.others p k (λ is. other (is ∙ ap (λ (w : ConnectorView). w.sender) c.move_folds.ensures.connector)) sent3 in
    stay c.finish.new.self s4 s5 p k (same_by_touches (IsSenderFile p) (Only v) s4 s5 (sender_update made v ins after p low) c.in_ok-finish-2.ensures.ok.touches) sent4

pub returns-clause-made : goal.returns-clause-made
returns-clause-made g c = λ l rows earlier b begun asked.
    let m = g.P.Program.meaning c.args.program.now in
    let s0 = g.SD.Disk.shown c.args.scratch.now in
    let s1 = g.SD.Disk.shown c.each_row.new.scratch in
    let s2 = g.SD.Disk.shown c.seal.new.disk in
    let s3 = g.SD.Disk.shown c.move_folds.new.scratch in
    let s4 = g.SD.Disk.shown c.finish.new.disk in
    let s5 = g.SD.Disk.shown c.finish-2.new.disk in
    let before = g.G.Group.made c.args.bench.now.group in
    let group = c.each_row.new.bench.group in
    let made = g.G.Group.made group in
    let sealed = c.seal.new.self in
    let u = c.args.bench.now.updates.file in
    let updates = c.each_row.new.bench.updates in
    let v = updates.file in
    let ins = (g.J.Join.view c.args.join.now).inputs in
    let conn = c.args.connector.now in
    let sender = (g.C.Connector.view conn).sender in
    let low = c.requires.sender in
    let room = room_of s0.page_len in
    let apart = c.requires.apart in
    let after : AreApart made v ins = apart_at before made u v ins ins c.each_row.ensures.bench.group c.each_row.ensures.bench.updates_file refl apart in
    let moving : AreApart (g.G.Group.made sealed) v ins = apart_at made (g.G.Group.made sealed) v v ins ins c.seal.ensures.stays refl refl after in
    let last : (g.C.Connector.view c.move_folds.new.connector).sender ≡ sender = ap (λ (w : ConnectorView). w.sender) c.move_folds.ensures.connector in
    let low3 : (g.C.Connector.view c.move_folds.new.connector).sender < 16 = subst (λ (n : ℕ). n < 16) (sym last) low in
    let all = computed m (moment_of c.args.gs.now) rows in
    let tuples = vertex_tuples all.changes in
    let want = earlier ++ all.requests in
    let done = c.in_ok-part.ensures.made l rows b (λ a h. h) in
    let taken = done.taken in
    let by_rows = c.in_ok-part.ensures.ok.touches in
    let by_seal = c.in_ok-seal.ensures.ok.touches in
    let by_moves = c.in_ok-move_folds.ensures.ok.touches in
    let by_end = c.in_ok-finish.ensures.ok.touches in
    let by_updates = c.in_ok-finish-2.ensures.ok.touches in
    let took = subst (λ (k : MergeRule). g.G.Group.took s1 group k all.sends) (sym c.message.ensures) taken.group in
    let sealing = subst (λ (k : MergeRule). g.G.Group.gives s2 sealed k all.sends (grouped k all.sends)) c.message.ensures (c.in_ok-seal.ensures.gives all.sends took) in
    let gives = subst (λ (k : MergeRule). g.G.Group.gives s2 sealed k all.sends (grouped m.message all.sends)) (sym c.message-2.ensures) sealing in
    let sending1 = g.met.C.Connector.sending_stays conn s0 s1 sender [] (same_by_touches (IsSenderFile sender) (IsRunFile before u) s0 s1 (sender_run before u ins apart sender low) by_rows) begun in
    let sending2 = g.met.C.Connector.sending_stays conn s1 s2 sender [] (same_by_touches (IsSenderFile sender) (IsOwn made) s1 s2 (sender_own made v ins after sender low) by_seal) sending1 in
    let moved = c.in_ok-move_folds.ensures.sending all.sends (grouped m.message all.sends) (IsMap-grouped m.message all.sends) gives sending2 in
    let sent = c.in_ok-finish.ensures.sent sender (grouped m.message all.sends) moved in
    let up2 = took_same s1 s2 updates tuples (same_by_touches (Only v) (IsOwn made) s1 s2 (update_own made v ins after) by_seal) done.updates in
    let up3 = took_same s2 s3 updates tuples (same_by_touches (Only v) (OwnOrSent (g.G.Group.made sealed) sender) s2 s3 (update_moved (g.G.Group.made sealed) v ins moving sender low) by_moves) up2 in
    let up4 = took_same s3 s4 updates tuples (same_by_touches (Only v) (IsSenderFile (g.C.Connector.view c.move_folds.new.connector).sender) s3 s4 (update_sender made v ins after _ low3) by_end) up3 in
    let asked1 = taken.requests earlier asked in
    let asked2 = asked_same s1 s2 c.each_row.new.requests want (same_by_touches IsRequestFile (IsOwn made) s1 s2 (request_own made v ins after) by_seal) asked1 in
    let asked3 = asked_same s2 s3 c.each_row.new.requests want (same_by_touches IsRequestFile (OwnOrSent (g.G.Group.made sealed) sender) s2 s3 (request_moved (g.G.Group.made sealed) v ins moving sender low) by_moves) asked2 in
    let asked4 = asked_same s3 s4 c.each_row.new.requests want (same_by_touches IsRequestFile (IsSenderFile (g.C.Connector.view c.move_folds.new.connector).sender) s3 s4 (request_sender _) by_end) asked3 in
    let room_is : room_in (g.G.Group.made sealed) ≡ room = ap room_in (c.seal.ensures.stays ∙ c.each_row.ensures.bench.group) ∙ ap room_of c.requires.bench.group_len in
    let fold = c.in_ok-move_folds.ensures.fits all.sends (grouped m.message all.sends) gives in
    record {
      numbers = record { sends = sym taken.sends_are; requests = sym taken.requests_are; contributed = sym taken.contributed_is };
      updates = c.in_ok-finish-2.ensures.holds tuples up4;
      sends = g.met.C.Connector.sent_stays c.finish.new.self s4 s5 sender (grouped m.message all.sends) (same_by_touches (IsSenderFile sender) (Only v) s4 s5 (sender_update made v ins after sender low) by_updates) sent;
      requests = asked_same s4 s5 c.each_row.new.requests want (same_by_touches IsRequestFile (Only v) s4 s5 (request_update made v ins after) by_updates) asked4;
      stored = done.stored;
      fits = within_limits m room all done.fit
          (subst (λ (n : ℕ). has_wide_fold m.message n all.sends ≡ false) room_is (subst (λ (k : MergeRule). has_wide_fold k (room_in (g.G.Group.made sealed)) all.sends ≡ false) c.message-2.ensures fold))
          (subst (λ (n : ℕ). n ≤ 2 ^ 40) (sym taken.sends_are) c.in_ok-part.ensures.few_sends) taken.requests_fit (subst (λ (n : ℕ). n ≤ 2 ^ 40) (sym taken.requests_are) c.in_ok-part.ensures.few_requests);
    }
