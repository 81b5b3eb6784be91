use Rattle.std.proofs.Common.{◌≡◌, ℕ, [], false, IsTrue, sym, ◌∙◌, ap, subst, inl, inr}
use Rattle.std.proofs.lemmas.Result.{err_from_is_err_and}
use Rattle.px_core.specs.Shown.{Only}
use Rattle.px_core.proofs.Keeping.{same_by_touches, same_by_none}
use Rattle.px_core.proofs.Steps.{clean_refl, clean_more, clean_then}
use Rattle.px_cache.specs.View.{AnyFile}
use Rattle.px_meaning.specs.Graph.{room_of}
use Rattle.px_meaning.specs.Merge.{grouped}
use Rattle.px_meaning.specs.Step.{computed}
use Rattle.px_stream.specs.Stream.{Has}
use Rattle.px_stream.specs.Views.{WriterView}
use Rattle.px_connectors.specs.Views.{ConnectorView, IsSenderFile}
use Rattle.px_store.specs.Joins.{IsInput, JoinView, rows_in, vertex_tuples}
use Rattle.px_store.specs.declared.join.Inputs.{Inputs}
use Rattle.px_global_state.specs.States.{moment_of}
use Rattle.px_compute_op.specs.Phase.{OrInput, is_part_beyond}
use Rattle.px_superstep.specs.Files.{IsComputeFile, update_file}
use Rattle.px_superstep.proofs.Computing.{phase_file, sender_update, valid_rows, clean_begun, inputs_begun, asked_begun, took_begun, tells_begun, len_begun}
use Rattle.px_superstep.proofs.Stopping.{phase_graph, phase_after, phase_weaker}
use Rattle.px_superstep.proofs.parts.compute_with.Goals as goal

pub returns-clause-holds : goal.returns-clause-holds
returns-clause-holds g c = λ l m before ready.
    let s0 = g.SD.Disk.shown c.args.scratch.now in
    let s1 = g.SD.Disk.shown c.start.new.disk in
    let s2 = g.SD.Disk.shown c.begin.new.disk in
    let s3 = g.SD.Disk.shown c.start-2.new.scratch in
    let u = c.args.tools.now.bench.updates.file in
    let here = inputs_begun c.args.q u c.requires.few c.requires.tools.updates s0 s1 s2 s3 c.in_ok-start.ensures.ok.touches c.in_ok-begin.ensures.ok.touches c.in_ok-start-2.ensures.ok.touches
    g.J.Join.probing c.args.ins.now l m c.requires.inputs ready.inputs in
    c.in_ok-settle.ensures.holds l (c.in_ok-part.ensures.holds l (rows_in l m) (c.in_ok-start-2.ensures.gives l m ready.held here))

pub returns-clause-others : goal.returns-clause-others
returns-clause-others g c = λ p l low other sent.
    let s0 = g.SD.Disk.shown c.args.scratch.now in
    let s1 = g.SD.Disk.shown c.start.new.disk in
    let s2 = g.SD.Disk.shown c.begin.new.disk in
    let s3 = g.SD.Disk.shown c.start-2.new.scratch in
    let u = c.args.tools.now.bench.updates.file in
    let stay = g.met.C.Connector.sent_stays in
    let sent1 = stay c.args.connector.now s0 s1 p l (same_by_touches (IsSenderFile p) (Only u) s0 s1 (sender_update c.args.q u c.requires.few c.requires.tools.updates p) c.in_ok-start.ensures.ok.touches) sent in
    let sent2 = c.in_ok-begin.ensures.others p l other sent1 in
    let sent3 = stay c.begin.new.self s2 s3 p l (same_by_none (IsSenderFile p) s2 s3 c.in_ok-start-2.ensures.ok.touches) sent2 in
    c.in_ok-part.ensures.others p l low (λ is. other (is ∙ ap (λ (v : ConnectorView). v.sender) c.begin.ensures.view)) sent3

pub returns-clause-made : goal.returns-clause-made
returns-clause-made g c = λ l m before ready.
    let p = g.P.Program.meaning c.args.program.now in
    let s0 = g.SD.Disk.shown c.args.scratch.now in
    let s1 = g.SD.Disk.shown c.start.new.disk in
    let s2 = g.SD.Disk.shown c.begin.new.disk in
    let s3 = g.SD.Disk.shown c.start-2.new.scratch in
    let s4 = g.SD.Disk.shown c.run_partition.new.scratch in
    let q = c.args.q in
    let u = c.args.tools.now.bench.updates.file in
    let few = c.requires.few in
    let update = c.requires.tools.updates in
    let one = c.in_ok-start.ensures.ok.touches in
    let two = c.in_ok-begin.ensures.ok.touches in
    let three = c.in_ok-start-2.ensures.ok.touches in
    let tells = ready.inputs.messages.tells.on in
    let here = inputs_begun q u few update s0 s1 s2 s3 one two three g.J.Join.probing c.args.ins.now l m c.requires.inputs ready.inputs in
    let len = len_begun q u few update s0 s1 s2 s3 one two three in
    let sender : (g.C.Connector.view c.begin.new.self).sender ≡ q = ap (λ (v : ConnectorView). v.sender) c.begin.ensures.view in
    let sending2 = c.in_ok-begin.ensures.sending (one.tells ∙ tells) in
    let sending3 = g.met.C.Connector.sending_stays c.begin.new.self s2 s3 q [] (same_by_none (IsSenderFile q) s2 s3 three) sending2 in
    let all = computed p (moment_of c.args.gs.now) (rows_in l m) in
    let writer = c.run_partition.new.bench.updates in
    let done = c.in_ok-part.ensures.made l (rows_in l m) before
    (record {
      gives = c.in_ok-start-2.ensures.gives l m ready.held here;
      valid = valid_rows p.message l m ready.valid;
      updates = took_begun q u few update s0 s1 s2 s3 one two three c.start.new.self [] c.start.ensures.stays.file (c.in_ok-start.ensures.took tells);
      group = c.requires.took s3 p.message (tells_begun q u few update s0 s1 s2 s3 one two three tells) len;
    })
    (subst (λ (n : ℕ). g.C.Connector.sending c.begin.new.self s3 n []) (sym sender) sending3)
    (asked_begun q u few update s0 s1 s2 s3 one two three c.args.requests.now before ready.asked) in
    let file : writer.file ≡ update_file q = c.run_partition.ensures.bench.updates_file ∙ c.start.ensures.stays.file ∙ update in
    let first : writer.first ≡ 0 = c.in_ok-part.ensures.first ∙ ap (λ (w : WriterView). w.first) c.in_ok-start.ensures.after in
    let tuples = vertex_tuples all.changes in
    record {
      numbers = done.numbers;
      updates = rw (c.pages-pages.ensures) (subst (λ (n : ℕ). Has s4 (update_file q) n writer.pages tuples) first (subst (λ (n : ℕ). Has s4 n writer.first writer.pages tuples) file done.updates));
      sends = subst (λ (n : ℕ). g.C.Connector.sent c.run_partition.new.connector s4 n (grouped p.message all.sends)) sender done.sends;
      requests = done.requests;
      stored = done.stored;
      fits = subst (λ (n : ℕ). is_part_beyond p (room_of n) all ≡ false) len done.fits;
    }

pub returns-in_err-part-clause-err : goal.returns-in_err-part-clause-err
returns-in_err-part-clause-err g c =
    let p = g.P.Program.meaning c.args.program.now in
    let s0 = g.SD.Disk.shown c.args.scratch.now in
    let s1 = g.SD.Disk.shown c.start.new.disk in
    let s2 = g.SD.Disk.shown c.begin.new.disk in
    let s3 = g.SD.Disk.shown c.start-2.new.scratch in
    let q = c.args.q in
    let u = c.args.tools.now.bench.updates.file in
    let ins = c.args.ins.now in
    let made = g.G.Group.made c.args.tools.now.bench.group in
    let few = c.requires.few in
    let update = c.requires.tools.updates in
    let one = c.in_ok-start.ensures.ok.touches in
    let two = c.in_ok-begin.ensures.ok.touches in
    let three = c.in_ok-start-2.ensures.ok.touches in
    let len = len_begun q u few update s0 s1 s2 s3 one two three in
    let sender : (g.C.Connector.view c.begin.new.self).sender ≡ q = ap (λ (v : ConnectorView). v.sender) c.begin.ensures.view in
    let inputs : (g.J.Join.view c.start-2.new.self).inputs ≡ ins = ap (λ (v : JoinView). v.inputs) c.start-2.ensures.stays in
    let end = err_from_is_err_and c.from_residual-in_err-part.result c.from_residual-in_err-part.ensures.1 in
    let stop : end.0 ≡ c.in_err-part.field-0.0 = cc in
    rw (end.1, stop)
    (phase_after (OrInput ins (IsComputeFile q)) _ _ _ _ s0 s3 _ _ c.in_ok-start-2.ensures.done.clean
    (clean_begun q u ins s0 s1 s2 s3 update c.in_ok-start.ensures.ok c.in_ok-begin.ensures.ok c.in_ok-start-2.ensures.ok)
    (phase_weaker _ (OrInput ins (IsComputeFile q)) _ _ _ _ _ _ _
    (λ f mine. (elim mine [
      | inl own ↦ inl (phase_file made q c.start.new.self.file c.requires.tools.first c.requires.tools.second (c.start.ensures.stays.file ∙ update) (g.C.Connector.view c.begin.new.self).sender sender f own)
      | inr read ↦ inr (subst (λ (i : Inputs). IsInput i f) inputs read)
    ]))
    (λ why l m before ready.
    let tells = ready.inputs.messages.tells.on in
    subst (λ (n : ℕ). IsTrue (is_part_beyond p (room_of n) (computed p (moment_of c.args.gs.now) (rows_in l m)))) len
    (why l (rows_in l m) before
    (record {
      gives = c.in_ok-start-2.ensures.gives l m ready.held (inputs_begun q u few update s0 s1 s2 s3 one two three g.J.Join.probing ins l m c.requires.inputs ready.inputs);
      valid = valid_rows p.message l m ready.valid;
      updates = took_begun q u few update s0 s1 s2 s3 one two three c.start.new.self [] c.start.ensures.stays.file (c.in_ok-start.ensures.took tells);
      group = c.requires.took s3 p.message (tells_begun q u few update s0 s1 s2 s3 one two three tells) len;
    })
    (asked_begun q u few update s0 s1 s2 s3 one two three c.args.requests.now before ready.asked)))
    c.in_err-part.ensures.err))

pub returns-in_err-settle-clause-err : goal.returns-in_err-settle-clause-err
returns-in_err-settle-clause-err g c =
    let s0 = g.SD.Disk.shown c.args.scratch.now in
    let s1 = g.SD.Disk.shown c.start.new.disk in
    let s2 = g.SD.Disk.shown c.begin.new.disk in
    let s3 = g.SD.Disk.shown c.start-2.new.scratch in
    let s4 = g.SD.Disk.shown c.run_partition.new.scratch in
    let q = c.args.q in
    let u = c.args.tools.now.bench.updates.file in
    let ins = c.args.ins.now in
    let made = g.G.Group.made c.args.tools.now.bench.group in
    let update = c.requires.tools.updates in
    let mine = OrInput ins (IsComputeFile q) in
    let sender : (g.C.Connector.view c.begin.new.self).sender ≡ q = ap (λ (v : ConnectorView). v.sender) c.begin.ensures.view in
    let end = err_from_is_err_and c.from_residual-in_err-settle.result c.from_residual-in_err-settle.ensures.1 in
    let stop : end.0 ≡ c.in_err-settle.field-0.0 = cc in
    rw (end.1, stop)
    (phase_after mine _ _ _ _ s0 s4 s4 _ (clean_then AnyFile _ _ _ c.in_ok-start-2.ensures.done.clean c.in_ok-part.ensures.done.clean)
    (clean_then mine s0 s3 s4 (clean_begun q u ins s0 s1 s2 s3 update c.in_ok-start.ensures.ok c.in_ok-begin.ensures.ok c.in_ok-start-2.ensures.ok)
    (clean_more _ mine s3 s4
    (λ f own. inl (phase_file made q c.start.new.self.file c.requires.tools.first c.requires.tools.second (c.start.ensures.stays.file ∙ update) (g.C.Connector.view c.begin.new.self).sender sender f own))
    c.in_ok-part.ensures.ok))
    (phase_graph mine _ _ _ s4 s4 _ (clean_refl mine s4) c.in_err-settle.ensures.err))
