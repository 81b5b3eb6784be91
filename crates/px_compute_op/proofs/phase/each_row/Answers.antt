use Rattle.std.proofs.Common.{rules, arith, ◌≡◌, ◌<◌, ◌⊎◌, ℕ, List, [], ◌∷◌, ◌++◌, length, sym, ◌∙◌, ap, subst}
use Rattle.std.proofs.lemmas.Result.{err_from_is_err_and}
use Rattle.px_core.specs.Same.{Apart}
use Rattle.px_core.specs.Shown.{Only}
use Rattle.px_core.specs.declared.stop.Stop.TheVariants.{Scratch}
use Rattle.px_core.proofs.Keeping.{same_by_touches, same_by_none, same_then}
use Rattle.px_core.proofs.Steps.{clean_refl}
use Rattle.px_meaning.specs.Graph.{Graph, vertex_size, room_of}
use Rattle.px_meaning.specs.Program.{ProgramMeaning, ProgramLaws, Row}
use Rattle.px_meaning.specs.Step.{computed}
use Rattle.px_pages.specs.Entry.{entry}
use Rattle.px_program.specs.Groups.{GroupMade, IsOwn}
use Rattle.px_program.specs.Phase.{with_all}
use Rattle.px_program.specs.Posted.{Posted, IsPartOf, IsBeyond, made_for, with_out, nothing}
use Rattle.px_record.specs.Body.{IsVertex, body_of}
use Rattle.px_record.specs.Held.{HeldVertex}
use Rattle.px_connectors.specs.Asking.{IsRequestFile, Asked}
use Rattle.px_connectors.specs.Frames.{asked_same}
use Rattle.px_stream.specs.Stream.{Took}
use Rattle.px_stream.proofs.Kept.{took_same}
use Rattle.px_store.specs.Desks.{IsDone}
use Rattle.px_store.specs.Joins.{GivesRow, LeadsRow, HasRows, IsInput, JoinView}
use Rattle.px_store.proofs.Apart.{done_refl, done_then, desk_refl, desk_then}
use Rattle.px_store.proofs.Joining.{rows_map}
use Rattle.px_global_state.specs.States.{moment_of}
use Rattle.px_global_state.specs.declared.part.Part.{Part}
use Rattle.px_compute_op.specs.Outs.{IsOutFile, HasTaken}
use Rattle.px_compute_op.specs.Phase.{AreApart, HaveValidMessages, IsRunFile}
use Rattle.px_compute_op.proofs.Apart.{apart_at, inputs_out, inputs_update, own_update, request_update, update_out}
use Rattle.px_compute_op.proofs.Looking.{looked_first, looked_up, looked_past}
use Rattle.px_compute_op.proofs.Rows.{rows_first, rows_after, rows_over, beyond_at}
use Rattle.px_compute_op.proofs.Taking.{taken_first, taken_kept}
use Rattle.px_compute_op.proofs.phase.each_row.Goals as goal

pub loop-row-init : goal.loop-row-init
loop-row-init g c =
    let s = g.SD.Disk.shown c.args.scratch.now in
    let m = g.K.Meant.start.program in
    let part_is : c.no_part-part.result ≡ record { sends = 0; requests = 0; contributed = m.unit } = c.no_part-part.ensures.part ∙ ap (λ (p : ProgramMeaning). record { sends = 0; requests = 0; contributed = p.unit }) c.requires.program in
    record {
      going = λ x rows b asked. rows_first m (moment_of c.args.gs.now) (room_of s.page_len) _ _ _ rows b.gives b.valid b.updates
          (taken_first m (room_of s.page_len) (g.G.Group.took s c.args.bench.now.group m.message) (Asked s c.args.requests.now) g.K.Meant.asked_before c.no_part-part.result part_is b.group asked);
      held = λ x rows has. (rows, has, λ probes. looked_first g.St.Store.counted (g.GD.Disk.shown c.args.graph.now).reads (length rows));
      clean = clean_refl (IsRunFile (g.G.Group.made c.args.bench.now.group) c.args.bench.now.updates.file) s;
      done = done_refl g.St.Store.counted (g.St.Store.part c.args.store.now) c.args.desk.now (g.GD.Disk.shown c.args.graph.now) c.requires.ready;
      few_sends = (let a = ap (λ (k : Part). k.sends) part_is in omega (arith, a));
      few_requests = (let a = ap (λ (k : Part). k.requests) part_is in omega (arith, a));
      small = search rules;
      takes = search rules;
      first = search rules;
      leaves = search rules;
      reads = search rules;
      part = search rules;
      desk = desk_refl c.args.desk.now;
      join = search rules;
      requests = search rules;
      bench = search rules;
    }

pub loop-row-preserved : goal.loop-row-preserved
loop-row-preserved g c =
    let m = g.K.Meant.start.program in
    let i = c.loop-row.invariant in
    let bench = c.loop-row.bench in
    let made = g.G.Group.made bench.group in
    let u = bench.updates.file in
    let s0 = g.SD.Disk.shown c.loop-row.scratch in
    let s1 = g.SD.Disk.shown c.next_row.new.scratch in
    let s2 = g.SD.Disk.shown c.compute_in.new.scratch in
    let s3 = g.SD.Disk.shown c.put.new.disk in
    let d0 = g.GD.Disk.shown c.loop-row.graph in
    let d1 = g.GD.Disk.shown c.next_row.new.graph in
    let join = c.next_row.new.self in
    let group = c.compute_in.new.group in
    let requests = c.compute_in.new.requests in
    let at = moment_of c.args.gs.now in
    let room = room_of (g.SD.Disk.shown c.args.scratch.now).page_len in
    let ins = (g.J.Join.view join).inputs in
    let view_is : g.J.Join.view join ≡ g.J.Join.view c.args.join.now = c.next_row.ensures.stays ∙ i.join in
    let apart : AreApart made u ins = apart_at _ made _ u _ ins i.bench.group i.bench.updates_file (ap (λ (v : JoinView). v.inputs) view_is) c.requires.apart in
    let read = c.in_ok-row.ensures.ok.touches in
    let out = c.in_ok-compute_in.ensures.ok.touches in
    let put = c.in_ok-put.ensures.ok.touches in
    let made_is : g.G.Group.made group ≡ made = c.compute_in.ensures.group_stays in
    let room_is : c.next_row.new.vertex.room ≡ room = c.next_row.ensures.vertex.room ∙ i.bench.vertex.room ∙ c.requires.bench.room in
    let gives : (x : Graph) (rows : List Row) → HasRows g.J.Join.probing (g.St.Store.holds c.loop-row.store c.loop-row.desk d0) (g.St.Store.scans c.loop-row.store c.loop-row.desk d0) (g.J.Join.gives c.loop-row.join s0) x rows
    → LeadsRow c.in-Some.row c.next_row.new.vertex c.next_row.new.message.bytes rows (HasRows g.J.Join.probing (g.St.Store.holds c.next_row.new.store c.next_row.new.desk d1) (g.St.Store.scans c.next_row.new.store c.next_row.new.desk d1) (g.J.Join.gives join s1) x) =
    λ x rows has. subst (λ o. GivesRow o c.next_row.new.vertex c.next_row.new.message.bytes rows (HasRows g.J.Join.probing (g.St.Store.holds c.next_row.new.store c.next_row.new.desk d1) (g.St.Store.scans c.next_row.new.store c.next_row.new.desk d1) (g.J.Join.gives join s1) x)) c.in-Some.is (c.in_ok-row.ensures.gives x rows has) in
    let stay : (x : Graph) (rows : List Row) → HasRows g.J.Join.probing (g.St.Store.holds c.next_row.new.store c.next_row.new.desk d1) (g.St.Store.scans c.next_row.new.store c.next_row.new.desk d1) (g.J.Join.gives join s1) x rows
    → HasRows g.J.Join.probing (g.St.Store.holds c.next_row.new.store c.next_row.new.desk d1) (g.St.Store.scans c.next_row.new.store c.next_row.new.desk d1) (g.J.Join.gives join s3) x rows =
    λ x rows has. rows_map g.J.Join.probing _ _ (g.J.Join.gives join s1) (g.J.Join.gives join s3) x rows (λ a b r h. g.met.J.Join.gives_stays join s1 s3 a b r
    (same_then (IsInput ins) s1 s2 s3 (same_by_touches (IsInput ins) (IsOutFile made) s1 s2 (inputs_out made u ins apart) out) (same_by_touches (IsInput ins) (Only u) s2 s3 (inputs_update made u ins apart) put)) h) has in
    record {
      going = λ x rows b asked.
          let was = i.going x rows b asked in
          let lead = gives x was.rest was.gives in
          rows_after m at room _ _ _ _ _ _ rows was lead.first lead.rest lead.is (stay x lead.rest lead.after)
          (λ valid p taken.
          taken_kept m room (g.G.Group.took s2 group m.message) (g.G.Group.took s3 group m.message) (Asked s2 requests) (Asked s3 requests) g.K.Meant.asked_before c.compute_in.new.part (with_out (m.out_of at lead.first) p)
          (λ l h. g.met.G.Group.took_stays s2 s3 group m.message l (same_by_touches (IsOwn (g.G.Group.made group)) (Only u) s2 s3 (λ f own is. own_update made u ins apart f (subst (λ v. IsOwn v f) made_is own) is) put) h)
          (λ l h. asked_same s2 s3 requests l (same_by_touches IsRequestFile (Only u) s2 s3 (request_update made u ins apart) put) h)
          (subst (λ (n : ℕ). HasTaken m n (g.G.Group.took s2 group m.message) (Asked s2 requests) g.K.Meant.asked_before c.compute_in.new.part (with_out (m.out_of at lead.first) p)) room_is
          (c.in_ok-compute_in.ensures.took lead.first p lead.row valid
          (subst (λ (n : ℕ). HasTaken m n (g.G.Group.took s1 bench.group m.message) (Asked s1 c.loop-row.requests) g.K.Meant.asked_before c.loop-row.part p) (sym room_is)
          (taken_kept m room (g.G.Group.took s0 bench.group m.message) (g.G.Group.took s1 bench.group m.message) (Asked s0 c.loop-row.requests) (Asked s1 c.loop-row.requests) g.K.Meant.asked_before c.loop-row.part p
          (λ l h. g.met.G.Group.took_stays s0 s1 bench.group m.message l (same_by_none (IsOwn made) s0 s1 read) h)
          (λ l h. asked_same s0 s1 c.loop-row.requests l (same_by_none IsRequestFile s0 s1 read) h) taken)))))
          (λ valid l took.
          let new = c.in_ok-compute_in.ensures.vertex lead.first lead.row valid in
          let body : c.body.result.now ≡ body_of (m.out_of at lead.first).vertex = c.body.ensures.body ∙ ap (λ (h : HeldVertex). body_of h.vertex) new in
          subst (λ (k : ℕ). Took s3 c.put.new.self (l ++ entry k 1 (body_of (m.out_of at lead.first).vertex) ∷ [])) (sym lead.row.vid)
          (subst (λ (bytes : List ℕ). Took s3 c.put.new.self (l ++ entry c.in-Some.row.vid 1 bytes ∷ [])) body
          (c.in_ok-put.ensures.took l (took_same s1 s2 bench.updates l (same_by_touches (Only u) (IsOutFile made) s1 s2 (update_out made u ins apart) out) (took_same s0 s1 bench.updates l (same_by_none (Only u) s0 s1 read) took)))))
          (λ valid.
          let new = c.in_ok-compute_in.ensures.vertex lead.first lead.row valid in
          let size = ap (λ (h : HeldVertex). vertex_size h.vertex) new in
          let fits = c.in_ok-compute_in.ensures.fits in
          let same : c.compute_in.new.vertex.room ≡ room = c.compute_in.ensures.record_stays.room ∙ room_is in
          omega (arith, size, fits, same))
          (λ valid. subst IsVertex (ap (λ (h : HeldVertex). h.vertex) (c.in_ok-compute_in.ensures.vertex lead.first lead.row valid)) c.body.ensures.within.fits);
      held = λ x rows has.
          (let rest = i.held x rows has in
          let lead = gives x rest.0 rest.1 in (
            lead.rest,
            stay x lead.rest lead.after,
            λ probes. looked_up _ _ _ _ _ rest.0 lead.first lead.rest lead.is (rest.2 probes) (c.next_row.ensures.few_reads probes),
          ));
      clean = search rules;
      done = done_then g.St.Store.counted (g.St.Store.part c.args.store.now) c.args.desk.now c.loop-row.desk c.next_row.new.desk (g.GD.Disk.shown c.args.graph.now) d0 d1 i.done
          (subst (λ (q : ℕ). IsDone g.St.Store.counted q c.loop-row.desk d0 c.next_row.new.desk d1) i.part c.in_ok-row.ensures.done);
      few_sends = search rules;
      few_requests = search rules;
      small = search rules;
      takes = search rules;
      first = search rules;
      leaves = search rules;
      reads = search rules;
      part = search rules;
      desk = desk_then c.args.desk.now c.loop-row.desk c.next_row.new.desk i.desk c.next_row.ensures.desk;
      join = search rules;
      requests = search rules;
      bench = search rules;
    }

pub compute_in-requires-clause-apart : goal.compute_in-requires-clause-apart
compute_in-requires-clause-apart g c = subst (λ (v : GroupMade). Apart (IsOwn v) IsRequestFile) (sym c.loop-row.invariant.bench.group) c.requires.apart.group_requests

-- an update was not written
pub returns-in_err-put-clause-err : goal.returns-in_err-put-clause-err
returns-in_err-put-clause-err g c =
    let end = err_from_is_err_and c.from_residual-in_err-put.result c.from_residual-in_err-put.ensures.1 in
    let stop : end.0 ≡ c.in_err-put.field-0.0 = cc in
    let only : c.in_err-put.field-0.0 ≡ Scratch = c.in_err-put.ensures.err.only in
    rw (end.1, stop) (record {
      beyond = λ is. absurd (cc (sym only ∙ is));
      graph = λ is. absurd (cc (sym only ∙ is));
      scratch = search rules;
      no_graph = search rules;
      no_scratch = λ other. absurd (other only);
      touches = search rules;
      graph_touches = search rules;
    })

pub returns-in_err-compute_in-clause-err : goal.returns-in_err-compute_in-clause-err
returns-in_err-compute_in-clause-err g c =
    let m = g.K.Meant.start.program in
    let i = c.loop-row.invariant in
    let s0 = g.SD.Disk.shown c.loop-row.scratch in
    let s1 = g.SD.Disk.shown c.next_row.new.scratch in
    let d1 = g.GD.Disk.shown c.next_row.new.graph in
    let bench = c.loop-row.bench in
    let made = g.G.Group.made bench.group in
    let join = c.next_row.new.self in
    let at = moment_of c.args.gs.now in
    let room = room_of (g.SD.Disk.shown c.args.scratch.now).page_len in
    let read = c.in_ok-row.ensures.ok.touches in
    let room_is : c.next_row.new.vertex.room ≡ room = c.next_row.ensures.vertex.room ∙ i.bench.vertex.room ∙ c.requires.bench.room in
    let end = err_from_is_err_and c.from_residual-in_err-compute_in.result c.from_residual-in_err-compute_in.ensures.1 in
    let stop : end.0 ≡ c.in_err-compute_in.field-0.0 = cc in
    rw (end.1, stop) (record {
      beyond = λ is x rows b asked.
          let was = i.going x rows b asked in
          let lead = subst (λ o. GivesRow o c.next_row.new.vertex c.next_row.new.message.bytes was.rest (HasRows g.J.Join.probing (g.St.Store.holds c.next_row.new.store c.next_row.new.desk d1) (g.St.Store.scans c.next_row.new.store c.next_row.new.desk d1) (g.J.Join.gives join s1) x)) c.in-Some.is (c.in_ok-row.ensures.gives x was.rest was.gives) in
          let valid = subst (λ (k : List Row). HaveValidMessages m.message k) lead.is was.valid_rest in
          let cause = c.in_err-compute_in.ensures.err.beyond is lead.first (with_all (computed m at was.done) nothing) lead.row valid.0
          (subst (λ (n : ℕ). HasTaken m n (g.G.Group.took s1 bench.group m.message) (Asked s1 c.loop-row.requests) g.K.Meant.asked_before c.loop-row.part (with_all (computed m at was.done) nothing)) (sym room_is)
          (taken_kept m room (g.G.Group.took s0 bench.group m.message) (g.G.Group.took s1 bench.group m.message) (Asked s0 c.loop-row.requests) (Asked s1 c.loop-row.requests) g.K.Meant.asked_before c.loop-row.part (with_all (computed m at was.done) nothing)
          (λ l h. g.met.G.Group.took_stays s0 s1 bench.group m.message l (same_by_none (IsOwn made) s0 s1 read) h)
          (λ l h. asked_same s0 s1 c.loop-row.requests l (same_by_none IsRequestFile s0 s1 read) h) was.taken)) in
          beyond_at m at (subst ProgramLaws c.requires.program (g.met.P.Program.laws c.args.program.now)) room rows was.done lead.rest lead.first (was.split ∙ ap (λ (k : List Row). was.done ++ k) lead.is) was.valid
          (subst (λ (n : ℕ). (n < vertex_size (m.out_of at lead.first).vertex) ⊎ ((p : Posted) × IsPartOf (m.out_of at lead.first) (with_all (computed m at was.done) nothing) p × IsBeyond (made_for m n) p)) room_is cause);
      graph = search rules;
      scratch = search rules;
      no_graph = search rules;
      no_scratch = search rules;
      touches = search rules;
      graph_touches = search rules;
    })

pub returns-clause-made : goal.returns-clause-made
returns-clause-made g c = λ x rows b asked.
    let m = g.K.Meant.start.program in
    let i = c.loop-row.invariant in
    let bench = c.loop-row.bench in
    let made = g.G.Group.made bench.group in
    let s0 = g.SD.Disk.shown c.loop-row.scratch in
    let s1 = g.SD.Disk.shown c.next_row.new.scratch in
    let d1 = g.GD.Disk.shown c.next_row.new.graph in
    let room = room_of (g.SD.Disk.shown c.args.scratch.now).page_len in
    let read = c.in_ok-row.ensures.ok.touches in
    let was = i.going x rows b asked in
    let over = subst (λ o. GivesRow o c.next_row.new.vertex c.next_row.new.message.bytes was.rest (HasRows g.J.Join.probing (g.St.Store.holds c.next_row.new.store c.next_row.new.desk d1) (g.St.Store.scans c.next_row.new.store c.next_row.new.desk d1) (g.J.Join.gives c.next_row.new.self s1) x)) c.in_default.is (c.in_ok-row.ensures.gives x was.rest was.gives) in
    rows_over m (moment_of c.args.gs.now) room _ _ _ _ _ rows was over.0
    (λ l took. took_same s0 s1 bench.updates l (same_by_none (Only bench.updates.file) s0 s1 read) took)
    (λ p taken. taken_kept m room (g.G.Group.took s0 bench.group m.message) (g.G.Group.took s1 bench.group m.message) (Asked s0 c.loop-row.requests) (Asked s1 c.loop-row.requests) g.K.Meant.asked_before c.loop-row.part p
    (λ l h. g.met.G.Group.took_stays s0 s1 bench.group m.message l (same_by_none (IsOwn made) s0 s1 read) h)
    (λ l h. asked_same s0 s1 c.loop-row.requests l (same_by_none IsRequestFile s0 s1 read) h) taken)

pub returns-clause-holds : goal.returns-clause-holds
returns-clause-holds g c = λ x rows has.
    let i = c.loop-row.invariant in
    let s1 = g.SD.Disk.shown c.next_row.new.scratch in
    let d1 = g.GD.Disk.shown c.next_row.new.graph in
    let rest = i.held x rows has in
    let over = subst (λ o. GivesRow o c.next_row.new.vertex c.next_row.new.message.bytes rest.0 (HasRows g.J.Join.probing (g.St.Store.holds c.next_row.new.store c.next_row.new.desk d1) (g.St.Store.scans c.next_row.new.store c.next_row.new.desk d1) (g.J.Join.gives c.next_row.new.self s1) x)) c.in_default.is (c.in_ok-row.ensures.gives x rest.0 rest.1) in
    over.1.held

-- no row was given: none is left, or a call failed
pub returns-clause-few_reads : goal.returns-clause-few_reads
returns-clause-few_reads g c = λ x rows has probes.
    let s0 = g.SD.Disk.shown c.loop-row.scratch in
    let d0 = g.GD.Disk.shown c.loop-row.graph in
    let rest = c.loop-row.invariant.held x rows has in
    looked_past _ _ _ _ _ (HasRows g.J.Join.probing (g.St.Store.holds c.loop-row.store c.loop-row.desk d0) (g.St.Store.scans c.loop-row.store c.loop-row.desk d0) (g.J.Join.gives c.loop-row.join s0) x)
    rest.0 rest.1 (rest.2 probes) (λ none. c.next_row.ensures.none_left x none probes) (c.next_row.ensures.few_reads probes)

pub returns-in_err-row-clause-few_reads : goal.returns-in_err-row-clause-few_reads
returns-in_err-row-clause-few_reads g c = λ x rows has probes.
    let s0 = g.SD.Disk.shown c.loop-row.scratch in
    let d0 = g.GD.Disk.shown c.loop-row.graph in
    let rest = c.loop-row.invariant.held x rows has in
    looked_past _ _ _ _ _ (HasRows g.J.Join.probing (g.St.Store.holds c.loop-row.store c.loop-row.desk d0) (g.St.Store.scans c.loop-row.store c.loop-row.desk d0) (g.J.Join.gives c.loop-row.join s0) x)
    rest.0 rest.1 (rest.2 probes) (λ none. c.next_row.ensures.none_left x none probes) (c.next_row.ensures.few_reads probes)

-- a row was given, and then a call failed
pub returns-in_err-compute_in-clause-few_reads : goal.returns-in_err-compute_in-clause-few_reads
returns-in_err-compute_in-clause-few_reads g c = λ x rows has probes.
    let s0 = g.SD.Disk.shown c.loop-row.scratch in
    let d0 = g.GD.Disk.shown c.loop-row.graph in
    let rest = c.loop-row.invariant.held x rows has in
    looked_past _ _ _ _ _ (HasRows g.J.Join.probing (g.St.Store.holds c.loop-row.store c.loop-row.desk d0) (g.St.Store.scans c.loop-row.store c.loop-row.desk d0) (g.J.Join.gives c.loop-row.join s0) x)
    rest.0 rest.1 (rest.2 probes) (λ none. c.next_row.ensures.none_left x none probes) (c.next_row.ensures.few_reads probes)

pub returns-in_err-put-clause-few_reads : goal.returns-in_err-put-clause-few_reads
returns-in_err-put-clause-few_reads g c = λ x rows has probes.
    let s0 = g.SD.Disk.shown c.loop-row.scratch in
    let d0 = g.GD.Disk.shown c.loop-row.graph in
    let rest = c.loop-row.invariant.held x rows has in
    looked_past _ _ _ _ _ (HasRows g.J.Join.probing (g.St.Store.holds c.loop-row.store c.loop-row.desk d0) (g.St.Store.scans c.loop-row.store c.loop-row.desk d0) (g.J.Join.gives c.loop-row.join s0) x)
    rest.0 rest.1 (rest.2 probes) (λ none. c.next_row.ensures.none_left x none probes) (c.next_row.ensures.few_reads probes)
