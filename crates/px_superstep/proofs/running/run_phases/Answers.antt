use Rattle.std.proofs.Common.{◌≡◌, ℕ, ◌^◌, refl, sym, ◌∙◌, ap, subst, length}
use Rattle.std.proofs.lemmas.Result.{err_from_is_err_and}
use Rattle.px_frames.specs.Banks.{BankView}
use Rattle.px_load.specs.Stops as loading
use Rattle.px_load.specs.Stops.{IsLineRefusal, IsRefusal, HasGoodLines}
use Rattle.px_load.specs.Dumping as dumping
use Rattle.px_meaning.specs.Graph.{room_of}
use Rattle.px_meaning.specs.GraphText.{graph_of}
use Rattle.px_meaning.specs.Program.{ProgramMeaning}
use Rattle.px_meaning.specs.Step.{State}
use Rattle.px_load.specs.declared.stops.DumpStop.{DumpStop}
use Rattle.px_load.specs.declared.stops.DumpStop.TheVariants as dumps
use Rattle.px_load.specs.declared.stops.LoadStop.{LoadStop}
use Rattle.px_load.specs.declared.stops.LoadStop.TheVariants as loads
use Rattle.px_superstep.specs.Ends.{is_graph, is_scratch, end_of_dump, end_of_load, IsDiskEnd, IsRunEnd}
use Rattle.px_superstep.specs.declared.plan.End.TheVariants.{Done}
use Rattle.px_superstep.specs.Jobs.{JobStands}
use Rattle.px_superstep.proofs.Reaching.{lines_moved, lines_of_text}
use Rattle.px_superstep.proofs.Runs.{counts_from, faults_disk, faults_load, faults_run, faults_dump, ends_early, ends_load, ends_run, ends_dump, ends_done, ends_moved, loaded_of, halts_of, no_messages}
use Rattle.px_superstep.proofs.running.run_phases.Goals as goal

pub returns-in_err-start_disks-clause-end : goal.returns-in_err-start_disks-clause-end
returns-in_err-start_disks-clause-end g c =
    let end = err_from_is_err_and c.from_residual.result c.from_residual.ensures.1 in
    rw (end.1, end.2) (ends_early _ _ _ _ _ _ _ _ _ _ _ _ c.in_err-start_disks.field-0.0 c.in_err-start_disks.ensures.kind)

pub returns-in_err-start_disks-clause-faults : goal.returns-in_err-start_disks-clause-faults
returns-in_err-start_disks-clause-faults g c =
    let end = err_from_is_err_and c.from_residual.result c.from_residual.ensures.1 in
    rw (end.1, end.2) (faults_disk _ _ _ _ _ _ _ _ c.in_err-start_disks.field-0.0 c.in_err-start_disks.ensures.kind refl refl c.in_err-start_disks.ensures.graph_faults c.in_err-start_disks.ensures.scratch_faults)

pub returns-in_err-load-clause-end : goal.returns-in_err-load-clause-end
returns-in_err-load-clause-end g c =
    let end = err_from_is_err_and c.from_residual-in_err-load.result c.from_residual-in_err-load.ensures.1 in
    let x = c.in_err-load.field-0.0 in
    rw (end.1, end.2) (ends_load _ _ _ _ _ _ _ _ _ _ _ _ x
    (λ bytes left. subst (λ (n : ℕ). IsLineRefusal (graph_of bytes (room_of n) (2 ^ 48)) x) c.requires.frame_len (c.in_err-load.ensures.refused_line bytes left))
    (λ bytes left a b. subst (λ (n : ℕ). IsRefusal (graph_of bytes (room_of n) (2 ^ 48)) x) c.requires.frame_len
    (c.in_err-load.ensures.refused bytes left (c.in_ok-start_disks.ensures.scratch.tells ∙ b) (c.in_ok-start_disks.ensures.graph.tells ∙ a)))
    (λ after bytes left. c.in_err-load.ensures.read_whole after bytes left))

pub returns-in_err-load-clause-faults : goal.returns-in_err-load-clause-faults
returns-in_err-load-clause-faults g c =
    let end = err_from_is_err_and c.from_residual-in_err-load.result c.from_residual-in_err-load.ensures.1 in
    let x = c.in_err-load.field-0.0 in
    let h = c.in_err-load.ensures.err in
    rw (end.1, end.2) (faults_load _ _ _ _ _ _ _ x h.source
    (counts_from (loading.is_graph x) _ _ _ c.in_ok-start_disks.ensures.graph.no_fault h.graph)
    (counts_from (loading.is_scratch x) _ _ _ c.in_ok-start_disks.ensures.scratch.no_fault h.scratch))

pub returns-in_err-run_to_halt-clause-end : goal.returns-in_err-run_to_halt-clause-end
returns-in_err-run_to_halt-clause-end g c =
    let end = err_from_is_err_and c.from_residual-in_err-run_to_halt.result c.from_residual-in_err-run_to_halt.ensures.1 in
    let e = c.in_err-run_to_halt.field-0.0 in
    let meant = g.P.Program.meaning in
    let job = c.load.new.self in
    let graph = g.GD.Disk.shown c.load.new.graph in
    let scratch = g.SD.Disk.shown c.load.new.scratch in
    let same : room_of job.bank.frame_len ≡ room_of c.args.job.now.bank.frame_len = ap (λ (b : BankView). room_of b.frame_len) c.load.ensures.bank in
    let here : ProgramMeaning → ℕ → State → Type 0 = λ q k. JobStands q k g.J.Join.probing g.St.Store.holds graph scratch job in
    rw (end.1, end.2) (ends_moved _ _ _ _ _ _ _ _ _ _ _ _ (meant job.program) (room_of job.bank.frame_len) _ e c.load.ensures.program (same ∙ ap room_of c.requires.frame_len)
    (ends_run _ _ _ _ _ _ _ _ _ _ _ _ (here (meant job.program) (room_of job.bank.frame_len)) e
    (λ bytes left. subst (λ (n : ℕ). HasGoodLines (graph_of bytes (room_of n) (2 ^ 48))) c.requires.frame_len (c.in_ok-load.ensures.good_lines bytes left))
    (λ bytes left a b. (let told = c.in_ok-start_disks.ensures.scratch.tells ∙ b in
    let l = c.in_ok-load.ensures.loaded bytes left c.requires.no_probes told (c.in_ok-start_disks.ensures.graph.tells ∙ a) (no_messages c.args.setup.now.frame_bytes (length c.args.job.now.stores.items) (g.SD.Disk.shown c.args.scratch.now) (g.SD.Disk.shown c.start_disks.new.scratch) c.in_ok-start_disks.ensures.scratch b) in
    loaded_of here (meant job.program) (room_of c.args.job.now.bank.frame_len) (room_of job.bank.frame_len) (room_of c.args.setup.now.frame_bytes) (λ (n : ℕ). graph_of bytes n (2 ^ 48)) (sym same) (ap room_of c.requires.frame_len) l.vertices l.good l.stands))
    c.in_ok-load.ensures.read c.in_err-run_to_halt.ensures.end))

pub returns-in_err-run_to_halt-clause-faults : goal.returns-in_err-run_to_halt-clause-faults
returns-in_err-run_to_halt-clause-faults g c =
    let end = err_from_is_err_and c.from_residual-in_err-run_to_halt.result c.from_residual-in_err-run_to_halt.ensures.1 in
    let e = c.in_err-run_to_halt.field-0.0 in
    rw (end.1, end.2) (faults_run _ _ _ _ _ _ _ _ _ e c.in_err-run_to_halt.ensures.end c.in_ok-load.ensures.no_fault
    (counts_from (is_graph e) _ _ _ (c.in_ok-load.ensures.clean.no_fault ∙ c.in_ok-start_disks.ensures.graph.no_fault) c.in_err-run_to_halt.ensures.graph_faults)
    (counts_from (is_scratch e) _ _ _ (c.in_ok-load.ensures.scratch.no_fault ∙ c.in_ok-start_disks.ensures.scratch.no_fault) c.in_err-run_to_halt.ensures.scratch_faults))

pub returns-in_err-finish-clause-end : goal.returns-in_err-finish-clause-end
returns-in_err-finish-clause-end g c =
    let end = err_from_is_err_and c.from_residual-in_err-finish.result c.from_residual-in_err-finish.ensures.1 in
    let x = c.in_err-finish.field-0.0 in
    let meant = g.P.Program.meaning in
    let job = c.load.new.self in
    let graph = g.GD.Disk.shown c.load.new.graph in
    let scratch = g.SD.Disk.shown c.load.new.scratch in
    let ran = c.run_to_halt.new.job in
    let ran_graph = g.GD.Disk.shown c.run_to_halt.new.graph in
    let ran_scratch = g.SD.Disk.shown c.run_to_halt.new.scratch in
    let same : room_of job.bank.frame_len ≡ room_of c.args.job.now.bank.frame_len = ap (λ (b : BankView). room_of b.frame_len) c.load.ensures.bank in
    let later : room_of ran.bank.frame_len ≡ room_of job.bank.frame_len = ap (λ (b : BankView). room_of b.frame_len) c.run_to_halt.ensures.bank in
    let here : ProgramMeaning → ℕ → State → Type 0 = λ q k. JobStands q k g.J.Join.probing g.St.Store.holds graph scratch job in
    let there : ProgramMeaning → ℕ → State → Type 0 = λ q k. JobStands q k g.J.Join.probing g.St.Store.holds ran_graph ran_scratch ran in
    rw (end.1, end.2) (ends_moved _ _ _ _ _ _ _ _ _ _ _ _ (meant ran.program) (room_of ran.bank.frame_len) _ _ (c.run_to_halt.ensures.program ∙ c.load.ensures.program) (later ∙ same ∙ ap room_of c.requires.frame_len)
    (ends_dump _ _ _ _ _ _ _ _ _ _ _ _ (there (meant ran.program) (room_of ran.bank.frame_len)) _
    (λ bytes left. subst (λ (n : ℕ). HasGoodLines (graph_of bytes (room_of n) (2 ^ 48))) c.requires.frame_len (c.in_ok-load.ensures.good_lines bytes left))
    c.in_ok-load.ensures.read
    (λ bytes left a b. (let told = c.in_ok-start_disks.ensures.scratch.tells ∙ b in
    let l = c.in_ok-load.ensures.loaded bytes left c.requires.no_probes told (c.in_ok-start_disks.ensures.graph.tells ∙ a) (no_messages c.args.setup.now.frame_bytes (length c.args.job.now.stores.items) (g.SD.Disk.shown c.args.scratch.now) (g.SD.Disk.shown c.start_disks.new.scratch) c.in_ok-start_disks.ensures.scratch b) in
    halts_of here there (meant job.program) (meant ran.program) (room_of job.bank.frame_len) (room_of ran.bank.frame_len) _ _ c.run_to_halt.ensures.program later c.in_ok-run_to_halt.ensures.halted
    (loaded_of here (meant job.program) (room_of c.args.job.now.bank.frame_len) (room_of job.bank.frame_len) (room_of c.args.setup.now.frame_bytes) (λ (n : ℕ). graph_of bytes n (2 ^ 48)) (sym same) (ap room_of c.requires.frame_len) l.vertices l.good l.stands)))
    x (λ b st h here has. c.in_err-finish.ensures.part st h here (c.in_ok-run_to_halt.ensures.scratch.touches.tells ∙ (c.in_ok-load.ensures.scratch.touches.tells ∙ (c.in_ok-start_disks.ensures.scratch.tells ∙ b))) has)))

pub returns-in_err-finish-clause-faults : goal.returns-in_err-finish-clause-faults
returns-in_err-finish-clause-faults g c =
    let end = err_from_is_err_and c.from_residual-in_err-finish.result c.from_residual-in_err-finish.ensures.1 in
    let x = c.in_err-finish.field-0.0 in
    let h = c.in_err-finish.ensures.err in
    rw (end.1, end.2) (faults_dump _ _ _ _ _ _ _ _ x c.in_ok-load.ensures.no_fault h.sink
    (counts_from (dumping.is_graph x) _ _ _ (c.in_ok-run_to_halt.ensures.clean.no_fault ∙ (c.in_ok-load.ensures.clean.no_fault ∙ c.in_ok-start_disks.ensures.graph.no_fault)) h.graph)
    (counts_from (dumping.is_scratch x) _ _ _ (c.in_ok-run_to_halt.ensures.scratch.no_fault ∙ (c.in_ok-load.ensures.scratch.no_fault ∙ c.in_ok-start_disks.ensures.scratch.no_fault)) h.scratch))

pub returns-clause-done : goal.returns-clause-done
returns-clause-done g c =
    let meant = g.P.Program.meaning in
    let job = c.load.new.self in
    let graph = g.GD.Disk.shown c.load.new.graph in
    let scratch = g.SD.Disk.shown c.load.new.scratch in
    let ran = c.run_to_halt.new.job in
    let ran_graph = g.GD.Disk.shown c.run_to_halt.new.graph in
    let ran_scratch = g.SD.Disk.shown c.run_to_halt.new.scratch in
    let same : room_of job.bank.frame_len ≡ room_of c.args.job.now.bank.frame_len = ap (λ (b : BankView). room_of b.frame_len) c.load.ensures.bank in
    let later : room_of ran.bank.frame_len ≡ room_of job.bank.frame_len = ap (λ (b : BankView). room_of b.frame_len) c.run_to_halt.ensures.bank in
    let here : ProgramMeaning → ℕ → State → Type 0 = λ q k. JobStands q k g.J.Join.probing g.St.Store.holds graph scratch job in
    let there : ProgramMeaning → ℕ → State → Type 0 = λ q k. JobStands q k g.J.Join.probing g.St.Store.holds ran_graph ran_scratch ran in
    ends_moved _ _ _ _ _ _ _ _ _ _ _ _ (meant ran.program) (room_of ran.bank.frame_len) _ _ (c.run_to_halt.ensures.program ∙ c.load.ensures.program) (later ∙ same ∙ ap room_of c.requires.frame_len)
    (ends_done _ _ _ _ _ _ _ _ _ _ _ _ (there (meant ran.program) (room_of ran.bank.frame_len)) _
    (λ bytes left. subst (λ (n : ℕ). HasGoodLines (graph_of bytes (room_of n) (2 ^ 48))) c.requires.frame_len (c.in_ok-load.ensures.good_lines bytes left))
    c.in_ok-load.ensures.read
    (λ bytes left a b. (let told = c.in_ok-start_disks.ensures.scratch.tells ∙ b in
    let l = c.in_ok-load.ensures.loaded bytes left c.requires.no_probes told (c.in_ok-start_disks.ensures.graph.tells ∙ a) (no_messages c.args.setup.now.frame_bytes (length c.args.job.now.stores.items) (g.SD.Disk.shown c.args.scratch.now) (g.SD.Disk.shown c.start_disks.new.scratch) c.in_ok-start_disks.ensures.scratch b) in
    halts_of here there (meant job.program) (meant ran.program) (room_of job.bank.frame_len) (room_of ran.bank.frame_len) _ _ c.run_to_halt.ensures.program later c.in_ok-run_to_halt.ensures.halted
    (loaded_of here (meant job.program) (room_of c.args.job.now.bank.frame_len) (room_of job.bank.frame_len) (room_of c.args.setup.now.frame_bytes) (λ (n : ℕ). graph_of bytes n (2 ^ 48)) (sym same) (ap room_of c.requires.frame_len) l.vertices l.good l.stands)))
    (λ b st h here has. c.in_ok-finish.ensures.written st h here (c.in_ok-run_to_halt.ensures.scratch.touches.tells ∙ (c.in_ok-load.ensures.scratch.touches.tells ∙ (c.in_ok-start_disks.ensures.scratch.tells ∙ b))) has))

pub returns-clause-no_fault : goal.returns-clause-no_fault
returns-clause-no_fault g c = record {
  source = c.in_ok-load.ensures.no_fault;
  sink = c.in_ok-finish.ensures.no_fault;
  graph = c.in_ok-finish.ensures.clean.no_fault ∙ (c.in_ok-run_to_halt.ensures.clean.no_fault ∙ (c.in_ok-load.ensures.clean.no_fault ∙ c.in_ok-start_disks.ensures.graph.no_fault));
  scratch = c.in_ok-finish.ensures.scratch.no_fault ∙ (c.in_ok-run_to_halt.ensures.scratch.no_fault ∙ (c.in_ok-load.ensures.scratch.no_fault ∙ c.in_ok-start_disks.ensures.scratch.no_fault));
}

pub returns-clause-noted : goal.returns-clause-noted
returns-clause-noted g c = λ bytes left a b.
    let meant = g.P.Program.meaning in
    let job = c.load.new.self in
    let graph = g.GD.Disk.shown c.load.new.graph in
    let scratch = g.SD.Disk.shown c.load.new.scratch in
    let same : room_of job.bank.frame_len ≡ room_of c.args.job.now.bank.frame_len = ap (λ (b : BankView). room_of b.frame_len) c.load.ensures.bank in
    let here : ProgramMeaning → ℕ → State → Type 0 = λ q k. JobStands q k g.J.Join.probing g.St.Store.holds graph scratch job in
    let told = c.in_ok-start_disks.ensures.scratch.tells ∙ b in
    let l = c.in_ok-load.ensures.loaded bytes left c.requires.no_probes told (c.in_ok-start_disks.ensures.graph.tells ∙ a) (no_messages c.args.setup.now.frame_bytes (length c.args.job.now.stores.items) (g.SD.Disk.shown c.args.scratch.now) (g.SD.Disk.shown c.start_disks.new.scratch) c.in_ok-start_disks.ensures.scratch b) in
    let loaded = loaded_of here (meant job.program) (room_of c.args.job.now.bank.frame_len) (room_of job.bank.frame_len) (room_of c.args.setup.now.frame_bytes) (λ (n : ℕ). graph_of bytes n (2 ^ 48)) (sym same) (ap room_of c.requires.frame_len) l.vertices l.good l.stands in
    lines_moved (meant c.args.job.now.program) (meant job.program) (room_of c.args.setup.now.frame_bytes) (room_of job.bank.frame_len) c.args.setup.now.max _ c.run_to_halt.new.stats c.load.ensures.program (same ∙ ap room_of c.requires.frame_len)
    (lines_of_text (meant job.program) (room_of job.bank.frame_len) c.args.setup.now.max _ c.run_to_halt.new.stats (here (meant job.program) (room_of job.bank.frame_len)) c.in_ok-run_to_halt.ensures.noted loaded)

-- why a run stopped is no end that is well
load_unfinished : (x : LoadStop) → end_of_load x ≡ Done → ⊥
load_unfinished loads.Source is = cc is
load_unfinished (loads.Bad line kind) is = cc is
load_unfinished (loads.Twice v) is = cc is
load_unfinished loads.Graph is = cc is
load_unfinished loads.Scratch is = cc is

dump_unfinished : (x : DumpStop) → end_of_dump x ≡ Done → ⊥
dump_unfinished dumps.Graph is = cc is
dump_unfinished dumps.Scratch is = cc is
dump_unfinished dumps.Sink is = cc is

pub returns-in_err-start_disks-clause-unfinished : goal.returns-in_err-start_disks-clause-unfinished
returns-in_err-start_disks-clause-unfinished g c =
    let end = err_from_is_err_and c.from_residual.result c.from_residual.ensures.1 in
    rw (end.1, end.2) (λ is. subst IsDiskEnd is c.in_err-start_disks.ensures.kind)

pub returns-in_err-load-clause-unfinished : goal.returns-in_err-load-clause-unfinished
returns-in_err-load-clause-unfinished g c =
    let end = err_from_is_err_and c.from_residual-in_err-load.result c.from_residual-in_err-load.ensures.1 in
    rw (end.1, end.2) (load_unfinished c.in_err-load.field-0.0)

pub returns-in_err-run_to_halt-clause-unfinished : goal.returns-in_err-run_to_halt-clause-unfinished
returns-in_err-run_to_halt-clause-unfinished g c =
    let end = err_from_is_err_and c.from_residual-in_err-run_to_halt.result c.from_residual-in_err-run_to_halt.ensures.1 in
    rw (end.1, end.2) (λ is. subst (IsRunEnd _ _) is c.in_err-run_to_halt.ensures.end)

pub returns-in_err-finish-clause-unfinished : goal.returns-in_err-finish-clause-unfinished
returns-in_err-finish-clause-unfinished g c =
    let end = err_from_is_err_and c.from_residual-in_err-finish.result c.from_residual-in_err-finish.ensures.1 in
    rw (end.1, end.2) (dump_unfinished c.in_err-finish.field-0.0)
