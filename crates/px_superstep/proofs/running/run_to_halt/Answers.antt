use Rattle.std.proofs.Common.{◌≡◌, ℕ, ◌-◌, ◌+◌, ◌<◌, sym, ◌∙◌, ap, refl, arith}
use Rattle.std.proofs.lemmas.Result.{err_from_is_err_and}
use Rattle.px_cache.specs.View.{AnyFile}
use Rattle.px_core.proofs.Steps.{clean_refl, clean_then}
use Rattle.px_frames.specs.Banks.{BankView}
use Rattle.px_meaning.specs.Graph.{room_of}
use Rattle.px_meaning.specs.Meaning.{run}
use Rattle.px_meaning.specs.Program.{ProgramMeaning}
use Rattle.px_meaning.proofs.Running.{run_halted}
use Rattle.px_superstep.specs.Ends.{is_graph, is_scratch}
use Rattle.px_superstep.specs.Files.{IsStepFile}
use Rattle.px_superstep.specs.Jobs.{JobStands}
use Rattle.px_superstep.specs.Lines.{asked_of, line_between}
use Rattle.px_superstep.proofs.Reaching.{HasNoted, gs_is, noted_first, noted_last, noted_next}
use Rattle.px_superstep.proofs.Runs.{run_stopped, counts_from, beyond_here, more_here, limit_here}
use Rattle.px_superstep.proofs.running.run_to_halt.Goals as goal

pub loop-init : goal.loop-init
loop-init g c =
    let none : c.args.most ≡ c.args.most - 0 = omega arith in
    record {
      runs = λ s stands. record { state = s; same = ap (λ (k : ℕ). run (g.P.Program.meaning c.args.job.now.program) (room_of c.args.job.now.bank.frame_len) k s) none; superstep_is = omega arith; stands = (stands, noted_first (g.P.Program.meaning c.args.job.now.program) (room_of c.args.job.now.bank.frame_len) c.args.most s c.args.stats.now c.requires.fresh) };
      job = c.requires.job;
      number = c.requires.first;
      bank = refl;
      program = refl;
      clean = clean_refl AnyFile _;
      scratch = clean_refl IsStepFile _;
    }

pub returns-then-is_still-clause-halted : goal.returns-then-is_still-clause-halted
returns-then-is_still-clause-halted g c = λ s stands.
    let was = c.args.job.now in
    let p = g.P.Program.meaning was.program in
    let room = room_of was.bank.frame_len in
    let graph = g.GD.Disk.shown c.loop.graph in
    let scratch = g.SD.Disk.shown c.loop.scratch in
    let has = c.loop.invariant.runs s stands in
    let end = run_halted p room c.args.most c.loop.counter s (λ st. JobStands p room g.J.Join.probing g.St.Store.holds graph scratch c.loop.job st × HasNoted p room c.args.most c.loop.counter s c.loop.stats st) has
    (sym (c.is_still.ensures p room g.J.Join.probing graph scratch has.state has.stands.0) ∙ c.if-is_still.true) in
    record { state = end.state; halted = end.halted; stands = end.stands.0 }

pub returns-then-is_still-clause-noted : goal.returns-then-is_still-clause-noted
returns-then-is_still-clause-noted g c = λ s stands.
    let was = c.args.job.now in
    let p = g.P.Program.meaning was.program in
    let room = room_of was.bank.frame_len in
    let graph = g.GD.Disk.shown c.loop.graph in
    let scratch = g.SD.Disk.shown c.loop.scratch in
    let has = c.loop.invariant.runs s stands in
    noted_last p room c.args.most c.loop.counter s c.loop.stats has.state has.stands.1
    (sym (c.is_still.ensures p room g.J.Join.probing graph scratch has.state has.stands.0) ∙ c.if-is_still.true)

pub returns-then-is_still-2-clause-halted : goal.returns-then-is_still-2-clause-halted
returns-then-is_still-2-clause-halted g c = λ s stands.
    let was = c.args.job.now in
    let p = g.P.Program.meaning was.program in
    let room = room_of was.bank.frame_len in
    let graph = g.GD.Disk.shown c.loop.graph in
    let scratch = g.SD.Disk.shown c.loop.scratch in
    let has = c.loop.invariant.runs s stands in
    let end = run_halted p room c.args.most c.loop.counter s (λ st. JobStands p room g.J.Join.probing g.St.Store.holds graph scratch c.loop.job st × HasNoted p room c.args.most c.loop.counter s c.loop.stats st) has
    (sym (c.is_still-2.ensures p room g.J.Join.probing graph scratch has.state has.stands.0) ∙ c.if-is_still-2.true) in
    record { state = end.state; halted = end.halted; stands = end.stands.0 }

pub returns-then-is_still-2-clause-noted : goal.returns-then-is_still-2-clause-noted
returns-then-is_still-2-clause-noted g c = λ s stands.
    let was = c.args.job.now in
    let p = g.P.Program.meaning was.program in
    let room = room_of was.bank.frame_len in
    let graph = g.GD.Disk.shown c.loop.graph in
    let scratch = g.SD.Disk.shown c.loop.scratch in
    let has = c.loop.invariant.runs s stands in
    noted_last p room c.args.most c.loop.counter s c.loop.stats has.state has.stands.1
    (sym (c.is_still-2.ensures p room g.J.Join.probing graph scratch has.state has.stands.0) ∙ c.if-is_still-2.true)

pub returns-else-is_still-2-clause-end : goal.returns-else-is_still-2-clause-end
returns-else-is_still-2-clause-end g c = λ s stands.
    let was = c.args.job.now in
    let p = g.P.Program.meaning was.program in
    let room = room_of was.bank.frame_len in
    let graph = g.GD.Disk.shown c.loop.graph in
    let scratch = g.SD.Disk.shown c.loop.scratch in
    let has = c.loop.invariant.runs s stands in
    let over : c.loop.counter ≡ c.args.most = omega (arith, c.loop-test.false, c.loop.auto.counter-end) in
    limit_here p room c.args.most c.loop.counter s (λ st. JobStands p room g.J.Join.probing g.St.Store.holds graph scratch c.loop.job st × HasNoted p room c.args.most c.loop.counter s c.loop.stats st) has over
    (sym (c.is_still-2.ensures p room g.J.Join.probing graph scratch has.state has.stands.0) ∙ c.if-is_still-2.false) (sym stands.numbers.superstep ∙ c.requires.first)

pub returns-in_err-advance-clause-end : goal.returns-in_err-advance-clause-end
returns-in_err-advance-clause-end g c =
    let end = err_from_is_err_and c.from_residual.result c.from_residual.ensures.1 in
    let was = c.args.job.now in
    let p = g.P.Program.meaning was.program in
    let room = room_of was.bank.frame_len in
    let graph = g.GD.Disk.shown c.loop.graph in
    let scratch = g.SD.Disk.shown c.loop.scratch in
    let low : c.loop.counter < c.args.most = omega arith in
    rw (end.1, end.2) (run_stopped _ _ _ c.in_err-advance.field-0.0 (λ n none s stands.
    (let has = c.loop.invariant.runs s stands in
    beyond_here p (g.P.Program.meaning c.loop.job.program) room (room_of c.loop.job.bank.frame_len) c.args.most c.loop.counter s
    (λ (x : ProgramMeaning) (y : ℕ) st. JobStands x y g.J.Join.probing g.St.Store.holds graph scratch c.loop.job st × HasNoted x y c.args.most c.loop.counter s c.loop.stats st)
    c.loop.invariant.program (ap (λ (b : BankView). room_of b.frame_len) c.loop.invariant.bank) has low
    (sym (c.is_still.ensures p room g.J.Join.probing graph scratch has.state has.stands.0) ∙ c.if-is_still.false)
    n (λ st here. none st here.0))) c.in_err-advance.ensures.end)

pub returns-in_err-advance-clause-graph_faults : goal.returns-in_err-advance-clause-graph_faults
returns-in_err-advance-clause-graph_faults g c =
    let end = err_from_is_err_and c.from_residual.result c.from_residual.ensures.1 in
    let of = g.GD.Disk.shown in
    rw (end.1, end.2) (counts_from (is_graph c.in_err-advance.field-0.0) (of c.args.graph.now).faults (of c.loop.graph).faults (of c.advance.new.graph).faults c.loop.invariant.clean.no_fault c.in_err-advance.ensures.graph_faults)

pub returns-in_err-advance-clause-scratch_faults : goal.returns-in_err-advance-clause-scratch_faults
returns-in_err-advance-clause-scratch_faults g c =
    let end = err_from_is_err_and c.from_residual.result c.from_residual.ensures.1 in
    let of = g.SD.Disk.shown in
    rw (end.1, end.2) (counts_from (is_scratch c.in_err-advance.field-0.0) (of c.args.scratch.now).faults (of c.loop.scratch).faults (of c.advance.new.scratch).faults c.loop.invariant.scratch.no_fault c.in_err-advance.ensures.scratch_faults)

pub loop-preserved : goal.loop-preserved
loop-preserved g c =
    let was = c.args.job.now in
    let p = g.P.Program.meaning was.program in
    let room = room_of was.bank.frame_len in
    let graph = g.GD.Disk.shown c.loop.graph in
    let scratch = g.SD.Disk.shown c.loop.scratch in
    let next = c.advance.new.job in
    let graph_now = g.GD.Disk.shown c.advance.new.graph in
    let scratch_now = g.SD.Disk.shown c.advance.new.scratch in
    let low : c.loop.counter < c.args.most = omega arith in
    record {
      runs = λ s stands.
          let has = c.loop.invariant.runs s stands in
          more_here p (g.P.Program.meaning c.loop.job.program) room (room_of c.loop.job.bank.frame_len) c.args.most c.loop.counter s
          (λ (x : ProgramMeaning) (y : ℕ) st. JobStands x y g.J.Join.probing g.St.Store.holds graph scratch c.loop.job st × HasNoted x y c.args.most c.loop.counter s c.loop.stats st)
          c.loop.invariant.program (ap (λ (b : BankView). room_of b.frame_len) c.loop.invariant.bank) has low
          (sym (c.is_still.ensures p room g.J.Join.probing graph scratch has.state has.stands.0) ∙ c.if-is_still.false)
          (λ (x : ProgramMeaning) (y : ℕ) st. JobStands x y g.J.Join.probing g.St.Store.holds graph_now scratch_now next st × HasNoted x y c.args.most (c.loop.counter + 1) s c.advance.new.stats st) c.loop.job.gs.superstep next.gs.superstep c.in_ok-advance.ensures.number
          (λ st here. here.0.numbers.superstep) (λ st here. here.0.numbers.superstep)
          (λ st here. (let n = c.in_ok-advance.ensures.stands st here.0 in
          let q = g.P.Program.meaning c.loop.job.program in
          let k = room_of c.loop.job.bank.frame_len in
          let awake = sym (c.is_still.ensures q k g.J.Join.probing graph scratch st here.0) ∙ c.if-is_still.false in (
            n.next,
            n.is,
            (
              n.stands,
              noted_next q k c.args.most c.loop.counter s c.loop.stats st here.1 low awake n.next n.is
                  (line_between next.gs (asked_of graph scratch) (asked_of graph_now scratch_now)) c.advance.new.stats c.in_ok-advance.ensures.noted (gs_is next.gs n.next n.stands.numbers),
            ),
          )));
      job = c.in_ok-advance.ensures.job;
      number = omega (arith, c.in_ok-advance.ensures.number, c.loop.invariant.number);
      bank = c.advance.ensures.bank ∙ c.loop.invariant.bank;
      program = c.advance.ensures.program ∙ c.loop.invariant.program;
      clean = clean_then AnyFile (g.GD.Disk.shown c.args.graph.now) graph graph_now c.loop.invariant.clean c.in_ok-advance.ensures.clean;
      scratch = clean_then IsStepFile (g.SD.Disk.shown c.args.scratch.now) scratch scratch_now c.loop.invariant.scratch c.in_ok-advance.ensures.scratch;
    }
