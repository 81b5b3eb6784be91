use Rattle.std.proofs.Common.{◌≡◌, ap, subst, ◌∙◌}
use Rattle.px_meaning.specs.Graph.{room_of}
use Rattle.px_meaning.specs.GraphText.{graph_of}
use Rattle.px_meaning.specs.Program.{ProgramMeaning}
use Rattle.px_superstep.specs.Reached.{reached_of_text}
use Rattle.px_superstep.specs.declared.plan.Setup.{Setup}
use Rattle.px_tool.specs.Clauses.{DisksTell, HasStats}
use Rattle.px_tool.specs.Due.{meant_by, most_bytes}
use Rattle.px_tool.specs.declared.ending.Ending.TheVariants.{Ran}
use Rattle.px_tool.proofs.Ended.{ended, faults_are, done_of}
use Rattle.px_tool.proofs.work.run_program.Goals as goal

pub returns-clause-ended : goal.returns-clause-ended
returns-clause-ended g c =
    let d = c.dispatch-end.ensures in
    ended g.R.Source.left g.W.Sink.holds (g.G.Disk.shown c.args.graph.now) (g.S.Disk.shown c.args.scratch.now) c.args.job c.args.source.now c.dispatch-end.new.source c.args.out.now c.dispatch-end.new.out c.args.graph.now c.dispatch-end.new.graph c.args.scratch.now c.dispatch-end.new.scratch
    c.dispatch-end.result (g.P.Program.meaning c.args.program) c.setup_of-setup.result c.requires.program c.setup_of-setup.ensures
    (record { short = d.short; enough = d.enough; unread = d.unread; unread_graph = d.unread_graph; unread_scratch = d.unread_scratch; decided = d.decided; line = d.line; text = d.text; part = d.part; unwritten = d.unwritten; read = d.read })

pub returns-clause-faults : goal.returns-clause-faults
returns-clause-faults g c = faults_are _ _ _ _ _ _ _ _ c.dispatch-end.result c.dispatch-end.ensures.faults

pub returns-clause-quiet : goal.returns-clause-quiet
returns-clause-quiet g c = λ none. c.dispatch-end.ensures.quiet (ap (λ (s : Setup). s.stats) c.setup_of-setup.ensures ∙ none)

pub returns-clause-quiet_end : goal.returns-clause-quiet_end
returns-clause-quiet_end g c = λ not. c.dispatch-end.ensures.quiet_end (λ done. not (ap Ran done))

pub returns-clause-stats : goal.returns-clause-stats
returns-clause-stats g c = λ is asked l e left (tell : DisksTell (g.G.Disk.shown c.args.graph.now) (g.S.Disk.shown c.args.scratch.now)) held.
    let s = c.setup_of-setup.ensures in
    subst (λ (p : ProgramMeaning). HasStats (reached_of_text p (room_of c.args.job.frame_bytes) c.args.job.most (meant_by c.args.job l)) (g.E.Sink.holds c.dispatch-end.new.errs) (g.E.Sink.faults c.args.errs.now) (g.E.Sink.faults c.dispatch-end.new.errs) e) c.requires.program
    (subst (λ (s : Setup). HasStats (reached_of_text (g.P.Program.meaning c.args.program) (room_of s.frame_bytes) s.max (graph_of l (room_of s.frame_bytes) most_bytes)) (g.E.Sink.holds c.dispatch-end.new.errs) (g.E.Sink.faults c.args.errs.now) (g.E.Sink.faults c.dispatch-end.new.errs) e) s
    (c.dispatch-end.ensures.stats (done_of is) (ap (λ (s : Setup). s.stats) s ∙ asked) l e left tell.graph_tells tell.scratch_tells held))
