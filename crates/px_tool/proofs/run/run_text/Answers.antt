use Rattle.std.proofs.Common.{◌≡◌, ℕ, List, [], Option, refl, sym, ap, subst, ◌∙◌}
use Rattle.px_graph_text.specs.Generated.{generated}
use Rattle.px_meaning.specs.Step.{State}
use Rattle.px_tool.specs.Clauses.{HasStats}
use Rattle.px_tool.specs.Due.{states_of, text_read}
use Rattle.px_tool.proofs.Ended.{ended_generated, states_named, notes_named, reads_when}
use Rattle.px_tool.proofs.run.run_text.Goals as goal

pub returns-in-Some-clause-ended : goal.returns-in-Some-clause-ended
returns-in-Some-clause-ended g c = λ o is.
    ended_generated _ _ _ (g.R.Source.left c.args.source.now) (g.R.Source.left c.args.source.now []) (c.args.source.now ≡ c.args.source.now) g.W.Sink.holds (g.G.Disk.shown c.args.graph.now) (g.S.Disk.shown c.args.scratch.now) o c.args.job c.in-Some.n c.args.out.now c.run_job.new.out c.args.graph.now c.run_job.new.graph c.args.scratch.now c.run_job.new.scratch
    c.run_job.result is c.in-Some.is (sym c.new-made.ensures) refl c.run_job.ensures.ended

pub returns-in-Some-clause-stats : goal.returns-in-Some-clause-stats
returns-in-Some-clause-stats g c = λ o is done asked l e left tell held.
    let job = c.args.job in
    subst (λ (of : List State). HasStats of (g.E.Sink.holds c.run_job.new.errs) (g.E.Sink.faults c.args.errs.now) (g.E.Sink.faults c.run_job.new.errs) e)
    (sym (states_named o job is l ∙ ap (λ (n : Option ℕ). states_of job (text_read n job.seed l)) c.in-Some.is))
    (c.run_job.ensures.stats done (sym (notes_named o job is) ∙ asked) (generated job.seed c.in-Some.n) e (sym c.new-made.ensures) tell held)

pub returns-in-None-clause-stats : goal.returns-in-None-clause-stats
returns-in-None-clause-stats g c = λ o is done asked l e left tell held.
    let job = c.args.job in
    subst (λ (of : List State). HasStats of (g.E.Sink.holds c.run_job-in-None.new.errs) (g.E.Sink.faults c.args.errs.now) (g.E.Sink.faults c.run_job-in-None.new.errs) e)
    (sym (states_named o job is l ∙ ap (λ (n : Option ℕ). states_of job (text_read n job.seed l)) c.in-None.is))
    (c.run_job-in-None.ensures.stats done (sym (notes_named o job is) ∙ asked) l e (left (reads_when o job is c.in-None.is)) tell held)
