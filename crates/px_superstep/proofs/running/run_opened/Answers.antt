use Rattle.px_superstep.proofs.running.run_opened.Goals as goal

pub returns-in-Err-clause-noted : goal.returns-in-Err-clause-noted
returns-in-Err-clause-noted g c = λ done. absurd (c.in-Err.ensures.unfinished done)
