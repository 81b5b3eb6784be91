use Rattle.std.proofs.Common.{◌≡◌, List, ℕ, ap, subst, sym, ◌∙◌, inl, inr}
use Rattle.px_superstep.specs.Lines.{Grew}
use Rattle.px_tool.specs.Clauses.{HasStats, IsStatus, RestsOnDisks, RestsOnText, line_owed}
use Rattle.px_tool.specs.Due.{due, states, words_of}
use Rattle.px_tool.specs.Endings.{line_of, status_of}
use Rattle.px_tool.proofs.Statuses.{is_status, is_usage, is_done, line_is, rises, stays, decided_of}
use Rattle.px_tool.proofs.run.px_run.Goals as goal

pub returns-clause-statuses : goal.returns-clause-statuses
returns-clause-statuses g c = subst IsStatus (sym c.status.ensures) (is_status c.run_words-ending.result)

pub returns-clause-status : goal.returns-clause-status
returns-clause-status g c = rw c.status.ensures (λ decided l said told. sym (ap status_of (c.run_words-ending.ensures.ended.owed decided l said told)))

pub returns-clause-usage : goal.returns-clause-usage
returns-clause-usage g c =
    λ is. c.run_words-ending.ensures.usage (is_usage c.run_words-ending.result (sym c.status.ensures ∙ is))

pub returns-clause-refused : goal.returns-clause-refused
returns-clause-refused g c = λ none.
    elim (c.run_words-ending.ensures.refused none) [
      | inl usage ↦ inl (c.status.ensures ∙ ap status_of usage)
      | inr memory ↦ inr (c.status.ensures ∙ ap status_of memory)
    ]

pub returns-clause-short : goal.returns-clause-short
returns-clause-short g c = rw c.status.ensures c.run_words-ending.ensures.ended.short

pub returns-clause-complete : goal.returns-clause-complete
returns-clause-complete g c = λ no_source no_sink no_graph no_scratch memory l left tell.
    let end = c.run_words-ending in
    let decided = decided_of end.result _ _ _ _ _ _ _ _ end.ensures.faults no_source no_sink no_graph no_scratch (λ is. memory (c.status.ensures ∙ is)) in
    c.status.ensures ∙ sym (ap status_of (end.ensures.ended.owed decided l (λ _. left) (λ _. tell)))

pub returns-clause-text : goal.returns-clause-text
returns-clause-text g c = rw c.status.ensures c.run_words-ending.ensures.ended.text

pub returns-clause-part : goal.returns-clause-part
returns-clause-part g c = rw c.status.ensures c.run_words-ending.ensures.ended.part

pub returns-clause-unwritten : goal.returns-clause-unwritten
returns-clause-unwritten g c = rw c.status.ensures c.run_words-ending.ensures.ended.unwritten

pub returns-clause-graph_failed : goal.returns-clause-graph_failed
returns-clause-graph_failed g c = rw c.status.ensures (rises (status_of c.run_words-ending.result) 6 _ _ c.run_words-ending.ensures.faults.graph)

pub returns-clause-graph_no_fault : goal.returns-clause-graph_no_fault
returns-clause-graph_no_fault g c = rw c.status.ensures (stays (status_of c.run_words-ending.result) 6 _ _ c.run_words-ending.ensures.faults.graph)

pub returns-clause-scratch_failed : goal.returns-clause-scratch_failed
returns-clause-scratch_failed g c = rw c.status.ensures (rises (status_of c.run_words-ending.result) 7 _ _ c.run_words-ending.ensures.faults.scratch)

pub returns-clause-scratch_no_fault : goal.returns-clause-scratch_no_fault
returns-clause-scratch_no_fault g c = rw c.status.ensures (stays (status_of c.run_words-ending.result) 7 _ _ c.run_words-ending.ensures.faults.scratch)

pub returns-clause-source_failed : goal.returns-clause-source_failed
returns-clause-source_failed g c = rw c.status.ensures (rises (status_of c.run_words-ending.result) 8 _ _ c.run_words-ending.ensures.faults.source)

pub returns-clause-source_no_fault : goal.returns-clause-source_no_fault
returns-clause-source_no_fault g c = rw c.status.ensures (stays (status_of c.run_words-ending.result) 8 _ _ c.run_words-ending.ensures.faults.source)

pub returns-clause-sink_failed : goal.returns-clause-sink_failed
returns-clause-sink_failed g c = rw c.status.ensures (rises (status_of c.run_words-ending.result) 9 _ _ c.run_words-ending.ensures.faults.sink)

pub returns-clause-sink_no_fault : goal.returns-clause-sink_no_fault
returns-clause-sink_no_fault g c = rw c.status.ensures (stays (status_of c.run_words-ending.result) 9 _ _ c.run_words-ending.ensures.faults.sink)

pub returns-clause-sink_owed : goal.returns-clause-sink_owed
returns-clause-sink_owed g c = rw c.status.ensures (λ is l left tell. ap status_of (c.run_words-ending.ensures.ended.sink is l left tell))

pub returns-clause-read : goal.returns-clause-read
returns-clause-read g c = rw c.status.ensures (λ after reads l left. c.run_words-ending.ensures.ended.read after l (λ r. left) reads)

pub returns-clause-unread : goal.returns-clause-unread
returns-clause-unread g c = c.run_words-ending.ensures.unread

pub returns-clause-unasked : goal.returns-clause-unasked
returns-clause-unasked g c = rw c.status.ensures c.run_words-ending.ensures.ended.source

pub returns-clause-unasked_graph : goal.returns-clause-unasked_graph
returns-clause-unasked_graph g c = rw c.status.ensures c.run_words-ending.ensures.ended.graph

pub returns-clause-unasked_scratch : goal.returns-clause-unasked_scratch
returns-clause-unasked_scratch g c = rw c.status.ensures c.run_words-ending.ensures.ended.scratch

pub returns-clause-quiet : goal.returns-clause-quiet
returns-clause-quiet g c = λ is none. c.report.ensures.quiet (is_done c.run_words-ending.result (sym c.status.ensures ∙ is)) ∙ c.run_words-ending.ensures.quiet none

pub returns-clause-stats : goal.returns-clause-stats
returns-clause-stats g c = λ is asked l e left tell held.
    let done = is_done c.run_words-ending.result (sym c.status.ensures ∙ is) in
    let of = states (words_of c.args.words.now) l in
    subst (λ x. HasStats of (g.E.Sink.holds x) (g.E.Sink.faults c.args.errs.now) (g.E.Sink.faults x) e) (sym (c.report.ensures.quiet done))
    (c.run_words-ending.ensures.stats done asked l e left tell held)

pub returns-clause-line : goal.returns-clause-line
returns-clause-line g c = λ not l e said told held.
    let end = c.run_words-ending in
    let of_end = due (words_of c.args.words.now) l in
    let line : line_owed c.status.result of_end ≡ line_of end.result =
    ap (λ n. line_owed n of_end) c.status.ensures
    ∙ line_is end.result of_end (λ decided. end.ensures.ended.owed decided l (λ rests. said (subst RestsOnText (sym c.status.ensures) rests)) (λ rests. told (subst RestsOnDisks (sym c.status.ensures) rests))) in
    let grew = subst (λ x. (h : List ℕ) → g.E.Sink.holds x h → Grew (g.E.Sink.holds c.report.new.errs) (g.E.Sink.faults x) (g.E.Sink.faults c.report.new.errs) h (line_of end.result)) (end.ensures.quiet_end (λ done. not (c.status.ensures ∙ ap status_of done))) (c.report.ensures.line (λ is. not (c.status.ensures ∙ ap status_of is))) in
    rw line (grew e held)
