use Rattle.std.proofs.Common.{sym, subst}
use Rattle.std.proofs.lemmas.List.{append-nil}
use Rattle.std.proofs.lemmas.Result.{err_from_is_err_and}
use Rattle.px_meaning.specs.OutputText.{vertex_line}
use Rattle.px_load.proofs.HeadsSteps.{none_left}
use Rattle.px_load.proofs.PrintingSteps.{ended_early, taken_printed, taken_part}
use Rattle.px_load.proofs.printing.print_next.Goals as goal

pub returns-in_default-clause-printed : goal.returns-in_default-clause-printed
returns-in_default-clause-printed g c = λ k map looked.
    (none_left _ _ c.args.readers.now k c.requires.some c.in_default.ensures.none looked, λ h held. subst (g.W.Sink.holds c.args.out.now) (sym (append-nil h)) held)

pub returns-then-not-branch-clause-printed : goal.returns-then-not-branch-clause-printed
returns-then-not-branch-clause-printed g c = λ k map looked. ended_early _ _ c.in-Some.q c.in-Some.field-0-1 c.args.readers.now k _ looked c.in-Some.ensures.at (c.in_ok-take_at.ensures.over c.if-not-branch.true k looked)

pub returns-in_err-print_vertex-clause-part : goal.returns-in_err-print_vertex-clause-part
returns-in_err-print_vertex-clause-part g c =
    let end = err_from_is_err_and c.from_residual-in_err-print_vertex.result c.from_residual-in_err-print_vertex.ensures.1 in
    let line = vertex_line (g.P.Program.meaning c.args.program.now) in
    rw end.1 (λ k h map looked held.
    taken_part _ _ c.args.v.now.room c.in-Some.q c.in-Some.field-0-1 c.take_at.new.v.vid c.take_at.new.v.vertex c.args.readers.now c.take_at.new.readers line (g.W.Sink.holds c.print_vertex.new.sink) k h c.requires.some map looked c.in-Some.ensures.at c.in-Some.ensures.least
    (c.in_ok-take_at.ensures.took c.if-not-branch.false) (c.in_err-print_vertex.ensures.err h held))

pub returns-clause-printed : goal.returns-clause-printed
returns-clause-printed g c = λ k map looked.
    let line = vertex_line (g.P.Program.meaning c.args.program.now) in
    taken_printed _ _ c.args.v.now.room c.in-Some.q c.in-Some.field-0-1 c.take_at.new.v.vid c.take_at.new.v.vertex c.args.readers.now c.take_at.new.readers line (g.W.Sink.holds c.args.out.now) (g.W.Sink.holds c.print_vertex.new.sink) k c.requires.some map looked c.in-Some.ensures.at c.in-Some.ensures.least
    (c.in_ok-take_at.ensures.took c.if-not-branch.false) (λ h held. c.in_ok-print_vertex.ensures.ok h held)
