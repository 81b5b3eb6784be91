use Rattle.std.proofs.Common.{rules, ◌++◌, ℕ, List, subst}
use Rattle.std.proofs.lemmas.Result.{err_from_is_err_and}
use Rattle.px_meaning.specs.Graph.{Graph, IsMap}
use Rattle.px_load.specs.Dumping.{DumpStops, SomeOf}
use Rattle.px_load.specs.Printing.{written_text}
use Rattle.px_load.specs.Heads.{GiveParts}
use Rattle.px_load.proofs.DumpStopping.{ends_dump}
use Rattle.px_load.proofs.FramedSteps.{printed_part}
use Rattle.px_load.proofs.printing.print_framed.Goals as goal

pub returns-in_err-end-clause-part : goal.returns-in_err-end-clause-part
returns-in_err-end-clause-part g c =
    let end = err_from_is_err_and c.from_residual.result c.from_residual.ensures.1 in
    let give = GiveParts (g.SD.Disk.shown c.args.scratch.now) c.args.v.now.room c.args.readers.now in
    let text = written_text (g.P.Program.meaning c.args.program.now) c.args.gs.now in
    rw end.1 (subst (λ w. (k : Graph) (h : List ℕ) → IsMap k → give k → g.K.Lent.began h → SomeOf (text k) (λ t. g.W.Sink.holds w (h ++ t))) (search rules)
    (printed_part c.print-printed.result give text _ g.K.Lent.began (g.W.Sink.holds c.end.new.self.out.now)
    c.print-printed.ensures.printed c.print-printed.ensures.part c.in_err-end.ensures.part))

pub returns-in_err-end-clause-err : goal.returns-in_err-end-clause-err
returns-in_err-end-clause-err g c =
    let end = err_from_is_err_and c.from_residual.result c.from_residual.ensures.1 in
    let s = g.SD.Disk.shown c.args.scratch.now in
    let t = g.SD.Disk.shown c.print-printed.new.scratch in
    rw (end.1, end.2) (λ graph. subst (λ w. DumpStops (g.W.Sink.faults c.args.out.now) (g.W.Sink.faults w) graph graph s t c.in_err-end.field-0.0) (search rules)
    (ends_dump _ _ _ graph _ _ c.print-printed.result _ c.print-printed.ensures.err c.print-printed.ensures.no_fault c.print-printed.ensures.ok c.in_err-end.ensures.err))
