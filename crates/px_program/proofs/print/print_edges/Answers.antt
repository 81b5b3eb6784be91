use Rattle.std.proofs.Common.{rules, subst}
use Rattle.std.proofs.lemmas.Result.{err_from_is_err_and}
use Rattle.px_meaning.specs.OutputText.{edge_text}
use Rattle.px_program.proofs.Printing.{texts_more, texts_part}
use Rattle.px_program.proofs.print.print_edges.Goals as goal

pub loop-i-preserved : goal.loop-i-preserved
loop-i-preserved g c = record {
  written = λ h holds. subst (g.W.Sink.holds c.print_edge.new.sink) (texts_more edge_text _ _ _ c.edge-dst.ensures h) (c.in_ok-print_edge.ensures.ok _ (c.loop-i.invariant.written h holds));
  no_fault = search rules;
}

pub returns-in_err-print_edge-clause-err : goal.returns-in_err-print_edge-clause-err
returns-in_err-print_edge-clause-err g c =
    let is = err_from_is_err_and c.from_residual.result c.from_residual.ensures.1 in
    rw is.1 (λ h holds. texts_part edge_text _ _ _ c.edge-dst.ensures (g.W.Sink.holds c.print_edge.new.sink) h (c.in_err-print_edge.ensures.err _ (c.loop-i.invariant.written h holds)))
