use Rattle.std.specs.Prelude.{decimal, codes, flat_map}
use Rattle.std.proofs.lemmas.Result.{err_from_is_err_and}
use Rattle.px_meaning.specs.OutputText.{edge_text}
use Rattle.px_program.proofs.Printing.{of_first, of_second, of_third, of_fourth, of_fifth}
use Rattle.px_program.proofs.print.print_vertex.Goals as goal

pub returns-in_err-print_decimal-clause-err : goal.returns-in_err-print_decimal-clause-err
returns-in_err-print_decimal-clause-err g c =
    let is = err_from_is_err_and c.from_residual.result c.from_residual.ensures.1 in
    let p = g.P.Program.meaning c.args.program.now in
    let x = c.args.v.now.vertex in
    rw (is.1, ← c.vid.ensures) (λ h holds. of_first (g.W.Sink.holds c.print_decimal.new.sink) h (decimal c.vid.result) (codes " ") (p.value_text x) (flat_map edge_text x.edges) (codes "\n")
    (c.in_err-print_decimal.ensures.err h holds))

pub returns-in_err-write_all-clause-err : goal.returns-in_err-write_all-clause-err
returns-in_err-write_all-clause-err g c =
    let is = err_from_is_err_and c.from_residual-in_err-write_all.result c.from_residual-in_err-write_all.ensures.1 in
    let p = g.P.Program.meaning c.args.program.now in
    let x = c.args.v.now.vertex in
    rw (is.1, ← c.vid.ensures) (λ h holds. of_second (g.W.Sink.holds c.write_all.new.sink) h (decimal c.vid.result) (codes " ") (p.value_text x) (flat_map edge_text x.edges) (codes "\n")
    (c.in_err-write_all.ensures.err _ (c.in_ok-print_decimal.ensures.ok h holds)))

pub returns-in_err-print_value-clause-err : goal.returns-in_err-print_value-clause-err
returns-in_err-print_value-clause-err g c =
    let is = err_from_is_err_and c.from_residual-in_err-print_value.result c.from_residual-in_err-print_value.ensures.1 in
    let p = g.P.Program.meaning c.args.program.now in
    let x = c.args.v.now.vertex in
    rw (is.1, ← c.vid.ensures) (λ h holds. of_third (g.W.Sink.holds c.print_value.new.sink) h (decimal c.vid.result) (codes " ") (p.value_text x) (flat_map edge_text x.edges) (codes "\n")
    (c.in_err-print_value.ensures.err _ (c.in_ok-write_all.ensures.ok _ (c.in_ok-print_decimal.ensures.ok h holds))))

pub returns-in_err-print_edges-clause-err : goal.returns-in_err-print_edges-clause-err
returns-in_err-print_edges-clause-err g c =
    let is = err_from_is_err_and c.from_residual-in_err-print_edges.result c.from_residual-in_err-print_edges.ensures.1 in
    let p = g.P.Program.meaning c.args.program.now in
    let x = c.args.v.now.vertex in
    rw (is.1, ← c.vid.ensures) (λ h holds. of_fourth (g.W.Sink.holds c.print_edges.new.sink) h (decimal c.vid.result) (codes " ") (p.value_text x) (flat_map edge_text x.edges) (codes "\n")
    (c.in_err-print_edges.ensures.err _ (c.in_ok-print_value.ensures.ok _ (c.in_ok-write_all.ensures.ok _ (c.in_ok-print_decimal.ensures.ok h holds)))))

pub returns-in_err-write_all-2-clause-err : goal.returns-in_err-write_all-2-clause-err
returns-in_err-write_all-2-clause-err g c =
    let is = err_from_is_err_and c.from_residual-in_err-write_all-2.result c.from_residual-in_err-write_all-2.ensures.1 in
    let p = g.P.Program.meaning c.args.program.now in
    let x = c.args.v.now.vertex in
    rw (is.1, ← c.vid.ensures) (λ h holds. of_fifth (g.W.Sink.holds c.write_all-2.new.sink) h (decimal c.vid.result) (codes " ") (p.value_text x) (flat_map edge_text x.edges) (codes "\n")
    (c.in_err-write_all-2.ensures.err _ (c.in_ok-print_edges.ensures.ok _ (c.in_ok-print_value.ensures.ok _ (c.in_ok-write_all.ensures.ok _ (c.in_ok-print_decimal.ensures.ok h holds))))))
