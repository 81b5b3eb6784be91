use Rattle.std.proofs.Common.{◌∙◌}
use Rattle.std.proofs.lemmas.Result.{err_from_is_err_and, on_err_weaker}
use Rattle.px_superstep.specs.Lines.{line_text}
use Rattle.px_superstep.proofs.Written.{part_of_first, part_of_second}
use Rattle.px_superstep.proofs.stats.Stats.write.Goals as goal

pub returns-in_err-write_lines-clause-err : goal.returns-in_err-write_lines-clause-err
returns-in_err-write_lines-clause-err g c =
    let is = err_from_is_err_and c.from_residual.result c.from_residual.ensures.1 in
    rw is.1 (λ h holds. part_of_first line_text _ _ c.args.self.now (c.as_slices.ensures ∙ c.self.view_is) (g.E.Sink.holds c.write_lines.new.errs) h
    (c.in_err-write_lines.ensures.err h holds))

pub returns-clause-err : goal.returns-clause-err
returns-clause-err g c = on_err_weaker c.write_lines-2.result
    (λ later h holds. part_of_second line_text _ _ c.args.self.now (c.as_slices.ensures ∙ c.self.view_is) (g.E.Sink.holds c.write_lines-2.new.errs) h
    (later _ (c.in_ok-write_lines.ensures.ok h holds))) c.write_lines-2.ensures.err
