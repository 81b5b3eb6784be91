use Rattle.std.proofs.Common.{rules, ◌∙◌, subst}
use Rattle.std.proofs.lemmas.Result.{err_from_is_err_and}
use Rattle.px_superstep.specs.Lines.{line_text}
use Rattle.px_superstep.proofs.Written.{text_more, text_part}
use Rattle.px_superstep.proofs.line.write_lines.Goals as goal

pub returns-in_err-write_all-clause-err : goal.returns-in_err-write_all-clause-err
returns-in_err-write_all-clause-err g c =
    let is = err_from_is_err_and c.from_residual.result c.from_residual.ensures.1 in
    let text = c.as_bytes.ensures.value ∙ c.as_str.ensures.value ∙ c.text.ensures in
    rw is.1 (λ h holds. text_part line_text (g.E.Sink.holds c.write_all.new.sink) h c.args.lines.now c.loop-line.line-index _ c.as_bytes.result.now c.loop-line-test.true text
    (c.in_err-write_all.ensures.err _ (c.loop-line.invariant.written h holds)))

pub loop-line-preserved : goal.loop-line-preserved
loop-line-preserved g c =
    let text = c.as_bytes.ensures.value ∙ c.as_str.ensures.value ∙ c.text.ensures in
    record {
      written = λ h holds. subst (g.E.Sink.holds c.write_all.new.sink) (text_more line_text h c.args.lines.now c.loop-line.line-index _ c.as_bytes.result.now c.loop-line-test.true text)
          (c.in_ok-write_all.ensures.ok _ (c.loop-line.invariant.written h holds));
      no_fault = search rules;
    }
