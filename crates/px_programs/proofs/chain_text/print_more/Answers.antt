use Rattle.std.proofs.Common.{rules, ℕ, List, ◌≤◌, ◌/◌, ◌++◌, length, subst, arith}
use Rattle.std.specs.Prelude.{flat_map}
use Rattle.std.proofs.lemmas.List.{take_all}
use Rattle.std.proofs.lemmas.Result.{err_from_is_err_and}
use Rattle.px_program.proofs.Printing.{texts_more, texts_part}
use Rattle.px_programs.specs.Chains.{plus_text, vids_in}
use Rattle.px_programs.proofs.ChainTexts.{length-vids_in}
use Rattle.px_programs.proofs.chain_text.print_more.Goals as goal

pub loop-i-preserved : goal.loop-i-preserved
loop-i-preserved g c = record {
  written = λ h holds. subst (g.W.Sink.holds c.print_next.new.sink) (texts_more plus_text _ _ _ c.vid_at.ensures h) (c.in_ok-print_next.ensures.ok _ (c.loop-i.invariant.written h holds));
  no_fault = search rules;
}

pub returns-in_err-print_next-clause-err : goal.returns-in_err-print_next-clause-err
returns-in_err-print_next-clause-err g c =
    let is = err_from_is_err_and c.from_residual.result c.from_residual.ensures.1 in
    rw is.1 (λ h holds. texts_part plus_text _ _ _ c.vid_at.ensures (g.W.Sink.holds c.print_next.new.sink) h (c.in_err-print_next.ensures.err _ (c.loop-i.invariant.written h holds)))

pub returns-clause-ok : goal.returns-clause-ok
returns-clause-ok g c = λ h holds.
    let n = length c.args.vids.now / 8 in
    let all = vids_in n c.args.vids.now in
    let end : length all ≤ c.loop-i.i = omega (arith, length-vids_in n c.args.vids.now, c.loop-i-test.false) in
    subst (λ (l : List ℕ). g.W.Sink.holds c.loop-i.sink (h ++ flat_map plus_text l)) (take_all c.loop-i.i all end) (c.loop-i.invariant.written h holds)
