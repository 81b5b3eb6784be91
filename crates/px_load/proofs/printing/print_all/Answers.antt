use Rattle.std.proofs.Common.{◌++◌, ℕ, refl, subst, append_assoc}
use Rattle.std.specs.Prelude.{flat_map}
use Rattle.std.proofs.lemmas.Result.{err_from_is_err_and}
use Rattle.px_cache.specs.View.{AnyFile}
use Rattle.px_core.specs.Shown.{NoFile}
use Rattle.px_core.proofs.Steps.{clean_refl, clean_more, clean_then}
use Rattle.px_meaning.specs.Graph.{Graph}
use Rattle.px_meaning.specs.OutputText.{vertex_line}
use Rattle.px_load.specs.Dumping.{IsDumpFile}
use Rattle.px_load.proofs.DumpStopping.{dump_after, dump_scratch, dump_sink}
use Rattle.px_load.proofs.PrintingSteps.{part_none, part_front, part_behind, part_of}
use Rattle.px_load.proofs.printing.print_all.Goals as goal

no_file : (f : ℕ) → NoFile f → IsDumpFile f
no_file f none = absurd none

pub returns-clause-printed : goal.returns-clause-printed
returns-clause-printed g c = λ k h map give held.
    let lines = flat_map (vertex_line (g.P.Program.meaning c.args.program.now)) k in
    let merged = c.in_ok-print_merged.ensures.printed k h map (c.in_ok-look_all.ensures.looked c.args.v.now.room k give) held in
    subst (g.W.Sink.holds c.print_summary.new.sink) (append_assoc h lines _) (c.in_ok-print_summary.ensures.ok (h ++ lines) merged)

pub returns-in_err-look_all-clause-part : goal.returns-in_err-look_all-clause-part
returns-in_err-look_all-clause-part g c =
    let end = err_from_is_err_and c.from_residual.result c.from_residual.ensures.1 in
    rw end.1 (λ k h map give held. part_none (g.W.Sink.holds c.args.out.now) h _ held)

pub returns-in_err-print_merged-clause-part : goal.returns-in_err-print_merged-clause-part
returns-in_err-print_merged-clause-part g c =
    let end = err_from_is_err_and c.from_residual-in_err-print_merged.result c.from_residual-in_err-print_merged.ensures.1 in
    rw end.1 (λ k h map give held. part_front (g.W.Sink.holds c.print_merged.new.out) h _ _ (c.in_err-print_merged.ensures.part k h map (c.in_ok-look_all.ensures.looked c.args.v.now.room k give) held))

pub returns-in_err-print_summary-clause-part : goal.returns-in_err-print_summary-clause-part
returns-in_err-print_summary-clause-part g c =
    let end = err_from_is_err_and c.from_residual-in_err-print_summary.result c.from_residual-in_err-print_summary.ensures.1 in
    let lines = λ (k : Graph). flat_map (vertex_line (g.P.Program.meaning c.args.program.now)) k in
    rw end.1 (λ k h map give held.
    let merged = c.in_ok-print_merged.ensures.printed k h map (c.in_ok-look_all.ensures.looked c.args.v.now.room k give) held in
    part_behind (g.W.Sink.holds c.print_summary.new.sink) h (lines k) _ (part_of (g.W.Sink.holds c.print_summary.new.sink) (h ++ lines k) _ (c.in_err-print_summary.ensures.err (h ++ lines k) merged)))

pub returns-in_err-look_all-clause-err : goal.returns-in_err-look_all-clause-err
returns-in_err-look_all-clause-err g c =
    let end = err_from_is_err_and c.from_residual.result c.from_residual.ensures.1 in
    rw (end.1, end.2) (λ graph. dump_scratch IsDumpFile _ graph _ _ c.in_err-look_all.field-0.0 (λ f is. is) c.in_err-look_all.ensures.err)

pub returns-in_err-print_merged-clause-err : goal.returns-in_err-print_merged-clause-err
returns-in_err-print_merged-clause-err g c =
    let end = err_from_is_err_and c.from_residual-in_err-print_merged.result c.from_residual-in_err-print_merged.ensures.1 in
    rw (end.1, end.2) (λ graph. dump_after _ _ _ graph graph graph _ _ _ _ refl (clean_refl AnyFile graph) (clean_more NoFile IsDumpFile _ _ no_file c.in_ok-look_all.ensures.ok) (c.in_err-print_merged.ensures.err graph))

pub returns-in_err-print_summary-clause-err : goal.returns-in_err-print_summary-clause-err
returns-in_err-print_summary-clause-err g c =
    let end = err_from_is_err_and c.from_residual-in_err-print_summary.result c.from_residual-in_err-print_summary.ensures.1 in
    rw (end.1, end.2) (λ graph. dump_after _ _ _ graph graph graph _ _ _ _ c.in_ok-print_merged.ensures.no_fault (clean_refl AnyFile graph)
    (clean_more NoFile IsDumpFile _ _ no_file (clean_then NoFile _ _ _ c.in_ok-look_all.ensures.ok c.in_ok-print_merged.ensures.ok)) (dump_sink _ _ graph _ c.in_err-print_summary.ensures.cause))
