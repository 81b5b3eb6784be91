use Rattle.std.proofs.Common.{rules, ◌++◌, ℕ, List, Bool, true, sym, subst}
use Rattle.std.proofs.lemmas.List.{append-nil}
use Rattle.std.proofs.lemmas.Result.{err_from_is_err_and}
use Rattle.px_cache.specs.View.{AnyFile}
use Rattle.px_core.specs.Shown.{NoFile}
use Rattle.px_core.proofs.Steps.{clean_refl, clean_more}
use Rattle.px_meaning.specs.OutputText.{vertex_line}
use Rattle.px_load.specs.Dumping.{IsDumpFile}
use Rattle.px_load.specs.Heads.{AreLooked}
use Rattle.px_load.specs.Printing.{NextPrinted}
use Rattle.px_load.proofs.DumpStopping.{dump_after}
use Rattle.px_load.proofs.PrintingSteps.{prints_first, prints_next, prints_end, prints_part, more_none, more_then}
use Rattle.px_load.proofs.printing.print_merged.Goals as goal

no_file : (f : ℕ) → NoFile f → IsDumpFile f
no_file f none = absurd none

pub loop-init : goal.loop-init
loop-init g c = record {
  prints = λ k map looked. prints_first (vertex_line (g.P.Program.meaning c.args.program.now)) k _ _ map looked (λ h held. subst (g.W.Sink.holds c.args.out.now) (sym (append-nil h)) held);
  more = λ h held. more_none (g.W.Sink.holds c.args.out.now) h held;
  clean = search rules;
  no_fault = search rules;
  are = search rules;
  count = search rules;
  body = search rules;
  vertex = search rules;
}

pub loop-preserved : goal.loop-preserved
loop-preserved g c =
    let i = c.loop.invariant in
    let was = c.loop in
    let line = vertex_line (g.P.Program.meaning c.args.program.now) in
    let s = g.SD.Disk.shown was.scratch in
    let t = g.SD.Disk.shown c.print_next.new.scratch in
    let ps = c.print_next.new.readers in
    let Prints : List ℕ → Type 0 = λ text. (h : List ℕ) → g.W.Sink.holds was.out h → g.W.Sink.holds c.print_next.new.out (h ++ text) in
    record {
      prints = λ k map looked. prints_next line k _ _ (g.W.Sink.holds c.args.out.now) (g.W.Sink.holds was.out) (g.W.Sink.holds c.print_next.new.out) (λ m is ready.
          subst (λ (n : ℕ). NextPrinted line true m (AreLooked t n ps) Prints) i.vertex.room
          (subst (λ (b : Bool). NextPrinted line b m (AreLooked t was.v.room ps) Prints) c.if-branch.true (c.in_ok-print_next.ensures.printed m is (subst (λ (n : ℕ). AreLooked s n was.readers m) (sym i.vertex.room) ready)))) (i.prints k map looked);
      more = λ h held. more_then _ (g.W.Sink.holds c.print_next.new.out) h (i.more h held) c.print_next.ensures.more;
      clean = search rules;
      no_fault = search rules;
      are = search rules;
      count = search rules;
      body = search rules;
      vertex = search rules;
    }

pub returns-clause-printed : goal.returns-clause-printed
returns-clause-printed g c = λ k h map looked held.
    let i = c.loop.invariant in
    let was = c.loop in
    let line = vertex_line (g.P.Program.meaning c.args.program.now) in
    let s = g.SD.Disk.shown was.scratch in
    let t = g.SD.Disk.shown c.print_next.new.scratch in
    let ps = c.print_next.new.readers in
    let Prints : List ℕ → Type 0 = λ text. (h : List ℕ) → g.W.Sink.holds was.out h → g.W.Sink.holds c.print_next.new.out (h ++ text) in
    prints_end line k _ (AreLooked t was.v.room ps) (g.W.Sink.holds c.args.out.now) (g.W.Sink.holds was.out) (g.W.Sink.holds c.print_next.new.out) (λ m is ready. subst (λ (b : Bool). NextPrinted line b m (AreLooked t was.v.room ps) Prints) c.if-branch.false (c.in_ok-print_next.ensures.printed m is (subst (λ (n : ℕ). AreLooked s n was.readers m) (sym i.vertex.room) ready)))
    (i.prints k map looked) h held

pub returns-in_err-print_next-clause-part : goal.returns-in_err-print_next-clause-part
returns-in_err-print_next-clause-part g c =
    let end = err_from_is_err_and c.from_residual.result c.from_residual.ensures.1 in
    let i = c.loop.invariant in
    let was = c.loop in
    let line = vertex_line (g.P.Program.meaning c.args.program.now) in
    let s = g.SD.Disk.shown was.scratch in
    rw end.1 (λ k h map looked held. prints_part line k _ (g.W.Sink.holds c.args.out.now) (g.W.Sink.holds was.out) (g.W.Sink.holds c.print_next.new.out) (λ m x is ready has. c.in_err-print_next.ensures.part m x is (subst (λ (n : ℕ). AreLooked s n was.readers m) (sym i.vertex.room) ready) has) (i.prints k map looked) h held)

pub returns-in_err-print_next-clause-err : goal.returns-in_err-print_next-clause-err
returns-in_err-print_next-clause-err g c =
    let end = err_from_is_err_and c.from_residual.result c.from_residual.ensures.1 in
    let i = c.loop.invariant in
    rw (end.1, end.2) (λ graph. dump_after _ _ _ graph graph graph _ _ _ _ i.no_fault (clean_refl AnyFile graph) (clean_more NoFile IsDumpFile _ _ no_file i.clean) (c.in_err-print_next.ensures.err graph))

pub returns-clause-more : goal.returns-clause-more
returns-clause-more g c = λ h held. more_then _ (g.W.Sink.holds c.print_next.new.out) h (c.loop.invariant.more h held) c.print_next.ensures.more

pub returns-in_err-print_next-clause-more : goal.returns-in_err-print_next-clause-more
returns-in_err-print_next-clause-more g c = λ h held. more_then _ (g.W.Sink.holds c.print_next.new.out) h (c.loop.invariant.more h held) c.print_next.ensures.more
