use Rattle.std.proofs.Common.{◌≡◌, ℕ, List, ◌++◌, take}
use Rattle.std.specs.Prelude.{flat_map}
use Rattle.px_superstep.specs.Lines.{line_text}
use Rattle.px_superstep.proofs.line.write_lines.Given as goal

-- the lines so far are written
abbrev pub invariant-loop-line : goal.invariant-loop-line
invariant-loop-line g l = record {
  written : (h : List ℕ) → g.E.Sink.holds l.fn.errs h → g.E.Sink.holds l.errs (h ++ flat_map line_text (take l.line-index l.lines));
  no_fault : g.E.Sink.faults l.errs ≡ g.E.Sink.faults l.fn.errs;
}
