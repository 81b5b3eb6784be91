use Rattle.std.proofs.Common.{◌≡◌, ℕ, List, ◌++◌, take}
use Rattle.std.specs.Prelude.{flat_map}
use Rattle.px_meaning.specs.OutputText.{edge_text}
use Rattle.px_program.proofs.print.print_edges.Given as goal

-- the edges so far are written
abbrev pub invariant-loop-i : goal.invariant-loop-i
invariant-loop-i g l = record {
  written : (h : List ℕ) → g.W.Sink.holds l.fn.sink h → g.W.Sink.holds l.sink (h ++ flat_map edge_text (take l.i l.v.vertex.edges));
  no_fault : g.W.Sink.faults l.sink ≡ g.W.Sink.faults l.fn.sink;
}
