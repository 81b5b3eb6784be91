use Rattle.std.proofs.Common.{◌≡◌, ◌/◌, ◌++◌, ℕ, List, length, take}
use Rattle.std.specs.Prelude.{flat_map}
use Rattle.px_programs.specs.Chains.{vids_in, plus_text}
use Rattle.px_programs.proofs.chain_text.print_more.Given as goal

-- the vids so far are written
abbrev pub invariant-loop-i : goal.invariant-loop-i
invariant-loop-i g l = record {
  written : (h : List ℕ) → g.W.Sink.holds l.fn.sink h → g.W.Sink.holds l.sink (h ++ flat_map plus_text (take l.i (vids_in (length l.vids / 8) l.vids)));
  no_fault : g.W.Sink.faults l.sink ≡ g.W.Sink.faults l.fn.sink;
}
