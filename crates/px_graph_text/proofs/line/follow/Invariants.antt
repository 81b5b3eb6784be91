use Rattle.std.proofs.Common.{take}
use Rattle.px_graph_text.specs.Steps.{spot_of, Holds, SameFrame, Leads}
use Rattle.px_graph_text.proofs.line.follow.Given as goal

abbrev pub invariant-loop-count : goal.invariant-loop-count
invariant-loop-count l = record {
  leads : Leads l.fn.into.room (spot_of l.initial.state l.fn.into) (take l.count l.bytes) (spot_of l.state l.into);
  holds : Holds l.state l.into;
  frame : SameFrame l.fn.into l.into;
}
