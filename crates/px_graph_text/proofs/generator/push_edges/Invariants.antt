use Rattle.std.proofs.Common.{◌≡◌, ◌+◌, ◌-◌, ◌*◌, ◌≤◌, ◌++◌, length}
use Rattle.px_graph_text.specs.Generated.{next_edges, after_edges}
use Rattle.px_graph_text.proofs.generator.push_edges.Given as goal

-- the edges so far and those to come are all of them
abbrev pub invariant-edges : goal.invariant-edges
invariant-edges l = record {
  line : l.line.bytes ++ next_edges l.vertices (l.fn.edges - l._i) l.words ≡ l.initial.line.bytes ++ next_edges l.vertices l.fn.edges l.initial.words;
  words : after_edges (l.fn.edges - l._i) l.words ≡ after_edges l.fn.edges l.initial.words;
  short : length l.line.bytes ≤ 10 + 22 * l._i;
}
