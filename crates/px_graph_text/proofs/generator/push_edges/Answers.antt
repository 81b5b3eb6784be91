use Rattle.std.proofs.Common.{◌≡◌, ◌++◌, arith, ◌∙◌}
use Rattle.px_meaning.specs.OutputText.{edge_text}
use Rattle.px_graph_text.specs.Generated.{next_edge, after_edge}
use Rattle.px_graph_text.proofs.Generating.{edge_made, edge_made_after}
use Rattle.px_graph_text.proofs.generator.push_edges.Goals as goal

pub edges-preserved : goal.edges-preserved
edges-preserved c =
    let words : c.next_edge-target.new.words ≡ after_edge c.edges.words = c.next_edge-target.ensures.words in
    let line : c.push_edge.new.line.bytes ≡ c.edges.line.bytes ++ edge_text (next_edge c.args.vertices c.edges.words) = cc in
    record {
      line = rw (words, line) (edge_made c.args.vertices c.edges.words c.edges._i c.args.edges c.edges.line.bytes c.edges-test.true ∙ c.edges.invariant.line);
      words = rw words (edge_made_after c.edges.words c.edges._i c.args.edges c.edges-test.true ∙ c.edges.invariant.words);
      short = omega arith;
    }
