use Rattle.std.proofs.Common.{◌≡◌, ◌≤◌, ◌<◌, ◌+◌, ◌-◌, ◌++◌, List, ℕ, length, take, drop, arith, rules, ap, subst, ◌∙◌}
use Rattle.std.proofs.lemmas.List.{length-drop, drop-drop}
use borrow.Rule.Slice.PartMut.{mid_of}
use Rattle.px_graph_text.proofs.Generating.{given_more}
use Rattle.px_graph_text.proofs.generator.GenSourceSource.read.Goals as goal

pub lines-preserved : goal.lines-preserved
lines-preserved c =
    let left : length c.lines.self ≡ length c.args.self.now - c.lines.filled = ap length c.lines.invariant.left ∙ length-drop c.lines.filled c.args.self.now in
    let bytes = subst (λ (s : List ℕ). c.give-count.new.into ≡ take c.give-count.result s ++ drop c.give-count.result (mid_of c.lines.filled (length c.lines.into - c.lines.filled) c.lines.into)) c.lines.invariant.left c.give-count.ensures.bytes in
    record {
      within = search rules;
      moved = omega (arith, left, c.give-count.ensures.count);
      filled = given_more c.lines.filled c.give-count.result (length c.lines.into - c.lines.filled) c.args.self.now c.args.into.now c.lines.into c.give-count.new.into (omega arith) c.lines.invariant.moved (omega arith) c.lines.invariant.filled bytes;
      left = c.give-count.ensures.rest ∙ ap (λ (s : List ℕ). drop c.give-count.result s) c.lines.invariant.left ∙ drop-drop c.give-count.result c.lines.filled c.args.self.now;
    }
