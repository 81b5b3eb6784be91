use Rattle.std.proofs.Common.{arith, ◌≡◌, length}
use Rattle.px_mutations.proofs.Steps.{live_most}
use Rattle.px_mutations.proofs.applying.tally_after.Goals as goal

pub returns-clause-counted : goal.returns-clause-counted
returns-clause-counted c = λ l after is h.
    let count : c.saturating_add-count.result ≡ length after = (let a = c.saturating_sub.ensures in let b = c.saturating_add-count.ensures in let f = c.if-count-gt-MOST.false in let m = h.sizes in let w = h.within in let x = h.added in let y = h.removed in omega (arith, a, b, f, m, w, x, y, is)) in
    record {
      count = count;
      live = (let a = c.min.ensures in let f = c.if-count-gt-MOST.false in let x = h.live in let most = live_most after in omega (arith, a, f, x, most, count));
    }
