use Rattle.std.proofs.Common.{rules, ◌≡◌, ◌∙◌, sym, ap, true, false}
use Rattle.px_outer_join.specs.Outer.{OuterView, is_due}
use Rattle.px_outer_join.proofs.Taking.{beside_next, at_end, at_hand}
use Rattle.px_outer_join.proofs.outer.OuterJoin.look_ahead.Goals as goal

pub returns-then-not-self-clause-rows : goal.returns-then-not-self-clause-rows
returns-then-not-self-clause-rows g c = λ l m rows first b.
    let now = c.loop-message.self in
    let new = c.advance.new.self in
    let off : new.held ≡ false = ap (λ (j : OuterView). j.held) (sym c.self.view_is) ∙ c.if-not-self.true in
    let passed : c.is_due.result ≡ false = c.loop-message-test.true in
    at_end (g.St.Store.scans c.loop-message.store c.loop-message.desk (g.GD.Disk.shown c.loop-message.graph)) (g.St.Store.scans c.advance.new.store c.advance.new.desk (g.GD.Disk.shown c.advance.new.graph))
    now.held new.held now.ahead new.ahead l m rows off (ap (is_due now.held now.ahead) first ∙ sym c.is_due.ensures ∙ passed) c.in_ok-advance.ensures.gives (c.loop-message.invariant.rows l m rows first b)

pub loop-message-preserved : goal.loop-message-preserved
loop-message-preserved g c =
    let now = c.loop-message.self in
    let new = c.advance.new.self in
    let on : new.held ≡ true = ap (λ (j : OuterView). j.held) (sym c.self.view_is) ∙ c.if-not-self.false in
    let passed : c.is_due.result ≡ false = c.loop-message-test.true in
    record {
      rows = λ t m rs first b.
          beside_next (g.St.Store.scans c.loop-message.store c.loop-message.desk (g.GD.Disk.shown c.loop-message.graph)) (g.St.Store.scans c.advance.new.store c.advance.new.desk (g.GD.Disk.shown c.advance.new.graph))
          now.held new.held now.ahead new.ahead t m rs on (ap (is_due now.held now.ahead) first ∙ sym c.is_due.ensures ∙ passed) c.in_ok-advance.ensures.gives (c.loop-message.invariant.rows t m rs first b);
      left = search rules;
      leaves = search rules;
      reads = search rules;
      part = search rules;
      desk = search rules;
      done = search rules;
      stays = search rules;
    }

pub returns-clause-rows : goal.returns-clause-rows
returns-clause-rows g c = λ l m rows first b.
    let now = c.loop-message.self in
    let due : c.is_due.result ≡ true = c.loop-message-test.false in
    at_hand (g.St.Store.scans c.loop-message.store c.loop-message.desk (g.GD.Disk.shown c.loop-message.graph)) now.held now.ahead l m rows
    (ap (is_due now.held now.ahead) first ∙ sym c.is_due.ensures ∙ due) (c.loop-message.invariant.rows l m rows first b)
