use Rattle.std.proofs.Common.{◌≡◌, ◌∙◌, true, subst, ℕ}
use Rattle.std.specs.Prelude.{OnOk}
use Rattle.px_store.specs.Desks.{IsReady}
use Rattle.px_btree.proofs.tests.sweep.Goals as goal

pub returns-clause-ready : goal.returns-clause-ready
returns-clause-ready g c = subst (λ (q : ℕ). OnOk c.drain.result (IsReady true q c.drain.new.desk (g.D.Disk.shown c.drain.new.disk))) (c.drain.ensures.part ∙ c.open_chain-chain.ensures) c.drain.ensures.ready
