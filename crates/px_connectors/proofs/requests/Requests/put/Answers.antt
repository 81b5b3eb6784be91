use Rattle.std.proofs.Common.{◌∙◌, sym, subst}
use Rattle.px_connectors.specs.Asking.{RequestsView}
use Rattle.px_connectors.specs.Writers.{TookParts}
use Rattle.px_connectors.proofs.requests.Requests.put.Goals as goal

pub returns-clause-asked : goal.returns-clause-asked
returns-clause-asked g c = λ l asked. record {
  first = c.put.ensures.stays.first ∙ c.self.invariant.0;
  took = c.in_ok-put.ensures.took l (subst (λ (v : RequestsView). TookParts (g.D.Disk.shown c.args.disk.now) 2 v.writers l) (sym c.self.view_is) asked.took);
}
