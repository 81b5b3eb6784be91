use Rattle.std.proofs.Common.{◌∙◌, sym, subst}
use Rattle.px_connectors.specs.Sides.{PartitioningView, Sends, IsBegun}
use Rattle.px_connectors.proofs.Sending.{writers_is}
use Rattle.px_connectors.proofs.partitioning.PartitioningConnector.put.Goals as goal

pub returns-clause-sending : goal.returns-clause-sending
returns-clause-sending g c = λ p l up sends.
    let s = g.D.Disk.shown c.args.disk.now in
    let before = subst (λ (v : PartitioningView). Sends v s p l) (sym c.self.view_is) sends in
    let begun = writers_is (IsBegun s p l) c.self.inside.writers c.in-Some.writers c.in-Some.is before.begun in
    record {
      is = before.is;
      begun = record { first = c.put.ensures.stays.first ∙ begun.first; took = c.in_ok-put.ensures.took l begun.took };
    }
