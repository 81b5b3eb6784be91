use Rattle.std.proofs.Common.{◌≡◌, ◌<◌, ℕ, sym, subst}
use Rattle.px_core.specs.Parts.{to_part}
use Rattle.px_connectors.specs.Sides.{PartitioningView, HasSent}
use Rattle.px_connectors.proofs.partitioning.PartitioningConnector.receive.Goals as goal

pub returns-clause-receives : goal.returns-clause-receives
returns-clause-receives g c = λ ls sent.
    let s = g.D.Disk.shown c.args._disk.now in
    let parts = c.self.inside.parts in
    let q = c.args.receiver in
    let lt : q < parts = subst (λ (v : PartitioningView). q < v.parts) (sym c.self.view_is) c.requires.receiver in
    rw (← c.self.view_is) (c.open-readers.ensures.gives s (λ p. to_part parts q (ls p)) (record {
      each = λ p low. (subst (λ (v : PartitioningView). HasSent v s p (ls p)) (sym c.self.view_is) (sent p (subst (λ (v : PartitioningView). p < v.parts) c.self.view_is low))).holds.each q lt;
    }))
