use Rattle.px_connectors.proofs.Sending.{next_given, none_given, are_receiving}
use Rattle.px_connectors.proofs.partitioning.PartitioningConnector.next.Goals as goal

pub returns-clause-some : goal.returns-clause-some
returns-clause-some g c =
    let r = c.in-Some.readers in
    let side = are_receiving c.self.inside.parts _ c.self.inside.writers c.self.inside.readers r c.in-Some.is c.self.invariant.2 in
    rw (← c.self.view_is) (next_given c.in_ok-vid.vid c.self.inside.parts c.self.inside.readers r c.next.new.self _ _ _ c.in-Some.is side.parts_are c.in_ok-vid.ensures.some)

pub returns-clause-none : goal.returns-clause-none
returns-clause-none g c =
    let r = c.in-Some.readers in
    let side = are_receiving c.self.inside.parts _ c.self.inside.writers c.self.inside.readers r c.in-Some.is c.self.invariant.2 in
    rw (← c.self.view_is) (none_given c.in_ok-vid.vid c.self.inside.parts c.self.inside.readers r _ c.in-Some.is side.parts_are c.in_ok-vid.ensures.none)
