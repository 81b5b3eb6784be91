use Rattle.px_mutations.proofs.tests.round.Goals as goal

pub settle-tally-requires-clause-ready : goal.settle-tally-requires-clause-ready
settle-tally-requires-clause-ready c = c.in_ok-desk.ensures c.open-store.result.tree.part _ c.in_ok-start.ensures.ok.len
