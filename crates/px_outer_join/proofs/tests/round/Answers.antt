use Rattle.px_outer_join.proofs.tests.round.Goals as goal

pub meet-requires-clause-ready : goal.meet-requires-clause-ready
meet-requires-clause-ready c = c.in_ok-desk.ensures 0 _ c.in_ok-start.ensures.ok.len
