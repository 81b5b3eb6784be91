use Rattle.px_compute_op.proofs.tests.round.Goals as goal

pub run_all-part-requires-clause-ready : goal.run_all-part-requires-clause-ready
run_all-part-requires-clause-ready c = c.in_ok-desk.ensures c.open-store.result.tree.part _ c.in_ok-start.ensures.ok.len
