use Rattle.px_wild.proofs.tests.stores.call_join.Goals as goal

pub fill-requires-clause-ready : goal.fill-requires-clause-ready
fill-requires-clause-ready g c = c.in_ok-desk.ensures c.open-store.result.tree.part (g.GD.Disk.shown c.args.graph.now) c.requires.graph
