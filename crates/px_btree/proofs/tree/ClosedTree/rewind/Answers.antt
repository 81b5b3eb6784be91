use Rattle.std.proofs.Common.{sym, subst}
use Rattle.px_btree.specs.Tree.{TreeView, IsHeld}
use Rattle.px_btree.proofs.Scanning.{rewound}
use Rattle.px_btree.proofs.tree.ClosedTree.rewind.Goals as goal

pub returns-clause-scans : goal.returns-clause-scans
returns-clause-scans c = λ d s l held. rewound _ d s l (subst (λ (t : TreeView). IsHeld t d s l) (sym c.self.view_is) held)
