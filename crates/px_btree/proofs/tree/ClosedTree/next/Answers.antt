use Rattle.std.proofs.Common.{◌≡◌, ap, subst, Bool, arith}
use Rattle.px_btree.specs.Tree.{TreeView}
use Rattle.px_btree.specs.Scan.{IsScan, Looked}
use Rattle.px_btree.proofs.Scanning.{scan_end}
use Rattle.px_btree.proofs.tree.ClosedTree.next.Goals as goal

pub returns-then-branch-clause-gives : goal.returns-then-branch-clause-gives
returns-then-branch-clause-gives g c = λ a b scan.
    let shown = g.D.Disk.shown in
    subst (λ (given : Bool). Looked given c.look.new.into.vid c.look.new.into.vertex a b (IsScan c.look.new.self c.look.new.desk (shown c.look.new.disk))) c.if-branch.true
    (c.in_ok-look.ensures.looked a b (c.loop-self.invariant.scans a b scan))

pub returns-clause-gives : goal.returns-clause-gives
returns-clause-gives g c = λ a b scan.
    let none : c.loop-self.self.togo ≡ 0 = omega (arith, c.loop-self-test.false, ap (λ (t : TreeView). t.togo) c.self.view_is) in
    scan_end c.loop-self.self c.loop-self.desk (g.D.Disk.shown c.loop-self.disk) a b none (c.loop-self.invariant.scans a b scan)
