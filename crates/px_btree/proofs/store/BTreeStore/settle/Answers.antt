use Rattle.px_btree.proofs.Outer.{held_left, scan_left}
use Rattle.px_btree.proofs.store.BTreeStore.settle.Goals as goal

pub returns-clause-holds : goal.returns-clause-holds
returns-clause-holds g c = λ l is.
    let s = g.D.Disk.shown c.args._disk.now in
    held_left c.args.self.now c.close.new.self c.close.new.desk s l c.close.ensures.same (c.close.ensures.holds s l is)

pub returns-clause-scans : goal.returns-clause-scans
returns-clause-scans g c = λ a b is.
    let s = g.D.Disk.shown c.args._disk.now in
    scan_left c.args.self.now c.close.new.self c.close.new.desk s a b c.close.ensures.same (c.close.ensures.scans s a b is)
