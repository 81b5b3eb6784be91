use Rattle.px_store.proofs.Apart.{ready_for}
use Rattle.px_btree.proofs.tests_growing.put_and_leave.Goals as goal

pub returns-clause-ready : goal.returns-clause-ready
returns-clause-ready g c = λ q. ready_for g.St.Store.counted _ q c.settle.new.desk (g.D.Disk.shown c.settle.new.disk) c.in_ok-settle.ensures.owner c.in_ok-settle.ensures.done.ready

pub loop-vid-init : goal.loop-vid-init
loop-vid-init g c = record { ready = c.requires.ready (g.St.Store.part c.args.store.now); room = c.requires.room }
