use Rattle.std.proofs.Common.{◌≡◌, ◌+◌, ◌-◌, sym, subst, ℕ, arith}
use Rattle.std.proofs.lemmas.Result.{IfOk-weaker}
use Rattle.std.specs.Prelude.{Option}
use Rattle.px_pages.specs.Entry.{entry}
use Rattle.px_pages.specs.declared.inner.Child.{Child}
use Rattle.px_btree.specs.Rise.{PutsBelow}
use Rattle.px_btree.proofs.Stacking.{leaf_put, none_put, some_put}
use Rattle.px_btree.proofs.insert.+put_below.Goals as goal

pub returns-then-level-eq0-clause-put : goal.returns-then-level-eq0-clause-put
returns-then-level-eq0-clause-put g t c =
    let shown = g.D.Disk.shown in
    let e = entry c.args.vid 1 c.args.body.now in
    let s = shown c.args.disk.now in
    IfOk-weaker c.put_at.result _ _ (λ o puts.
    subst (λ (k : ℕ). PutsBelow e k c.args.page c.args.file o c.args.end.now c.put_at.new.end c.args.cache.now s c.put_at.new.cache (shown c.put_at.new.disk)) (sym c.if-level-eq0.true)
    (leaf_put e c.args.page c.args.file o c.args.end.now c.put_at.new.end c.args.cache.now c.put_at.new.cache s (shown c.put_at.new.disk) puts)) c.put_at.ensures.put

pub returns-in-None-clause-put : goal.returns-in-None-clause-put
returns-in-None-clause-put g t c =
    let shown = g.D.Disk.shown in
    let e = entry c.args.vid 1 c.args.body.now in
    let low = c.args.level - 1 in
    let step = c.in_ok-below.ensures in
    let up : c.args.level ≡ low + 1 = omega (arith, c.if-level-eq0.false) in
    let puts = subst (λ (o : Option Child). PutsBelow e low c.in_ok-below.below c.args.file o c.args.end.now c.put_below.new.end c.step.new.cache (shown c.step.new.disk) c.put_below.new.cache (shown c.put_below.new.disk)) c.in-None.is c.in_ok-put_below.ensures.put in
    none_put e c.args.level low c.args.page c.in_ok-below.below c.args.file c.args.end.now c.put_below.new.end c.args.cache.now c.step.new.cache c.put_below.new.cache (shown c.args.disk.now) (shown c.step.new.disk) (shown c.put_below.new.disk)
    up step.down step.stays step.ok.touches.page_len puts

pub returns-in-Some-clause-put : goal.returns-in-Some-clause-put
returns-in-Some-clause-put g t c =
    let shown = g.D.Disk.shown in
    let e = entry c.args.vid 1 c.args.body.now in
    let low = c.args.level - 1 in
    let step = c.in_ok-below.ensures in
    let up : c.args.level ≡ low + 1 = omega (arith, c.if-level-eq0.false) in
    let child = c.in-Some.child in
    let puts = subst (λ (o : Option Child). PutsBelow e low c.in_ok-below.below c.args.file o c.args.end.now c.put_below.new.end c.step.new.cache (shown c.step.new.disk) c.put_below.new.cache (shown c.put_below.new.disk)) c.in-Some.is c.in_ok-put_below.ensures.put in
    IfOk-weaker c.put_child.result _ _ (λ o' above.
    some_put e c.args.level low c.args.page c.in_ok-below.below c.args.file child o' c.args.end.now c.put_below.new.end c.put_child.new.end c.args.cache.now c.step.new.cache c.put_below.new.cache c.put_child.new.cache
    (shown c.args.disk.now) (shown c.step.new.disk) (shown c.put_below.new.disk) (shown c.put_child.new.disk) up c.requires.page step.down step.stays c.in_ok-put_below.ensures.stays step.ok.touches.page_len puts above) c.put_child.ensures.put
