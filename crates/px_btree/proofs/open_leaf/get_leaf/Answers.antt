use Rattle.std.proofs.Common.{◌≡◌, ◌∙◌, ap, refl, [], get_or, length}
use Rattle.std.proofs.lemmas.Option.{IfSome_then}
use Rattle.px_frames.specs.Lending.{fitted}
use Rattle.px_frames.proofs.Places.{fitted_same}
use Rattle.px_cache.proofs.Pins.{same-mark, same_refl}
use Rattle.px_cache.proofs.Shows.{write_others}
use Rattle.px_btree.proofs.Opening.{leaf_gives, leaf_stays, leaf_shut}
use Rattle.px_btree.proofs.open_leaf.get_leaf.Goals as goal

pub returns-in-Some-clause-given : goal.returns-in-Some-clause-given
returns-in-Some-clause-given c = IfSome_then c.get_apart-given.result c.get_apart-given.ensures.given (λ b gives is only.
    leaf_gives c.args.vid c.args.file b c.get_apart-given.new.into.vertex c.args.leaf.now c.args.cache.now c.in-Some.i c.frame_mut-page.result.now c.in-Some.ensures.some.0 c.frame_mut-page.ensures.value c.frame_mut-page.ensures.whole c.requires.order is gives)

pub returns-in-Some-clause-leaf : goal.returns-in-Some-clause-leaf
returns-in-Some-clause-leaf c = λ is only.
    let cache = c.args.cache.now in
    let i = c.in-Some.i in
    let old = get_or cache.frames i [] in
    let new = c.get_apart-given.new.page in
    let b : fitted old new ≡ new = fitted_same old new (c.get_apart-given.auto.page ∙ ap length c.frame_mut-page.ensures.value) in
    leaf_stays c.args.file c.args.leaf.now (record { frame = c.args.leaf.now.frame; mark = c.args.leaf.now.mark; from = c.args.vid; apart = c.get_apart-given.new.apart }) cache i c.frame_mut-page.result.now new (fitted old new) c.in-Some.ensures.some.0 c.frame_mut-page.ensures.value b c.frame_mut-page.ensures.whole refl refl is
    c.args.vid refl c.requires.order c.get_apart-given.ensures.next

pub returns-in-Some-clause-same : goal.returns-in-Some-clause-same
returns-in-Some-clause-same c = λ is only.
    let cache = c.args.cache.now in
    let i = c.in-Some.i in
    let old = get_or cache.frames i [] in
    let new = c.get_apart-given.new.page in
    let b : fitted old new ≡ new = fitted_same old new (c.get_apart-given.auto.page ∙ ap length c.frame_mut-page.ensures.value) in
    leaf_shut c.args.file c.args.leaf.now (record { frame = c.args.leaf.now.frame; mark = c.args.leaf.now.mark; from = c.args.vid; apart = c.get_apart-given.new.apart }) cache i c.frame_mut-page.result.now new (fitted old new) c.in-Some.ensures.some.0 c.frame_mut-page.ensures.value b c.frame_mut-page.ensures.whole refl refl is
    c.get_apart-given.ensures.same

pub returns-in-Some-clause-others : goal.returns-in-Some-clause-others
returns-in-Some-clause-others c = λ s.
    let cache = c.args.cache.now in
    let i = c.in-Some.i in
    write_others cache s i c.args.file c.args.leaf.now.mark.page (fitted (get_or cache.frames i []) c.get_apart-given.new.page) c.in-Some.ensures.some.1

pub returns-in-Some-clause-stays : goal.returns-in-Some-clause-stays
returns-in-Some-clause-stays c = same-mark _ c.args.cache.now c.in-Some.i _ (same_refl c.args.cache.now)
