use Rattle.std.proofs.Common.{◌≡◌, ◌∙◌, ap, refl, [], get_or, length}
use Rattle.px_frames.specs.Lending.{fitted}
use Rattle.px_frames.proofs.Places.{fitted_same}
use Rattle.px_pages.specs.Entry.{entry}
use Rattle.px_cache.proofs.Pins.{same-mark, same_refl}
use Rattle.px_cache.proofs.Shows.{write_others}
use Rattle.px_btree.proofs.Opening.{leaf_puts, leaf_stays, leaf_shut}
use Rattle.px_btree.proofs.open_leaf.put_leaf.Goals as goal

pub returns-in-Some-clause-put : goal.returns-in-Some-clause-put
returns-in-Some-clause-put c = λ yes is only.
    let cache = c.args.cache.now in
    let i = c.in-Some.i in
    let old = get_or cache.frames i [] in
    let new = c.put_apart-done.new.page in
    let b : fitted old new ≡ new = fitted_same old new (c.put_apart-done.auto.page ∙ ap length c.frame_mut-page.ensures.value) in
    leaf_puts c.args.file c.args.leaf.now _ cache i c.frame_mut-page.result.now new (fitted old new) c.in-Some.ensures.some.0 c.frame_mut-page.ensures.value b c.frame_mut-page.ensures.whole refl refl is
    (entry c.args.vid 1 c.args.body.now) (c.next_of-leaf.ensures.put yes) c.requires.order (c.put_apart-done.ensures.put yes)

pub returns-in-Some-clause-leaf : goal.returns-in-Some-clause-leaf
returns-in-Some-clause-leaf c = λ no is only.
    let cache = c.args.cache.now in
    let i = c.in-Some.i in
    let old = get_or cache.frames i [] in
    let new = c.put_apart-done.new.page in
    let b : fitted old new ≡ new = fitted_same old new (c.put_apart-done.auto.page ∙ ap length c.frame_mut-page.ensures.value) in
    leaf_stays c.args.file c.args.leaf.now _ cache i c.frame_mut-page.result.now new (fitted old new) c.in-Some.ensures.some.0 c.frame_mut-page.ensures.value b c.frame_mut-page.ensures.whole refl refl is
    c.args.vid (c.next_of-leaf.ensures.not no) c.requires.order (c.put_apart-done.ensures.next no)

pub returns-in-Some-clause-same : goal.returns-in-Some-clause-same
returns-in-Some-clause-same c = λ no is only.
    let cache = c.args.cache.now in
    let i = c.in-Some.i in
    let old = get_or cache.frames i [] in
    let new = c.put_apart-done.new.page in
    let b : fitted old new ≡ new = fitted_same old new (c.put_apart-done.auto.page ∙ ap length c.frame_mut-page.ensures.value) in
    leaf_shut c.args.file c.args.leaf.now (record { frame = c.args.leaf.now.frame; mark = c.args.leaf.now.mark; from = c.args.vid; apart = c.put_apart-done.new.apart }) cache i c.frame_mut-page.result.now new (fitted old new) c.in-Some.ensures.some.0 c.frame_mut-page.ensures.value b c.frame_mut-page.ensures.whole refl refl is
    (c.put_apart-done.ensures.same no)

pub returns-in-Some-clause-others : goal.returns-in-Some-clause-others
returns-in-Some-clause-others c = λ s.
    let cache = c.args.cache.now in
    let i = c.in-Some.i in
    write_others cache s i c.args.file c.args.leaf.now.mark.page (fitted (get_or cache.frames i []) c.put_apart-done.new.page) c.in-Some.ensures.some.1

pub returns-in-Some-clause-stays : goal.returns-in-Some-clause-stays
returns-in-Some-clause-stays c = same-mark _ c.args.cache.now c.in-Some.i _ (same_refl c.args.cache.now)
