use Rattle.std.proofs.Common.{◌≡◌, ◌∙◌, ap, [], get_or, length}
use Rattle.px_frames.specs.Lending.{fitted}
use Rattle.px_frames.proofs.Places.{fitted_same}
use Rattle.px_cache.proofs.Pins.{same-mark, same_refl}
use Rattle.px_cache.proofs.Shows.{write_others}
use Rattle.px_btree.proofs.Opening.{opens_at}
use Rattle.px_btree.proofs.open_leaf.open_leaf.Goals as goal

pub returns-clause-opened : goal.returns-clause-opened
returns-clause-opened c =
    let cache = c.args.cache.now in
    let i = c.in_ok-frame.frame in
    let new = c.open-apart.new.page in
    let old = get_or cache.frames i [] in
    let b : fitted old new ≡ new = fitted_same old new (c.open-apart.auto.page ∙ ap length c.frame_mut-page.ensures.value) in
    opens_at c.args.file i c.args.mark c.find_from-place.result c.open-apart.result cache c.frame_mut-page.result.now new (fitted old new) c.frame_mut-page.ensures.value b c.frame_mut-page.ensures.whole c.in_ok-frame.ensures.some
    c.find_from-place.ensures.place c.find_from-place.ensures.first c.open-apart.ensures.apart c.open-apart.ensures.closed

pub returns-clause-others : goal.returns-clause-others
returns-clause-others c = λ s.
    let cache = c.args.cache.now in
    let i = c.in_ok-frame.frame in
    write_others cache s i c.args.file c.args.mark.page (fitted (get_or cache.frames i []) c.open-apart.new.page) c.in_ok-frame.ensures.some

pub returns-clause-stays : goal.returns-clause-stays
returns-clause-stays c = same-mark _ c.args.cache.now c.in_ok-frame.frame _ (same_refl c.args.cache.now)
