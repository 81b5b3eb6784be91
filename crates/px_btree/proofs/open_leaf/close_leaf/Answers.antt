use Rattle.std.proofs.Common.{[], get_or}
use Rattle.px_frames.specs.Lending.{fitted}
use Rattle.px_cache.proofs.Pins.{same-mark, same_refl}
use Rattle.px_cache.proofs.Shows.{write_others}
use Rattle.px_btree.proofs.Opening.{held_mark}
use Rattle.px_btree.proofs.open_leaf.close_leaf.Goals as goal

pub returns-in-Some-clause-others : goal.returns-in-Some-clause-others
returns-in-Some-clause-others c = λ s.
    let cache = c.args.cache.now in
    let i = c.in-Some.i in
    write_others cache s i c.args.file c.args.leaf.mark.page (fitted (get_or cache.frames i []) c.close.new.page) c.in-Some.ensures.some.1

pub returns-in-Some-clause-held : goal.returns-in-Some-clause-held
returns-in-Some-clause-held c = λ f p. held_mark c.args.cache.now.notes c.in-Some.i f p

pub returns-in-Some-clause-stays : goal.returns-in-Some-clause-stays
returns-in-Some-clause-stays c = same-mark _ c.args.cache.now c.in-Some.i _ (same_refl c.args.cache.now)
