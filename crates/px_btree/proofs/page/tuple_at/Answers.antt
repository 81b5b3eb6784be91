use Rattle.px_pages.specs.Page.{tuples_of}
use Rattle.px_btree.proofs.Places.{found_not, key_not, key_tuple}
use Rattle.px_btree.proofs.page.tuple_at.Goals as goal
use Rattle.px_btree.proofs.page.tuple_at.Goals.{else-has_key-via-then-has_key+else-is_within, else-has_key-via-else-has_key}

pub returns-then-is_within-clause-some : goal.returns-then-is_within-clause-some
returns-then-is_within-clause-some c = key_tuple c.args.place c.args.page.now c.args.vid (c.has_key.ensures.yes c.if-has_key.true)

pub returns-clause-none : goal.returns-clause-none
returns-clause-none c = λ low xs is keys.
    let page = c.args.page.now in
    let place = c.args.place in
    elim c.else-has_key.branch [
      | else-has_key-via-then-has_key+else-is_within w ↦ absurd (w.is_within.ensures.no w.if-is_within.false is.place.within)
      | else-has_key-via-else-has_key w ↦ found_not c.args.vid low (tuples_of page) xs place.index keys is.first (key_not place page c.args.vid is.place (c.has_key.ensures.no w.if-has_key.false))
    ]
