use Rattle.std.proofs.Common.{◌∷◌, [], ap, sym, subst, arith}
use Rattle.std.specs.List.{prefix_len}
use Rattle.px_pages.specs.Entry.{Entry, entry}
use Rattle.px_pages.specs.Page.{IsMade, writer_of}
use Rattle.px_pages.specs.Place.{is_below}
use Rattle.px_pages.proofs.Writing.{made_tuples}
use Rattle.px_btree.specs.Put.{placed}
use Rattle.px_btree.proofs.ApartPage.{keeps_within}
use Rattle.px_btree.proofs.ApartPut.{placed_ahead}
use Rattle.px_btree.proofs.tests_apart.put_two.Goals as goal

pub returns : goal.returns
returns c = λ yes len kind link es made.
    let page = c.args.page.now in
    let e : Entry = entry c.args.first 1 (8 ∷ 9 ∷ []) in
    let d : Entry = entry c.args.second 1 (6 ∷ 7 ∷ []) in
    let found = made_tuples (writer_of len es) kind link es page made in
    let keeps = c.open-apart.ensures.apart len kind link es made c.find-place.ensures.place in
    let one = c.put.ensures.put c.if-not-put.false len kind link _ es keeps (omega (arith, c.find-place.ensures.first, ap (prefix_len (is_below c.args.first)) found)) in
    let two = c.put-both.ensures.put yes len kind link _ (placed e es) one (placed_ahead e c.args.second es c.requires.order) in
    let shut = c.close.ensures.closed (keeps_within len kind link _ (placed d (placed e es)) c.put-both.new.self c.put-both.new.page two) in
    subst (λ x. IsMade (writer_of len (placed d (placed e es))) kind link (placed d (placed e es)) x) (sym shut) two.made
