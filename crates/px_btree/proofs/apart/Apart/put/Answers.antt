use Rattle.std.proofs.Common.{◌≡◌, ◌+◌, ◌∙◌, ◌∷◌, ◌++◌, length, take, drop, refl, ap, subst, arith}
use Rattle.std.specs.List.{prefix_len}
use Rattle.px_pages.specs.Entry.{Entry, entry}
use Rattle.px_pages.specs.Place.{is_below}
use Rattle.px_pages.proofs.Writing.{length-bytes_of}
use Rattle.px_pages.proofs.Places.{no_room}
use Rattle.px_btree.specs.Apart.{KeepsApart}
use Rattle.px_btree.proofs.ApartWalk.{prefix_from, prefix_within}
use Rattle.px_btree.proofs.ApartPage.{keeps_within, back_is, back_entries, count_is}
use Rattle.px_btree.proofs.ApartPut.{gives_way, full_for, way_keeps, way_placed, way_full, way_more, way_count}
use Rattle.px_btree.proofs.apart.Apart.put.Goals as goal

pub returns-then-not-is_within-clause-kept : goal.returns-then-not-is_within-clause-kept
returns-then-not-is_within-clause-kept c = λ no len kind link i es keeps ahead.
    let within = keeps_within len kind link _ es c.pass.new.self c.pass.new.page (c.pass.ensures.apart len kind link i es keeps) in
    absurd (no_room c.is_within.result _ c.is_within.ensures c.if-not-is_within.true within)

pub returns-then-not-is_within-clause-full : goal.returns-then-not-is_within-clause-full
returns-then-not-is_within-clause-full c = λ no len kind link i es keeps ahead.
    let within = keeps_within len kind link _ es c.pass.new.self c.pass.new.page (c.pass.ensures.apart len kind link i es keeps) in
    absurd (no_room c.is_within.result _ c.is_within.ensures c.if-not-is_within.true within)

pub returns-then-to-self-clause-kept : goal.returns-then-to-self-clause-kept
returns-then-to-self-clause-kept c = λ no len kind link i es keeps ahead.
    subst (λ x. KeepsApart len kind link x es c.pass.new.self c.pass.new.page) (prefix_from c.args.key i es ahead) (c.pass.ensures.apart len kind link i es keeps)

pub returns-then-to-self-clause-full : goal.returns-then-to-self-clause-full
returns-then-to-self-clause-full c = λ no len kind link i es keeps ahead.
    let e : Entry = entry c.args.key c.args.tag c.args.body.now in
    let n = prefix_len (is_below e.key) es in
    let a = c.pass.new.self in
    let page = c.pass.new.page in
    let now : KeepsApart len kind link n es a page = subst (λ x. KeepsApart len kind link x es a page) (prefix_from e.key i es ahead) (c.pass.ensures.apart len kind link i es keeps) in
    let to_is = c.skip-to.ensures.same (drop n es) (back_entries len kind link n es a page now) (back_is len kind link n es a page now) in
    full_for len kind link i es c.args.self.now c.args.page.now e keeps
    (way_full len kind link n c.skip-to.result e es a page (gives_way e es n refl) now to_is (omega (arith, c.if-to-self.true, c.skip-to.ensures.after, (keeps_within len kind link n es a page now).gap)))

pub returns-clause-put : goal.returns-clause-put
returns-clause-put c = λ yes len kind link i es keeps ahead.
    let e : Entry = entry c.args.key c.args.tag c.args.body.now in
    let n = prefix_len (is_below e.key) es in
    let a = c.pass.new.self in
    let page = c.pass.new.page in
    let now : KeepsApart len kind link n es a page = subst (λ x. KeepsApart len kind link x es a page) (prefix_from e.key i es ahead) (c.pass.ensures.apart len kind link i es keeps) in
    let to_is = c.skip-to.ensures.same (drop n es) (back_entries len kind link n es a page now) (back_is len kind link n es a page now) in
    let way = gives_way e es n refl in
    let xs = take n es in
    let cnt : c.saturating_add-tuples.result ≡ length (xs ++ e ∷ way.rest) =
    omega (arith, c.saturating_add-tuples.ensures, c.count.ensures, count_is len kind link n es a page now, way_more n c.skip-to.result a.back e es way to_is, way_count e es n way, length-bytes_of es, now.made.fits, now.made.len) in
    way_placed len kind link n e es c.write.new.self c.write.new.page way (prefix_within e.key es)
    (c.write.ensures.written len kind link xs way.old way.rest (way_keeps len kind link n e es a page way now) (to_is ∙ ap (λ x. a.back + x) way.len) cnt)
