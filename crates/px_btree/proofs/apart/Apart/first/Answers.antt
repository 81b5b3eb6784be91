use Rattle.std.proofs.Common.{length, drop, sym, ◌∙◌}
use Rattle.std.proofs.lemmas.Option.{IfSome_then}
use Rattle.px_pages.proofs.Places.{no_room}
use Rattle.px_btree.specs.Apart.{Within}
use Rattle.px_btree.proofs.ApartWalk.{none_then, slice_get-drop}
use Rattle.px_btree.proofs.ApartPage.{keeps_within, back_is, back_entries}
use Rattle.px_btree.proofs.apart.Apart.first.Goals as goal

pub returns-then-not-is_within-clause-none : goal.returns-then-not-is_within-clause-none
returns-then-not-is_within-clause-none c = λ len kind link i es e keeps here same.
    absurd (no_room c.is_within.result (Within (length c.args.page.now) c.args.self) c.is_within.ensures c.if-not-is_within.true (keeps_within len kind link i es c.args.self c.args.page.now keeps))

pub returns-clause-some : goal.returns-clause-some
returns-clause-some c = IfSome_then c.tuple_in.result c.tuple_in.ensures.some (λ t some len kind link i es keeps.
    let a = c.args.self in
    let page = c.args.page.now in
    sym (slice_get-drop i es) ∙ some (drop i es) (back_entries len kind link i es a page keeps) (back_is len kind link i es a page keeps))

pub returns-clause-none : goal.returns-clause-none
returns-clause-none c = none_then c.tuple_in.result c.tuple_in.ensures.none (λ none len kind link i es e keeps here same.
    let a = c.args.self in
    let page = c.args.page.now in
    none (drop i es) e (back_entries len kind link i es a page keeps) (back_is len kind link i es a page keeps) (slice_get-drop i es ∙ here) same)
