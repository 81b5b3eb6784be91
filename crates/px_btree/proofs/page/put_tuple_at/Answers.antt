use Rattle.std.proofs.Common.{◌≡◌, ◌≤◌, ◌+◌, ◌∙◌, ap, sym, subst, List, length, arith}
use Rattle.std.specs.Prelude.{Option, Some, slice_get, IfSome}
use Rattle.std.specs.List.{prefix_len}
use Rattle.px_pages.specs.Entry.{Entry, entry}
use Rattle.px_pages.specs.Page.{IsMade, used_of, entry_of, writer_of}
use Rattle.px_pages.specs.Place.{is_below, Overflows}
use Rattle.px_pages.specs.declared.reader.Tuple.{Tuple}
use Rattle.px_pages.proofs.Writing.{made_tuples}
use Rattle.px_pages.proofs.Places.{size_of-entry_of}
use Rattle.px_btree.proofs.Places.{placed_insert, placed_set, key_some, key_get, key_not, bytes_insert, bytes_set}
use Rattle.px_btree.proofs.page.put_tuple_at.Goals as goal

pub replace-requires-clause-some : goal.replace-requires-clause-some
replace-requires-clause-some c = key_some c.args.place.tuple c.args.vid (c.has_key.ensures.yes c.if-has_key.true)

pub returns-then-has_key-clause-put : goal.returns-then-has_key-clause-put
returns-then-has_key-clause-put c = λ yes is len kind link es made.
    let page = c.args.page.now in
    let place = c.args.place in
    let v = c.args.vid in
    let e = entry v c.args.tag c.args.body.now in
    let es_is = made_tuples (writer_of len es) kind link es page made in
    let key = key_get place page v is.place (c.has_key.ensures.yes c.if-has_key.true) in
    let at : slice_get es place.index ≡ Some (entry_of key.0 page) = ap (λ (l : List Entry). slice_get l place.index) (sym es_is) ∙ key.2 in
    let same = placed_set e es place.index (entry_of key.0 page) (is.first ∙ ap (λ (l : List Entry). prefix_len (is_below v) l) es_is) at key.3 in
    subst (λ (l : List Entry). IsMade (writer_of len l) kind link l c.replace.new.page) (sym same) (c.replace.ensures.put yes is.place len kind link es made)

pub returns-then-has_key-clause-full : goal.returns-then-has_key-clause-full
returns-then-has_key-clause-full c = λ none is len kind link es made.
    let page = c.args.page.now in
    let place = c.args.place in
    let v = c.args.vid in
    let e = entry v c.args.tag c.args.body.now in
    let es_is = made_tuples (writer_of len es) kind link es page made in
    let key = key_get place page v is.place (c.has_key.ensures.yes c.if-has_key.true) in
    let t = key.0 in
    let within : t.at + t.len ≤ length page = subst (λ (o : Option Tuple). IfSome o (λ u. u.at + u.len ≤ length page)) key.1 is.place.within in
    let over : Overflows t.len (length c.args.body.now) page = subst (λ (o : Option Tuple). IfSome o (λ u. Overflows u.len (length c.args.body.now) page)) key.1 (c.replace.ensures.full none is.place) in
    let at : slice_get es place.index ≡ Some (entry_of t page) = ap (λ (l : List Entry). slice_get l place.index) (sym es_is) ∙ key.2 in
    let same = placed_set e es place.index (entry_of t page) (is.first ∙ ap (λ (l : List Entry). prefix_len (is_below v) l) es_is) at key.3 in
    omega (arith, ap used_of same, bytes_set es place.index (entry_of t page) e at, size_of-entry_of t page within, over len kind link es made)

pub returns-clause-put : goal.returns-clause-put
returns-clause-put c = λ yes is len kind link es made.
    let page = c.args.page.now in
    let place = c.args.place in
    let v = c.args.vid in
    let e = entry v c.args.tag c.args.body.now in
    let es_is = made_tuples (writer_of len es) kind link es page made in
    let no = key_not place page v is.place (c.has_key.ensures.no c.if-has_key.false) in
    let same = placed_insert e es place.index (is.first ∙ ap (λ (l : List Entry). prefix_len (is_below v) l) es_is) (λ d at key. no d (ap (λ (l : List Entry). slice_get l place.index) es_is ∙ at) key) in
    subst (λ (l : List Entry). IsMade (writer_of len l) kind link l c.insert.new.page) (sym same) (c.insert.ensures.put yes is.place len kind link es made)

pub returns-clause-full : goal.returns-clause-full
returns-clause-full c = λ none is len kind link es made.
    let page = c.args.page.now in
    let place = c.args.place in
    let v = c.args.vid in
    let e = entry v c.args.tag c.args.body.now in
    let es_is = made_tuples (writer_of len es) kind link es page made in
    let no = key_not place page v is.place (c.has_key.ensures.no c.if-has_key.false) in
    let same = placed_insert e es place.index (is.first ∙ ap (λ (l : List Entry). prefix_len (is_below v) l) es_is) (λ d at key. no d (ap (λ (l : List Entry). slice_get l place.index) es_is ∙ at) key) in
    omega (arith, ap used_of same, bytes_insert es place.index e, c.insert.ensures.full none is.place len kind link es made)
