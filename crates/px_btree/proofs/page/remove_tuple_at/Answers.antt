use Rattle.std.proofs.Common.{◌≡◌, ◌∙◌, ap, sym, subst, List}
use Rattle.std.specs.Prelude.{Some, slice_get, is_some}
use Rattle.std.specs.List.{prefix_len}
use Rattle.px_pages.specs.Entry.{Entry}
use Rattle.px_pages.specs.Page.{IsMade, tuples_of, entry_of, writer_of}
use Rattle.px_pages.specs.Place.{is_below}
use Rattle.px_pages.proofs.Writing.{made_tuples}
use Rattle.px_btree.proofs.Places.{gone_remove, gone_same, found_here, found_not, key_some, key_get, key_not}
use Rattle.px_btree.proofs.page.remove_tuple_at.Goals as goal

pub returns-then-not-has_key-clause-gone : goal.returns-then-not-has_key-clause-gone
returns-then-not-has_key-clause-gone c = λ is len kind link es made.
    let page = c.args.page.now in
    let place = c.args.place in
    let v = c.args.vid in
    let es_is = made_tuples (writer_of len es) kind link es page made in
    let no = key_not place page v is.place (c.has_key.ensures.no c.if-not-has_key.true) in
    let same = gone_same v es place.index (is.first ∙ ap (λ (l : List Entry). prefix_len (is_below v) l) es_is) (λ d at key. no d (ap (λ (l : List Entry). slice_get l place.index) es_is ∙ at) key) in
    subst (λ (l : List Entry). IsMade (writer_of len l) kind link l page) (sym same) made

pub returns-then-not-has_key-clause-there : goal.returns-then-not-has_key-clause-there
returns-then-not-has_key-clause-there c = λ low xs is keys.
    let page = c.args.page.now in
    let place = c.args.place in
    sym (ap is_some (found_not c.args.vid low (tuples_of page) xs place.index keys is.first (key_not place page c.args.vid is.place (c.has_key.ensures.no c.if-not-has_key.true))))

pub remove-requires-clause-some : goal.remove-requires-clause-some
remove-requires-clause-some c = key_some c.args.place.tuple c.args.vid (c.has_key.ensures.yes c.if-not-has_key.false)

pub returns-clause-gone : goal.returns-clause-gone
returns-clause-gone c = λ is len kind link es made.
    let page = c.args.page.now in
    let place = c.args.place in
    let v = c.args.vid in
    let es_is = made_tuples (writer_of len es) kind link es page made in
    let key = key_get place page v is.place (c.has_key.ensures.yes c.if-not-has_key.false) in
    let at : slice_get es place.index ≡ Some (entry_of key.0 page) = ap (λ (l : List Entry). slice_get l place.index) (sym es_is) ∙ key.2 in
    let same = gone_remove v es place.index (entry_of key.0 page) (is.first ∙ ap (λ (l : List Entry). prefix_len (is_below v) l) es_is) at key.3 in
    subst (λ (l : List Entry). IsMade (writer_of len l) kind link l c.remove.new.page) (sym same) (c.remove.ensures is.place len kind link es made)

pub returns-clause-there : goal.returns-clause-there
returns-clause-there c = λ low xs is keys.
    let page = c.args.page.now in
    let place = c.args.place in
    let key = key_get place page c.args.vid is.place (c.has_key.ensures.yes c.if-not-has_key.false) in
    sym (ap is_some (found_here c.args.vid low (tuples_of page) xs place.index (entry_of key.0 page) keys is.first key.2 key.3))
