use Rattle.std.proofs.Common.{◌≡◌, ◌∙◌, sym, ap, refl}
use Rattle.std.specs.Prelude.{Some, is_some}
use Rattle.std.specs.List.{prefix_len}
use Rattle.px_meaning.specs.Graph.{vertex_or_fresh}
use Rattle.px_pages.specs.Entry.{Entry}
use Rattle.px_pages.specs.Page.{entry_of}
use Rattle.px_pages.specs.Place.{is_below}
use Rattle.px_btree.specs.Search.{found}
use Rattle.px_btree.proofs.Items.{there, not_there, found_item}
use Rattle.px_btree.proofs.Places.{found_here, found_not}
use Rattle.px_btree.proofs.leaf.take_apart.Goals as goal

pub returns-in-None-clause-found : goal.returns-in-None-clause-found
returns-in-None-clause-found c = λ n kind link es low xs keeps keys all.
    let v = c.args.vid in
    let i = prefix_len (is_below v) es in
    let none = not_there v es (found_not v low es xs i keys refl (λ d here same. c.in-None.ensures.none n kind link i es d keeps here same)) in
    (sym (ap is_some none), ap (λ (v : _). v.vertex) c.reset.ensures ∙ sym (ap vertex_or_fresh none))

pub returns-in-Some-clause-found : goal.returns-in-Some-clause-found
returns-in-Some-clause-found c = λ n kind link es low xs keeps keys all.
    let v = c.args.vid in
    let i = prefix_len (is_below v) es in
    let e : Entry = entry_of c.in-Some.t c.args.page.now in
    let at : found v es ≡ Some e = found_here v low es xs i e keys refl (c.in-Some.ensures.some n kind link i es keeps) c.in-Some.ensures.key in
    let some = there v 0 es e at in
    let loaded = c.load_at.ensures.loaded (found_item v _ es e all at) in
    (loaded.0 ∙ sym (ap is_some some), loaded.1 ∙ sym (ap vertex_or_fresh some))
