use Rattle.std.proofs.Common.{◌≡◌, ◌∙◌, sym, ap, subst, List}
use Rattle.std.specs.Prelude.{Some, is_some}
use Rattle.px_meaning.specs.Graph.{vertex_or_fresh}
use Rattle.px_pages.specs.Entry.{Entry}
use Rattle.px_pages.specs.Page.{entry_of}
use Rattle.px_btree.specs.Search.{found}
use Rattle.px_btree.specs.Tree.{AreKeys}
use Rattle.px_btree.proofs.Items.{there, not_there, found_item}
use Rattle.px_btree.proofs.leaf.take_into.Goals as goal

pub returns-in-None-clause-found : goal.returns-in-None-clause-found
returns-in-None-clause-found c = λ es low xs place is keys all.
    let none = not_there c.args.vid es (ap (found c.args.vid) (sym is) ∙ c.in-None.ensures.none low xs place (subst (λ (l : List Entry). AreKeys low l xs) (sym is) keys)) in
    (sym (ap is_some none), ap (λ (v : _). v.vertex) c.reset.ensures ∙ sym (ap vertex_or_fresh none))

pub returns-in-Some-clause-found : goal.returns-in-Some-clause-found
returns-in-Some-clause-found c = λ es low xs place is keys all.
    let e : Entry = entry_of c.in-Some.t c.args.page.now in
    let at : found c.args.vid es ≡ Some e = ap (found c.args.vid) (sym is) ∙ c.in-Some.ensures.some low xs place (subst (λ (l : List Entry). AreKeys low l xs) (sym is) keys) in
    let some = there c.args.vid 0 es e at in
    let loaded = c.load_at.ensures.loaded (found_item c.args.vid _ es e all at) in
    (loaded.0 ∙ sym (ap is_some some), loaded.1 ∙ sym (ap vertex_or_fresh some))
