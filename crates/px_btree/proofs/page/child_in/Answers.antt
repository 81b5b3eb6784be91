use Rattle.std.proofs.Common.{◌≡◌, ◌-◌, ◌∙◌, suc, ap, sym, [], arith}
use Rattle.std.specs.List.{prefix_len}
use Rattle.px_pages.specs.Entry.{Entry, entry}
use Rattle.px_pages.specs.Page.{tuples_of}
use Rattle.px_pages.specs.Children.{is_up_to}
use Rattle.px_pages.specs.declared.inner.Child.{Child}
use Rattle.px_btree.proofs.Places.{chosen_none, chosen_some}
use Rattle.px_btree.proofs.page.child_in.Goals as goal

pub returns-then-n-eq0 : goal.returns-then-n-eq0
returns-then-n-eq0 c = λ is.
    let ts = tuples_of c.args.page.now in
    let up = c.children_to-n.ensures.value is.children is.ascending in
    sym (chosen_none c.args.vid 0 ts (sym up ∙ c.if-n-eq0.true))

pub returns : goal.returns
returns c = λ is.
    let ts = tuples_of c.args.page.now in
    let n = c.children_to-n.result in
    let d : Entry = entry 0 0 [] in
    let up = c.children_to-n.ensures.value is.children is.ascending in
    let some : prefix_len (is_up_to c.args.vid) ts ≡ suc (n - 1) = omega (arith, up, c.if-n-eq0.false) in
    ap (λ (x : Child). x.page) (c.child_at.ensures is.children d) ∙ sym (chosen_some c.args.vid 0 (n - 1) ts d some)
