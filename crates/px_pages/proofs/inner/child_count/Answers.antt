use Rattle.std.proofs.Common.{drop, arith}
use Rattle.std.proofs.lemmas.List.{length-drop}
use Rattle.px_pages.specs.Page.{count_of}
use Rattle.px_pages.proofs.Children.{children_found}
use Rattle.px_pages.proofs.inner.child_count.Goals as goal

pub returns-clause-all : goal.returns-clause-all
returns-clause-all c = λ all.
    let page = c.args.page.now in
    omega (arith, c.min.ensures, c.count.ensures, children_found (count_of page) (drop 32 page) all, length-drop 32 page)
