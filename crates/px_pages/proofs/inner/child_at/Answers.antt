use Rattle.std.proofs.Common.{◌<◌, ◌+◌, ◌*◌, drop, length, arith}
use Rattle.std.proofs.lemmas.List.{take_rest, length-drop}
use Rattle.px_pages.specs.Page.{tuples_of, count_of}
use Rattle.px_pages.proofs.Children.{child_read, children_found}
use Rattle.px_pages.proofs.inner.child_at.Goals as goal

pub returns : goal.returns
returns c = λ all d.
    let page = c.args.page.now in
    let i = c.args.index in
    let in_range : i < length (tuples_of page) = omega (arith, c.requires.in_range, children_found (count_of page) (drop 32 page) all, length-drop 32 page) in
    child_read page _ _ i c.read_u64.result c.read_u64-2.result d all in_range (take_rest page (32 + 21 * i)) (take_rest page (32 + 21 * i + 13)) c.read_u64.ensures c.read_u64-2.ensures
