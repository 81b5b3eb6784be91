use Rattle.std.proofs.Common.{◌≡◌, ◌≤◌, ℕ, ◌+◌, ◌-◌, ◌∷◌, take, drop, length, get_or, ◌∙◌, ap, sym, arith}
use Rattle.std.proofs.lemmas.List.{take_rest, length-drop}
use Rattle.px_pages.specs.Entry.{entry, entries_in}
use Rattle.px_pages.specs.Page.{PageReaderView, left_of}
use Rattle.px_pages.proofs.Reading.{next_entry, entries_none}
use Rattle.px_pages.proofs.reader.PageReader.next.Goals as goal
use Rattle.px_pages.proofs.reader.PageReader.next.Goals.{then-self-eq0-via-then-self-eq0, then-self-eq0-via-else-self-eq0+then-page-at}

pub returns-then-self-eq0-clause-none : goal.returns-then-self-eq0-clause-none
returns-then-self-eq0-clause-none c =
    let was = ap (λ (v : PageReaderView). left_of v c.args.page.now) (sym c.self.view_is) in
    elim c.then-self-eq0.branch [
      | then-self-eq0-via-then-self-eq0 w ↦ was ∙ ap (λ (n : ℕ). entries_in n (drop c.self.inside.at c.args.page.now)) w.if-self-eq0.true
      | then-self-eq0-via-else-self-eq0+then-page-at w ↦ was ∙ entries_none c.self.inside.left _ (omega (arith, length-drop c.self.inside.at c.args.page.now))
    ]

pub returns-clause-some : goal.returns-clause-some
returns-clause-some c =
    let page = c.args.page.now in
    let at = c.self.inside.at in
    let rest = take (length page - at) (drop at page) in
    let is : rest ≡ drop at page = take_rest page at in
    let room : 13 ≤ length rest = omega (arith, ap length is, length-drop at page) in
    ap (λ (v : PageReaderView). left_of v page) (sym c.self.view_is)
    ∙ next_entry c.self.inside.left at c.min-len.result c.read_u32-written.result page rest is c.if-self-eq0.false room c.read_u32-written.ensures c.min-len.ensures
    ∙ ap (λ (k : ℕ). entry k (get_or rest 8 0) (take c.min-len.result (drop (at + 13) page)) ∷ entries_in (c.self.inside.left - 1) (drop (at + 13 + c.min-len.result) page)) (sym c.read_u64-key.ensures)
