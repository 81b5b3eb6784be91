use Rattle.std.proofs.Common.{arith, ap, sym, ◌∙◌, refl}
use Rattle.px_stream.specs.Views.{WriterView}
use Rattle.px_core.specs.Counts.{bumped_by}
use Rattle.px_core.proofs.Keeping.{below_by_write}
use Rattle.px_stream.proofs.Writing.{took_flushed}
use Rattle.px_stream.proofs.writer.Writer.flush.Goals as goal

pub returns-clause-took : goal.returns-clause-took
returns-clause-took g c = λ l k.
    let is = c.self.view_is in
    let len = ap (λ (w : WriterView). w.page_len) is ∙ c.requires in
    let here = ap (λ (w : WriterView). w.here) (sym is) in
    let first = ap (λ (w : WriterView). w.first) is in
    let pages = c.saturating_add-pages.ensures ∙ ap (λ (w : WriterView). bumped_by 1 w.pages) is in
    rw c.begin.ensures.after (took_flushed _ _ _ c.args.self.now _ _ c.self.inside.frame l (rw (← is) c.in_ok-write_page.ensures.written) (rw (← is) c.in_ok-write_page.ensures.limit) c.in_ok-write_page.ensures.ok.touches c.self.invariant.0
    len here refl first pages refl k)

pub returns-clause-below : goal.returns-clause-below
returns-clause-below g c =
    let is = c.self.view_is in
    below_by_write _ _ _ c.args.self.now.file c.args.self.now.pages c.args.self.now.pages c.self.inside.frame c.in_ok-write_page.ensures.ok.touches (rw (← is) c.in_ok-write_page.ensures.written) (omega arith)
