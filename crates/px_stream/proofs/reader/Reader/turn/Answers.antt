use Rattle.std.proofs.Common.{◌≡◌, refl, subst, ap, ◌∙◌, List, ℕ, []}
use Rattle.std.proofs.lemmas.Result.{err_from_is_err_and}
use Rattle.px_pages.specs.Page.{tuples_of, left_of}
use Rattle.px_stream.specs.Views.{ReaderView, here_of}
use Rattle.px_stream.proofs.Reading.{turned, view_none}
use Rattle.px_stream.proofs.reader.Reader.turn.Goals as goal

pub returns-clause-to_give : goal.returns-clause-to_give
returns-clause-to_give g c =
    let tuples = c.open-tuples.result in
    let frame = c.read_page.new.frame in
    let all : left_of tuples frame ≡ tuples_of frame = subst (λ (f : List ℕ). left_of tuples f ≡ tuples_of f) c.bytes.ensures c.open-tuples.ensures.tuples in
    let more = c.requires.more in
    let empty = c.requires.empty in
    λ l k. turned _ _ c.args.self.now _ frame l
    (rw (← c.self.view_is) c.in_ok-read_page.ensures.gives) c.in_ok-read_page.ensures.ok.touches more empty
    (rw (← c.self.view_is) refl) (rw (← c.self.view_is) refl) (rw (← c.self.view_is) refl) all k

pub returns-in_err-read_page-clause-same_err : goal.returns-in_err-read_page-clause-same_err
returns-in_err-read_page-clause-same_err g c =
    let r = c.self.inside in
    let is = err_from_is_err_and c.from_residual.result c.from_residual.ensures.1 in
    let none : here_of r.tuples r.frame ≡ [] = ap (λ (v : ReaderView). v.here) c.self.view_is ∙ c.requires.empty in
    rw is.1 (view_none r.file r.page r.pages r.tuples r.frame c.read_page.new.frame c.read_page.ensures.len none ∙ c.self.view_is)
