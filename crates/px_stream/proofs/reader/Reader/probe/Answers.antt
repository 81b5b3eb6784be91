use Rattle.std.proofs.Common.{◌≡◌, ◌∷◌, List, ℕ, subst}
use Rattle.px_pages.specs.Page.{entry_of}
use Rattle.px_stream.specs.Views.{here_of}
use Rattle.px_stream.proofs.Reading.{first_is}
use Rattle.px_stream.proofs.reader.Reader.probe.Goals as goal

pub returns-in-Some-clause-some : goal.returns-in-Some-clause-some
returns-in-Some-clause-some c =
    let frame = c.self.inside.frame in
    let found = c.in-Some.found in
    let before = c.self.inside.tuples in
    let after = c.next_in.new.tuples in
    let first : here_of before frame ≡ entry_of found frame ∷ here_of after frame =
    subst (λ (f : List ℕ). here_of before f ≡ entry_of found f ∷ here_of after f) c.bytes.ensures c.in-Some.ensures.some in
    rw (← c.self.view_is) (record { rest = here_of after frame; is = first_is _ _ _ _ _ first })
