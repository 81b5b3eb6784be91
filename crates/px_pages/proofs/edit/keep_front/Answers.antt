use Rattle.std.proofs.Common.{◌≡◌, ◌++◌, ◌∙◌, ap, sym, subst, List, [], length, take, drop, arith}
use Rattle.std.proofs.lemmas.List.{append-nil, length-append, length-take-le}
use Rattle.px_pages.specs.Entry.{Entry}
use Rattle.px_pages.specs.Page.{IsMade, writer_of}
use Rattle.px_pages.specs.Gap.{FitsIn}
use Rattle.px_pages.specs.declared.edit.Gap.{Gap}
use Rattle.px_pages.proofs.Writing.{made_tuples}
use Rattle.px_pages.proofs.Places.{place_in, place_at, place_whole, place_sum}
use Rattle.px_pages.proofs.edit.keep_front.Goals as goal

pub returns : goal.returns
returns c = λ is len kind link es made.
    let page = c.args.page.now in
    let place = c.args.place in
    let found = made_tuples (writer_of len es) kind link es page made in
    let end = c.end_of-end.ensures.made len kind link es made in
    let sum = place_sum place page es found is in
    let gap : Gap = record { from = place.at; to = c.end_of-end.result; end = c.end_of-end.result; len = 0 } in
    let fits : FitsIn gap (length page) = record {
      from = omega (arith, end, sum);
      to = omega arith;
      within = c.end_of-end.ensures.within;
      room = omega (arith, end, sum, c.end_of-end.ensures.within);
    } in
    let front = take place.index es in
    let whole : es ≡ front ++ (drop place.index es ++ []) = place_whole place page es found is ∙ ap (λ (l : List Entry). front ++ l) (sym (append-nil (drop place.index es))) in
    subst (λ (l : List Entry). IsMade (writer_of len l) kind link l c.take_out.new.page) (append-nil front)
    (c.take_out.ensures fits len kind link es front (drop place.index es) [] made whole (place_at place page es found is) (omega (arith, end, sum)) end
    (omega (arith, length-append front [], length-take-le place.index es (place_in place page es found is))))
