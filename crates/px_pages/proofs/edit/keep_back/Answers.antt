use Rattle.std.proofs.Common.{refl, [], length, take, drop, arith}
use Rattle.std.proofs.lemmas.List.{length-drop}
use Rattle.px_pages.specs.Page.{writer_of}
use Rattle.px_pages.specs.Gap.{FitsIn}
use Rattle.px_pages.specs.declared.edit.Gap.{Gap}
use Rattle.px_pages.proofs.Writing.{made_tuples}
use Rattle.px_pages.proofs.Editing.{made_count_of}
use Rattle.px_pages.proofs.Places.{place_at, place_whole, place_sum}
use Rattle.px_pages.proofs.edit.keep_back.Goals as goal

pub returns : goal.returns
returns c = λ is len kind link es made.
    let page = c.args.page.now in
    let place = c.args.place in
    let found = made_tuples (writer_of len es) kind link es page made in
    let end = c.end_of.ensures.made len kind link es made in
    let sum = place_sum place page es found is in
    let at = place_at place page es found is in
    let gap : Gap = record { from = 32; to = place.at; end = c.end_of.result; len = 0 } in
    let fits : FitsIn gap (length page) = record {
      from = omega (arith, at);
      to = omega (arith, end, sum);
      within = c.end_of.ensures.within;
      room = omega (arith, end, sum, at, c.end_of.ensures.within);
    } in
    c.take_out.ensures fits len kind link es [] (take place.index es) (drop place.index es) made (place_whole place page es found is) refl at end
    (omega (arith, c.saturating_sub-tuples.ensures, c.count.ensures, made_count_of len kind link es page made, length-drop place.index es))
