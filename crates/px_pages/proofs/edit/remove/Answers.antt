use Rattle.std.proofs.Common.{◌≡◌, ◌+◌, ◌∷◌, suc, [], length, take, drop, arith}
use Rattle.std.specs.List.{remove}
use Rattle.px_pages.specs.Page.{IsMade, entry_of, writer_of}
use Rattle.px_pages.specs.Gap.{FitsIn}
use Rattle.px_pages.specs.declared.edit.Gap.{Gap}
use Rattle.px_pages.proofs.Writing.{made_tuples}
use Rattle.px_pages.proofs.Editing.{made_count_of}
use Rattle.px_pages.proofs.Places.{place_at, place_within, place_tuple, place_size, place_after, length-remove, some_of, size_is}
use Rattle.px_pages.proofs.edit.remove.Goals as goal

pub returns : goal.returns
returns c = λ is len kind link es made.
    let page = c.args.page.now in
    let place = c.args.place in
    let found = made_tuples (writer_of len es) kind link es page made in
    let end = c.end_of.ensures.made len kind link es made in
    some_of place.tuple (IsMade (writer_of len (remove es place.index)) kind link (remove es place.index) c.take_out.new.page) c.requires.some (λ t tuple.
    let size : c.size_at.result ≡ 13 + t.len = size_is place.tuple t tuple c.size_at.result c.size_at.ensures.size in
    let one = place_size place page es found is t tuple in
    let after = place_after place page es found is t tuple in
    let gap : Gap = record { from = place.at; to = place.at + c.size_at.result; end = c.end_of.result; len = 0 } in
    let fits : FitsIn gap (length page) = record {
      from = omega arith;
      to = omega (arith, end, size, after);
      within = c.end_of.ensures.within;
      room = omega (arith, end, size, after, c.end_of.ensures.within);
    } in
    c.take_out.ensures fits len kind link es (take place.index es) (entry_of t page ∷ []) (drop (suc place.index) es) made (place_tuple place page es found is t tuple) (place_at place page es found is) (omega (arith, size, one)) end
    (omega (arith, c.saturating_sub-tuples.ensures, c.count.ensures, made_count_of len kind link es page made, length-remove place.index es (place_within place page es found is t tuple))))
