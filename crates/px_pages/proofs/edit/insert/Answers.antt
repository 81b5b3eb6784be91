use Rattle.std.proofs.Common.{◌+◌, [], length, take, drop, arith, inl, inr}
use Rattle.std.proofs.lemmas.Bool.{cases_lt}
use Rattle.px_pages.specs.Entry.{entry}
use Rattle.px_pages.specs.Page.{used_of, writer_of}
use Rattle.px_pages.specs.Gap.{FitsIn}
use Rattle.px_pages.specs.declared.edit.Gap.{Gap}
use Rattle.px_pages.proofs.Writing.{made_tuples, length-bytes_of}
use Rattle.px_pages.proofs.Editing.{made_count_of}
use Rattle.px_pages.proofs.Places.{no_room, place_at, place_whole, place_sum, place_count}
use Rattle.px_pages.proofs.edit.insert.Goals as goal

pub returns-then-not-fits-clause-full : goal.returns-then-not-fits-clause-full
returns-then-not-fits-clause-full c = λ none is len kind link es made.
    let page = c.args.page.now in
    let place = c.args.place in
    let n = 13 + length c.args.body.now in
    let end = c.end_of.ensures.made len kind link es made in
    let sum = place_sum place page es (made_tuples (writer_of len es) kind link es page made) is in
    elim (cases_lt len (used_of es + n)) [
      | inl lt ↦ omega (arith, lt)
      | inr ge ↦
          let gap : Gap = record { from = place.at; to = place.at; end = c.end_of.result; len = n } in
          let fits : FitsIn gap (length page) = record {
            from = omega arith;
            to = omega (arith, end, sum);
            within = c.end_of.ensures.within;
            room = omega (arith, end, sum, ge, made.page_len);
          } in
          absurd (no_room c.fits.result (FitsIn gap (length page)) c.fits.ensures c.if-not-fits.true fits)
    ]

pub returns-clause-put : goal.returns-clause-put
returns-clause-put c = λ yes is len kind link es made.
    let page = c.args.page.now in
    let place = c.args.place in
    let found = made_tuples (writer_of len es) kind link es page made in
    let e = entry c.args.key c.args.tag c.args.body.now in
    c.put_into.ensures len kind link es (take place.index es) [] (drop place.index es) made (place_whole place page es found is) (place_at place page es found is) (omega arith)
    (c.end_of.ensures.made len kind link es made)
    (omega (arith, c.saturating_add-tuples.ensures, c.count.ensures, made_count_of len kind link es page made, place_count place page es found is e, length-bytes_of es, made.fits, made.len))
