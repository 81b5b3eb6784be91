use Rattle.std.proofs.Common.{◌∙◌, ◌<◌, ap, sym, length, ℕ, arith}
use Rattle.std.proofs.lemmas.Option.{slice_get-get_or, slice_get-map}
use Rattle.std.specs.Prelude.{Option, Some}
use Rattle.std.specs.Option.{option_map}
use Rattle.px_cache.specs.declared.note.Note.{Note}
use Rattle.px_cache.specs.Note.{unpacked}
use Rattle.px_cache.proofs.note.note_at.Goals as goal

pub returns-clause-note : goal.returns-clause-note
returns-clause-note c =
    let notes = c.args.share.now.notes in
    let d : ℕ × ℕ = (0, 0) in
    let lt : c.args.i < length notes = omega (arith, c.requires.at, c.requires.full, c.size-size.ensures.share.places) in
    slice_get-map unpacked notes c.args.i ∙ ap (λ (o : Option (ℕ × ℕ)). option_map unpacked o) (slice_get-get_or notes c.args.i d lt)
    ∙ ap (λ (n : Note). Some n) (ap unpacked (sym (c.note.ensures.value d)) ∙ sym c.unpack.ensures)
