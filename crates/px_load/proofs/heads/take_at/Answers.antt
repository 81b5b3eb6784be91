use Rattle.std.proofs.Common.{arith, ◌≡◌, ◌+◌, length, get_or}
use Rattle.std.specs.Prelude.{Some, slice_get}
use Rattle.std.proofs.lemmas.Option.{slice_get-get_or}
use Rattle.std.proofs.lemmas.Result.{err_from_is_err_and}
use Rattle.px_core.specs.Shown.{Only}
use Rattle.px_core.specs.declared.stop.Stop.TheVariants as stops
use Rattle.px_core.proofs.Steps.{broke_more}
use Rattle.px_core.specs.Parts.{to_part}
use Rattle.px_load.specs.Dumping.{IsDumpFile}
use Rattle.px_load.specs.Heads.{OfReader, ReadsPart}
use Rattle.px_load.proofs.HeadsSteps.{taken_at, left_falls, each_change, some_reader, reader_more}
use Rattle.px_load.proofs.ScanningSteps.{own_file}
use Rattle.px_load.proofs.heads.take_at.Goals as goal

pub take-requires-clause-page_len : goal.take-requires-clause-page_len
take-requires-clause-page_len g c =
    let ps = c.args.readers.now in
    let q = c.args.q in
    let p = get_or ps q c.index-readers-q.result in
    let here : slice_get ps q ≡ Some p = slice_get-get_or ps q c.index-readers-q.result c.requires.at in
    let len = (g.D.Disk.shown c.args.disk.now).page_len in
    some_reader (λ r. r.page_len ≡ len) p.reader (reader_more (ReadsPart (192 + q) len) (λ r. r.page_len ≡ len) p.reader (λ r h. h.page_len) (c.requires.are q p here))

pub returns-clause-over : goal.returns-clause-over
returns-clause-over g c = λ false k looked.
    let ps = c.args.readers.now in
    let q = c.args.q in
    let p = get_or ps q c.index-readers-q.result in
    let here : slice_get ps q ≡ Some p = slice_get-get_or ps q c.index-readers-q.result c.requires.at in
    c.in_ok-more.ensures.over false (to_part (length ps) q k) (looked q p here)

pub returns-clause-took : goal.returns-clause-took
returns-clause-took g c = λ true k looked.
    let ps = c.args.readers.now in
    let q = c.args.q in
    let p = get_or ps q c.index-readers-q.result in
    let here : slice_get ps q ≡ Some p = slice_get-get_or ps q c.index-readers-q.result c.requires.at in
    taken_at _ _ c.args.v.now.room q _ _ ps p c.take.new.self k c.in_ok-more.ensures.ok.touches here c.requires.at (c.in_ok-more.ensures.took true) looked

pub returns-clause-falls : goal.returns-clause-falls
returns-clause-falls g c = λ true.
    let ps = c.args.readers.now in
    let q = c.args.q in
    let p = get_or ps q c.index-readers-q.result in
    let here : slice_get ps q ≡ Some p = slice_get-get_or ps q c.index-readers-q.result c.requires.at in
    left_falls q ps p c.take.new.self here (c.in_ok-more.ensures.falls true)

pub returns-clause-are : goal.returns-clause-are
returns-clause-are g c =
    let ps = c.args.readers.now in
    let q = c.args.q in
    let p = get_or ps q c.index-readers-q.result in
    let here : slice_get ps q ≡ Some p = slice_get-get_or ps q c.index-readers-q.result c.requires.at in
    let len = (g.D.Disk.shown c.args.disk.now).page_len in
    each_change (λ j z. OfReader (ReadsPart (192 + j) len) z.reader) ps q c.take.new.self c.requires.at (c.take.ensures.stays (192 + q) len (c.requires.are q p here)) (λ j z other at. c.requires.are j z at)

pub returns-in_err-more-clause-are : goal.returns-in_err-more-clause-are
returns-in_err-more-clause-are g c =
    let ps = c.args.readers.now in
    let q = c.args.q in
    let p = get_or ps q c.index-readers-q.result in
    let here : slice_get ps q ≡ Some p = slice_get-get_or ps q c.index-readers-q.result c.requires.at in
    let len = (g.D.Disk.shown c.args.disk.now).page_len in
    each_change (λ j z. OfReader (ReadsPart (192 + j) len) z.reader) ps q c.take.new.self c.requires.at (c.take.ensures.stays (192 + q) len (c.requires.are q p here)) (λ j z other at. c.requires.are j z at)

pub returns-in_err-more-clause-err : goal.returns-in_err-more-clause-err
returns-in_err-more-clause-err g c =
    let end = err_from_is_err_and c.from_residual.result c.from_residual.ensures.1 in
    let ps = c.args.readers.now in
    let q = c.args.q in
    let p = get_or ps q c.index-readers-q.result in
    let here : slice_get ps q ≡ Some p = slice_get-get_or ps q c.index-readers-q.result c.requires.at in
    let len = (g.D.Disk.shown c.args.disk.now).page_len in
    let stop : end.0 ≡ c.in_err-more.field-0.0 = cc in
    rw (end.1, stop) (broke_more stops.Scratch (Only (192 + q)) IsDumpFile _ _ _ (own_file q (omega (arith, c.requires.at, c.requires.most))) (c.in_err-more.ensures.err (192 + q) len (c.requires.are q p here)))
