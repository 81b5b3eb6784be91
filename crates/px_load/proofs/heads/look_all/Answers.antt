use Rattle.std.proofs.Common.{rules, arith, ◌≡◌, ◌<◌, ◌+◌, ◌∙◌, ℕ, sym, length, get_or}
use Rattle.std.specs.Prelude.{Some, slice_get}
use Rattle.std.proofs.lemmas.List.{length-set}
use Rattle.std.proofs.lemmas.Option.{slice_get-get_or}
use Rattle.std.proofs.lemmas.Result.{err_from_is_err_and}
use Rattle.px_core.specs.Shown.{NoFile, Only}
use Rattle.px_core.specs.declared.stop.Stop.TheVariants as stops
use Rattle.px_core.proofs.Steps.{clean_more, broke_more, broke_after}
use Rattle.px_load.specs.Dumping.{IsDumpFile}
use Rattle.px_load.specs.Heads.{OfReader, ReadsPart}
use Rattle.px_load.proofs.HeadsSteps.{looking_first, looking_next, looking_last, each_change, some_reader, reader_more}
use Rattle.px_load.proofs.ScanningSteps.{own_file}
use Rattle.px_load.proofs.heads.look_all.Goals as goal

pub loop-q-init : goal.loop-q-init
loop-q-init g c = record {
  looking = λ room k give. looking_first _ room _ k give;
  end = search rules;
  count = search rules;
  clean = search rules;
  are = search rules;
}

pub look-requires : goal.look-requires
look-requires g c =
    let i = c.loop-q.invariant in
    let ps = c.loop-q.readers in
    let q = c.loop-q.q in
    let p = get_or ps q c.index-readers-q.result in
    let low : q < length ps = omega (arith, c.loop-q-test.true, i.end, i.count) in
    let here : slice_get ps q ≡ Some p = slice_get-get_or ps q c.index-readers-q.result low in
    let len = (g.D.Disk.shown c.loop-q.disk).page_len in
    record { page_len = some_reader (λ r. r.page_len ≡ len) p.reader (reader_more (ReadsPart (192 + q) (g.D.Disk.shown c.args.disk.now).page_len) (λ r. r.page_len ≡ len) p.reader (λ r h. h.page_len ∙ sym i.clean.touches.page_len) (i.are q p here)) }

pub loop-q-preserved : goal.loop-q-preserved
loop-q-preserved g c =
    let i = c.loop-q.invariant in
    let ps = c.loop-q.readers in
    let q = c.loop-q.q in
    let p = get_or ps q c.index-readers-q.result in
    let low : q < length ps = omega (arith, c.loop-q-test.true, i.end, i.count) in
    let here : slice_get ps q ≡ Some p = slice_get-get_or ps q c.index-readers-q.result low in
    let len = (g.D.Disk.shown c.args.disk.now).page_len in
    record {
      looking = λ room k give. looking_next _ _ room q ps p c.look.new.self k c.in_ok-look.ensures.ok.touches here low (c.in_ok-look.ensures.looked room) (i.looking room k give);
      end = search rules;
      count = length-set ps q c.look.new.self ∙ i.count;
      clean = search rules;
      are = each_change (λ j z. OfReader (ReadsPart (192 + j) len) z.reader) ps q c.look.new.self low (c.look.ensures.stays (192 + q) len (i.are q p here)) (λ j z other at. i.are j z at);
    }

pub returns-clause-looked : goal.returns-clause-looked
returns-clause-looked g c = λ room k give.
    let i = c.loop-q.invariant in
    looking_last _ room c.loop-q.q c.loop-q.readers k (omega (arith, c.loop-q-test.false, i.end, i.count)) (i.looking room k give)

no_file : (f : ℕ) → NoFile f → IsDumpFile f
no_file f none = absurd none

pub returns-in_err-look-clause-err : goal.returns-in_err-look-clause-err
returns-in_err-look-clause-err g c =
    let end = err_from_is_err_and c.from_residual.result c.from_residual.ensures.1 in
    let i = c.loop-q.invariant in
    let ps = c.loop-q.readers in
    let q = c.loop-q.q in
    let p = get_or ps q c.index-readers-q.result in
    let low : q < length ps = omega (arith, c.loop-q-test.true, i.end, i.count) in
    let here : slice_get ps q ≡ Some p = slice_get-get_or ps q c.index-readers-q.result low in
    let len = (g.D.Disk.shown c.args.disk.now).page_len in
    let stop : end.0 ≡ c.in_err-look.field-0.0 = cc in
    rw (end.1, stop) (broke_after stops.Scratch IsDumpFile _ _ _ _ (clean_more NoFile IsDumpFile _ _ no_file i.clean)
    (broke_more stops.Scratch (Only (192 + q)) IsDumpFile _ _ _ (own_file q (omega (arith, low, i.count, c.requires.most))) (c.in_err-look.ensures.err (192 + q) len (i.are q p here))))

pub returns-in_err-look-clause-are : goal.returns-in_err-look-clause-are
returns-in_err-look-clause-are g c =
    let i = c.loop-q.invariant in
    let ps = c.loop-q.readers in
    let q = c.loop-q.q in
    let p = get_or ps q c.index-readers-q.result in
    let low : q < length ps = omega (arith, c.loop-q-test.true, i.end, i.count) in
    let here : slice_get ps q ≡ Some p = slice_get-get_or ps q c.index-readers-q.result low in
    let len = (g.D.Disk.shown c.args.disk.now).page_len in
    each_change (λ j z. OfReader (ReadsPart (192 + j) len) z.reader) ps q c.look.new.self low (c.look.ensures.stays (192 + q) len (i.are q p here)) (λ j z other at. i.are j z at)

pub returns-in_err-look-clause-count : goal.returns-in_err-look-clause-count
returns-in_err-look-clause-count g c = length-set c.loop-q.readers c.loop-q.q c.look.new.self ∙ c.loop-q.invariant.count
