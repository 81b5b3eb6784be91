use Rattle.std.proofs.Common.{arith, ◌<◌, ◌+◌, ◌∷◌, [], ◌∙◌, ℕ, ap, length, sym, subst}
use Rattle.std.specs.Prelude.{Some, None, slice_index_or}
use Rattle.std.proofs.lemmas.List.{length-append}
use Rattle.px_core.specs.Parts.{to_part}
use Rattle.px_stream.specs.Stream.{Holds}
use Rattle.px_load.specs.Heads.{OfReader, ReadsPart, GivesVertices}
use Rattle.px_load.specs.declared.heads.PartReader.{PartReader}
use Rattle.px_load.proofs.HeadsSteps.{each_push, opened}
use Rattle.px_load.proofs.heads.open_all.Goals as goal

pub loop-q-preserved : goal.loop-q-preserved
loop-q-preserved c =
    let i = c.loop-q.invariant in
    let q = c.loop-q.q in
    let parts = c.args.parts in
    let len = c.args.share.now.frame_len in
    let before = c.loop-q.readers.items in
    let items = c.push.ensures.items in
    let low : q < parts = c.loop-q-test.true in
    let part : PartReader = record { reader = Some c.start.new.self; head = None } in
    let file = c.new-reader.ensures.file in
    record {
      share = record { size = c.take.ensures.stays.size ∙ i.share.size; frame_len = c.take.ensures.stays.frame_len ∙ i.share.frame_len };
      frames = omega (arith, i.frames, ap length c.take.ensures.frames, length-append c.take.new.self.frames (c.take.result ∷ []));
      within = i.within;
      count = omega (arith, ap length items, length-append before (part ∷ []), i.count);
      gives = λ s room k hold. each_push (λ j p. GivesVertices s room p (to_part parts j k)) before c.push.new.self.items part items (i.gives s room k hold)
          (subst (λ (n : ℕ). GivesVertices s room part (to_part parts n k)) (sym i.count)
          (opened s room (192 + q) (slice_index_or c.args.pages.now q 0) c.start.new.self (to_part parts q k) (λ es h. c.start.ensures.to_give s es (subst (λ (f : ℕ). Holds s f (slice_index_or c.args.pages.now q 0) es) (sym file) h)) (hold.each q low)));
      are = each_push (λ j p. OfReader (ReadsPart (192 + j) len) p.reader) before c.push.new.self.items part items i.are
          (subst (λ (n : ℕ). OfReader (ReadsPart (192 + n) len) part.reader) (sym i.count)
          (record { file_is = c.start.ensures.stays.file ∙ file; page_len = c.start.ensures.stays.page_len ∙ c.new-reader.ensures.page_len ∙ c.take.ensures.len ∙ i.share.frame_len }));
    }
