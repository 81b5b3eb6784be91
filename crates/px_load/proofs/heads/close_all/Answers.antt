use Rattle.std.proofs.Common.{arith, ◌+◌, ◌∷◌, [], ◌∙◌, ap, length, sym}
use Rattle.std.proofs.lemmas.List.{length-append}
use Rattle.px_load.specs.Heads.{OfReader, ReadsPart}
use Rattle.px_load.proofs.HeadsSteps.{each_front, each_last, reader_more}
use Rattle.px_load.proofs.heads.close_all.Goals as goal

pub give_back-requires-clause-some : goal.give_back-requires-clause-some
give_back-requires-clause-some c =
    let i = c.loop-part.invariant in
    let len = c.args.share.now.frame_len in
    let last = each_last (λ q p. OfReader (ReadsPart (192 + q) len) p.reader) c.pop.new.self.items c.loop-part.readers.items c.in-Some.part c.in-Some.ensures.items i.are in
    reader_more _ _ c.in-Some.part.reader (λ r h. h.page_len ∙ sym i.share.frame_len) last

pub loop-part-preserved : goal.loop-part-preserved
loop-part-preserved c =
    let i = c.loop-part.invariant in
    let items = c.in-Some.ensures.items in
    let len = c.args.share.now.frame_len in
    record {
      share = record { size = c.give_back.ensures.stays.size ∙ i.share.size; frame_len = c.give_back.ensures.stays.frame_len ∙ i.share.frame_len };
      frames = omega (arith, i.frames, ap length items, length-append c.pop.new.self.items (c.in-Some.part ∷ []), c.give_back.ensures.len);
      within = i.within;
      are = each_front (λ q p. OfReader (ReadsPart (192 + q) len) p.reader) c.pop.new.self.items c.loop-part.readers.items c.in-Some.part items i.are;
    }
