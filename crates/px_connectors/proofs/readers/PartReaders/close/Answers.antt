use Rattle.std.proofs.Common.{arith, ◌+◌, ◌∷◌, [], ◌∙◌, ap, length, sym, subst, ℕ}
use Rattle.std.proofs.lemmas.List.{length-append}
use Rattle.px_connectors.specs.Receiving.{OfReader, IsReader}
use Rattle.px_connectors.proofs.ByTurns.{each_front, each_back}
use Rattle.px_connectors.proofs.readers.PartReaders.close.Goals as goal

pub give_back-requires-clause-some : goal.give_back-requires-clause-some
give_back-requires-clause-some c =
    let i = c.loop-reader.invariant in
    let last = each_back (λ p o. OfReader (IsReader c.args.share.now.frame_len) o) c.pop.new.self.items c.loop-reader.readers.items c.in-Some.reader c.in-Some.ensures.items i.are in
    subst (λ (n : ℕ). OfReader (IsReader n) c.in-Some.reader) (sym i.share.frame_len) last

pub loop-reader-preserved : goal.loop-reader-preserved
loop-reader-preserved c =
    let i = c.loop-reader.invariant in
    let items = c.in-Some.ensures.items in
    record {
      share = record { size = c.give_back.ensures.stays.size ∙ i.share.size; frame_len = c.give_back.ensures.stays.frame_len ∙ i.share.frame_len };
      frames = omega (arith, i.frames, ap length items, length-append c.pop.new.self.items (c.in-Some.reader ∷ []), c.give_back.ensures.len);
      within = i.within;
      are = each_front (λ p o. OfReader (IsReader c.args.share.now.frame_len) o) c.pop.new.self.items c.loop-reader.readers.items c.in-Some.reader items i.are;
    }
