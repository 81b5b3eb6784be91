use Rattle.std.proofs.Common.{◌≡◌, ◌∙◌, sym, subst, ap, length, ◌∷◌, [], arith, ℕ}
use Rattle.std.proofs.lemmas.List.{length-append}
use Rattle.px_connectors.specs.Writers.{OfWriter}
use Rattle.px_connectors.proofs.Parting.{each_init, each_last}
use Rattle.px_connectors.proofs.writers.PartWriters.close.Goals as goal

pub give_back-requires-clause-some : goal.give_back-requires-clause-some
give_back-requires-clause-some c =
    let i = c.loop-writer.invariant in
    let all = each_last (λ q w. w.page_len ≡ c.args.self.frame_len) c.loop-writer.writers.items c.pop.new.self.items c.in-Some.writer c.in-Some.ensures.items i.each in
    subst (λ (n : ℕ). OfWriter (λ w. w.page_len ≡ n) c.in-Some.writer) (i.len ∙ sym i.share.frame_len) all

pub loop-writer-preserved : goal.loop-writer-preserved
loop-writer-preserved c =
    let i = c.loop-writer.invariant in
    let items = c.in-Some.ensures.items in
    record {
      share = record { size = c.give_back.ensures.stays.size ∙ i.share.size; frame_len = c.give_back.ensures.stays.frame_len ∙ i.share.frame_len };
      frames = omega (arith, i.frames, ap length items, length-append c.pop.new.self.items (c.in-Some.writer ∷ []), c.give_back.ensures.len);
      within = i.within;
      len = i.len;
      each = each_init (λ q w. w.page_len ≡ c.args.self.frame_len) c.loop-writer.writers.items c.pop.new.self.items c.in-Some.writer items i.each;
    }
