use Rattle.std.proofs.Common.{arith, ◌≡◌, ◌<◌, ◌≤◌, ◌+◌, ◌*◌, ◌∷◌, [], ◌∙◌, ℕ, ap, length, sym, subst, map}
use Rattle.std.specs.Prelude.{Some}
use Rattle.std.proofs.lemmas.List.{length-append}
use Rattle.px_stream.specs.Stream.{Holds}
use Rattle.px_connectors.specs.Messages.{tagged}
use Rattle.px_connectors.specs.Receiving.{OfReader, IsReader, GivesPairs}
use Rattle.px_connectors.specs.Views.{IsConnectorFile}
use Rattle.px_connectors.proofs.ByTurns.{each_push}
use Rattle.px_connectors.proofs.readers.PartReaders.open.Goals as goal

pub loop-p-preserved : goal.loop-p-preserved
loop-p-preserved c =
    let i = c.loop-p.invariant in
    let p = c.loop-p.p in
    let parts = c.args.parts in
    let len = c.args.share.now.frame_len in
    let before = c.loop-p.readers.items in
    let items = c.push.ensures.items in
    let low : p < parts = c.loop-p-test.true in
    let r = c.start.new.self in
    let file : c.new-reader.result.file ≡ 256 + 16 * p + c.args.receiver = c.new-reader.ensures.file ∙ c.file_from.ensures in
    let own : IsConnectorFile (256 + 16 * p + c.args.receiver) = record { low = omega arith; high = omega (arith, low, c.requires.most, c.requires.receiver) } in
    let mine : IsConnectorFile r.file = subst IsConnectorFile (sym (c.start.ensures.stays.file ∙ file)) own in
    record {
      share = record { size = c.take.ensures.stays.size ∙ i.share.size; frame_len = c.take.ensures.stays.frame_len ∙ i.share.frame_len };
      frames = omega (arith, i.frames, ap length c.take.ensures.frames, length-append c.take.new.self.frames (c.take.result ∷ []));
      count = omega (arith, ap length items, length-append before (Some r ∷ []), i.count);
      gives = λ s ls hold. each_push (λ j o. OfReader (GivesPairs s (ls j)) o) before c.push.new.self.items (Some r) items (i.gives s ls hold)
          (subst (λ (n : ℕ). GivesPairs s (ls n) r) (sym i.count) (record {
            file = mine;
            gives = c.start.ensures.to_give s (map (tagged 0) (ls p)) (subst (λ (f : ℕ). Holds s f c.pages_from.result (map (tagged 0) (ls p))) (sym file)
                (subst (λ (n : ℕ). Holds s (256 + 16 * p + c.args.receiver) n (map (tagged 0) (ls p))) (sym c.pages_from.ensures) (hold.each p low)));
          }));
      are = each_push (λ j o. OfReader (IsReader len) o) before c.push.new.self.items (Some r) items i.are
          (record { file = mine; page_len = c.start.ensures.stays.page_len ∙ c.new-reader.ensures.page_len ∙ c.take.ensures.len ∙ i.share.frame_len });
    }
