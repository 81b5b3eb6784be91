use Rattle.std.proofs.Common.{◌≡◌, refl, length, arith, ◌∙◌, ap, List, ℕ, ◌++◌, take, drop}
use Rattle.std.proofs.lemmas.List.{length-replicate}
use Rattle.byteorder.specs.Endian.{big_bytes}
use Rattle.px_pages.proofs.Writing.{made_start, written_of}
use Rattle.px_pages.proofs.writer.PageWriter.start.Goals as goal

pub returns-clause-written : goal.returns-clause-written
returns-clause-written c =
    let bytes = c.put_counts.ensures ∙ ap (λ (p : List ℕ). take 4 p ++ big_bytes 4 0 ++ big_bytes 4 32 ++ drop 12 p) c.set_kind.ensures in
    let len : length c.put_counts.new.page ≡ length c.args.page.now = omega (arith, c.put_counts.auto.page, c.set_kind.auto.page, ap length c.zero.ensures, length-replicate {A = ℕ} (length c.args.page.now) 0) in
    written_of _ _ _ _ _ (made_start _ c.zero.new.page c.put_counts.new.page (length c.args.page.now) c.args.kind c.requires c.zero.ensures bytes refl refl len)
