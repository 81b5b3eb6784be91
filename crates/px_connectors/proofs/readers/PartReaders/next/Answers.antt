use Rattle.std.proofs.Common.{◌≡◌, ◌<◌, ◌∙◌, ℕ, List, [], ap, length, subst}
use Rattle.std.specs.Prelude.{Option, IfSome, IfNone}
use Rattle.px_frames.proofs.Slots.{refill_same}
use Rattle.px_meaning.specs.Merge.{Pairs}
use Rattle.px_program.specs.Groups.{LeadsPair}
use Rattle.px_stream.specs.Views.{ReaderView}
use Rattle.px_connectors.specs.Receiving.{GiveAll}
use Rattle.px_connectors.specs.Views.{at}
use Rattle.px_connectors.proofs.readers.PartReaders.next.Goals as goal

pub returns-clause-some : goal.returns-clause-some
returns-clause-some g c =
    let rs = c.args.self.now.readers.items in
    let value = c.deref_mut.ensures.value in
    let long : length c.next_of.new.readers ≡ length rs = c.next_of.ensures.count ∙ ap length value in
    let s = g.D.Disk.shown c.args.disk.now in
    let t = g.D.Disk.shown c.next_of.new.disk in
    rw (refill_same rs c.next_of.new.readers long)
    (subst (λ (xs : List (Option ReaderView)). IfSome c.in_ok-vid.vid (λ v. (ls : ℕ → Pairs) → GiveAll s xs ls
    → (p : ℕ) × (p < length xs) × LeadsPair v c.next_of.new.into.bytes (ls p) (λ l. GiveAll t c.next_of.new.readers (at p l ls)))) value c.in_ok-vid.ensures.some)

pub returns-clause-none : goal.returns-clause-none
returns-clause-none g c =
    let s = g.D.Disk.shown c.args.disk.now in
    subst (λ (xs : List (Option ReaderView)). IfNone c.in_ok-vid.vid ((ls : ℕ → Pairs) → GiveAll s xs ls → (p : ℕ) → p < length xs → ls p ≡ [])) c.deref_mut.ensures.value c.in_ok-vid.ensures.none
