-- A plain connector sends or receives, and what its finished senders sent stays.
use Rattle.std.proofs.Common.{◌≡◌, ◌≢◌, ◌<◌, ◌≤◌, ℕ, ◌+◌, ◌*◌, List, [], sym, ◌∙◌, subst, refl, arith, inl, inr, length}
use Rattle.std.specs.Prelude.{Option, Some, None, IfSome, IfNone, slice_index_or, slice_set}
use Rattle.std.proofs.lemmas.List.{get_or-set_same}
use Rattle.px_core.specs.Same.{Same}
use Rattle.px_core.specs.Shown.{Shown, Touches}
use Rattle.px_core.proofs.Keeping.{same_by_touches}
use Rattle.px_meaning.specs.Merge.{Pairs}
use Rattle.px_program.specs.Groups.{LeadsPair, GroupMade, IsOwn}
use Rattle.px_connectors.specs.Files.{OwnOr}
use Rattle.px_connectors.specs.Frames.{hold_parts_same}
use Rattle.px_connectors.specs.Receiving.{GiveAll, all_left}
use Rattle.px_connectors.specs.Sides.{PartitioningView, OfWriters, OfReaders, AreSending, AreReceiving, OnOneSide, HasSent, left_to_give}
use Rattle.px_connectors.specs.Views.{IsSenderFile, IsConnectorFile, at}
use Rattle.px_connectors.specs.Writers.{WritersView, HoldParts}
use Rattle.px_connectors.specs.declared.readers.PartReaders.{PartReaders}

pub sender_file : (p : ℕ) → p < 16 → (f : ℕ) → IsSenderFile p f → IsConnectorFile f
sender_file p lt f a = record { low = omega (arith, a.low); high = omega (arith, a.high, lt) }

-- what a sender sent stays where its files do, and the numbers of their pages
pub sent_kept : (c d : PartitioningView) (s t : Shown) (p : ℕ) (l : Pairs) → d.parts ≡ c.parts → slice_index_or d.pages p [] ≡ slice_index_or c.pages p [] → Same (IsSenderFile p) s t → HasSent c s p l → HasSent d t p l
sent_kept c d s t p l parts row same sent =
    let held = hold_parts_same s t 0 (256 + 16 * p) c.parts (slice_index_or c.pages p []) l same sent.holds in
    record {
      below = subst (λ (n : ℕ). p < n) (sym parts) sent.below;
      holds = subst (λ (n : ℕ). HoldParts t 0 (256 + 16 * p) n (slice_index_or d.pages p []) l) (sym parts)
          (subst (λ (r : List ℕ). HoldParts t 0 (256 + 16 * p) c.parts r l) (sym row) held);
    }

-- files are changed that are of no sender
pub sent_beside : (mine : ℕ → Type 0) (c d : PartitioningView) (s t : Shown) (p : ℕ) (l : Pairs) → c.parts ≤ 16 → ((f : ℕ) → mine f → IsConnectorFile f → ⊥) → d.parts ≡ c.parts → slice_index_or d.pages p [] ≡ slice_index_or c.pages p [] → Touches mine s t
    → HasSent c s p l → HasSent d t p l
sent_beside mine c d s t p l most apart parts row touches sent =
    sent_kept c d s t p l parts row (same_by_touches (IsSenderFile p) mine s t (λ f is own. apart f own (sender_file p (omega (arith, most, sent.below)) f is)) touches) sent

-- neither a group's files nor another one are of a sender
pub own_or_apart : (made now : GroupMade) (file : ℕ) → now ≡ made → ((f : ℕ) → IsOwn made f → IsConnectorFile f → ⊥) → (IsConnectorFile file → ⊥) → (f : ℕ) → OwnOr now file f → IsConnectorFile f → ⊥
own_or_apart made now file stays apart other f (inl own) is = apart f (subst (λ m. IsOwn m f) stays own) is
own_or_apart made now file stays apart other f (inr e) is = other (subst IsConnectorFile e is)

-- the sender is finished, and the numbers of pages of its files are kept in its row
pub sent_now : (d : PartitioningView) (first parts sender p : ℕ) (rows : List (List ℕ)) (row : List ℕ) (t : Shown) (l : Pairs) → p ≡ sender → sender < d.parts → sender < length rows → first ≡ 256 + 16 * sender → parts ≡ d.parts → d.pages ≡ slice_set rows sender row
    → HoldParts t 0 first parts row l → HasSent d t p l
sent_now d first parts sender p rows row t l is below low first_is parts_are pages holds = rw is (record {
  below = below;
  holds =
      let here = subst (λ (f : ℕ). HoldParts t 0 f parts row l) first_is holds in
      let all = subst (λ (n : ℕ). HoldParts t 0 (256 + 16 * sender) n row l) parts_are here in
      rw pages (subst (λ (r : List ℕ). HoldParts t 0 (256 + 16 * sender) d.parts r l) (sym (get_or-set_same rows sender row [] low)) all);
})

-- writers that are there
pub writers_is : (P : WritersView → Type 0) (o : Option WritersView) (w : WritersView) → o ≡ Some w → OfWriters P o → P w
writers_is P None w is h = absurd h
writers_is P (Some x) w is h = let same : x ≡ w = cc in subst P same h

pub writers_if : (P : WritersView → Type 0) (o : Option WritersView) (w : WritersView) → o ≡ Some w → IfSome o P → P w
writers_if P None w is h = absurd (cc is)
writers_if P (Some x) w is h = let same : x ≡ w = cc in subst P same h

pub are_sending : (parts len : ℕ) (o : Option WritersView) (r : Option PartReaders) (w : WritersView) → o ≡ Some w → OnOneSide parts len o r → AreSending parts len w
are_sending parts len None r w is side = absurd (cc is)
are_sending parts len (Some x) None w is side = let same : x ≡ w = cc in subst (AreSending parts len) same side
are_sending parts len (Some x) (Some r) w is side = absurd side

pub are_receiving : (parts len : ℕ) (o : Option WritersView) (rs : Option PartReaders) (r : PartReaders) → rs ≡ Some r → OnOneSide parts len o rs → AreReceiving parts len r
are_receiving parts len o None r is side = absurd (cc is)
are_receiving parts len None (Some x) r is side = let same : x ≡ r = cc in subst (AreReceiving parts len) same side
are_receiving parts len (Some w) (Some x) r is side = absurd side

pub readers_is : (P : PartReaders → Type 0) (o : Option PartReaders) (r : PartReaders) → o ≡ Some r → OfReaders P o → P r
readers_is P None r is h = absurd h
readers_is P (Some x) r is h = let same : x ≡ r = cc in subst P same h

pub left_is : (o : Option PartReaders) (r : PartReaders) → o ≡ Some r → left_to_give o ≡ all_left r.readers.items
left_is None r is = absurd (cc is)
left_is (Some x) r is = let same : x ≡ r = cc in rw same refl

-- the next pair is one that a reader gave
pub next_given : (o : Option ℕ) (parts : ℕ) (before : Option PartReaders) (r r' : PartReaders) (s t : Shown) (bytes : List ℕ) → before ≡ Some r → length r.readers.items ≡ parts
    → IfSome o (λ v. (ls : ℕ → Pairs) → GiveAll s r.readers.items ls → (p : ℕ) × (p < length r.readers.items) × LeadsPair v bytes (ls p) (λ l. GiveAll t r'.readers.items (at p l ls)))
    → IfSome o (λ v. (ls : ℕ → Pairs) → OfReaders (λ x. GiveAll s x.readers.items ls) before → (p : ℕ) × (p < parts) × LeadsPair v bytes (ls p) (λ l. GiveAll t r'.readers.items (at p l ls)))
next_given None parts before r r' s t bytes is count given = tt
next_given (Some v) parts before r r' s t bytes is count given = λ ls gives.
    let n = given ls (readers_is (λ x. GiveAll s x.readers.items ls) before r is gives) in
    (n.0, subst (λ (k : ℕ). n.0 < k) count n.1, n.2)

pub none_given : (o : Option ℕ) (parts : ℕ) (before : Option PartReaders) (r : PartReaders) (s : Shown) → before ≡ Some r → length r.readers.items ≡ parts
    → IfNone o ((ls : ℕ → Pairs) → GiveAll s r.readers.items ls → (p : ℕ) → p < length r.readers.items → ls p ≡ [])
    → IfNone o ((ls : ℕ → Pairs) → OfReaders (λ x. GiveAll s x.readers.items ls) before → (p : ℕ) → p < parts → ls p ≡ [])
none_given (Some v) parts before r s is count none = tt
none_given None parts before r s is count none = λ ls gives p lt. none ls (readers_is (λ x. GiveAll s x.readers.items ls) before r is gives) p (subst (λ (k : ℕ). p < k) (sym count) lt)

-- no receiver is open, so none is given
pub not_open : (P : PartReaders → Type 0) (o : Option PartReaders) → ((r : PartReaders) → o ≡ Some r → ⊥) → OfReaders P o → ⊥
not_open P None other h = h
not_open P (Some r) other h = other r refl
