-- What is known of writers and their files depends on these files alone.
use Rattle.std.specs.Prelude.{◌≡◌, ◌≤◌, ◌<◌, ℕ, ◌+◌, ◌*◌, true, List, map, [], Option, Some, None, slice_index_or}
use Rattle.std.proofs.Common.{sym, subst, ◌∙◌}
use Rattle.std.proofs.Math.Nat.{le_refl, le_trans, le-add_right, add-lt-add_of_le_of_lt}
use Rattle.px_core.specs.Parts.{to_part}
use Rattle.px_core.specs.Same.{Same}
use Rattle.px_core.specs.Shown.{Shown, Only}
use Rattle.px_core.proofs.Keeping.{same_fewer}
use Rattle.px_meaning.specs.Merge.{Pairs}
use Rattle.px_stream.specs.Views.{WriterView, ReaderView}
use Rattle.px_stream.proofs.Kept.{took_same, has_same, to_give_same}
use Rattle.px_connectors.specs.Messages.{tagged}
use Rattle.px_connectors.specs.Writers.{WritersView, parts_in, writer_at, IsPartFile, OfWriter, WritesPart, TookAll, TookParts, HoldParts}
use Rattle.px_connectors.specs.declared.readers.PartReaders.{PartReaders}
use Rattle.px_connectors.specs.Asking.{IsRequestFile, RequestsView, Asked}
use Rattle.px_connectors.specs.Receiving.{OfReader, GivesPairs, GiveAll}
use Rattle.px_connectors.specs.Sides.{PartitioningView, view_of, OfWriters, OfReaders, IsBegun, Sends, HasSent, Receives}
use Rattle.px_connectors.specs.Views.{IsSenderFile, IsConnectorFile}

pub of_both : (P Q R : WriterView → Type 0) (o : Option WriterView) → ((w : WriterView) → P w → Q w → R w) → OfWriter P o → OfWriter Q o → OfWriter R o
of_both P Q R None both p q = absurd p
of_both P Q R (Some w) both p q = both w p q

pub part_file : (first parts q : ℕ) → parts ≤ 16 → q < parts → (f : ℕ) → Only (first + q) f → IsPartFile first f
part_file first parts q most lt f is = subst (IsPartFile first) (sym is) (record { low = le-add_right first q; high = add-lt-add_of_le_of_lt (le_refl first) (le_trans lt most) })

pub took_all_same : (s t : Shown) (tag first len parts q : ℕ) (l : Pairs) → parts ≤ 16 → q < parts → Same (IsPartFile first) s t → (w : WriterView) → WritesPart first len q w → TookAll s tag w l → TookAll t tag w l
took_all_same s t tag first len parts q l most lt same w writes h = record {
  front = h.front;
  took = took_same s t w (map (tagged tag) l) (same_fewer (Only w.file) (IsPartFile first) s t (λ f own. part_file first parts q most lt f (own ∙ writes.file)) same) h.took;
}

-- what the writers took
pub took_parts_same : (s t : Shown) (tag : ℕ) (v : WritersView) (l : Pairs) → Same (IsPartFile v.first) s t → TookParts s tag v l → TookParts t tag v l
took_parts_same s t tag v l same took = record {
  are = took.are;
  each = λ q lt. of_both (WritesPart v.first v.frame_len q) (λ w. TookAll s tag w (to_part (parts_in v) q l)) (λ w. TookAll t tag w (to_part (parts_in v) q l)) (writer_at v q)
      (took_all_same s t tag v.first v.frame_len (parts_in v) q (to_part (parts_in v) q l) took.are.most lt same) (took.are.each q lt) (took.each q lt);
}

-- what their files hold
pub hold_parts_same : (s t : Shown) (tag first parts : ℕ) (pages : List ℕ) (l : Pairs) → Same (IsPartFile first) s t → HoldParts s tag first parts pages l → HoldParts t tag first parts pages l
hold_parts_same s t tag first parts pages l same h = record {
  most = h.most;
  each = λ q lt. has_same s t (first + q) 0 (slice_index_or pages q 0) (map (tagged tag) (to_part parts q l))
      (same_fewer (Only (first + q)) (IsPartFile first) s t (part_file first parts q h.most lt) same) (h.each q lt);
}

-- what was requested
pub asked_same : (s t : Shown) (r : RequestsView) (l : Pairs) → Same IsRequestFile s t → Asked s r l → Asked t r l
asked_same s t r l same asked = record {
  first = asked.first;
  took = took_parts_same s t 2 r.writers l (subst (λ (f : ℕ). Same (IsPartFile f) s t) (sym asked.first) same) asked.took;
}

begun_same : (s t : Shown) (p : ℕ) (l : Pairs) → Same (IsSenderFile p) s t → (o : Option WritersView) → OfWriters (IsBegun s p l) o → OfWriters (IsBegun t p l) o
begun_same s t p l same None h = h
begun_same s t p l same (Some w) h = record {
  first = h.first;
  took = took_parts_same s t 0 w l (subst (λ (f : ℕ). Same (IsPartFile f) s t) (sym h.first) same) h.took;
}

-- what a sender put so far
pub sends_stays : (c : PartitioningView) (s t : Shown) (p : ℕ) (l : Pairs) → Same (IsSenderFile p) s t → Sends c s p l → Sends c t p l
sends_stays c s t p l same sends = record { is = sends.is; begun = begun_same s t p l same c.writers sends.begun }

-- what a finished sender put
pub has_sent_stays : (c : PartitioningView) (s t : Shown) (p : ℕ) (l : Pairs) → Same (IsSenderFile p) s t → HasSent c s p l → HasSent c t p l
has_sent_stays c s t p l same sent = record {
  below = sent.below;
  holds = hold_parts_same s t 0 (256 + 16 * p) c.parts (slice_index_or c.pages p []) l same sent.holds;
}

-- it is known of a disk that tells alone
pub has_sent_tells : (c : PartitioningView) (s : Shown) (p : ℕ) (l : Pairs) → HasSent c s p l → s.tells ≡ true
has_sent_tells c s p l sent = (sent.holds.each p sent.below).tells.on

pub sends_sender : (c : PartitioningView) (s : Shown) (p : ℕ) (l : Pairs) → Sends c s p l → p ≡ (view_of c).sender
sends_sender c s p l sends = sends.is

pub gives_pairs_same : (s t : Shown) (l : Pairs) → Same IsConnectorFile s t → (o : Option ReaderView) → OfReader (GivesPairs s l) o → OfReader (GivesPairs t l) o
gives_pairs_same s t l same None h = h
gives_pairs_same s t l same (Some r) h = record {
  file = h.file;
  gives = to_give_same s t r (map (tagged 0) l) (same_fewer (Only r.file) IsConnectorFile s t (λ f is. subst IsConnectorFile (sym is) h.file) same) h.gives;
}

pub give_all_same : (s t : Shown) (rs : List (Option ReaderView)) (ls : ℕ → Pairs) → Same IsConnectorFile s t → GiveAll s rs ls → GiveAll t rs ls
give_all_same s t rs ls same gives p o at = gives_pairs_same s t (ls p) same o (gives p o at)

readers_same : (s t : Shown) (ls : ℕ → Pairs) → Same IsConnectorFile s t → (o : Option PartReaders) → OfReaders (λ r. GiveAll s r.readers.items ls) o → OfReaders (λ r. GiveAll t r.readers.items ls) o
readers_same s t ls same None h = h
readers_same s t ls same (Some r) h = give_all_same s t r.readers.items ls same h

-- what the senders have left for an open receiver
pub receives_stays : (c : PartitioningView) (s t : Shown) (ls : ℕ → Pairs) → Same IsConnectorFile s t → Receives c s ls → Receives c t ls
receives_stays c s t ls same receives = readers_same s t ls same c.readers receives
