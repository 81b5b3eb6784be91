-- Pages are made, and read again.
use Rattle.std.proofs.Common.{◌≡◌, ℕ, suc, ◌+◌, ◌-◌, ◌*◌, ◌^◌, ◌<◌, ◌≤◌, min, List, [], ◌∷◌, ◌++◌, length, take, drop, refl, sym, ◌∙◌, ap, arith, subst}
use Rattle.std.specs.Prelude.{slice_set}
use Rattle.std.proofs.lemmas.List.{take_at, take_rest, drop_at, drop_all, append-nil, append_assoc, length-append, length-drop, length-replicate, drop-replicate, replicate-append-replicate, drop-drop}
use borrow.Rule.Slice.PartMut.{put_mid, post_of}
use Rattle.byteorder.specs.Endian.{big_bytes, big_number}
use Rattle.byteorder.specs.Numbers.{big_number-reads_back}
use Rattle.px_pages.specs.Entry.{Entry, IsEntry, AreEntries, entry, entry_at, entry_bytes, bytes_of, len_at, entries_in}
use Rattle.px_pages.specs.Page.{kind_of, count_of, link_of, tuples_of, used_of, zeros, page_of, PageWriterView, IsPageLen, IsMade, IsWritten}
use Rattle.px_pages.proofs.Reading.{entries_more}

-- the end of a list is overwritten
put_tail : (front end new : List ℕ) (n k : ℕ) → length front ≡ n → length end ≤ k → put_mid n k (front ++ end) new ≡ front ++ new
put_tail front end new n k at all =
    let nothing : post_of n k (front ++ end) ≡ [] = ap (λ (l : List ℕ). drop k l) (drop_at front end n at) ∙ drop_all k end all in
    ap (λ (l : List ℕ). l ++ (new ++ post_of n k (front ++ end))) (take_at front end n at)
    ∙ ap (λ (l : List ℕ). front ++ (new ++ l)) nothing ∙ ap (λ (l : List ℕ). front ++ l) (append-nil new)

bytes_of-push : (es : List Entry) (e : Entry) → bytes_of (es ++ e ∷ []) ≡ bytes_of es ++ entry_bytes e
bytes_of-push [] e = append-nil (entry_bytes e)
bytes_of-push (d ∷ es) e = ap (λ (l : List ℕ). entry_bytes d ++ l) (bytes_of-push es e) ∙ sym (append_assoc (entry_bytes d) (bytes_of es) (entry_bytes e))

pub length-entry_bytes : (e : Entry) → length (entry_bytes e) ≡ 13 + length e.body
length-entry_bytes e = omega arith

pub length-bytes_of : (es : List Entry) → 13 * length es ≤ length (bytes_of es)
length-bytes_of [] = omega arith
length-bytes_of (e ∷ es) = omega (arith, length-bytes_of es, length-append (entry_bytes e) (bytes_of es), length-entry_bytes e)

AreEntries-push : (es : List Entry) (e : Entry) → AreEntries es → IsEntry e → AreEntries (es ++ e ∷ [])
AreEntries-push [] e all this = (this, tt)
AreEntries-push (d ∷ es) e all this = (all.0, AreEntries-push es e all.1 this)

-- a tuple in front is read as it was written
entry_read : (e : Entry) (rest : List ℕ) → IsEntry e → (len_at (entry_bytes e ++ rest) ≡ length e.body) × (entry_at (entry_bytes e ++ rest) ≡ e)
entry_read e rest is =
    let len : big_number 4 (drop 9 (entry_bytes e ++ rest)) ≡ length e.body = big_number-reads_back 4 (length e.body) (e.body ++ rest) is.body in
    let key : big_number 8 (entry_bytes e ++ rest) ≡ e.key = big_number-reads_back 8 e.key (e.tag ∷ big_bytes 4 (length e.body) ++ e.body ++ rest) is.key in
    let least : len_at (entry_bytes e ++ rest) ≡ length e.body =
    ap (λ (n : ℕ). min n (length (entry_bytes e ++ rest) - 13)) len ∙ omega (arith, length-append e.body rest) in
    let body : take (len_at (entry_bytes e ++ rest)) (drop 13 (entry_bytes e ++ rest)) ≡ e.body =
    ap (λ (n : ℕ). take n (e.body ++ rest)) least ∙ take_at e.body rest (length e.body) refl in
    (least, ap (λ (k : ℕ). entry k e.tag (take (len_at (entry_bytes e ++ rest)) (drop 13 (entry_bytes e ++ rest)))) key ∙ ap (entry e.key e.tag) body)

-- the tuples in front of anything are read as they were written
entries_read : (es : List Entry) (rest : List ℕ) → AreEntries es → entries_in (length es) (bytes_of es ++ rest) ≡ es
entries_read [] rest all = refl
entries_read (e ∷ es) rest all =
    let whole : bytes_of (e ∷ es) ++ rest ≡ entry_bytes e ++ (bytes_of es ++ rest) = append_assoc (entry_bytes e) (bytes_of es) rest in
    let this = entry_read e (bytes_of es ++ rest) all.0 in
    let room : 13 ≤ length (entry_bytes e ++ (bytes_of es ++ rest)) = omega arith in
    let after : drop (13 + len_at (entry_bytes e ++ (bytes_of es ++ rest))) (entry_bytes e ++ (bytes_of es ++ rest)) ≡ bytes_of es ++ rest =
    ap (λ (n : ℕ). drop (13 + n) (entry_bytes e ++ (bytes_of es ++ rest))) this.0 ∙ drop_at (entry_bytes e) (bytes_of es ++ rest) (13 + length e.body) (length-entry_bytes e) in
    ap (entries_in (suc (length es))) whole ∙ entries_more (length es) (entry_bytes e ++ (bytes_of es ++ rest)) room
    ∙ ap (λ (d : Entry). d ∷ entries_in (length es) (drop (13 + len_at (entry_bytes e ++ (bytes_of es ++ rest))) (entry_bytes e ++ (bytes_of es ++ rest)))) this.1
    ∙ ap (λ (l : List ℕ). e ∷ entries_in (length es) l) after ∙ ap (λ (l : List Entry). e ∷ l) (entries_read es rest all.1)

-- what the header of a page says, and what a reader finds in it
module _ (len k l : ℕ) (es : List Entry) (fits : used_of es ≤ len) (small : len ≤ 1048576) (link : l < 2 ^ 64) (all : AreEntries es) where
  count_read : count_of (page_of len k l es) ≡ length es
  count_read =
      let fits_count : length es < 256 ^ 4 = omega (arith, length-bytes_of es) in
      big_number-reads_back 4 (length es) (big_bytes 4 (used_of es) ++ big_bytes 8 l ++ zeros 12 ++ bytes_of es ++ zeros (len - used_of es)) fits_count

  link_read : link_of (page_of len k l es) ≡ l
  link_read = big_number-reads_back 8 l (zeros 12 ++ bytes_of es ++ zeros (len - used_of es)) link

  pub tuples_read : tuples_of (page_of len k l es) ≡ es
  tuples_read = ap (λ (n : ℕ). entries_in n (bytes_of es ++ zeros (len - used_of es))) count_read ∙ entries_read es (zeros (len - used_of es)) all

  pub length-page_of : length (page_of len k l es) ≡ len
  length-page_of = omega (arith, length-append (bytes_of es) (zeros (len - used_of es)), length-replicate {A = ℕ} (len - used_of es) 0)

  -- a page that is this one, and where its writer stands
  pub made_of : (w : PageWriterView) (page : List ℕ) → page ≡ page_of len k l es → 256 ≤ len → w.count ≡ length es → w.used ≡ used_of es → w.len ≡ len
      → IsMade w k l es page
  made_of w page is large count used same = record {
    bytes = is ∙ ap (λ (n : ℕ). page_of n k l es) (sym same);
    page_len = ap length is ∙ length-page_of ∙ sym same;
    count = count;
    used = used;
    fits = omega (arith, fits, same);
    len = (omega (arith, large, same), omega (arith, small, same));
    link = link;
    entries = all;
  }

-- a page that was made is told by what a caller sees of it
module _ (w : PageWriterView) (k l : ℕ) (es : List Entry) (page : List ℕ) (made : IsMade w k l es page) where
  pub made_kind : kind_of page ≡ k
  made_kind = ap kind_of made.bytes

  pub made_link : link_of page ≡ l
  made_link = ap link_of made.bytes ∙ link_read w.len k l es made.fits made.len.1 made.link made.entries

  pub made_tuples : tuples_of page ≡ es
  made_tuples = ap tuples_of made.bytes ∙ tuples_read w.len k l es made.fits made.len.1 made.link made.entries

  pub made_count : w.count < 1048576
  made_count = omega (arith, made.count, made.fits, made.len, length-bytes_of es)

  pub written_of : IsWritten w page
  written_of =
      subst (λ (x : ℕ). IsMade w x (link_of page) (tuples_of page) page) (sym made_kind)
      (subst (λ (x : ℕ). IsMade w k x (tuples_of page) page) (sym made_link) (subst (λ (x : List Entry). IsMade w k l x page) (sym made_tuples) made))

-- the front of a tuple and its body
pub entry_put : (e : Entry) (out front mid : List ℕ) (k : ℕ) → front ≡ big_bytes 8 e.key ++ e.tag ∷ big_bytes 4 (length e.body) ++ drop 13 out → mid ≡ e.body → k ≡ length e.body
    → put_mid 13 k front mid ≡ entry_bytes e ++ drop (13 + length e.body) out
entry_put e out front mid k is_front is_mid is_k =
    ap (λ (f : List ℕ). put_mid 13 k f mid) is_front
    ∙ ap (λ (m : List ℕ). put_mid 13 k (big_bytes 8 e.key ++ e.tag ∷ big_bytes 4 (length e.body) ++ drop 13 out) m) is_mid
    ∙ ap (λ (n : ℕ). put_mid 13 n (big_bytes 8 e.key ++ e.tag ∷ big_bytes 4 (length e.body) ++ drop 13 out) e.body) is_k
    ∙ ap (λ (r : List ℕ). big_bytes 8 e.key ++ e.tag ∷ big_bytes 4 (length e.body) ++ (e.body ++ r)) (drop-drop (length e.body) 13 out)

-- an empty page
pub made_start : (w : PageWriterView) (filled page : List ℕ) (n kind : ℕ) → IsPageLen n → filled ≡ zeros n
    → page ≡ take 4 (slice_set filled 0 kind) ++ big_bytes 4 0 ++ big_bytes 4 32 ++ drop 12 (slice_set filled 0 kind)
    → w.count ≡ 0 → w.used ≡ 32 → w.len ≡ n → IsMade w kind 0 [] page
made_start w filled page n kind size is_filled is count used len =
    let whole : n ≡ 32 + (n - 32) = omega (arith, size) in
    let split : zeros n ≡ zeros 32 ++ zeros (n - 32) = ap zeros whole ∙ sym (replicate-append-replicate {A = ℕ} 32 (n - 32) 0) in
    let bytes : page ≡ page_of n kind 0 [] =
    is ∙ ap (λ (z : List ℕ). take 4 (slice_set z 0 kind) ++ big_bytes 4 0 ++ big_bytes 4 32 ++ drop 12 (slice_set z 0 kind)) (is_filled ∙ split) in
    made_of n kind 0 [] (omega (arith, size)) size.1 (omega arith) tt w page bytes size.0 count used len

-- one more tuple: `part` is what it makes of the page's end
pub made_append : (w new : PageWriterView) (k l : ℕ) (es : List Entry) (e : Entry) (page part written : List ℕ)
    → IsMade w k l es page → IsEntry e → w.used + 13 + length e.body ≤ w.len
    → part ≡ entry_bytes e ++ drop (13 + length e.body) (take (length page - w.used) (drop w.used page))
    → written ≡ take 4 (put_mid w.used (length page - w.used) page part) ++ big_bytes 4 new.count ++ big_bytes 4 new.used ++ drop 12 (put_mid w.used (length page - w.used) page part)
    → new.count ≡ w.count + 1 → new.used ≡ w.used + (13 + length e.body) → new.len ≡ w.len
    → IsMade new k l (es ++ e ∷ []) written
made_append w new k l es e page part written made is_entry room is_part is count used len =
    let z = w.len - used_of es in
    let front : List ℕ = k ∷ 0 ∷ 0 ∷ 0 ∷ big_bytes 4 (length es) ++ big_bytes 4 (used_of es) ++ big_bytes 8 l ++ zeros 12 ++ bytes_of es in
    let at : length front ≡ w.used = omega (arith, made.used) in
    let page_is : page ≡ front ++ zeros z = made.bytes in
    let short : length (zeros z) ≤ length page - w.used = omega (arith, ap length page_is, length-append front (zeros z), at) in
    let end : take (length page - w.used) (drop w.used page) ≡ zeros z = take_rest page w.used ∙ ap (drop w.used) page_is ∙ drop_at front (zeros z) w.used at in
    let rest : List ℕ = zeros (z - (13 + length e.body)) in
    let part_is : part ≡ entry_bytes e ++ rest =
    is_part ∙ ap (λ (s : List ℕ). entry_bytes e ++ drop (13 + length e.body) s) end
    ∙ ap (λ (s : List ℕ). entry_bytes e ++ s) (drop-replicate (13 + length e.body) z 0) in
    let put : put_mid w.used (length page - w.used) page part ≡ front ++ (entry_bytes e ++ rest) =
    ap (λ (p : List ℕ). put_mid w.used (length page - w.used) p part) page_is ∙ put_tail front (zeros z) part w.used (length page - w.used) at short ∙ ap (λ (p : List ℕ). front ++ p) part_is in
    let pushed = bytes_of-push es e in
    let count_is : new.count ≡ length (es ++ e ∷ []) = omega (arith, made.count, count, length-append es (e ∷ [])) in
    let used_is : new.used ≡ used_of (es ++ e ∷ []) = omega (arith, made.used, used, ap length pushed, length-append (bytes_of es) (entry_bytes e), length-entry_bytes e) in
    let zeros_are : z - (13 + length e.body) ≡ w.len - used_of (es ++ e ∷ []) = omega (arith, made.used, used, used_is) in
    let body : bytes_of es ++ (entry_bytes e ++ rest) ≡ bytes_of (es ++ e ∷ []) ++ zeros (w.len - used_of (es ++ e ∷ [])) =
    sym (append_assoc (bytes_of es) (entry_bytes e) rest) ∙ ap (λ (b : List ℕ). b ++ rest) (sym pushed) ∙ ap (λ (m : ℕ). bytes_of (es ++ e ∷ []) ++ zeros m) zeros_are in
    let bytes : written ≡ page_of w.len k l (es ++ e ∷ []) =
    is ∙ ap (λ (p : List ℕ). take 4 p ++ big_bytes 4 new.count ++ big_bytes 4 new.used ++ drop 12 p) put
    ∙ ap (λ (c : ℕ). k ∷ 0 ∷ 0 ∷ 0 ∷ big_bytes 4 c ++ big_bytes 4 new.used ++ big_bytes 8 l ++ zeros 12 ++ (bytes_of es ++ (entry_bytes e ++ rest))) count_is
    ∙ ap (λ (u : ℕ). k ∷ 0 ∷ 0 ∷ 0 ∷ big_bytes 4 (length (es ++ e ∷ [])) ++ big_bytes 4 u ++ big_bytes 8 l ++ zeros 12 ++ (bytes_of es ++ (entry_bytes e ++ rest))) used_is
    ∙ ap (λ (b : List ℕ). k ∷ 0 ∷ 0 ∷ 0 ∷ big_bytes 4 (length (es ++ e ∷ [])) ++ big_bytes 4 (used_of (es ++ e ∷ [])) ++ big_bytes 8 l ++ zeros 12 ++ b) body in
    let fits : used_of (es ++ e ∷ []) ≤ w.len = omega (arith, used, used_is, room) in
    made_of w.len k l (es ++ e ∷ []) fits made.len.1 made.link (AreEntries-push es e made.entries is_entry) new written bytes made.len.0 count_is used_is len

-- a block becomes zero
pub put_block : (page block : List ℕ) (at : ℕ) → block ≡ zeros 256 → put_mid at (at + 256 - at) page block ≡ take at page ++ zeros 256 ++ drop (at + 256) page
put_block page block at is =
    let n : at + 256 - at ≡ 256 = omega arith in
    ap (λ (k : ℕ). put_mid at k page block) n ∙ ap (λ (b : List ℕ). take at page ++ (b ++ drop 256 (drop at page))) is
    ∙ ap (λ (r : List ℕ). take at page ++ (zeros 256 ++ r)) (drop-drop 256 at page) ∙ sym (append_assoc (take at page) (zeros 256) (drop (at + 256) page))

-- one more block of a page is zero
pub zero_more : (old page new : List ℕ) (at : ℕ) → page ≡ zeros at ++ drop at old → new ≡ take at page ++ zeros 256 ++ drop (at + 256) page
    → new ≡ zeros (at + 256) ++ drop (at + 256) old
zero_more old page new at is more =
    let front : take at page ≡ zeros at = ap (take at) is ∙ take_at (zeros at) (drop at old) at (length-replicate {A = ℕ} at 0) in
    let back : drop (at + 256) page ≡ drop (at + 256) old =
    ap (drop (at + 256)) is ∙ sym (drop-drop 256 at (zeros at ++ drop at old)) ∙ ap (drop 256) (drop_at (zeros at) (drop at old) at (length-replicate {A = ℕ} at 0)) ∙ drop-drop 256 at old in
    more ∙ ap (λ (l : List ℕ). l ++ zeros 256 ++ drop (at + 256) page) front ∙ ap (λ (l : List ℕ). zeros at ++ zeros 256 ++ l) back
    ∙ ap (λ (l : List ℕ). l ++ drop (at + 256) old) (replicate-append-replicate at 256 0)

-- the rest of it too
pub zero_rest : (old page rest : List ℕ) (at k : ℕ) → page ≡ zeros at ++ drop at old → at ≤ length old → length old ≤ at + k → rest ≡ zeros (length old - at)
    → put_mid at k page rest ≡ zeros (length old)
zero_rest old page rest at k is within all zero =
    ap (λ (l : List ℕ). put_mid at k l rest) is ∙ put_tail (zeros at) (drop at old) rest at k (length-replicate {A = ℕ} at 0) (omega (arith, length-drop at old, all))
    ∙ ap (λ (l : List ℕ). zeros at ++ l) zero ∙ replicate-append-replicate at (length old - at) 0
    ∙ (let e : at + (length old - at) ≡ length old = omega (arith, within) in ap zeros e)
