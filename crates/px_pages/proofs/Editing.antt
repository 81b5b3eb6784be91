-- The bytes of a page that is changed in its place.
use Rattle.std.proofs.Common.{◌≡◌, ◌≤◌, ◌+◌, ◌-◌, ℕ, max, List, [], ◌∷◌, ◌++◌, length, take, drop, refl, sym, ◌∙◌, ap, subst, arith}
use Rattle.std.proofs.lemmas.List.{take_at, take_rest, drop_at, drop_all, append-nil, append_assoc, take-append-drop, length-append, length-drop, length-take-le, drop-drop, drop-replicate, replicate-append-replicate}
use Rattle.std.proofs.lemmas.List.Edits.{take-paste, drop-paste}
use Rattle.std.specs.List.{copy_within}
use borrow.Rule.Slice.PartMut.{put_mid}
use Rattle.byteorder.specs.Endian.{big_bytes}
use Rattle.byteorder.specs.Numbers.{big_number-reads_back}
use Rattle.px_pages.specs.Entry.{Entry, AreEntries, entry_bytes, bytes_of}
use Rattle.px_pages.specs.Page.{IsMade, used_of, used_at, count_of, zeros, page_of, writer_of}
use Rattle.px_pages.proofs.Writing.{made_of, length-entry_bytes, length-bytes_of}

-- bytes were moved, and what is behind them made zero
pub gap_back : (old moved new : List ℕ) (from to used n top : ℕ) → from ≤ to → to ≤ used → used ≤ length old → from + n + (used - to) ≤ length old → moved ≡ copy_within old to used (from + n)
    → top ≡ max used (from + n + (used - to)) → new ≡ take (from + n + (used - to)) moved ++ (zeros (top - (from + n + (used - to))) ++ drop top moved) → drop used old ≡ zeros (length old - used)
    → drop (from + n) new ≡ take (used - to) (drop to old) ++ zeros (length old - (from + n + (used - to)))
gap_back old moved new from to used n top le_to le_used le_len room is_moved is_top is_new tail =
    let at = from + n in
    let m = used - to in
    let end = at + m in
    let long = length old in
    let a = take at old in
    let b = take m (drop to old) in
    let fits : m ≤ length (drop to old) = omega (arith, length-drop to old, le_len, le_used) in
    let front : take end moved ≡ a ++ b = ap (take end) is_moved ∙ take-paste old at (drop to old) m (omega (arith, room)) fits in
    let back : drop end moved ≡ drop end old = ap (drop end) is_moved ∙ drop-paste old at (drop to old) m (omega (arith, room)) fits in
    let over : end ≤ top = omega (arith, is_top) in
    let over' : used ≤ top = omega (arith, is_top) in
    let to_top : end + (top - end) ≡ top = omega (arith, over) in
    let to_top' : used + (top - used) ≡ top = omega (arith, over') in
    let rest : drop top moved ≡ zeros (long - top) =
    ap (λ (k : ℕ). drop k moved) (sym to_top) ∙ sym (drop-drop (top - end) end moved) ∙ ap (drop (top - end)) back ∙ drop-drop (top - end) end old ∙ ap (λ (k : ℕ). drop k old) to_top
    ∙ ap (λ (k : ℕ). drop k old) (sym to_top') ∙ sym (drop-drop (top - used) used old) ∙ ap (drop (top - used)) tail ∙ drop-replicate (top - used) (long - used) 0
    ∙ (let k : long - used - (top - used) ≡ long - top = omega (arith, over') in ap zeros k) in
    let most : top ≤ long = omega (arith, is_top, le_len, room) in
    let zero : zeros (top - end) ++ drop top moved ≡ zeros (long - end) =
    ap (λ (l : List ℕ). zeros (top - end) ++ l) rest ∙ replicate-append-replicate {A = ℕ} (top - end) (long - top) 0 ∙ (let k : top - end + (long - top) ≡ long - end = omega (arith, over, most) in ap zeros k) in
    let whole : new ≡ a ++ (b ++ zeros (long - end)) = is_new ∙ ap (λ (l : List ℕ). l ++ (zeros (top - end) ++ drop top moved)) front ∙ ap (λ (l : List ℕ). (a ++ b) ++ l) zero ∙ append_assoc a b (zeros (long - end)) in
    ap (drop at) whole ∙ drop_at a (b ++ zeros (long - end)) at (length-take-le at old (omega (arith, room)))

-- a gap that is as long as what came before moves nothing
pub gap_kept : (page : List ℕ) (from to used n : ℕ) → to ≤ used → used ≤ length page → from + n ≡ to → drop used page ≡ zeros (length page - used)
    → drop (from + n) page ≡ take (used - to) (drop to page) ++ zeros (length page - (from + n + (used - to)))
gap_kept page from to used n le_to le_used at tail =
    let m = used - to in
    let far : m + to ≡ used = omega (arith, le_to) in
    let far' : to + m ≡ used = omega (arith, le_to) in
    let rest : drop m (drop to page) ≡ zeros (length page - used) = drop-drop m to page ∙ ap (λ (k : ℕ). drop k page) far' ∙ tail in
    let end : length page - used ≡ length page - (from + n + m) = omega (arith, le_to, at) in
    ap (λ (k : ℕ). drop k page) at ∙ sym (take-append-drop m (drop to page)) ∙ ap (λ (l : List ℕ). take m (drop to page) ++ l) (rest ∙ ap zeros end)

pub bytes_join : (xs ys : List Entry) → bytes_of (xs ++ ys) ≡ bytes_of xs ++ bytes_of ys
bytes_join [] ys = refl
bytes_join (x ∷ xs) ys = ap (λ (l : List ℕ). entry_bytes x ++ l) (bytes_join xs ys) ∙ sym (append_assoc (entry_bytes x) (bytes_of xs) (bytes_of ys))

entries_without : (o b : List Entry) → AreEntries (o ++ b) → AreEntries b
entries_without [] b all = all
entries_without (x ∷ o) b all = entries_without o b all.1

entries_join : (m b : List Entry) → AreEntries m → AreEntries b → AreEntries (m ++ b)
entries_join [] b these all = all
entries_join (x ∷ m) b these all = (these.0, entries_join m b these.1 all)

entries_with : (a o m b : List Entry) → AreEntries m → AreEntries (a ++ (o ++ b)) → AreEntries (a ++ (m ++ b))
entries_with [] o m b these all = entries_join m b these (entries_without o b all)
entries_with (x ∷ a) o m b these all = (all.0, entries_with a o m b these all.1)

-- the header of a page that was made
pub made_used : (len k l : ℕ) (es : List Entry) (page : List ℕ) → IsMade (writer_of len es) k l es page → used_at page ≡ used_of es
made_used len k l es page made =
    ap used_at made.bytes
    ∙ big_number-reads_back 4 (used_of es) (big_bytes 8 l ++ zeros 12 ++ bytes_of es ++ zeros (len - used_of es)) (omega (arith, made.fits, made.len))

pub made_count_of : (len k l : ℕ) (es : List Entry) (page : List ℕ) → IsMade (writer_of len es) k l es page → count_of page ≡ length es
made_count_of len k l es page made =
    ap count_of made.bytes
    ∙ big_number-reads_back 4 (length es) (big_bytes 4 (used_of es) ++ big_bytes 8 l ++ zeros 12 ++ bytes_of es ++ zeros (len - used_of es)) (omega (arith, length-bytes_of es, made.fits, made.len))

-- the tuples between two others gave way to these
pub spliced : (k l len : ℕ) (es es' xs os ms ys : List Entry) (old p1 p2 p3 : List ℕ) (from to used n cnt end : ℕ)
    → IsMade (writer_of len es) k l es old → AreEntries ms → es ≡ xs ++ (os ++ ys) → es' ≡ xs ++ (ms ++ ys)
    → from ≡ used_of xs → to ≡ from + length (bytes_of os) → used ≡ used_of es → n ≡ length (bytes_of ms) → end ≡ from + n + (used - to) → end ≤ len
    → take from p1 ≡ take from old → (drop used old ≡ zeros (length old - used) → drop (from + n) p1 ≡ take (used - to) (drop to old) ++ zeros (length old - end))
    → p2 ≡ take from p1 ++ (bytes_of ms ++ drop (from + n) p1)
    → p3 ≡ take 4 p2 ++ big_bytes 4 cnt ++ big_bytes 4 end ++ drop 12 p2 → cnt ≡ length es'
    → IsMade (writer_of len es') k l es' p3
spliced k l len es es' xs os ms ys old p1 p2 p3 from to used n cnt end made new whole more from_is to_is used_is n_is end_is fits g_front g_back p2_is p3_is cnt_is =
    let z = len - used_of es in
    let h : List ℕ = k ∷ 0 ∷ 0 ∷ 0 ∷ big_bytes 4 (length es) ++ big_bytes 4 (used_of es) ++ big_bytes 8 l ++ zeros 12 in
    let a = bytes_of xs in
    let o = bytes_of os in
    let m = bytes_of ms in
    let b = bytes_of ys in
    let es_is : bytes_of es ≡ a ++ (o ++ b) = ap bytes_of whole ∙ bytes_join xs (os ++ ys) ∙ ap (λ (x : List ℕ). a ++ x) (bytes_join os ys) in
    let new_is : bytes_of es' ≡ a ++ (m ++ b) = ap bytes_of more ∙ bytes_join xs (ms ++ ys) ∙ ap (λ (x : List ℕ). a ++ x) (bytes_join ms ys) in
    let lens : length (bytes_of es) ≡ length a + (length o + length b) = ap length es_is ∙ length-append a (o ++ b) ∙ ap (λ (x : ℕ). length a + x) (length-append o b) in
    let from_len : length (h ++ a) ≡ from = omega (arith, from_is) in
    let old_len : length old ≡ len = made.page_len in
    let used_len : used ≡ to + length b = omega (arith, used_is, lens, from_len, to_is) in
    let old_is : old ≡ (h ++ a) ++ (o ++ (b ++ zeros z)) =
    made.bytes ∙ ap (λ (x : List ℕ). (h ++ x) ++ zeros z) es_is ∙ append_assoc h (a ++ (o ++ b)) (zeros z) ∙ ap (λ (x : List ℕ). h ++ x) (append_assoc a (o ++ b) (zeros z))
    ∙ sym (append_assoc h a ((o ++ b) ++ zeros z)) ∙ ap (λ (x : List ℕ). (h ++ a) ++ x) (append_assoc o b (zeros z)) in
    let front : take from old ≡ h ++ a = ap (take from) old_is ∙ take_at (h ++ a) (o ++ (b ++ zeros z)) from from_len in
    let past : drop from old ≡ o ++ (b ++ zeros z) = ap (drop from) old_is ∙ drop_at (h ++ a) (o ++ (b ++ zeros z)) from from_len in
    let behind : drop to old ≡ b ++ zeros z =
    ap (λ (x : ℕ). drop x old) to_is ∙ sym (drop-drop (length o) from old) ∙ ap (drop (length o)) past ∙ drop_at o (b ++ zeros z) (length o) refl in
    let kept : take (used - to) (drop to old) ≡ b = ap (take (used - to)) behind ∙ take_at b (zeros z) (used - to) (omega (arith, used_len)) in
    let tail : drop used old ≡ zeros (length old - used) =
    ap (λ (x : ℕ). drop x old) used_len ∙ sym (drop-drop (length b) to old) ∙ ap (drop (length b)) behind ∙ drop_at b (zeros z) (length b) refl
    ∙ (let same : z ≡ length old - used = omega (arith, old_len, used_is) in ap zeros same) in
    let rest : drop (from + n) p1 ≡ b ++ zeros (len - end) =
    g_back tail ∙ ap (λ (x : List ℕ). x ++ zeros (length old - end)) kept ∙ ap (λ (x : ℕ). b ++ zeros (x - end)) old_len in
    let p2' : p2 ≡ (h ++ a) ++ (m ++ (b ++ zeros (len - end))) =
    p2_is ∙ ap (λ (x : List ℕ). x ++ (m ++ drop (from + n) p1)) (g_front ∙ front) ∙ ap (λ (x : List ℕ). (h ++ a) ++ (m ++ x)) rest in
    let end' : end ≡ used_of es' = omega (arith, end_is, n_is, used_len, from_len, ap length new_is, length-append a (m ++ b), length-append m b) in
    let inner : a ++ (m ++ (b ++ zeros (len - end))) ≡ bytes_of es' ++ zeros (len - used_of es') =
    ap (λ (x : List ℕ). a ++ x) (sym (append_assoc m b (zeros (len - end)))) ∙ sym (append_assoc a (m ++ b) (zeros (len - end)))
    ∙ ap (λ (x : List ℕ). x ++ zeros (len - end)) (sym new_is) ∙ ap (λ (x : ℕ). bytes_of es' ++ zeros (len - x)) end' in
    let bytes : p3 ≡ page_of len k l es' =
    p3_is ∙ ap (λ (x : List ℕ). take 4 x ++ big_bytes 4 cnt ++ big_bytes 4 end ++ drop 12 x) p2'
    ∙ ap (λ (x : List ℕ). k ∷ 0 ∷ 0 ∷ 0 ∷ big_bytes 4 cnt ++ big_bytes 4 end ++ big_bytes 8 l ++ zeros 12 ++ x) inner
    ∙ ap (λ (x : ℕ). k ∷ 0 ∷ 0 ∷ 0 ∷ big_bytes 4 x ++ big_bytes 4 end ++ big_bytes 8 l ++ zeros 12 ++ (bytes_of es' ++ zeros (len - used_of es'))) cnt_is
    ∙ ap (λ (x : ℕ). k ∷ 0 ∷ 0 ∷ 0 ∷ big_bytes 4 (length es') ++ big_bytes 4 x ++ big_bytes 8 l ++ zeros 12 ++ (bytes_of es' ++ zeros (len - used_of es'))) end' in
    let entries : AreEntries es' = subst AreEntries (sym more) (entries_with xs os ms ys new (subst AreEntries whole made.entries)) in
    made_of len k l es' (omega (arith, fits, end')) made.len.1 made.link entries (writer_of len es') p3 bytes made.len.0 refl refl refl

-- a tuple that was written into a gap
pub filled : (e : Entry) (p1 p2 part : List ℕ) (from n j : ℕ) → n ≡ length (entry_bytes e) → j ≡ length p1 - from
    → part ≡ entry_bytes e ++ drop (13 + length e.body) (take j (drop from p1)) → p2 ≡ put_mid from j p1 part
    → p2 ≡ take from p1 ++ (bytes_of (e ∷ []) ++ drop (from + n) p1)
filled e p1 p2 part from n j n_is j_is part_is p2_is =
    let all : take j (drop from p1) ≡ drop from p1 = ap (λ (x : ℕ). take x (drop from p1)) j_is ∙ take_rest p1 from in
    let size : 13 + length e.body ≡ n = omega (arith, n_is, length-entry_bytes e) in
    let part' : part ≡ entry_bytes e ++ drop (from + n) p1 =
    part_is ∙ ap (λ (x : List ℕ). entry_bytes e ++ drop (13 + length e.body) x) all ∙ ap (λ (x : ℕ). entry_bytes e ++ drop x (drop from p1)) size
    ∙ ap (λ (x : List ℕ). entry_bytes e ++ x) (drop-drop n from p1) in
    let nothing : drop j (drop from p1) ≡ [] = drop_all j (drop from p1) (omega (arith, j_is, length-drop from p1)) in
    p2_is ∙ ap (λ (x : List ℕ). take from p1 ++ (part ++ x)) nothing ∙ ap (λ (x : List ℕ). take from p1 ++ x) (append-nil part)
    ∙ ap (λ (x : List ℕ). take from p1 ++ x) part' ∙ ap (λ (x : List ℕ). take from p1 ++ (x ++ drop (from + n) p1)) (sym (append-nil (entry_bytes e)))
