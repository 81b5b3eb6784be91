-- The bytes of a page whose tuples are kept apart.
use Rattle.std.proofs.Common.{◌≡◌, ◌<◌, ◌≤◌, ◌+◌, ◌-◌, ◌^◌, ℕ, List, [], ◌∷◌, ◌++◌, length, take, drop, min, refl, sym, ◌∙◌, ap, subst, arith}
use Rattle.std.proofs.lemmas.List.{take_at, take-take, drop-take, take-append-drop, drop_at, drop_all, drop-drop, drop-append-le, append-nil, append_assoc, length-append, length-drop, length-take-le, length-replicate}
use Rattle.std.proofs.lemmas.List.Edits.{take-paste, drop-paste}
use Rattle.std.specs.List.{copy_within}
use Rattle.byteorder.specs.Endian.{big_bytes}
use Rattle.byteorder.specs.Numbers.{big_number-reads_back}
use Rattle.px_pages.specs.Entry.{Entry, IsEntry, AreEntries, entry_bytes, bytes_of, size_of}
use Rattle.px_pages.specs.Page.{IsPageLen, IsMade, count_of, link_of, used_of, zeros, page_of, writer_of}
use Rattle.px_pages.specs.Place.{IsPlace}
use Rattle.px_pages.specs.declared.place.Place.{Place}
use Rattle.px_pages.proofs.Writing.{made_of, made_tuples, length-entry_bytes, length-bytes_of}
use Rattle.px_pages.proofs.Editing.{bytes_join}
use Rattle.px_pages.proofs.Places.{place_in, place_at, place_sum}
use Rattle.px_btree.specs.Apart.{Within, Parts, KeepsApart, closed}
use Rattle.px_btree.specs.declared.apart.Apart.{Apart}

-- tuples that fit their fields, in two lists
entries_right : (xs ys : List Entry) → AreEntries (xs ++ ys) → AreEntries ys
entries_right [] ys all = all
entries_right (x ∷ xs) ys all = entries_right xs ys all.1

entries_with : (xs os ys : List Entry) (e : Entry) → IsEntry e → AreEntries (xs ++ (os ++ ys)) → AreEntries (xs ++ e ∷ ys)
entries_with [] os ys e this all = (this, entries_right os ys all)
entries_with (x ∷ xs) os ys e this all = (all.0, entries_with xs os ys e this all.1)

-- the header of a page
abbrev header_of : ℕ → ℕ → List Entry → List ℕ
header_of k l es = k ∷ 0 ∷ 0 ∷ 0 ∷ big_bytes 4 (length es) ++ big_bytes 4 (used_of es) ++ big_bytes 8 l ++ zeros 12

-- a page of so many bytes: these tuples are in front, those are kept apart
pub record Laid (n k l : ℕ) (xs ys : List Entry) (a : Apart) (page : List ℕ) : Type 0 where
  pub gap : List ℕ
  pub bytes : page ≡ (header_of k l (xs ++ ys) ++ bytes_of xs) ++ (gap ++ bytes_of ys)
  pub at : a.at ≡ used_of xs
  pub back : a.back ≡ a.at + length gap
  pub page_len : length page ≡ n
  pub len : IsPageLen n
  pub link : l < 2 ^ 64
  pub entries : AreEntries (xs ++ ys)

-- what is taken beyond a byte
take_sum : {X : Type 0} (a b : ℕ) (p : List X) → a ≤ b → take b p ≡ take a p ++ take (b - a) (drop a p)
take_sum {X} a b p le =
    let sum : a + (b - a) ≡ b = omega (arith, le) in
    sym (take-append-drop a (take b p)) ∙ ap (λ (x : List X). x ++ drop a (take b p)) (take-take a b p le)
    ∙ ap (λ (x : ℕ). take a p ++ drop a (take x p)) (sym sum) ∙ ap (λ (x : List X). take a p ++ x) (drop-take a (b - a) p)

drop_sum : {X : Type 0} (a b : ℕ) (p : List X) → a ≤ b → drop b p ≡ drop (b - a) (drop a p)
drop_sum {X} a b p le =
    let sum : a + (b - a) ≡ b = omega (arith, le) in
    ap (λ (x : ℕ). drop x p) (sym sum) ∙ sym (drop-drop (b - a) a p)

-- a closed page is as long as the page
pub length-closed : (a : Apart) (page : List ℕ) → Within (length page) a → length (closed a page) ≡ length page
length-closed a page in_it =
    omega (
      arith,
      in_it.gap,
      in_it.back,
      length-append (take a.at page) (drop a.back page ++ zeros (a.back - a.at)),
      length-append (drop a.back page) (zeros (a.back - a.at)),
      length-take-le a.at page (omega (arith, in_it.gap, in_it.back)),
      length-drop a.back page,
      length-replicate {A = ℕ} (a.back - a.at) 0,
    )

-- a page that keeps its tuples apart is laid so
module _ (n k l i : ℕ) (es : List Entry) (a : Apart) (page : List ℕ) (keeps : KeepsApart n k l i es a page) where
  abbrev split : List Entry
  split = take i es ++ drop i es

  split_is : split ≡ es
  split_is = take-append-drop i es

  bytes_are : bytes_of es ≡ bytes_of (take i es) ++ bytes_of (drop i es)
  bytes_are = ap bytes_of (sym split_is) ∙ bytes_join (take i es) (drop i es)

  lengths : length (bytes_of es) ≡ length (bytes_of (take i es)) + length (bytes_of (drop i es))
  lengths = ap length bytes_are ∙ length-append (bytes_of (take i es)) (bytes_of (drop i es))

  pub keeps_within : Within (length page) a
  keeps_within = record {
    gap = omega (arith, lengths, keeps.made.fits, keeps.parts.at, keeps.parts.back);
    back = omega (arith, keeps.parts.back, keeps.page_len);
  }

  front_len : length (take a.at page) ≡ a.at
  front_len = length-take-le a.at page (omega (arith, keeps_within.gap, keeps_within.back))

  made_at : length (header_of k l es ++ bytes_of (take i es)) ≡ a.at
  made_at = omega (arith, keeps.parts.at)

  made_bytes : closed a page ≡ (header_of k l es ++ bytes_of (take i es)) ++ (bytes_of (drop i es) ++ zeros (n - used_of es))
  made_bytes =
      keeps.made.bytes ∙ ap (λ (x : List ℕ). (header_of k l es ++ x) ++ zeros (n - used_of es)) bytes_are
      ∙ append_assoc (header_of k l es) (bytes_of (take i es) ++ bytes_of (drop i es)) (zeros (n - used_of es))
      ∙ ap (λ (x : List ℕ). header_of k l es ++ x) (append_assoc (bytes_of (take i es)) (bytes_of (drop i es)) (zeros (n - used_of es)))
      ∙ sym (append_assoc (header_of k l es) (bytes_of (take i es)) (bytes_of (drop i es) ++ zeros (n - used_of es)))

  front_is : take a.at page ≡ header_of k l es ++ bytes_of (take i es)
  front_is =
      sym (take_at (take a.at page) (drop a.back page ++ zeros (a.back - a.at)) a.at front_len) ∙ ap (take a.at) made_bytes
      ∙ take_at (header_of k l es ++ bytes_of (take i es)) (bytes_of (drop i es) ++ zeros (n - used_of es)) a.at made_at

  pub back_is : drop a.back page ≡ bytes_of (drop i es)
  back_is =
      let m = length (bytes_of (drop i es)) in
      let long : length (drop a.back page) ≡ m = omega (arith, length-drop a.back page, keeps.parts.back, keeps.page_len) in
      let both : drop a.back page ++ zeros (a.back - a.at) ≡ bytes_of (drop i es) ++ zeros (n - used_of es) =
      sym (drop_at (take a.at page) (drop a.back page ++ zeros (a.back - a.at)) a.at front_len) ∙ ap (drop a.at) made_bytes
      ∙ drop_at (header_of k l es ++ bytes_of (take i es)) (bytes_of (drop i es) ++ zeros (n - used_of es)) a.at made_at in
      sym (take_at (drop a.back page) (zeros (a.back - a.at)) m long) ∙ ap (take m) both ∙ take_at (bytes_of (drop i es)) (zeros (n - used_of es)) m refl

  pub back_entries : AreEntries (drop i es)
  back_entries = entries_right (take i es) (drop i es) (subst AreEntries (sym split_is) keeps.made.entries)

  pub laid : Laid n k l (take i es) (drop i es) a page
  laid =
      let gap = take (a.back - a.at) (drop a.at page) in
      let rest : drop a.at page ≡ gap ++ bytes_of (drop i es) =
      sym (take-append-drop (a.back - a.at) (drop a.at page))
      ∙ ap (λ (x : List ℕ). gap ++ x) (sym (drop_sum a.at a.back page keeps_within.gap) ∙ back_is) in
      record {
        gap = gap;
        bytes =
            sym (take-append-drop a.at page) ∙ ap (λ (x : List ℕ). x ++ drop a.at page) front_is
            ∙ ap (λ (x : List ℕ). (header_of k l es ++ bytes_of (take i es)) ++ x) rest
            ∙ ap (λ (x : List Entry). (header_of k l x ++ bytes_of (take i es)) ++ (gap ++ bytes_of (drop i es))) (sym split_is);
        at = keeps.parts.at;
        back = omega (arith, length-take-le (a.back - a.at) (drop a.at page) (omega (arith, length-drop a.at page, keeps_within.back)), keeps_within.gap);
        page_len = keeps.page_len;
        len = keeps.made.len;
        link = keeps.made.link;
        entries = subst AreEntries (sym split_is) keeps.made.entries;
      }

  pub count_is : count_of page ≡ length es
  count_is =
      let rest = (bytes_of (take i es)) ++ (laid.gap ++ bytes_of (drop i es)) in
      ap count_of laid.bytes
      ∙ big_number-reads_back 4 (length split) (big_bytes 4 (used_of split) ++ big_bytes 8 l ++ zeros 12 ++ rest) (omega (arith, ap (λ (x : List Entry). length x) split_is, length-bytes_of es, keeps.made.fits, keeps.made.len))
      ∙ ap (λ (x : List Entry). length x) split_is

  pub link_is : link_of page ≡ l
  link_is = ap link_of laid.bytes ∙ big_number-reads_back 8 l (zeros 12 ++ (bytes_of (take i es)) ++ (laid.gap ++ bytes_of (drop i es))) laid.link

-- and one that is laid so keeps them apart
pub keeps_of : (n k l : ℕ) (xs ys : List Entry) (a : Apart) (page : List ℕ) → Laid n k l xs ys a page → KeepsApart n k l (length xs) (xs ++ ys) a page
keeps_of n k l xs ys a page is =
    let es = xs ++ ys in
    let h = header_of k l es in
    let front : List ℕ = h ++ bytes_of xs in
    let at : length front ≡ a.at = omega (arith, is.at) in
    let joined = bytes_join xs ys in
    let sum : length page ≡ length front + (length is.gap + length (bytes_of ys)) =
    ap length is.bytes ∙ length-append front (is.gap ++ bytes_of ys) ∙ ap (λ (x : ℕ). length front + x) (length-append is.gap (bytes_of ys)) in
    let used : used_of es + length is.gap ≡ n = omega (arith, sum, ap length joined, length-append (bytes_of xs) (bytes_of ys), is.page_len) in
    let zero : a.back - a.at ≡ n - used_of es = omega (arith, is.back, used) in
    let front_is : take a.at page ≡ front = ap (take a.at) is.bytes ∙ take_at front (is.gap ++ bytes_of ys) a.at at in
    let behind : drop a.at page ≡ is.gap ++ bytes_of ys = ap (drop a.at) is.bytes ∙ drop_at front (is.gap ++ bytes_of ys) a.at at in
    let back_is : drop a.back page ≡ bytes_of ys =
    ap (λ (x : ℕ). drop x page) is.back ∙ sym (drop-drop (length is.gap) a.at page) ∙ ap (drop (length is.gap)) behind ∙ drop_at is.gap (bytes_of ys) (length is.gap) refl in
    let bytes : closed a page ≡ page_of n k l es =
    ap (λ (x : List ℕ). x ++ (drop a.back page ++ zeros (a.back - a.at))) front_is ∙ ap (λ (x : List ℕ). front ++ (x ++ zeros (a.back - a.at))) back_is
    ∙ append_assoc h (bytes_of xs) (bytes_of ys ++ zeros (a.back - a.at)) ∙ ap (λ (x : List ℕ). h ++ x) (sym (append_assoc (bytes_of xs) (bytes_of ys) (zeros (a.back - a.at))))
    ∙ sym (append_assoc h (bytes_of xs ++ bytes_of ys) (zeros (a.back - a.at))) ∙ ap (λ (x : List ℕ). (h ++ x) ++ zeros (a.back - a.at)) (sym joined)
    ∙ ap (λ (x : ℕ). (h ++ bytes_of es) ++ zeros x) zero in
    record {
      made = made_of n k l es (omega (arith, used)) is.len.1 is.link is.entries (writer_of n es) (closed a page) bytes is.len.0 refl refl refl;
      parts = record {
        index = omega (arith, length-append xs ys);
        at = is.at ∙ ap used_of (sym (take_at xs ys (length xs) refl));
        back = omega (arith, ap (λ (x : List Entry). length (bytes_of x)) (drop_at xs ys (length xs) refl), is.back, at, sum, is.page_len);
      };
      page_len = is.page_len;
    }

pub keeps_at : (n k l i : ℕ) (es : List Entry) (a : Apart) (page : List ℕ) → i ≤ length es → Laid n k l (take i es) (drop i es) a page → KeepsApart n k l i es a page
keeps_at n k l i es a page le is =
    subst (λ (x : ℕ). KeepsApart n k l x es a page) (length-take-le i es le)
    (subst (λ (x : List Entry). KeepsApart n k l (length (take i es)) x a page) (take-append-drop i es) (keeps_of n k l (take i es) (drop i es) a page is))

-- the tuples from a place on are moved to the end
pub opened : (n k l : ℕ) (es : List Entry) (place : Place) (old new : List ℕ) (at end : ℕ) → IsMade (writer_of n es) k l es old → IsPlace place old
    → end ≡ used_of es → at ≡ min place.at end → new ≡ copy_within old at end (length old - (end - at))
    → (let a : Apart = record { at = at; back = length old - (end - at) } in KeepsApart n k l place.index es a new)
opened n k l es place old new at end made is end_is at_is new_is =
    let found = made_tuples (writer_of n es) k l es old made in
    let i = place.index in
    let xs = take i es in
    let ys = drop i es in
    let m = length (bytes_of ys) in
    let h = header_of k l es in
    let z = zeros (n - used_of es) in
    let sum = place_sum place old es found is in
    let here : at ≡ used_of xs = omega (arith, at_is, end_is, sum, place_at place old es found is) in
    let moved : end - at ≡ m = omega (arith, here, end_is, sum, place_at place old es found is) in
    let back = length old - (end - at) in
    let whole = take-append-drop i es in
    let es_is : bytes_of es ≡ bytes_of xs ++ bytes_of ys = ap bytes_of (sym whole) ∙ bytes_join xs ys in
    let front : List ℕ = h ++ bytes_of xs in
    let front_at : length front ≡ at = omega (arith, here) in
    let old_is : old ≡ front ++ (bytes_of ys ++ z) =
    made.bytes ∙ ap (λ (x : List ℕ). (h ++ x) ++ z) es_is ∙ append_assoc h (bytes_of xs ++ bytes_of ys) z ∙ ap (λ (x : List ℕ). h ++ x) (append_assoc (bytes_of xs) (bytes_of ys) z)
    ∙ sym (append_assoc h (bytes_of xs) (bytes_of ys ++ z)) in
    let le : at ≤ back = omega (arith, moved, here, made.page_len, made.fits, sum, place_at place old es found is) in
    let gap = take (back - at) (drop at old) in
    let kept : take back old ≡ front ++ gap = take_sum at back old le ∙ ap (λ (x : List ℕ). x ++ gap) (ap (take at) old_is ∙ take_at front (bytes_of ys ++ z) at front_at) in
    let rest : take (end - at) (drop at old) ≡ bytes_of ys =
    ap (take (end - at)) (ap (drop at) old_is ∙ drop_at front (bytes_of ys ++ z) at front_at) ∙ take_at (bytes_of ys) z (end - at) (sym moved) in
    let none : drop (back + (end - at)) old ≡ [] = drop_all (back + (end - at)) old (omega (arith, moved, made.page_len, made.fits, sum)) in
    let bytes : new ≡ front ++ (gap ++ bytes_of ys) =
    new_is ∙ append_assoc (take back old) (take (end - at) (drop at old)) (drop (back + (end - at)) old) ∙ ap (λ (x : List ℕ). take back old ++ (take (end - at) (drop at old) ++ x)) none
    ∙ ap (λ (x : List ℕ). take back old ++ x) (append-nil (take (end - at) (drop at old))) ∙ ap (λ (x : List ℕ). take back old ++ x) rest
    ∙ ap (λ (x : List ℕ). x ++ bytes_of ys) kept ∙ append_assoc front gap (bytes_of ys) in
    let gap_len : length gap ≡ back - at = length-take-le (back - at) (drop at old) (omega (arith, length-drop at old)) in
    let a : Apart = record { at = at; back = back } in
    let new_len : length new ≡ n = omega (arith, ap length bytes, length-append front (gap ++ bytes_of ys), length-append gap (bytes_of ys), gap_len, front_at, moved, le, made.page_len, made.fits, sum) in
    let lies : Laid n k l xs ys a new = record {
      gap = gap;
      bytes = bytes ∙ ap (λ (x : List Entry). (header_of k l x ++ bytes_of xs) ++ (gap ++ bytes_of ys)) (sym whole);
      at = here;
      back = omega (arith, gap_len, le);
      page_len = new_len;
      len = made.len;
      link = made.link;
      entries = subst AreEntries (sym whole) made.entries;
    } in
    keeps_at n k l i es a new (place_in place old es found is) lies

-- tuples that are passed leave the closed page as it is
pub passed : (at back to : ℕ) (old new : List ℕ) → at ≤ back → back ≤ to → to ≤ length old → new ≡ copy_within old back to at
    → (let a : Apart = record { at = at; back = back } in let b : Apart = record { at = at + (to - back); back = to } in closed b new ≡ closed a old)
passed at back to old new gap order within is =
    let m = to - back in
    let rest = drop back old in
    let fits : m ≤ length rest = omega (arith, length-drop back old, within) in
    let at_in : at ≤ length old = omega (arith, gap, order, within) in
    let le : at + m ≤ to = omega (arith, gap, order) in
    let front : take (at + m) new ≡ take at old ++ take m rest = ap (take (at + m)) is ∙ take-paste old at rest m at_in fits in
    let behind : drop to new ≡ drop to old =
    drop_sum (at + m) to new le ∙ ap (drop (to - (at + m))) (ap (drop (at + m)) is ∙ drop-paste old at rest m at_in fits) ∙ sym (drop_sum (at + m) to old le) in
    let same : to - (at + m) ≡ back - at = omega (arith, gap, order) in
    let whole : take m rest ++ drop to old ≡ rest = ap (λ (x : List ℕ). take m rest ++ x) (drop_sum back to old order) ∙ take-append-drop m rest in
    ap (λ (x : List ℕ). x ++ (drop to new ++ zeros (to - (at + m)))) front ∙ ap (λ (x : List ℕ). (take at old ++ take m rest) ++ (x ++ zeros (to - (at + m)))) behind
    ∙ ap (λ (x : ℕ). (take at old ++ take m rest) ++ (drop to old ++ zeros x)) same ∙ append_assoc (take at old) (take m rest) (drop to old ++ zeros (back - at))
    ∙ ap (λ (x : List ℕ). take at old ++ x) (sym (append_assoc (take m rest) (drop to old) (zeros (back - at)))) ∙ ap (λ (x : List ℕ). take at old ++ (x ++ zeros (back - at))) whole

-- and are told of by how many they are
pub parts_passed : (n i j : ℕ) (es : List Entry) (at back to : ℕ) → j ≤ length (drop i es) → to ≡ back + length (bytes_of (take j (drop i es)))
    → (let a : Apart = record { at = at; back = back } in Parts n i es a)
    → (let b : Apart = record { at = at + (to - back); back = to } in Parts n (i + j) es b)
parts_passed n i j es at back to le to_is is =
    let ys = drop i es in
    let xs = take i es in
    let sum : i + j - i ≡ j = omega arith in
    let more : take (i + j) es ≡ xs ++ take j ys = take_sum i (i + j) es (omega arith) ∙ ap (λ (x : ℕ). xs ++ take x ys) sum in
    let left : drop (i + j) es ≡ drop j ys = sym (drop-drop j i es) in
    let both = ap (λ (x : List Entry). length (bytes_of x)) (take-append-drop j ys) in
    record {
      index = omega (arith, le, is.index, length-drop i es);
      at = omega (arith, is.at, to_is, ap (λ (x : List Entry). length (bytes_of x)) more, ap length (bytes_join xs (take j ys)), length-append (bytes_of xs) (bytes_of (take j ys)));
      back = omega (arith, is.back, to_is, ap (λ (x : List Entry). length (bytes_of x)) left, both, ap length (bytes_join (take j ys) (drop j ys)), length-append (bytes_of (take j ys)) (bytes_of (drop j ys)));
    }

-- a tuple is put behind those in front, and others give way to it
pub put_behind : (n k l : ℕ) (xs os ys : List Entry) (e : Entry) (a : Apart) (page p2 p3 : List ℕ) (to cnt used : ℕ) → IsEntry e → KeepsApart n k l (length xs) (xs ++ (os ++ ys)) a page
    → to ≡ a.back + length (bytes_of os) → cnt ≡ length (xs ++ e ∷ ys) → a.at + size_of e ≤ to → used ≡ a.at + size_of e + (length p2 - to)
    → p2 ≡ take a.at page ++ (bytes_of (e ∷ []) ++ drop (a.at + size_of e) page) → p3 ≡ take 4 p2 ++ big_bytes 4 cnt ++ big_bytes 4 used ++ drop 12 p2
    → (let b : Apart = record { at = a.at + size_of e; back = to } in KeepsApart n k l (length xs + 1) (xs ++ e ∷ ys) b p3)
put_behind n k l xs os ys e a page p2 p3 to cnt used this keeps to_is cnt_is room used_is p2_is p3_is =
    let es = xs ++ (os ++ ys) in
    let es' = (xs ++ e ∷ []) ++ ys in
    let es_is : es' ≡ xs ++ e ∷ ys = append_assoc xs (e ∷ []) ys in
    let is = laid n k l (length xs) es a page keeps in
    let front : List ℕ = header_of k l es ++ bytes_of xs in
    let bo = bytes_of os in
    let by = bytes_of ys in
    let be = bytes_of (e ∷ []) in
    let m = size_of e in
    let xs_is : take (length xs) es ≡ xs = take_at xs (os ++ ys) (length xs) refl in
    let rest_is : drop (length xs) es ≡ os ++ ys = drop_at xs (os ++ ys) (length xs) refl in
    let page_is : page ≡ front ++ ((is.gap ++ bo) ++ by) =
    is.bytes ∙ ap (λ (x : List Entry). (header_of k l x ++ bytes_of (take (length xs) es)) ++ (is.gap ++ bytes_of (drop (length xs) es))) (take-append-drop (length xs) es)
    ∙ ap (λ (x : List Entry). (header_of k l es ++ bytes_of x) ++ (is.gap ++ bytes_of (drop (length xs) es))) xs_is ∙ ap (λ (x : List Entry). front ++ (is.gap ++ bytes_of x)) rest_is
    ∙ ap (λ (x : List ℕ). front ++ (is.gap ++ x)) (bytes_join os ys) ∙ ap (λ (x : List ℕ). front ++ x) (sym (append_assoc is.gap bo by)) in
    let at : a.at ≡ used_of xs = is.at ∙ ap used_of xs_is in
    let front_at : length front ≡ a.at = omega (arith, at) in
    let gap_len : length (is.gap ++ bo) ≡ length is.gap + length bo = length-append is.gap bo in
    let to_at : to ≡ a.at + length (is.gap ++ bo) = omega (arith, to_is, is.back, gap_len) in
    let gap = drop m (is.gap ++ bo) in
    let left : length gap + m ≡ length (is.gap ++ bo) = omega (arith, length-drop m (is.gap ++ bo), room, to_at) in
    let behind : drop (a.at + m) page ≡ gap ++ by =
    sym (drop-drop m a.at page) ∙ ap (drop m) (ap (drop a.at) page_is ∙ drop_at front ((is.gap ++ bo) ++ by) a.at front_at) ∙ drop-append-le m (is.gap ++ bo) by (omega (arith, room, to_at)) in
    let put : p2 ≡ front ++ (be ++ (gap ++ by)) =
    p2_is ∙ ap (λ (x : List ℕ). x ++ (be ++ drop (a.at + m) page)) (ap (take a.at) page_is ∙ take_at front ((is.gap ++ bo) ++ by) a.at front_at) ∙ ap (λ (x : List ℕ). front ++ (be ++ x)) behind in
    let be_len : length be ≡ m = omega (arith, length-append (entry_bytes e) [], length-entry_bytes e) in
    let sum : length page ≡ a.at + (length (is.gap ++ bo) + length by) =
    omega (arith, ap length page_is, length-append front ((is.gap ++ bo) ++ by), length-append (is.gap ++ bo) by, front_at) in
    let put_len : length p2 ≡ length page = omega (arith, ap length put, length-append front (be ++ (gap ++ by)), length-append be (gap ++ by), length-append gap by, front_at, be_len, left, sum) in
    let bytes_are : bytes_of (xs ++ e ∷ []) ≡ bytes_of xs ++ be = bytes_join xs (e ∷ []) in
    let lens = length-append (bytes_of xs) be in
    let cnt' : cnt ≡ length es' = cnt_is ∙ ap (λ (x : List Entry). length x) (sym es_is) in
    let used' : used ≡ used_of es' =
    omega (arith, used_is, put_len, to_at, sum, at, be_len, ap length (bytes_join (xs ++ e ∷ []) ys), length-append (bytes_of (xs ++ e ∷ [])) by, ap length bytes_are, lens) in
    let inner : bytes_of xs ++ (be ++ (gap ++ by)) ≡ bytes_of (xs ++ e ∷ []) ++ (gap ++ by) =
    sym (append_assoc (bytes_of xs) be (gap ++ by)) ∙ ap (λ (x : List ℕ). x ++ (gap ++ by)) (sym bytes_are) in
    let bytes : p3 ≡ (header_of k l es' ++ bytes_of (xs ++ e ∷ [])) ++ (gap ++ by) =
    p3_is ∙ ap (λ (x : List ℕ). take 4 x ++ big_bytes 4 cnt ++ big_bytes 4 used ++ drop 12 x) put
    ∙ ap (λ (x : List ℕ). k ∷ 0 ∷ 0 ∷ 0 ∷ big_bytes 4 cnt ++ big_bytes 4 used ++ big_bytes 8 l ++ zeros 12 ++ x) inner
    ∙ ap (λ (x : ℕ). k ∷ 0 ∷ 0 ∷ 0 ∷ big_bytes 4 x ++ big_bytes 4 used ++ big_bytes 8 l ++ zeros 12 ++ (bytes_of (xs ++ e ∷ []) ++ (gap ++ by))) cnt'
    ∙ ap (λ (x : ℕ). k ∷ 0 ∷ 0 ∷ 0 ∷ big_bytes 4 (length es') ++ big_bytes 4 x ++ big_bytes 8 l ++ zeros 12 ++ (bytes_of (xs ++ e ∷ []) ++ (gap ++ by))) used' in
    let b : Apart = record { at = a.at + m; back = to } in
    let front' : List ℕ = header_of k l es' ++ bytes_of (xs ++ e ∷ []) in
    let front_len' : length front' ≡ a.at + m = omega (arith, at, be_len, ap length bytes_are, lens) in
    let lies : Laid n k l (xs ++ e ∷ []) ys b p3 = record {
      gap = gap;
      bytes = bytes;
      at = omega (arith, at, be_len, ap length bytes_are, lens);
      back = omega (arith, to_at, left);
      page_len = omega (arith, ap length bytes, length-append front' (gap ++ by), length-append gap by, front_len', left, sum, keeps.page_len);
      len = keeps.made.len;
      link = keeps.made.link;
      entries = subst AreEntries (sym es_is) (entries_with xs os ys e this keeps.made.entries);
    } in
    subst (λ (x : ℕ). KeepsApart n k l x (xs ++ e ∷ ys) b p3) (length-append xs (e ∷ []))
    (subst (λ (x : List Entry). KeepsApart n k l (length (xs ++ e ∷ [])) x b p3) es_is (keeps_of n k l (xs ++ e ∷ []) ys b p3 lies))
