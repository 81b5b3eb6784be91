-- The children of an inner page, by their index.
use Rattle.std.proofs.Common.{◌≡◌, ◌<◌, ◌≤◌, ◌+◌, ◌*◌, ◌/◌, ◌^◌, min, ℕ, zero, suc, List, ◌∷◌, length, take, drop, get_or, refl, sym, ◌∙◌, ap, subst, arith, inl, inr}
use Rattle.std.proofs.lemmas.Bool.{cases_lt}
use Rattle.std.proofs.lemmas.List.{length-drop, drop-drop, get_or-take}
use Rattle.byteorder.specs.Endian.{big_number, big_from}
use Rattle.px_pages.specs.Entry.{Entry, entry_at, entries_in, len_at}
use Rattle.px_pages.specs.Page.{tuples_of, count_of}
use Rattle.px_pages.specs.Children.{AreChildren, child_of}
use Rattle.px_pages.specs.declared.inner.Child.{Child}
use Rattle.px_pages.proofs.Reading.{entries_none, entries_more, length-body_at}

-- the first of the children, and those behind it
record First (n : ℕ) (bytes : List ℕ) : Type 0 where
  room : 21 ≤ length bytes
  len : len_at bytes ≡ 8
  more : entries_in (suc n) bytes ≡ entry_at bytes ∷ entries_in n (drop 21 bytes)
  rest : AreChildren (entries_in n (drop 21 bytes))

first_child : (n : ℕ) (bytes : List ℕ) → 13 ≤ length bytes → AreChildren (entries_in (suc n) bytes) → First n bytes
first_child n bytes room all =
    let more = entries_more n bytes room in
    let both = subst AreChildren more all in
    let len : len_at bytes ≡ 8 = sym (length-body_at bytes room) ∙ both.0 in
    let same : drop (13 + len_at bytes) bytes ≡ drop 21 bytes = ap (λ (k : ℕ). drop (13 + k) bytes) len in
    record {
      room = omega (arith, len);
      len = len;
      more = more ∙ ap (λ (l : List ℕ). entry_at bytes ∷ entries_in n l) same;
      rest = subst (λ (l : List ℕ). AreChildren (entries_in n l)) same both.1;
    }

pub children_found : (n : ℕ) (bytes : List ℕ) → AreChildren (entries_in n bytes) → length (entries_in n bytes) ≡ min n (length bytes / 21)
children_found zero bytes all = omega arith
children_found (suc n) bytes all = elim (cases_lt (length bytes) 13) [
  | inl short ↦ omega (arith, ap (λ (es : List Entry). length es) (entries_none (suc n) bytes short), short)
  | inr room ↦
      let first = first_child n bytes room all in
      omega (arith, ap (λ (es : List Entry). length es) first.more, children_found n (drop 21 bytes) first.rest, length-drop 21 bytes, first.room)
]

pub child_found : (n : ℕ) (bytes : List ℕ) (i : ℕ) (d : Entry) → AreChildren (entries_in n bytes) → i < length (entries_in n bytes)
    → (get_or (entries_in n bytes) i d ≡ entry_at (drop (21 * i) bytes)) × (len_at (drop (21 * i) bytes) ≡ 8)
child_found zero bytes i d all in_range = absurd (omega arith)
child_found (suc n) bytes zero d all in_range = elim (cases_lt (length bytes) 13) [
  | inl short ↦ absurd (omega (arith, ap (λ (es : List Entry). length es) (entries_none (suc n) bytes short), in_range))
  | inr room ↦
      let first = first_child n bytes room all in
      (ap (λ (es : List Entry). get_or es 0 d) first.more, first.len)
]
child_found (suc n) bytes (suc i) d all in_range = elim (cases_lt (length bytes) 13) [
  | inl short ↦ absurd (omega (arith, ap (λ (es : List Entry). length es) (entries_none (suc n) bytes short), in_range))
  | inr room ↦
      let first = first_child n bytes room all in
      let next = child_found n (drop 21 bytes) i d first.rest (omega (arith, ap (λ (es : List Entry). length es) first.more, in_range)) in
      let at : 21 + 21 * i ≡ 21 * suc i = omega arith in
      let same : drop (21 * i) (drop 21 bytes) ≡ drop (21 * suc i) bytes = drop-drop (21 * i) 21 bytes ∙ ap (λ (k : ℕ). drop k bytes) at in (
        ap (λ (es : List Entry). get_or es (suc i) d) first.more ∙ next.0 ∙ ap entry_at same,
        ap len_at (sym same) ∙ next.1,
      )
]

big_from-take : (i n m : ℕ) (bytes : List ℕ) → i + n ≤ m → big_from i n (take m bytes) ≡ big_from i n bytes
big_from-take i zero m bytes within = refl
big_from-take i (suc n) m bytes within =
    let first : get_or (take m bytes) i 0 ≡ get_or bytes i 0 = get_or-take m bytes i 0 (omega (arith, within)) in
    let rest = big_from-take (suc i) n m bytes (omega (arith, within)) in
    ap (λ (x : ℕ). x * 256 ^ n + big_from (suc i) n (take m bytes)) first ∙ ap (λ (x : ℕ). get_or bytes i 0 * 256 ^ n + x) rest

-- the child with an index, as it was read from the bytes
pub child_read : (page at_key at_page : List ℕ) (i key number : ℕ) (d : Entry) → AreChildren (tuples_of page) → i < length (tuples_of page)
    → at_key ≡ drop (32 + 21 * i) page → at_page ≡ drop (32 + 21 * i + 13) page → key ≡ big_number 8 at_key → number ≡ big_number 8 at_page
    → let c : Child = record { key = key; page = number } in c ≡ child_of (get_or (tuples_of page) i d)
child_read page at_key at_page i key number d all in_range at_is page_is key_is number_is =
    let bytes = drop 32 page in
    let found = child_found (count_of page) bytes i d all in_range in
    let b = drop (21 * i) bytes in
    let here : at_key ≡ b = at_is ∙ sym (drop-drop (21 * i) 32 page) in
    let body : at_page ≡ drop 13 b = page_is ∙ sym (drop-drop 13 (32 + 21 * i) page) ∙ ap (drop 13) (sym (drop-drop (21 * i) 32 page)) in
    let key' : key ≡ big_number 8 b = key_is ∙ ap (big_number 8) here in
    let number' : number ≡ big_number 8 (take (len_at b) (drop 13 b)) =
    number_is ∙ ap (big_number 8) body ∙ sym (big_from-take 0 8 8 (drop 13 b) (omega arith)) ∙ ap (λ (k : ℕ). big_number 8 (take k (drop 13 b))) (sym found.1) in
    let same : child_of (get_or (tuples_of page) i d) ≡ child_of (entry_at b) = ap child_of found.0 in
    cc (key', number', same)
