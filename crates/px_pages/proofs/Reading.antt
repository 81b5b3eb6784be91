-- Tuples are found in bytes.
use Rattle.std.proofs.Common.{◌≡◌, ◌↔◌, ℕ, zero, suc, ◌+◌, ◌-◌, ◌<◌, ◌≤◌, min, true, false, IsTrue, List, [], ◌∷◌, length, take, drop, get_or, refl, sym, ◌∙◌, ap, arith, nat_lt}
use Rattle.std.proofs.Common.{inl, inr}
use Rattle.std.proofs.lemmas.Bool.{cases_lt}
use Rattle.std.proofs.lemmas.Bool.Decides.{nat_tests}
use Rattle.std.proofs.lemmas.List.{take_rest, drop-drop, length-drop, length-append, length-take-le}
use Rattle.byteorder.specs.Endian.{big_number}
use Rattle.px_pages.specs.Entry.{Entry, entry, entry_at, bytes_of, len_at, entries_in}

pub entries_none : (n : ℕ) (bytes : List ℕ) → length bytes < 13 → entries_in n bytes ≡ []
entries_none zero bytes short = refl
entries_none (suc n) bytes short = let yes : nat_lt (length bytes) 13 ≡ true = grind (arith, nat_tests) in rw yes refl

pub entries_more : (n : ℕ) (bytes : List ℕ) → 13 ≤ length bytes → entries_in (suc n) bytes ≡ entry_at bytes ∷ entries_in n (drop (13 + len_at bytes) bytes)
entries_more n bytes room = let no : nat_lt (length bytes) 13 ≡ false = grind (arith, nat_tests) in rw no refl

-- at a place in a page
pub next_entry : (left at len w : ℕ) (page rest : List ℕ) → rest ≡ drop at page → (left ≡ 0 → ⊥) → 13 ≤ length rest
    → w ≡ big_number 4 (take (length rest - 9) (drop 9 rest)) → len ≡ min w (length rest - 13)
    → entries_in left (drop at page) ≡ entry (big_number 8 rest) (get_or rest 8 0) (take len (drop (at + 13) page)) ∷ entries_in (left - 1) (drop (at + 13 + len) page)
next_entry zero at len w page rest is some room written least = absurd (some refl)
next_entry (suc left) at len w page rest is some room written least =
    let same_len : len ≡ len_at rest = least ∙ ap (λ (x : ℕ). min x (length rest - 13)) (written ∙ ap (big_number 4) (take_rest rest 9)) in
    let body : take (len_at rest) (drop 13 rest) ≡ take len (drop (at + 13) page) =
    ap (λ (l : ℕ). take l (drop 13 rest)) (sym same_len) ∙ ap (λ (r : List ℕ). take len (drop 13 r)) is ∙ ap (take len) (drop-drop 13 at page) in
    let after : drop (13 + len_at rest) rest ≡ drop (at + 13 + len) page =
    ap (λ (l : ℕ). drop (13 + l) rest) (sym same_len) ∙ ap (drop (13 + len)) is ∙ drop-drop (13 + len) at page
    ∙ (let e : at + (13 + len) ≡ at + 13 + len = omega arith in ap (λ (n : ℕ). drop n page) e) in
    let n : left ≡ suc left - 1 = omega arith in
    ap (entries_in (suc left)) (sym is) ∙ entries_more left rest room
    ∙ ap (λ (b : List ℕ). entry (big_number 8 rest) (get_or rest 8 0) b ∷ entries_in left (drop (13 + len_at rest) rest)) body
    ∙ ap (λ (b : List ℕ). entry (big_number 8 rest) (get_or rest 8 0) (take len (drop (at + 13) page)) ∷ entries_in left b) after
    ∙ ap (λ (m : ℕ). entry (big_number 8 rest) (get_or rest 8 0) (take len (drop (at + 13) page)) ∷ entries_in m (drop (at + 13 + len) page)) n

pub length-body_at : (bytes : List ℕ) → 13 ≤ length bytes → length (take (len_at bytes) (drop 13 bytes)) ≡ len_at bytes
length-body_at bytes room = length-take-le (len_at bytes) (drop 13 bytes) (omega (arith, length-drop 13 bytes))

-- what is found has room in the bytes
pub length-bytes_of-entries_in : (n : ℕ) (bytes : List ℕ) → length (bytes_of (entries_in n bytes)) ≤ length bytes
length-bytes_of-entries_in zero bytes = omega arith
length-bytes_of-entries_in (suc n) bytes = elim (cases_lt (length bytes) 13) [
  | inl short ↦ let none = ap (λ (es : List Entry). length (bytes_of es)) (entries_none (suc n) bytes short) in omega (arith, none)
  | inr room ↦
      let rest = drop (13 + len_at bytes) bytes in
      let more = ap (λ (es : List Entry). length (bytes_of es)) (entries_more n bytes room) in
      let both = length-append (entry_at bytes).body (bytes_of (entries_in n rest)) in
      let later = length-bytes_of-entries_in n rest in
      omega (arith, more, both, length-body_at bytes room, later, length-drop (13 + len_at bytes) bytes)
]

-- whether a reader that has some to give finds one
pub none_more : (left at : ℕ) (page : List ℕ) → (left ≡ 0 → ⊥) → IsTrue (nat_lt (length page) (at + 13)) ↔ (entries_in left (drop at page) ≡ [])
none_more zero at page some = absurd (some refl)
none_more (suc left) at page some = grind (arith, nat_tests, length-drop at page)
