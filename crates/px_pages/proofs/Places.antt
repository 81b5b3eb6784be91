-- Places among the tuples of a page.
use Rattle.std.proofs.Common.{Bool, true, false, ◌≡◌, ◌<◌, ◌≤◌, ◌+◌, ℕ, zero, suc, List, [], ◌∷◌, ◌++◌, length, take, drop, set, refl, sym, ◌∙◌, ap, subst, arith, drop-cons, ◌-◌, ◌*◌, inl, inr, nat_lt}
use Rattle.std.specs.Prelude.{slice_get, option_map, IsSome, IfSome, IsTrue, ◌↔◌, Option, Some, None}
use Rattle.std.specs.List.{prefix_len}
use Rattle.std.proofs.lemmas.Bool.{cases_lt, cases_Bool}
use Rattle.std.proofs.lemmas.Bool.Decides.{nat_tests}
use Rattle.std.proofs.lemmas.List.{length-append, length-drop, length-take-le, take-append-drop, drop-drop}
use Rattle.std.proofs.lemmas.Option.{slice_get_past, slice_get_within, get_or_from_slice_get}
use Rattle.px_pages.specs.Entry.{Entry, entry_bytes, bytes_of, size_of, entry_at, len_at, entries_in}
use Rattle.px_pages.specs.Page.{tuples_of, used_of, entry_of, left_of, count_of}
use Rattle.px_pages.specs.Place.{IsPlace, IsFront, is_below}
use Rattle.px_pages.specs.declared.reader.Tuple.{Tuple}
use Rattle.px_pages.specs.declared.place.Place.{Place}
use Rattle.px_pages.proofs.Editing.{bytes_join}
use Rattle.px_pages.proofs.Writing.{length-entry_bytes, length-bytes_of}
use Rattle.px_pages.proofs.Reading.{entries_none, entries_more, length-body_at, length-bytes_of-entries_in}

-- the first of the tuples from a place on
pub record Head (i : ℕ) (ts : List Entry) (e : Entry) (rest : List Entry) : Type 0 where
  pub get : slice_get ts i ≡ Some e
  pub rest_is : drop (i + 1) ts ≡ rest
  pub bytes : length (bytes_of (take (i + 1) ts)) ≡ length (bytes_of (take i ts)) + size_of e
  pub within : i + 1 ≤ length ts

no_cons : (e : Entry) (rest : List Entry) → [] ≡ e ∷ rest → ⊥
no_cons e rest is = cc is

pub head_is : (i : ℕ) (ts : List Entry) (e : Entry) (rest : List Entry) → drop i ts ≡ e ∷ rest → Head i ts e rest
head_is zero [] e rest is = absurd (no_cons e rest is)
head_is (suc i) [] e rest is = absurd (no_cons e rest is)
head_is zero (x ∷ ts) e rest is = record {
  get = cc is;
  rest_is = cc is;
  bytes =
      let same : x ≡ e = cc is in
      ap (λ (d : Entry). length (bytes_of (d ∷ []))) same ∙ omega (arith, length-append (entry_bytes e) [], length-entry_bytes e);
  within = omega arith;
}
head_is (suc i) (x ∷ ts) e rest is =
    let next = head_is i ts e rest is in
    record {
      get = next.get;
      rest_is = let n : suc i + 1 ≡ suc (i + 1) = omega arith in ap (λ (k : ℕ). drop k (x ∷ ts)) n ∙ next.rest_is;
      bytes =
          let n : suc i + 1 ≡ suc (i + 1) = omega arith in
          ap (λ (k : ℕ). length (bytes_of (take k (x ∷ ts)))) n
          ∙ omega (arith, next.bytes, length-append (entry_bytes x) (bytes_of (take (i + 1) ts)), length-append (entry_bytes x) (bytes_of (take i ts)));
      within = omega (arith, next.within);
    }

-- a tuple that is replaced
pub set-take-drop : (i : ℕ) (ts : List Entry) (e : Entry) → i < length ts → set ts i e ≡ take i ts ++ e ∷ drop (suc i) ts
set-take-drop i [] e in_range = absurd (omega arith)
set-take-drop zero (x ∷ ts) e in_range = refl
set-take-drop (suc i) (x ∷ ts) e in_range = ap (λ (l : List Entry). x ∷ l) (set-take-drop i ts e (omega arith))

pub length-remove : (i : ℕ) (ts : List Entry) → i < length ts → length (take i ts ++ drop (suc i) ts) + 1 ≡ length ts
length-remove i [] in_range = absurd (omega arith)
length-remove zero (x ∷ ts) in_range = omega arith
length-remove (suc i) (x ∷ ts) in_range = omega (arith, length-remove i ts (omega arith))

pub size_of-entry_of : (t : Tuple) (page : List ℕ) → t.at + t.len ≤ length page → size_of (entry_of t page) ≡ 13 + t.len
size_of-entry_of t page within =
    let body : length (take t.len (drop t.at page)) ≡ t.len = length-take-le t.len (drop t.at page) (omega (arith, length-drop t.at page)) in
    omega (arith, body)

-- where a walk over a page stands
module _ (page : List ℕ) (i at : ℕ) (in_range : i ≤ length (tuples_of page)) (at_is : at ≡ used_of (take i (tuples_of page))) where
  pub here_at : (t : Tuple) (rest : List Entry) → drop i (tuples_of page) ≡ entry_of t page ∷ rest → t.at + t.len ≤ length page
      → IsPlace (record { index = i; at = at; tuple = Some t }) page
  here_at t rest is within = record {
    index = in_range;
    at = at_is;
    tuple = sym (head_is i (tuples_of page) (entry_of t page) rest is).get;
    within = within;
  }

  pub end_at : drop i (tuples_of page) ≡ [] → IsPlace (record { index = i; at = at; tuple = None }) page
  end_at is = record {
    index = in_range;
    at = at_is;
    tuple = sym (slice_get_past (tuples_of page) i (omega (arith, ap (λ (l : List Entry). length l) is, length-drop i (tuples_of page))));
    within = tt;
  }

  pub next_at : (t : Tuple) (rest : List Entry) → drop i (tuples_of page) ≡ entry_of t page ∷ rest → t.at + t.len ≤ length page → t.at ≡ at + 13
      → t.at + t.len ≡ used_of (take (i + 1) (tuples_of page))
  next_at t rest is within start =
      omega (arith, at_is, start, (head_is i (tuples_of page) (entry_of t page) rest is).bytes, size_of-entry_of t page within)

-- a place of a page with these tuples
module _ (place : Place) (page : List ℕ) (es : List Entry) (found : tuples_of page ≡ es) (is : IsPlace place page) where
  pub place_in : place.index ≤ length es
  place_in = subst (λ (l : List Entry). place.index ≤ length l) found is.index

  pub place_at : place.at ≡ used_of (take place.index es)
  place_at = is.at ∙ ap (λ (l : List Entry). used_of (take place.index l)) found

  pub place_whole : es ≡ take place.index es ++ drop place.index es
  place_whole = sym (take-append-drop place.index es)

  pub place_sum : used_of es ≡ place.at + length (bytes_of (drop place.index es))
  place_sum =
      omega (
        arith,
        place_at,
        ap (λ (l : List Entry). length (bytes_of l)) place_whole,
        ap length (bytes_join (take place.index es) (drop place.index es)),
        length-append (bytes_of (take place.index es)) (bytes_of (drop place.index es)),
      )

  pub place_count : (e : Entry) → length (take place.index es ++ e ∷ drop place.index es) ≡ length es + 1
  place_count e =
      omega (arith, length-append (take place.index es) (e ∷ drop place.index es), length-append (take place.index es) (drop place.index es), ap (λ (l : List Entry). length l) place_whole)

  -- where a tuple stands at it
  module _ (t : Tuple) (tuple : place.tuple ≡ Some t) where
    place_get : slice_get es place.index ≡ Some (entry_of t page)
    place_get =
        ap (λ (l : List Entry). slice_get l place.index) (sym found) ∙ sym is.tuple ∙ ap (option_map (λ (u : Tuple). entry_of u page)) tuple

    pub place_within : place.index < length es
    place_within = slice_get_within es place.index (entry_of t page) place_get

    pub place_drop : drop place.index es ≡ entry_of t page ∷ drop (suc place.index) es
    place_drop =
        let d = entry_of t page in
        drop-cons es place.index d place_within
        ∙ ap (λ (e : Entry). e ∷ drop (suc place.index) es) (get_or_from_slice_get es place.index d d place_get)

    pub place_tuple : es ≡ take place.index es ++ (entry_of t page ∷ drop (suc place.index) es)
    place_tuple = place_whole ∙ ap (λ (l : List Entry). take place.index es ++ l) place_drop

    pub place_size : length (bytes_of (entry_of t page ∷ [])) ≡ 13 + t.len
    place_size =
        let within : t.at + t.len ≤ length page = subst (λ (o : Option Tuple). IfSome o (λ u. u.at + u.len ≤ length page)) tuple is.within in
        omega (arith, length-append (entry_bytes (entry_of t page)) [], length-entry_bytes (entry_of t page), size_of-entry_of t page within)

    pub place_after : used_of es ≡ place.at + (13 + t.len) + length (bytes_of (drop (suc place.index) es))
    place_after =
        omega (
          arith,
          place_sum,
          ap (λ (l : List Entry). length (bytes_of l)) place_drop,
          place_size,
          length-append (entry_bytes (entry_of t page)) [],
          length-append (entry_bytes (entry_of t page)) (bytes_of (drop (suc place.index) es)),
        )

-- a gap that a test found no room for
pub no_room : (b : Bool) (P : Type 0) → (IsTrue b ↔ P) → b ≡ false → P → ⊥
no_room b P is off p = let yes : b ≡ true = is.1 p in cc

-- an option that is there
pub some_of : (o : Option Tuple) (P : Type 0) → IsSome o → ((t : Tuple) → o ≡ Some t → P) → P
some_of None P is f = cc is
some_of (Some t) P is f = f t refl

pub some_given : (o : Option Tuple) (P : Tuple → Type 0) → ((t : Tuple) → o ≡ Some t → P t) → IfSome o P
some_given None P f = tt
some_given (Some t) P f = f t refl

pub size_is : (o : Option Tuple) (t : Tuple) → o ≡ Some t → (n : ℕ) → IfSome o (λ u. n ≡ 13 + u.len) → n ≡ 13 + t.len
size_is o t is n size = subst (λ (p : Option Tuple). IfSome p (λ u. n ≡ 13 + u.len)) is size

-- what is left behind so many tuples
pub entries_behind : (n i : ℕ) (bytes : List ℕ) → i ≤ length (entries_in n bytes)
    → entries_in (n - i) (drop (length (bytes_of (take i (entries_in n bytes)))) bytes) ≡ drop i (entries_in n bytes)
entries_behind n zero bytes in_range = let whole : n - 0 ≡ n = omega arith in ap (λ (k : ℕ). entries_in k bytes) whole
entries_behind zero (suc i) bytes in_range = absurd (omega arith)
entries_behind (suc n) (suc i) bytes in_range = elim (cases_lt (length bytes) 13) [
  | inl short ↦ let none = ap (λ (es : List Entry). length es) (entries_none (suc n) bytes short) in absurd (omega (arith, none))
  | inr room ↦
      let e = entry_at bytes in
      let rest = drop (13 + len_at bytes) bytes in
      let more : entries_in (suc n) bytes ≡ e ∷ entries_in n rest = entries_more n bytes room in
      let L = length (bytes_of (take i (entries_in n rest))) in
      let first : i ≤ length (entries_in n rest) = omega (arith, ap (λ (es : List Entry). length es) more) in
      let size : length (entry_bytes e ++ bytes_of (take i (entries_in n rest))) ≡ (13 + len_at bytes) + L =
      omega (arith, length-append (entry_bytes e) (bytes_of (take i (entries_in n rest))), length-entry_bytes e, length-body_at bytes room) in
      let left : suc n - suc i ≡ n - i = omega arith in
      ap (λ (k : ℕ). entries_in k (drop (length (bytes_of (take (suc i) (entries_in (suc n) bytes)))) bytes)) left
      ∙ ap (λ (es : List Entry). entries_in (n - i) (drop (length (bytes_of (take (suc i) es))) bytes)) more
      ∙ ap (λ (k : ℕ). entries_in (n - i) (drop k bytes)) size
      ∙ ap (entries_in (n - i)) (sym (drop-drop L (13 + len_at bytes) bytes))
      ∙ entries_behind n i rest first
      ∙ ap (λ (es : List Entry). drop (suc i) es) (sym more)
]

pub left_behind : (page : List ℕ) (index at : ℕ) → IsFront index at page → left_of (record { left = count_of page - index; at = at }) page ≡ drop index (tuples_of page)
left_behind page index at is =
    let L = length (bytes_of (take index (tuples_of page))) in
    ap (λ (k : ℕ). entries_in (count_of page - index) (drop k page)) (is.at)
    ∙ ap (entries_in (count_of page - index)) (sym (drop-drop L 32 page))
    ∙ entries_behind (count_of page) index (drop 32 page) is.index

-- a prefix goes on behind so many of it
pub prefix_behind : (p : Entry → Bool) (i : ℕ) (es : List Entry) → i ≤ prefix_len p es → prefix_len p es ≡ i + prefix_len p (drop i es)
prefix_behind p zero es le = omega arith
prefix_behind p (suc i) [] le = absurd (omega arith)
prefix_behind p (suc i) (e ∷ es) le = elim (cases_Bool (p e)) [
  | inl counts ↦
      let more : prefix_len p (e ∷ es) ≡ 1 + prefix_len p es = rw counts refl in
      omega (arith, more, prefix_behind p i es (omega (arith, more, le)))
  | inr ends ↦
      let none : prefix_len p (e ∷ es) ≡ 0 = rw ends refl in
      absurd (omega (arith, none, le))
]

-- a page holds no more tuples than there is room for
pub few_tuples : (page : List ℕ) → 256 ≤ length page → 13 * length (tuples_of page) ≤ length page
few_tuples page long =
    omega (arith, length-bytes_of (tuples_of page), length-bytes_of-entries_in (count_of page) (drop 32 page), length-drop 32 page)

-- a tuple whose key is below goes before
pub prefix_more : (key : ℕ) (e : Entry) (es : List Entry) → e.key < key → prefix_len (is_below key) (e ∷ es) ≡ 1 + prefix_len (is_below key) es
prefix_more key e es lt = let yes : nat_lt e.key key ≡ true = grind (arith, nat_tests) in rw yes refl
