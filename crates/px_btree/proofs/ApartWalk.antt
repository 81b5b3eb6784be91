-- A walk over tuples that are kept apart.
use Rattle.std.proofs.Common.{◌≡◌, ◌<◌, ◌≤◌, ◌+◌, ◌-◌, ℕ, zero, suc, List, [], ◌∷◌, ◌++◌, length, take, drop, get_or, refl, sym, ◌∙◌, ap, arith, inl, inr}
use Rattle.std.proofs.lemmas.Bool.{cases_lt}
use Rattle.std.proofs.lemmas.List.{length-append, length-drop, drop-drop, drop_at, take_at, get_or-drop}
use Rattle.std.specs.Prelude.{Option, Some, None, IfNone, slice_get}
use Rattle.std.specs.List.{prefix_len}
use Rattle.px_pages.specs.Entry.{Entry, IsEntry, AreEntries, entry, entry_bytes, bytes_of, size_of}
use Rattle.px_pages.specs.Place.{is_below}
use Rattle.px_pages.proofs.Writing.{length-entry_bytes}
use Rattle.px_cache.proofs.Lists.{some_is}
use Rattle.px_btree.specs.Apart.{below_len, same_len}
use Rattle.px_btree.proofs.Orders.{not_below, below, not_equal, equal}
use Rattle.px_btree.proofs.Places.{past, stops}

-- the tuples that are left where a walk stands
pub record Walks (v from at : ℕ) (page : List ℕ) (es : List Entry) : Type 0 where
  pub left : List Entry
  pub entries : AreEntries left
  pub bytes : drop at page ≡ bytes_of left
  pub len : from + below_len v es ≡ at + below_len v left

pub starts : (v from : ℕ) (page : List ℕ) (es : List Entry) → AreEntries es → drop from page ≡ bytes_of es → Walks v from from page es
starts v from page es all is = record { left = es; entries = all; bytes = is; len = refl }

-- no tuple is left in fewer bytes than one has
none_left : (left : List Entry) → length (bytes_of left) < 13 → left ≡ []
none_left [] short = refl
none_left (e ∷ left) short = absurd (omega (arith, length-append (entry_bytes e) (bytes_of left), length-entry_bytes e))

pub ends : (v from at : ℕ) (page : List ℕ) (es : List Entry) → length page < at + 13 → Walks v from at page es → at ≡ from + below_len v es
ends v from at page es short w =
    let none = none_left w.left (omega (arith, short, ap length w.bytes, length-drop at page)) in
    omega (arith, w.len, ap (below_len v) none)

pub no_same : (v at : ℕ) (page : List ℕ) (es : List Entry) → length page < at + 13 → drop at page ≡ bytes_of es → at ≡ at + same_len v es
no_same v at page es short is =
    let none = none_left es (omega (arith, short, ap length is, length-drop at page)) in
    omega (arith, ap (same_len v) none)

none_some : (e : Entry) → None ≡ Some e → ⊥
none_some e is = cc is

pub none_first : (at : ℕ) (page : List ℕ) (es : List Entry) (e : Entry) → length page < at + 13 → drop at page ≡ bytes_of es → slice_get es 0 ≡ Some e → ⊥
none_first at page es e short is here =
    let none = none_left es (omega (arith, short, ap length is, length-drop at page)) in
    none_some e (sym (ap (λ (l : List Entry). slice_get l 0) none) ∙ here)

pub none_then : {X P Q : Type 0} (r : Option X) → IfNone r P → (P → Q) → IfNone r Q
none_then None h f = f h
none_then (Some x) h f = tt

-- a tuple behind others
pub slice_get-drop : (i : ℕ) (es : List Entry) → slice_get (drop i es) 0 ≡ slice_get es i
slice_get-drop zero es = refl
slice_get-drop (suc i) [] = refl
slice_get-drop (suc i) (e ∷ es) = slice_get-drop i es

-- the tuple that was read at a byte
module _ (page : List ℕ) (at key end : ℕ) (room : at + 13 ≤ end) (within : end ≤ length page)
    (read : (e : Entry) (rest : List ℕ) → IsEntry e → drop at page ≡ entry_bytes e ++ rest → (key ≡ e.key) × (end ≡ at + size_of e)) where
  nothing : drop at page ≡ [] → ⊥
  nothing is = omega (arith, ap length is, length-drop at page, room, within)

  pub steps : (v from : ℕ) (es : List Entry) → key < v → Walks v from at page es → Walks v from end page es
  steps v from es lt w = go w.left w.entries w.bytes w.len
    where
      go : (left : List Entry) → AreEntries left → drop at page ≡ bytes_of left → from + below_len v es ≡ at + below_len v left → Walks v from end page es
      go [] all is len = absurd (nothing is)
      go (e ∷ left) all is len =
          let this = read e (bytes_of left) all.0 is in
          let less : below_len v (e ∷ left) ≡ size_of e + below_len v left = rw (below e.key v (omega (arith, this.0, lt))) refl in
          record {
            left = left;
            entries = all.1;
            bytes =
                ap (λ (k : ℕ). drop k page) this.1 ∙ sym (drop-drop (size_of e) at page) ∙ ap (drop (size_of e)) is
                ∙ drop_at (entry_bytes e) (bytes_of left) (size_of e) (length-entry_bytes e);
            len = omega (arith, len, less, this.1);
          }

  pub stays : (v from : ℕ) (es : List Entry) → v ≤ key → Walks v from at page es → at ≡ from + below_len v es
  stays v from es ge w = go w.left w.entries w.bytes w.len
    where
      go : (left : List Entry) → AreEntries left → drop at page ≡ bytes_of left → from + below_len v es ≡ at + below_len v left → at ≡ from + below_len v es
      go [] all is len = absurd (nothing is)
      go (e ∷ left) all is len =
          let this = read e (bytes_of left) all.0 is in
          let none : below_len v (e ∷ left) ≡ 0 = rw (not_below e.key v (omega (arith, this.0, ge))) refl in
          omega (arith, len, none)

  pub is_same : (v : ℕ) (es : List Entry) → AreEntries es → drop at page ≡ bytes_of es → key ≡ v → end ≡ at + same_len v es
  is_same v [] all is same = absurd (nothing is)
  is_same v (e ∷ es) all is same =
      let this = read e (bytes_of es) all.0 is in
      let one : same_len v (e ∷ es) ≡ size_of e = rw (equal v e.key (omega (arith, this.0, same))) refl in
      omega (arith, this.1, one)

  pub is_other : (v : ℕ) (es : List Entry) → AreEntries es → drop at page ≡ bytes_of es → (key ≡ v → ⊥) → at ≡ at + same_len v es
  is_other v [] all is other = absurd (nothing is)
  is_other v (e ∷ es) all is other =
      let this = read e (bytes_of es) all.0 is in
      let none : same_len v (e ∷ es) ≡ 0 = rw (not_equal v e.key (λ same. other (omega (arith, this.0, same)))) refl in
      omega (arith, none)

  pub first_is : (v tag : ℕ) (es : List Entry) → tag ≡ get_or page (at + 8) 0 → AreEntries es → drop at page ≡ bytes_of es → key ≡ v
      → slice_get es 0 ≡ Some (entry v tag (take (end - at - 13) (drop (at + 13) page)))
  first_is v tag [] tag_is all is same = absurd (nothing is)
  first_is v tag (e ∷ es) tag_is all is same =
      let this = read e (bytes_of es) all.0 is in
      let key_is : e.key ≡ v = sym this.0 ∙ same in
      let tag_at : e.tag ≡ tag = ap (λ (l : List ℕ). get_or l 8 0) (sym is) ∙ get_or-drop at page 8 0 ∙ sym tag_is in
      let len : length e.body ≡ end - at - 13 = omega (arith, this.1) in
      let body : e.body ≡ take (end - at - 13) (drop (at + 13) page) =
      sym (take_at e.body (bytes_of es) (length e.body) refl) ∙ ap (λ (l : List ℕ). take (length e.body) (drop 13 l)) (sym is) ∙ ap (take (length e.body)) (drop-drop 13 at page)
      ∙ ap (λ (n : ℕ). take n (drop (at + 13) page)) len in
      ap (λ (k : ℕ). Some (entry k e.tag e.body)) key_is ∙ ap (λ (x : ℕ). Some (entry v x e.body)) tag_at ∙ ap (λ (b : List ℕ). Some (entry v tag b)) body

  pub first_not : (v : ℕ) (es : List Entry) (e : Entry) → AreEntries es → drop at page ≡ bytes_of es → (key ≡ v → ⊥) → slice_get es 0 ≡ Some e → e.key ≡ v → ⊥
  first_not v [] e all is other here same = nothing is
  first_not v (d ∷ es) e all is other here same =
      let this = read d (bytes_of es) all.0 is in
      other (this.0 ∙ ap (λ (x : Entry). x.key) (some_is here) ∙ same)

-- the bytes in front of the first tuple that is not below a key
pub below_is : (v : ℕ) (es : List Entry) → below_len v es ≡ length (bytes_of (take (prefix_len (is_below v) es) es))
below_is v [] = refl
below_is v (e ∷ es) = elim (cases_lt e.key v) [
  | inl lt ↦
      let more : below_len v (e ∷ es) ≡ size_of e + below_len v es = rw (below e.key v lt) refl in
      omega (
        arith,
        more,
        below_is v es,
        ap (λ (k : ℕ). length (bytes_of (take k (e ∷ es)))) (past v e es lt),
        length-append (entry_bytes e) (bytes_of (take (prefix_len (is_below v) es) es)),
        length-entry_bytes e,
      )
  | inr ge ↦
      let none : below_len v (e ∷ es) ≡ 0 = rw (not_below e.key v ge) refl in
      omega (arith, none, ap (λ (k : ℕ). length (bytes_of (take k (e ∷ es)))) (stops v e es ge))
]

pub prefix_within : (v : ℕ) (es : List Entry) → prefix_len (is_below v) es ≤ length es
prefix_within v [] = omega arith
prefix_within v (e ∷ es) = elim (cases_lt e.key v) [
  | inl lt ↦ omega (arith, past v e es lt, prefix_within v es)
  | inr ge ↦ omega (arith, stops v e es ge)
]

-- where the first i of them are below it, the others are counted from there
pub prefix_from : (v i : ℕ) (es : List Entry) → i ≤ prefix_len (is_below v) es → i + prefix_len (is_below v) (drop i es) ≡ prefix_len (is_below v) es
prefix_from v zero es le = omega arith
prefix_from v (suc i) [] le = absurd (omega (arith, le))
prefix_from v (suc i) (e ∷ es) le = elim (cases_lt e.key v) [
  | inl lt ↦ omega (arith, past v e es lt, prefix_from v i es (omega (arith, le, past v e es lt)))
  | inr ge ↦ absurd (omega (arith, le, stops v e es ge))
]
