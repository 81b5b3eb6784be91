-- Readers side by side: one of them goes on, and the others keep what they have left.
use Rattle.std.proofs.Common.{◌≡◌, ◌≢◌, ℕ, zero, suc, ◌+◌, ◌*◌, ◌<◌, ◌≤◌, List, [], ◌∷◌, ◌++◌, length, map, set, sym, ◌∙◌, ap, subst, arith, refl, inl, inr, Bool, true, false, take, drop}
use Rattle.std.specs.Prelude.{Option, Some, None, IsTrue, IsFalse, slice_get}
use Rattle.std.proofs.lemmas.Bool.{cases_eq, cases_lt, cond-true, cond-false, eq-eqb, ne_eqb}
use Rattle.std.proofs.lemmas.List.{drop_all, length-take}
use Rattle.std.proofs.lemmas.Nat.Bits.{bit_at-zero}
use Rattle.px_cache.proofs.Lists.{slice_get-set_same, slice_get-set_other, some_is}
use Rattle.px_core.specs.Bits.{IsBit}
use Rattle.px_core.specs.Shown.{Shown, Touches, NoFile}
use Rattle.px_core.proofs.Keeping.{same_by_none}
use Rattle.px_meaning.specs.Merge.{Pairs}
use Rattle.px_pages.specs.Entry.{Entry, entry}
use Rattle.px_program.specs.Groups.{LeadsPair}
use Rattle.px_stream.specs.Stream.{Leads, IsOver, tuple, all_tuples}
use Rattle.px_stream.specs.Views.{ReaderView}
use Rattle.px_stream.specs.declared.reader.Head.{Head}
use Rattle.px_connectors.specs.Frames.{gives_pairs_same}
use Rattle.px_connectors.specs.Messages.{tagged}
use Rattle.px_connectors.specs.Receiving.{bit, OfReader, HasTuple, HasAt, AllOver, GivesPairs, GiveAll, left_in, all_left}
use Rattle.px_connectors.specs.Views as views
use Rattle.px_connectors.specs.Views.{IsConnectorFile}

module _ {X : Type 0} where
  -- what holds of each by its place, once one more stands behind
  each_push_at : (P : ℕ → X → Type 0) (xs : List X) (x : X) → ((q : ℕ) (z : X) → slice_get xs q ≡ Some z → P q z) → P (length xs) x → (q : ℕ) (z : X) → slice_get (xs ++ x ∷ []) q ≡ Some z → P q z
  each_push_at P [] x own last zero z at = let same : x ≡ z = cc in subst (P 0) same last
  each_push_at P [] x own last (suc q) z at = absurd (cc at)
  each_push_at P (y ∷ xs) x own last zero z at = own zero z at
  each_push_at P (y ∷ xs) x own last (suc q) z at = each_push_at (λ n. P (suc n)) xs x (λ n w h. own (suc n) w h) last q z at

  pub each_push : (P : ℕ → X → Type 0) (xs ys : List X) (x : X) → ys ≡ xs ++ x ∷ [] → ((q : ℕ) (z : X) → slice_get xs q ≡ Some z → P q z) → P (length xs) x → (q : ℕ) (z : X) → slice_get ys q ≡ Some z → P q z
  each_push P xs ys x is own last q z at = each_push_at P xs x own last q z (sym (ap (λ (l : List X). slice_get l q) is) ∙ at)

  -- once one of them changed
  pub each_change : (P : ℕ → X → Type 0) (xs : List X) (q : ℕ) (y : X) → q < length xs → P q y → ((i : ℕ) (z : X) → (i ≡ q → ⊥) → slice_get xs i ≡ Some z → P i z) → (i : ℕ) (z : X) → slice_get (set xs q y) i ≡ Some z → P i z
  each_change P xs q y low new own i z at = elim (cases_eq i q) [
    | inl e ↦
        let same : y ≡ z = some_is (sym (slice_get-set_same xs q y low) ∙ ap (slice_get (set xs q y)) (sym e) ∙ at) in
        subst (λ (j : ℕ). P j z) (sym e) (subst (P q) same new)
    | inr other ↦ own i z other (sym (slice_get-set_other xs q i y other) ∙ at)
  ]

  get_front : (xs : List X) (x : X) (q : ℕ) (z : X) → slice_get xs q ≡ Some z → slice_get (xs ++ x ∷ []) q ≡ Some z
  get_front [] x q z at = absurd (cc at)
  get_front (y ∷ xs) x zero z at = at
  get_front (y ∷ xs) x (suc q) z at = get_front xs x q z at

  get_last : (xs : List X) (x : X) → slice_get (xs ++ x ∷ []) (length xs) ≡ Some x
  get_last [] x = refl
  get_last (y ∷ xs) x = get_last xs x

  -- of all before the last, and of the last
  pub each_front : (P : ℕ → X → Type 0) (xs ys : List X) (x : X) → ys ≡ xs ++ x ∷ [] → ((q : ℕ) (z : X) → slice_get ys q ≡ Some z → P q z) → (q : ℕ) (z : X) → slice_get xs q ≡ Some z → P q z
  each_front P xs ys x is own q z at = own q z (ap (λ (l : List X). slice_get l q) is ∙ get_front xs x q z at)

  pub each_back : (P : ℕ → X → Type 0) (xs ys : List X) (x : X) → ys ≡ xs ++ x ∷ [] → ((q : ℕ) (z : X) → slice_get ys q ≡ Some z → P q z) → P (length xs) x
  each_back P xs ys x is own = own (length xs) x (ap (λ (l : List X). slice_get l (length xs)) is ∙ get_last xs x)

  place_below : (xs : List X) (q : ℕ) (z : X) → slice_get xs q ≡ Some z → q < length xs
  place_below [] q z at = absurd (cc at)
  place_below (x ∷ xs) zero z at = omega arith
  place_below (x ∷ xs) (suc q) z at = omega (arith, place_below xs q z at)

  -- something stands at each place
  pub stands : (xs : List X) (q : ℕ) → q < length xs → (x : X) × (slice_get xs q ≡ Some x)
  stands [] q lt = absurd (omega (arith, lt))
  stands (x ∷ xs) zero lt = (x, refl)
  stands (x ∷ xs) (suc q) lt = stands xs q (omega (arith, lt))

pub reader_more : (P Q : ReaderView → Type 0) (o : Option ReaderView) → ((r : ReaderView) → P r → Q r) → OfReader P o → OfReader Q o
reader_more P Q None f h = h
reader_more P Q (Some r) f h = f r h

pub reader_is : (P : ReaderView → Type 0) (o : Option ReaderView) (r : ReaderView) → o ≡ Some r → OfReader P o → P r
reader_is P None r is h = absurd h
reader_is P (Some x) r is h = let same : x ≡ r = cc in subst P same h

-- where none is left, no pair is
over_gives : (s : Shown) (l : Pairs) (r : ReaderView) → IsOver r → GivesPairs s l r → l ≡ []
over_gives s [] r over h = refl
over_gives s (x ∷ l) r over h =
    let k = h.gives in
    let rest : all_tuples (drop r.page (take r.pages k.told)) ≡ [] =
    ap all_tuples (drop_all r.page (take r.pages k.told) (omega (arith, length-take r.pages k.told, over.page))) in
    absurd (cc (k.tuples ∙ ap (λ (es : List Entry). es ++ all_tuples (drop r.page (take r.pages k.told))) over.here ∙ rest))

over_of : (s : Shown) (l : Pairs) (o : Option ReaderView) → OfReader IsOver o → OfReader (GivesPairs s l) o → l ≡ []
over_of s l None over h = absurd over
over_of s l (Some r) over h = over_gives s l r over h

pub all_over : (s : Shown) (rs : List (Option ReaderView)) (ls : ℕ → Pairs) → AllOver rs → GiveAll s rs ls → (p : ℕ) → p < length rs → ls p ≡ []
all_over s rs ls over gives p lt = let o = stands rs p lt in over_of s (ls p) o.0 (over p o.0 o.1) (gives p o.0 o.1)

first_same : {a b : Entry} {x y : List Entry} → a ∷ x ≡ b ∷ y → a ≡ b
first_same e = cc

rest_same : {a b : Entry} {x y : List Entry} → a ∷ x ≡ b ∷ y → x ≡ y
rest_same e = cc

-- the first tuple is the first pair
pub leads_pair : (h : Head) (bytes : List ℕ) (l : Pairs) (After : List Entry → Type 0) (Then : Pairs → Type 0) → ((k : Pairs) → After (map (tagged 0) k) → Then k) → Leads (tuple h bytes) (map (tagged 0) l) After → LeadsPair h.key bytes l Then
leads_pair h bytes [] After Then next lead = absurd (cc lead.is)
leads_pair h bytes (x ∷ l) After Then next lead = record {
  rest = l;
  is =
      let first : entry x.0 0 x.1 ≡ entry h.key h.tag bytes = first_same lead.is in
      let vid : x.0 ≡ h.key = ap (λ (e : Entry). e.key) first in
      let body : x.1 ≡ bytes = ap (λ (e : Entry). e.body) first in
      rw (← vid, ← body) refl;
  after = next l (subst After (sym (rest_same lead.is)) lead.after);
}

-- how many are left of all, where one has fewer
left_set : (q : ℕ) (rs : List (Option ReaderView)) (x x' : Option ReaderView) → slice_get rs q ≡ Some x → all_left (set rs q x') + left_in x ≡ all_left rs + left_in x'
left_set q [] x x' at = absurd (cc at)
left_set zero (o ∷ rs) x x' at = let is : o ≡ x = cc in let same : left_in o ≡ left_in x = ap left_in is in omega (arith, same)
left_set (suc q) (o ∷ rs) x x' at = omega (arith, left_set q rs x x' at)

pub left_falls : (q : ℕ) (rs : List (Option ReaderView)) (x x' : Option ReaderView) → slice_get rs q ≡ Some x → left_in x' < left_in x → all_left (set rs q x') < all_left rs
left_falls q rs x x' at less = omega (arith, left_set q rs x x' at, less)

pub left_stays : (q : ℕ) (rs : List (Option ReaderView)) (x x' : Option ReaderView) → slice_get rs q ≡ Some x → left_in x' ≤ left_in x → all_left (set rs q x') ≤ all_left rs
left_stays q rs x x' at less = omega (arith, left_set q rs x x' at, less)

-- one reader went on to a tuple
pub gives_set : (s t : Shown) (q : ℕ) (rs : List (Option ReaderView)) (x x' : Option ReaderView) (ls : ℕ → Pairs) → Touches NoFile s t → slice_get rs q ≡ Some x → q < length rs
    → ((l : Pairs) → OfReader (GivesPairs s l) x → OfReader (GivesPairs t l) x') → GiveAll s rs ls → GiveAll t (set rs q x') ls
gives_set s t q rs x x' ls touches here low goes gives =
    each_change (λ p o. OfReader (GivesPairs t (ls p)) o) rs q x' low (goes (ls q) (gives q x here))
    (λ i z other at. gives_pairs_same s t (ls i) (same_by_none IsConnectorFile s t touches) z (gives i z at))

at_same : (p : ℕ) (l : Pairs) (ls : ℕ → Pairs) → views.at p l ls p ≡ l
at_same p l ls = cond-true _ l (ls p) (eq-eqb p p refl)

at_other : (p q : ℕ) (l : Pairs) (ls : ℕ → Pairs) → (q ≡ p → ⊥) → views.at p l ls q ≡ ls q
at_other p q l ls other = cond-false _ l (ls q) (ne_eqb q p other)

-- one reader gave a pair
pub gave_at : (s t : Shown) (q v : ℕ) (bytes : List ℕ) (rs : List (Option ReaderView)) (x x' : Option ReaderView) (ls : ℕ → Pairs) → t ≡ s → slice_get rs q ≡ Some x → q < length rs
    → ((l : Pairs) → OfReader (GivesPairs s l) x → LeadsPair v bytes l (λ rest. OfReader (GivesPairs t rest) x')) → GiveAll s rs ls
    → LeadsPair v bytes (ls q) (λ l. GiveAll t (set rs q x') (views.at q l ls))
gave_at s t q v bytes rs x x' ls same here low gives all =
    let lead = gives (ls q) (all q x here) in
    record {
      rest = lead.rest;
      is = lead.is;
      after = each_change (λ p o. OfReader (GivesPairs t (views.at q lead.rest ls p)) o) rs q x' low (subst (λ (l : Pairs). OfReader (GivesPairs t l) x') (sym (at_same q lead.rest ls)) lead.after)
          (λ i z other place. subst (λ (l : Pairs). OfReader (GivesPairs t l) z) (sym (at_other q i lead.rest ls other)) (subst (λ (u : Shown). OfReader (GivesPairs u (ls i)) z) (sym same) (all i z place)));
    }

-- so many readers were looked at: a bit tells of each whether it has a tuple
pub record Looking (n ready : ℕ) (rs : List (Option ReaderView)) : Type 0 where
  pub has : (p : ℕ) → p < n → bit ready p ≡ 1 → (o : Option ReaderView) → slice_get rs p ≡ Some o → OfReader HasTuple o
  pub over : (p : ℕ) → p < n → bit ready p ≡ 0 → (o : Option ReaderView) → slice_get rs p ≡ Some o → OfReader IsOver o
  pub above : (p : ℕ) → n ≤ p → bit ready p ≡ 0

zero_bit : (p : ℕ) → bit 0 p ≡ 0
zero_bit p = bit_at-zero p

pub looking_first : (rs : List (Option ReaderView)) → Looking 0 0 rs
looking_first rs = record {
  has = λ p lt. absurd (omega (arith, lt));
  over = λ p lt. absurd (omega (arith, lt));
  above = λ p low. zero_bit p;
}

looking_kept : (P : ReaderView → Type 0) (n : ℕ) (rs : List (Option ReaderView)) (x : Option ReaderView) (p : ℕ) → (p ≡ n → ⊥) → ((o : Option ReaderView) → slice_get rs p ≡ Some o → OfReader P o)
    → (o : Option ReaderView) → slice_get (set rs n x) p ≡ Some o → OfReader P o
looking_kept P n rs x p other h o place = h o (sym (slice_get-set_other rs n p x other) ∙ place)

looking_new : (P : ReaderView → Type 0) (n : ℕ) (rs : List (Option ReaderView)) (x : Option ReaderView) (p : ℕ) → p ≡ n → n < length rs → OfReader P x
    → (o : Option ReaderView) → slice_get (set rs n x) p ≡ Some o → OfReader P o
looking_new P n rs x p is low h o place =
    let same : x ≡ o = some_is (sym (slice_get-set_same rs n x low) ∙ ap (slice_get (set rs n x)) (sym is) ∙ place) in
    subst (OfReader P) same h

pub looking_next : (n ready ready' : ℕ) (b : Bool) (rs : List (Option ReaderView)) (x : Option ReaderView) → n < length rs → (IsTrue b → OfReader HasTuple x) → (IsFalse b → OfReader IsOver x)
    → (IsTrue b → bit ready' n ≡ 1) → (IsFalse b → ready' ≡ ready) → ((i : ℕ) → i ≢ n → bit ready' i ≡ bit ready i) → Looking n ready rs → Looking (n + 1) ready' (set rs n x)
looking_next n ready ready' true rs x low has over on off others h = record {
  has = λ p lt set. elim (cases_eq p n) [
    | inl e ↦ looking_new HasTuple n rs x p e low (has refl)
    | inr other ↦ looking_kept HasTuple n rs x p other (h.has p (omega (arith, lt, other)) (sym (others p other) ∙ set))
  ];
  over = λ p lt set. elim (cases_eq p n) [
    | inl e ↦ absurd (omega (arith, on refl, sym (ap (bit ready') e) ∙ set))
    | inr other ↦ looking_kept IsOver n rs x p other (h.over p (omega (arith, lt, other)) (sym (others p other) ∙ set))
  ];
  above = λ p up. let other : p ≢ n = λ e. omega (arith, up, e) in others p other ∙ h.above p (omega (arith, up));
}
looking_next n ready ready' false rs x low has over on off others h = record {
  has = λ p lt set. elim (cases_eq p n) [
    | inl e ↦ absurd (omega (arith, h.above n (omega arith), sym (ap (bit ready') e) ∙ set, ap (λ (m : ℕ). bit m n) (off refl)))
    | inr other ↦ looking_kept HasTuple n rs x p other (h.has p (omega (arith, lt, other)) (sym (others p other) ∙ set))
  ];
  over = λ p lt set. elim (cases_eq p n) [
    | inl e ↦ looking_new IsOver n rs x p e low (over refl)
    | inr other ↦ looking_kept IsOver n rs x p other (h.over p (omega (arith, lt, other)) (sym (others p other) ∙ set))
  ];
  above = λ p up. let other : p ≢ n = λ e. omega (arith, up, e) in others p other ∙ h.above p (omega (arith, up));
}

pub looked_has : (n ready : ℕ) (rs : List (Option ReaderView)) → n ≤ length rs → Looking n ready rs → (p : ℕ) → IsBit ready p → HasAt p rs
looked_has n ready rs all h p is = elim (cases_lt p n) [
  | inl low ↦ record { below = omega (arith, low, all); has = h.has p low is.set }
  | inr up ↦ absurd (omega (arith, h.above p up, is.set))
]

pub looked_none : (n ready : ℕ) (rs : List (Option ReaderView)) → length rs ≤ n → Looking n ready rs → ready ≡ 0 → AllOver rs
looked_none n ready rs all h none p o place = h.over p (omega (arith, all, place_below rs p o place)) (ap (λ (m : ℕ). bit m p) none ∙ zero_bit p) o place
