-- From a level to the level above it.
use Rattle.std.proofs.Common.{◌≡◌, ◌<◌, ◌≤◌, ◌+◌, ℕ, Bool, true, false, List, [], ◌∷◌, ◌++◌, length, map, set, refl, sym, ◌∙◌, ap, subst, arith, inl, inr, nat_lt}
use Rattle.std.proofs.lemmas.Bool.{cases_lt, cases_eq}
use Rattle.std.proofs.lemmas.List.{length-append, length-set}
use Rattle.std.specs.Prelude.{Option, Some, None, slice_get}
use Rattle.px_pages.specs.Entry.{Entry, size_of}
use Rattle.px_meaning.specs.Graph.{room_of}
use Rattle.px_pages.specs.Page.{IsMade, writer_of}
use Rattle.px_pages.specs.Place.{Turned}
use Rattle.px_pages.specs.Children.{AreChildren}
use Rattle.px_pages.specs.declared.inner.Child.{Child}
use Rattle.px_pages.proofs.Writing.{made_kind, made_link}
use Rattle.px_cache.proofs.Lists.{slice_get-set_other, some_is}
use Rattle.px_btree.specs.Tree.{Piece, HoldsPage, BelowNext, Begins, IsLevel, IsStack, Lacks, AreApart, HaveTwo, FirstIs, numbers, tuples, index, link_to, kind_if}
use Rattle.px_btree.specs.Find.{piece_at, pick}
use Rattle.px_btree.specs.Put.{placed, changed, IsFullFor}
use Rattle.px_btree.specs.Split.{second_part, cut, KeysHold, IsCrowded, Parts}
use Rattle.px_btree.specs.Rise.{KeepsBut, Alike, TopPut, Grows}
use Rattle.px_btree.proofs.Levels.{AllIn, level_in, level_at}
use Rattle.px_btree.proofs.Places.{piece_keys, piece_children}
use Rattle.px_btree.proofs.Putting.{next_above, tuples_changed, keys_placed, level_changed, changed_pages, length_changed, first_changed, lacks_right}
use Rattle.px_btree.proofs.Splitting.{CutInto, keys_right, low_at, tuples_cut, keys_hold, level_cut, added_before}
use Rattle.px_btree.proofs.Halving.{length_placed}
use Rattle.px_btree.proofs.Orders.{not_below, below, not_equal, equal}

-- THE SAME PAGE ABOVE. Two vids are on the same side of every key
abbrev pub AlikeKeys : ℕ → ℕ → List Entry → Type 0
AlikeKeys v k [] = Unit {0}
AlikeKeys v k (e ∷ es) = (nat_lt v e.key ≡ nat_lt k e.key) × AlikeKeys v k es

alike_refl : (v : ℕ) (xs : List Piece) → Alike v v xs
alike_refl v [] = tt
alike_refl v (x ∷ xs) = (refl, alike_refl v xs)

pub alike_then : (a b c : ℕ) (xs : List Piece) → Alike a b xs → Alike b c xs → Alike a c xs
alike_then a b c [] ab bc = tt
alike_then a b c (x ∷ xs) ab bc = (ab.0 ∙ bc.0, alike_then a b c xs ab.1 bc.1)

alike_after : (v k len : ℕ) (leaf : Bool) (ps : List (List ℕ)) (xs : List Piece) → BelowNext v xs → BelowNext k xs → IsLevel len leaf ps xs → Alike v k xs
alike_after v k len leaf ps [] lv lk is = tt
alike_after v k len leaf ps (x ∷ xs) lv lk is =
    (below v x.low lv ∙ sym (below k x.low lk), alike_after v k len leaf ps xs (next_above v x.low xs lv is.2) (next_above k x.low xs lk is.2) is.4)

pub cut_alike : (v len : ℕ) (leaf : Bool) (ps : List (List ℕ)) (left : List Entry) (r : Entry) (right : List Entry) (x : Piece) (xs : List Piece) → x.low ≤ v → IsLevel len leaf ps (x ∷ xs)
    → KeysHold v (piece_at v (x ∷ xs)) left r right → (piece_at v (x ∷ xs)).low < r.key → Alike v r.key (x ∷ xs)
cut_alike v len leaf ps left r right x [] le is keys above = (not_below v x.low le ∙ sym (not_below r.key x.low (omega (arith, above))), tt)
cut_alike v len leaf ps left r right x (y ∷ ys) le is keys above = elim (cases_lt v y.low) [
  | inl lt ↦
      let here : piece_at v (x ∷ y ∷ ys) ≡ x = ap (λ (c : Bool). pick c x (piece_at v (y ∷ ys))) (below v y.low lt) in
      let keys' = subst (λ (z : Piece). KeysHold v z left r right) here keys in
      let above' = subst (λ (z : Piece). z.low < r.key) here above in
      let next : r.key < y.low = (keys_right x.low left r right (y ∷ ys) (keys' (y ∷ ys) lt is.1)).1 in
      (not_below v x.low le ∙ sym (not_below r.key x.low (omega (arith, above'))), alike_after v r.key len leaf ps (y ∷ ys) lt next is.4)
  | inr ge ↦
      let here : piece_at v (x ∷ y ∷ ys) ≡ piece_at v (y ∷ ys) = ap (λ (c : Bool). pick c x (piece_at v (y ∷ ys))) (not_below v y.low ge) in
      let above' = subst (λ (z : Piece). z.low < r.key) here above in
      let past : x.low < r.key = omega (arith, is.2, low_at v len leaf ps y ys is.4, above') in (
        not_below v x.low le ∙ sym (not_below r.key x.low (omega (arith, past))),
        cut_alike v len leaf ps left r right y ys ge is.4 (subst (λ (z : Piece). KeysHold v z left r right) here keys) above',
      )
]

pub alike_index : (v k : ℕ) (xs : List Piece) → Alike v k xs → AlikeKeys v k (index xs)
alike_index v k [] al = tt
alike_index v k (x ∷ xs) al = (al.0, alike_index v k xs al.1)

alike_right : (v k : ℕ) (es fs : List Entry) → AlikeKeys v k (es ++ fs) → AlikeKeys v k fs
alike_right v k [] fs al = al
alike_right v k (e ∷ es) fs al = alike_right v k es fs al.1

alike_low : (v k : ℕ) (u : Piece) (es fs : List Entry) → u.es ≡ es → Begins false u.low u.es → AlikeKeys v k (u.es ++ fs) → nat_lt v u.low ≡ nat_lt k u.low
alike_low v k u [] fs same begins al = absurd (subst (Begins false u.low) same begins)
alike_low v k u (e ∷ es) fs same begins al =
    let key : e.key ≡ u.low = subst (Begins false u.low) same begins in
    let al' = subst (λ (l : List Entry). AlikeKeys v k (l ++ fs)) same al in
    sym (ap (nat_lt v) key) ∙ al'.0 ∙ ap (nat_lt k) key

pub alike_level : (v k len : ℕ) (ps : List (List ℕ)) (us : List Piece) → IsLevel len false ps us → AlikeKeys v k (tuples us) → Alike v k us
alike_level v k len ps [] is al = tt
alike_level v k len ps (u ∷ us) is al = (alike_low v k u u.es (tuples us) refl is.3 al, alike_level v k len ps us is.4 (alike_right v k u.es (tuples us) al))

pub piece_alike : (v k : ℕ) (xs : List Piece) → Alike v k xs → piece_at k xs ≡ piece_at v xs
piece_alike v k [] al = refl
piece_alike v k (x ∷ []) al = refl
piece_alike v k (x ∷ y ∷ ys) al =
    ap (λ (b : Bool). pick b x (piece_at k (y ∷ ys))) (sym al.1.0) ∙ ap (λ (z : Piece). pick (nat_lt v y.low) x z) (piece_alike v k (y ∷ ys) al.1)

-- NUMBERS OF PAGES
abbrev pub pages_of : List Piece → List ℕ
pages_of xs = map (λ (x : Piece). x.page) xs

-- each of the second lacks the first
abbrev pub AllLack : List ℕ → List ℕ → Type 0
AllLack ms [] = Unit {0}
AllLack ms (n ∷ ns) = Lacks n ms × AllLack ms ns

abbrev pub AllUnder : ℕ → List ℕ → Type 0
AllUnder k [] = Unit {0}
AllUnder k (n ∷ ns) = (n < k) × AllUnder k ns

lack_more : (m : ℕ) (ms ns : List ℕ) → Lacks m ns → AllLack ms ns → AllLack (m ∷ ms) ns
lack_more m ms [] out all = tt
lack_more m ms (n ∷ ns) out all = ((λ (e : n ≡ m). out.0 (sym e), all.0), lack_more m ms ns out.1 all.1)

lack_first : (m : ℕ) (ms ns : List ℕ) → AllLack (m ∷ ms) ns → Lacks m ns × AllLack ms ns
lack_first m ms [] all = (tt, tt)
lack_first m ms (n ∷ ns) all =
    let rest = lack_first m ms ns all.1 in
    ((λ (e : m ≡ n). all.0.0 (sym e), rest.0), (all.0.1, rest.1))

pub lack_none : (ns : List ℕ) → AllLack [] ns
lack_none [] = tt
lack_none (n ∷ ns) = (tt, lack_none ns)

pub lacks_join : (q : ℕ) (ms ns : List ℕ) → Lacks q ms → Lacks q ns → Lacks q (ms ++ ns)
lacks_join q [] ns one two = two
lacks_join q (m ∷ ms) ns one two = (one.0, lacks_join q ms ns one.1 two)

pub apart_join : (ms ns : List ℕ) → AreApart ms → AreApart ns → AllLack ms ns → AreApart (ms ++ ns)
apart_join [] ns one two all = two
apart_join (m ∷ ms) ns one two all =
    let rest = lack_first m ms ns all in
    (lacks_join m ms ns one.0 rest.0, apart_join ms ns one.1 two rest.1)

pub apart_split : (ms ns : List ℕ) → AreApart (ms ++ ns) → AllLack ms ns
apart_split [] ns apart = lack_none ns
apart_split (m ∷ ms) ns apart = lack_more m ms ns (lacks_right m ms ns apart.0) (apart_split ms ns apart.1)

-- and the other way round
pub lack_flip : (ms ns : List ℕ) → AllLack ms ns → AllLack ns ms
lack_flip [] ns all = tt
lack_flip (m ∷ ms) ns all = let rest = lack_first m ms ns all in (rest.0, lack_flip ms ns rest.1)

-- what lacks some numbers lacks others too
pub lack_on : (k : ℕ) (ms ms' ns : List ℕ) → ((q : ℕ) → q < k → Lacks q ms → Lacks q ms') → AllUnder k ns → AllLack ms ns → AllLack ms' ns
lack_on k ms ms' [] on under all = tt
lack_on k ms ms' (n ∷ ns) on under all = (on n under.0 all.0, lack_on k ms ms' ns on under.1 all.1)

pages_under : (k : ℕ) (xs : List Piece) → AllIn k xs → AllUnder k (pages_of xs)
pages_under k [] all = tt
pages_under k (x ∷ xs) all = (all.0, pages_under k xs all.1)

under_join : (k : ℕ) (ms ns : List ℕ) → AllUnder k ms → AllUnder k ns → AllUnder k (ms ++ ns)
under_join k [] ns one two = two
under_join k (m ∷ ms) ns one two = (one.0, under_join k ms ns one.1 two)

pub level_under : (len : ℕ) (leaf : Bool) (ps : List (List ℕ)) (xs : List Piece) → IsLevel len leaf ps xs → AllUnder (length ps) (pages_of xs)
level_under len leaf ps xs is = pages_under (length ps) xs (level_in len leaf ps xs is)

pub stack_under : (len : ℕ) (ps : List (List ℕ)) (levels : List (List Piece)) → IsStack len ps levels → AllUnder (length ps) (numbers levels)
stack_under len ps [] is = absurd is
stack_under len ps (xs ∷ []) is = under_join (length ps) (pages_of xs) [] (level_under len true ps xs is) tt
stack_under len ps (xs ∷ ys ∷ rest) is = under_join (length ps) (pages_of xs) (numbers (ys ∷ rest)) (level_under len false ps xs is.0) (stack_under len ps (ys ∷ rest) is.2)

pub lacks_end : (k : ℕ) (ns : List ℕ) → AllUnder k ns → Lacks k ns
lacks_end k [] under = tt
lacks_end k (n ∷ ns) under = (λ (e : k ≡ n). absurd (omega (arith, e, under.0)), lacks_end k ns under.1)

-- FRAMES. A level and a stack none of whose pages is among those that changed
page_kept : (len k l q : ℕ) (ns : List ℕ) (ps qs : List (List ℕ)) (es : List Entry) → KeepsBut ns ps qs → Lacks q ns → HoldsPage len k l ps q es → HoldsPage len k l qs q es
page_kept len k l q ns ps qs es kept out is = record { page = is.page; at = kept q is.page out is.at; made = is.made }

pub level_kept : (len : ℕ) (leaf : Bool) (ns : List ℕ) (ps qs : List (List ℕ)) (xs : List Piece) → KeepsBut ns ps qs → AllLack ns (pages_of xs) → IsLevel len leaf ps xs → IsLevel len leaf qs xs
level_kept len leaf ns ps qs [] kept out is = tt
level_kept len leaf ns ps qs (x ∷ xs) kept out is = (page_kept len (kind_if leaf) (link_to xs) x.page ns ps qs x.es kept out.0 is.0, is.1, is.2, is.3, level_kept len leaf ns ps qs xs kept out.1 is.4)

lack_left : (ns ms rest : List ℕ) → AllLack ns (ms ++ rest) → AllLack ns ms
lack_left ns [] rest all = tt
lack_left ns (m ∷ ms) rest all = (all.0, lack_left ns ms rest all.1)

lack_right : (ns ms rest : List ℕ) → AllLack ns (ms ++ rest) → AllLack ns rest
lack_right ns [] rest all = all
lack_right ns (m ∷ ms) rest all = lack_right ns ms rest all.1

pub stack_kept : (len : ℕ) (ns : List ℕ) (ps qs : List (List ℕ)) (levels : List (List Piece)) → KeepsBut ns ps qs → AllLack ns (numbers levels) → IsStack len ps levels → IsStack len qs levels
stack_kept len ns ps qs [] kept out is = absurd is
stack_kept len ns ps qs (xs ∷ []) kept out is = level_kept len true ns ps qs xs kept (lack_left ns (pages_of xs) [] out) is
stack_kept len ns ps qs (xs ∷ ys ∷ rest) kept out is = (
  level_kept len false ns ps qs xs kept (lack_left ns (pages_of xs) (numbers (ys ∷ rest)) out) is.0,
  is.1,
  stack_kept len ns ps qs (ys ∷ rest) kept (lack_right ns (pages_of xs) (numbers (ys ∷ rest)) out) is.2,
)

-- ONE LEVEL
begins_placed : (e : Entry) (low : ℕ) (es : List Entry) → low ≤ e.key → Begins false low es → Begins false low (placed e es)
begins_placed e low [] le begins = absurd begins
begins_placed e low (d ∷ es) le begins = elim (cases_lt e.key d.key) [
  | inl lt ↦ absurd (omega (arith, lt, le, begins))
  | inr ge ↦ elim (cases_eq e.key d.key) [
    | inl same ↦ rw (not_below e.key d.key ge, equal e.key d.key same) (same ∙ begins)
    | inr other ↦ rw (not_below e.key d.key ge, not_equal e.key d.key other) begins
  ]
]

begins_with : (e : Entry) (low : ℕ) (leaf : Bool) (es : List Entry) → low ≤ e.key → Begins leaf low es → Begins leaf low (placed e es)
begins_with e low true es le begins = tt
begins_with e low false es le begins = begins_placed e low es le begins

begins_left : (low : ℕ) (leaf : Bool) (left : List Entry) (r : Entry) (right : List Entry) → (leaf ≡ false → 2 ≤ length left) → Begins leaf low (left ++ r ∷ right) → Begins leaf low left
begins_left low true left r right two begins = tt
begins_left low false [] r right two begins = absurd (omega (arith, two refl))
begins_left low false (d ∷ left) r right two begins = begins

begins_at : (v len : ℕ) (leaf : Bool) (ps : List (List ℕ)) (x : Piece) (xs : List Piece) → IsLevel len leaf ps (x ∷ xs) → Begins leaf (piece_at v (x ∷ xs)).low (piece_at v (x ∷ xs)).es
begins_at v len leaf ps x [] is = is.3
begins_at v len leaf ps x (y ∷ ys) is = elim (cases_lt v y.low) [
  | inl lt ↦ rw (below v y.low lt) is.3
  | inr ge ↦ rw (not_below v y.low ge) (begins_at v len leaf ps y ys is.4)
]

pub low_le : (v : ℕ) (x : Piece) (xs : List Piece) → x.low ≤ v → (piece_at v (x ∷ xs)).low ≤ v
low_le v x [] le = le
low_le v x (y ∷ ys) le = elim (cases_lt v y.low) [
  | inl lt ↦ rw (below v y.low lt) le
  | inr ge ↦ rw (not_below v y.low ge) (low_le v y ys ge)
]

-- the pages of a level after a cut
lacks_cut : (q v n : ℕ) (left : List Entry) (r : Entry) (right : List Entry) (x : Piece) (xs : List Piece) → (q ≡ n → ⊥) → Lacks q (pages_of (x ∷ xs)) → Lacks q (pages_of (cut v n left r right (x ∷ xs)))
lacks_cut q v n left r right x [] other out = (out.0, (other, tt))
lacks_cut q v n left r right x (y ∷ ys) other out = elim (cases_lt v y.low) [
  | inl lt ↦
      let rest : Lacks q (pages_of (second_part n r right ∷ y ∷ ys)) = (other, out.1) in
      rw (below v y.low lt) (out.0, rest)
  | inr ge ↦ rw (not_below v y.low ge) (out.0, lacks_cut q v n left r right y ys other out.1)
]

apart_cut : (v n : ℕ) (left : List Entry) (r : Entry) (right : List Entry) (x : Piece) (xs : List Piece) → Lacks n (pages_of (x ∷ xs)) → AreApart (pages_of (x ∷ xs)) → AreApart (pages_of (cut v n left r right (x ∷ xs)))
apart_cut v n left r right x [] new apart = ((λ (e : x.page ≡ n). new.0 (sym e), tt), (tt, tt))
apart_cut v n left r right x (y ∷ ys) new apart = elim (cases_lt v y.low) [
  | inl lt ↦
      let out : Lacks x.page (pages_of (second_part n r right ∷ y ∷ ys)) = (λ (e : x.page ≡ n). new.0 (sym e), apart.0) in
      let rest : AreApart (pages_of (second_part n r right ∷ y ∷ ys)) = (new.1, apart.1) in
      rw (below v y.low lt) (out, rest)
  | inr ge ↦ rw (not_below v y.low ge) (lacks_cut x.page v n left r right y ys (λ (e : x.page ≡ n). new.0 (sym e)) apart.0, apart_cut v n left r right y ys new.1 apart.1)
]

length_cut : (v n : ℕ) (left : List Entry) (r : Entry) (right : List Entry) (x : Piece) (xs : List Piece) → length (cut v n left r right (x ∷ xs)) ≡ length (x ∷ xs) + 1
length_cut v n left r right x [] = refl
length_cut v n left r right x (y ∷ ys) = elim (cases_lt v y.low) [
  | inl lt ↦ rw (below v y.low lt) (omega arith)
  | inr ge ↦ rw (not_below v y.low ge) (omega (arith, length_cut v n left r right y ys))
]

first_cut : (k v n : ℕ) (left : List Entry) (r : Entry) (right : List Entry) (x : Piece) (xs : List Piece) → FirstIs k (x ∷ xs) → FirstIs k (cut v n left r right (x ∷ xs))
first_cut k v n left r right x [] is = is
first_cut k v n left r right x (y ∷ ys) is = elim (cases_lt v y.low) [
  | inl lt ↦ rw (below v y.low lt) is
  | inr ge ↦ rw (not_below v y.low ge) is
]

two_cut : (v n : ℕ) (left : List Entry) (r : Entry) (right : List Entry) (x : Piece) (xs : List Piece) → 2 ≤ length left → 2 ≤ length (r ∷ right) → HaveTwo (x ∷ xs) → HaveTwo (cut v n left r right (x ∷ xs))
two_cut v n left r right x [] one two all = (one, (two, tt))
two_cut v n left r right x (y ∷ ys) one two all = elim (cases_lt v y.low) [
  | inl lt ↦
      let rest : HaveTwo (second_part n r right ∷ y ∷ ys) = (two, all.1) in
      rw (below v y.low lt) (one, rest)
  | inr ge ↦ rw (not_below v y.low ge) (all.0, two_cut v n left r right y ys one two all.1)
]

two_changed : (v : ℕ) (e : Entry) (xs : List Piece) → HaveTwo xs → HaveTwo (changed v (placed e) xs)
two_changed v e [] all = tt
two_changed v e (x ∷ []) all = (omega (arith, all.0, length_placed e x.es), tt)
two_changed v e (x ∷ y ∷ ys) all = elim (cases_lt v y.low) [
  | inl lt ↦ rw (below v y.low lt) (omega (arith, all.0, length_placed e x.es), all.1)
  | inr ge ↦ rw (not_below v y.low ge) (all.0, two_changed v e (y ∷ ys) all.1)
]

-- a tuple was put into the page of a level where its key lies
pub record LevelPut (e : Entry) (len : ℕ) (leaf : Bool) (o : Option Child) (ps qs : List (List ℕ)) (xs ys : List Piece) : Type 0 where
  pub level : IsLevel len leaf qs ys
  pub with_it : tuples ys ≡ placed e (tuples xs)
  pub top : TopPut o e.key xs ys
  pub kept : KeepsBut ((piece_at e.key xs).page ∷ []) ps qs
  pub apart : AreApart (pages_of ys)
  pub fresh : (q : ℕ) → q < length ps → Lacks q (pages_of xs) → Lacks q (pages_of ys)
  pub grow : Grows o (length ps) (length qs) (length xs) (length ys)
  pub first : FirstIs 0 xs → FirstIs 0 ys
  pub two : leaf ≡ false → HaveTwo xs → HaveTwo ys

-- of an inner level the tuples, and that one, lead to pages
abbrev pub ForInner : Bool → Entry → List Piece → Type 0
ForInner leaf e xs = leaf ≡ false → AreChildren (tuples xs) × (length e.body ≡ 8)

set_kept : (p : ℕ) (ps : List (List ℕ)) (b : List ℕ) → KeepsBut (p ∷ []) ps (set ps p b)
set_kept p ps b = λ q c out at. slice_get-set_other ps p q b out.0 ∙ at

pub level_here : (e : Entry) (len : ℕ) (leaf : Bool) (ps : List (List ℕ)) (old b : List ℕ) (x : Piece) (xs : List Piece) → IsLevel len leaf ps (x ∷ xs) → x.low ≤ e.key → AreApart (pages_of (x ∷ xs))
    → slice_get ps (piece_at e.key (x ∷ xs)).page ≡ Some old → Turned (placed e) old b → LevelPut e len leaf None ps (set ps (piece_at e.key (x ∷ xs)).page b) (x ∷ xs) (changed e.key (placed e) (x ∷ xs))
level_here e len leaf ps old b x xs is low apart at turned =
    let v = e.key in
    let z = piece_at v (x ∷ xs) in
    let f = placed e in
    record {
      level =
          level_changed v f len leaf ps old b x xs z.page (λ l es rest. keys_placed e l es rest) refl low apart at (λ n k m. turned n k m z.es)
          (begins_with e z.low leaf z.es (low_le v x xs low) (begins_at v len leaf ps x xs is)) is;
      with_it = tuples_changed e len leaf ps x xs is;
      top = record { at = v; f = f; is = refl };
      kept = set_kept z.page ps b;
      apart = subst AreApart (sym (changed_pages v f (x ∷ xs))) apart;
      fresh = λ q lt out. subst (Lacks q) (sym (changed_pages v f (x ∷ xs))) out;
      grow = inl (length-set ps z.page b, length_changed v f (x ∷ xs));
      first = first_changed v 0 f (x ∷ xs);
      two = λ inner. two_changed v e (x ∷ xs);
    }

-- or into two pages
pub level_parted : (e : Entry) (len : ℕ) (leaf : Bool) (ps : List (List ℕ)) (o : Child) (old first second : List ℕ) (x : Piece) (xs : List Piece) → IsLevel len leaf ps (x ∷ xs) → x.low ≤ e.key → AreApart (pages_of (x ∷ xs)) → ForInner leaf e (x ∷ xs)
    → size_of e ≤ room_of len → slice_get ps (piece_at e.key (x ∷ xs)).page ≡ Some old → IsFullFor e old → o.page ≡ length ps
    → ((kind link low : ℕ) (es : List Entry) (rest : List Piece) → IsCrowded e len kind link low es rest old → Parts e len kind link low (length ps) o.key es first second)
    → (ys : List Piece) × LevelPut e len leaf (Some o) ps (set ps (piece_at e.key (x ∷ xs)).page first ++ second ∷ []) (x ∷ xs) ys
level_parted e len leaf ps o old first second x xs is low apart inner room at full page parts =
    let v = e.key in
    let z = piece_at v (x ∷ xs) in
    let n = length ps in
    let here = level_at v len leaf ps x xs is in
    let same : here.1.page ≡ old = some_is (sym here.1.at ∙ at) in
    let made : IsMade (writer_of len z.es) (kind_if leaf) here.0 z.es old = subst (λ (b : List ℕ). IsMade (writer_of len z.es) (kind_if leaf) here.0 z.es b) same here.1.made in
    let keys = piece_keys v len leaf ps (x ∷ xs) is in
    let le = low_le v x xs low in
    let is_parts = parts (kind_if leaf) here.0 z.low z.es keys.0 (record { made = made; keys = keys.1; least = le; room = room; full = full len (kind_if leaf) here.0 z.es made }) in
    let into : CutInto len n is_parts.left is_parts.r is_parts.right z.es old first second =
    λ kind link m.
    let kind_is : kind_if leaf ≡ kind = sym (made_kind (writer_of len z.es) (kind_if leaf) here.0 z.es old made) ∙ made_kind (writer_of len z.es) kind link z.es old m in
    let link_is : here.0 ≡ link = sym (made_link (writer_of len z.es) (kind_if leaf) here.0 z.es old made) ∙ made_link (writer_of len z.es) kind link z.es old m in (
      subst (λ (k : ℕ). IsMade (writer_of len is_parts.left) k (n + 1) is_parts.left first) kind_is is_parts.first_is,
      subst (λ (l : ℕ). IsMade (writer_of len (is_parts.r ∷ is_parts.right)) kind l (is_parts.r ∷ is_parts.right) second) link_is
          (subst (λ (k : ℕ). IsMade (writer_of len (is_parts.r ∷ is_parts.right)) k here.0 (is_parts.r ∷ is_parts.right) second) kind_is is_parts.second_is),
    ) in
    let left = is_parts.left in
    let r = is_parts.r in
    let right = is_parts.right in
    let hold = keys_hold e z left r right is_parts.whole le in
    let two : leaf ≡ false → (2 ≤ length left) × (2 ≤ length (r ∷ right)) = λ f. let all = inner f in is_parts.two (piece_children v (x ∷ xs) all.0) all.1 in
    let begins = begins_left z.low leaf left r right (λ f. (two f).0) (subst (Begins leaf z.low) is_parts.whole (begins_with e z.low leaf z.es le (begins_at v len leaf ps x xs is))) in
    let new = lacks_end n (pages_of (x ∷ xs)) (level_under len leaf ps (x ∷ xs) is) in
    let long : length (set ps z.page first ++ second ∷ []) ≡ length ps + 1 = omega (arith, length-append (set ps z.page first) (second ∷ []), length-set ps z.page first) in (
      cut v n left r right (x ∷ xs),
      record {
        level = level_cut v n len z.page leaf ps old first second left r right x xs is refl refl apart at into hold is_parts.above begins;
        with_it = tuples_cut e n len leaf ps left r right x xs is_parts.whole is;
        top = record {
          at = v;
          alike = alike_refl v (x ∷ xs);
          left = left;
          r = r;
          right = right;
          is = ap (λ (m : ℕ). cut v m left r right (x ∷ xs)) (sym page);
          key = is_parts.key;
          keys = hold;
          above = is_parts.above;
        };
        kept = λ q b out here. added_before (set ps z.page first) second b q (set_kept z.page ps first q b out here);
        apart = apart_cut v n left r right x xs new apart;
        fresh = λ q lt out. lacks_cut q v n left r right x xs (λ e. absurd (omega (arith, lt, e))) out;
        grow = (omega (arith, long), length_cut v n left r right x xs);
        first = first_cut 0 v n left r right x xs;
        two = λ f all. let both = two f in two_cut v n left r right x xs both.0 both.1 all;
      },
    )
