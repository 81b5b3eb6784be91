-- The heads are looked at in turn, and the least is taken.
use Rattle.std.proofs.Common.{◌≡◌, ℕ, zero, suc, ◌+◌, ◌<◌, ◌≤◌, List, [], ◌∷◌, ◌++◌, length, map, set, sym, ◌∙◌, ap, subst, arith, refl, inl, inr, take, true, get_or}
use Rattle.std.proofs.lemmas.Bool.{cases_eq, cond-true, cond-false, eq-eqb, ne_eqb}
use Rattle.std.proofs.lemmas.List.{take_all, length-set}
use Rattle.std.specs.Prelude.{Option, Some, None, IfSome, IfNone, ◌⊎◌, slice_get, slice_index_or}
use Rattle.px_cache.proofs.Lists.{slice_get-set_same, slice_get-set_other, some_is}
use Rattle.px_core.specs.Parts.{to_part}
use Rattle.px_core.specs.Partition.{partition_of}
use Rattle.px_core.specs.Shown.{Shown, Touches, NoFile, Only}
use Rattle.px_core.proofs.Keeping.{same_by_none}
use Rattle.px_core.proofs.Partition.{partition_of-lt}
use Rattle.px_meaning.specs.Graph.{Graph, Vertex, IsMap, AllAbove, vids}
use Rattle.px_meaning.specs.Merge.{Pairs}
use Rattle.px_pages.specs.Entry.{Entry}
use Rattle.px_record.specs.Held.{HeldVertex}
use Rattle.px_store.proofs.Hold.{within}
use Rattle.px_stream.specs.Stream.{ToGive, Holds, Leads, tuple}
use Rattle.px_stream.specs.Views.{ReaderView}
use Rattle.px_stream.specs.declared.reader.Head.{Head}
use Rattle.px_stream.proofs.Kept.{to_give_same}
use Rattle.px_load.specs.Filling.{GaveNext}
use Rattle.px_load.specs.Held.{tuples}
use Rattle.px_load.specs.Heads.{heads_of, AllOver, NoneBefore, first_vid, GivesVertices, IsLooked, GiveParts, AreLooked, Begins, OfReader, left_in, all_left}
use Rattle.px_load.specs.Reading.{vertices_of, AllBodies}
use Rattle.px_load.specs.Scanning.{Spelled, HoldsVertices}
use Rattle.px_load.specs.declared.heads.PartReader.{PartReader}
use Rattle.px_load.proofs.FillingSteps.{no_tuples}
use Rattle.px_load.proofs.ScanningSteps.{spelled_more, below}

abbrev key_of : List Entry → ℕ
key_of [] = 0
key_of (e ∷ es) = e.key

-- the least of so many heads
pub record IsBest (n : ℕ) (os : List (Option ℕ)) (b : ℕ × ℕ) : Type 0 where
  pub at : slice_index_or os b.0 None ≡ Some b.1
  pub least : NoneBefore b.1 (take n os)

abbrev pub Best : ℕ → List (Option ℕ) → Option (ℕ × ℕ) → Type 0
Best n os None = AllOver (take n os)
Best n os (Some b) = IsBest n os b

from_lower : (k m : ℕ) (os : List (Option ℕ)) → m ≤ k → NoneBefore k os → NoneBefore m os
from_lower k m [] le h = tt
from_lower k m (None ∷ os) le h = from_lower k m os le h
from_lower k m (Some x ∷ os) le h = (omega (arith, le, h.0), from_lower k m os le h.1)

from_over : (k : ℕ) (os : List (Option ℕ)) → AllOver os → NoneBefore k os
from_over k [] h = tt
from_over k (None ∷ os) h = from_over k os h
from_over k (Some x ∷ os) h = absurd h

over_more : (n : ℕ) (os : List (Option ℕ)) → slice_get os n ≡ Some None → AllOver (take n os) → AllOver (take (suc n) os)
over_more n [] at h = absurd (cc at)
over_more zero (None ∷ os) at h = tt
over_more zero (Some x ∷ os) at h = absurd (cc at)
over_more (suc n) (None ∷ os) at h = over_more n os at h
over_more (suc n) (Some x ∷ os) at h = absurd h

from_more : (k n : ℕ) (os : List (Option ℕ)) (o : Option ℕ) → slice_get os n ≡ Some o → IfSome o (λ v. k ≤ v) → NoneBefore k (take n os) → NoneBefore k (take (suc n) os)
from_more k n [] o at this h = absurd (cc at)
from_more k zero (None ∷ os) o at this h = tt
from_more k zero (Some y ∷ os) o at this h =
    let is : o ≡ Some y = cc in
    (subst (λ (p : Option ℕ). IfSome p (λ v. k ≤ v)) is this, tt)
from_more k (suc n) (None ∷ os) o at this h = from_more k n os o at this h
from_more k (suc n) (Some y ∷ os) o at this h = (h.0, from_more k n os o at this h.1)

head_here : (k n m : ℕ) (os : List (Option ℕ)) (o : Option ℕ) → slice_get os n ≡ Some o → m ≡ n → o ≡ Some k → slice_index_or os m None ≡ Some k
head_here k n m [] o at same h = absurd (cc at)
head_here k n zero (q ∷ os) o at same h = let is : q ≡ o = cc in is ∙ h
head_here k zero (suc m) (q ∷ os) o at same h = absurd (omega (arith, same))
head_here k (suc n) (suc m) (q ∷ os) o at same h = head_here k n m os o at (omega (arith, same)) h

-- one more was looked at
pub best_next : (n : ℕ) (os : List (Option ℕ)) (o : Option ℕ) (best now : Option (ℕ × ℕ)) → slice_get os n ≡ Some o → IfNone now (o ≡ None) → IfNone now (best ≡ None)
    → IfSome now (λ b. IfSome o (λ v. b.1 ≤ v)) → IfSome now (λ b. IfSome best (λ a. b.1 ≤ a.1)) → IfSome now (λ b. (now ≡ best) ⊎ ((b.0 ≡ n) × (o ≡ Some b.1)))
    → Best n os best → Best (suc n) os now
best_next n os o best None at over before first lower chosen h =
    over_more n os (at ∙ ap (λ (p : Option ℕ). Some p) over) (subst (Best n os) before h)
best_next n os o None (Some b) at over before first lower (inl same) h = absurd (cc same)
best_next n os o (Some a) (Some b) at over before first lower (inl same) h =
    let is : Best n os (Some b) = subst (Best n os) (sym same) h in
    record { at = is.at; least = from_more b.1 n os o at first is.least }
best_next n os o None (Some b) at over before first lower (inr new) h =
    record { at = head_here b.1 n b.0 os o at new.0 new.1; least = from_more b.1 n os o at first (from_over b.1 (take n os) h) }
best_next n os o (Some a) (Some b) at over before first lower (inr new) h =
    record { at = head_here b.1 n b.0 os o at new.0 new.1; least = from_more b.1 n os o at first (from_lower a.1 b.1 (take n os) lower h.least) }

-- all were looked at
pub best_over : (n : ℕ) (os : List (Option ℕ)) (o : Option (ℕ × ℕ)) → length os ≤ n → Best n os o → IfNone o (AllOver os)
best_over n os None all h = subst AllOver (take_all n os all) h
best_over n os (Some b) all h = tt

pub best_at : (n : ℕ) (os : List (Option ℕ)) (o : Option (ℕ × ℕ)) → Best n os o → IfSome o (λ b. slice_index_or os b.0 None ≡ Some b.1)
best_at n os None h = tt
best_at n os (Some b) h = h.at

pub best_least : (n : ℕ) (os : List (Option ℕ)) (o : Option (ℕ × ℕ)) → length os ≤ n → Best n os o → IfSome o (λ b. NoneBefore b.1 os)
best_least n os None all h = tt
best_least n os (Some b) all h = subst (NoneBefore b.1) (take_all n os all) h.least

pub head_at : (ps : List PartReader) (i : ℕ) (p : PartReader) → slice_get ps i ≡ Some p → slice_get (heads_of ps) i ≡ Some p.head
head_at [] i p at = absurd (cc at)
head_at (q ∷ ps) zero p at = let is : q ≡ p = cc in ap (λ (x : PartReader). Some x.head) is
head_at (q ∷ ps) (suc i) p at = head_at ps i p at

pub count_heads : (ps : List PartReader) → length (heads_of ps) ≡ length ps
count_heads [] = refl
count_heads (p ∷ ps) = ap suc (count_heads ps)

pub reader_at : {X : Type 0} (xs : List X) (i : ℕ) (d : X) → i < length xs → slice_get xs i ≡ Some (get_or xs i d)
reader_at [] i d low = absurd (omega (arith, low))
reader_at (x ∷ xs) zero d low = refl
reader_at (x ∷ xs) (suc i) d low = reader_at xs i d (omega (arith, low))

-- a place with a head is one of a reader
pub head_below : (ps : List PartReader) (i v : ℕ) → slice_index_or (heads_of ps) i None ≡ Some v → i < length ps
head_below [] i v at = absurd (cc at)
head_below (p ∷ ps) zero v at = omega arith
head_below (p ∷ ps) (suc i) v at = omega (arith, head_below ps i v at)

head_is : (ps : List PartReader) (i v : ℕ) (p : PartReader) → slice_index_or (heads_of ps) i None ≡ Some v → slice_get ps i ≡ Some p → p.head ≡ Some v
head_is [] i v p at here = absurd (cc here)
head_is (q ∷ ps) zero v p at here = let is : q ≡ p = cc in subst (λ (x : PartReader). x.head ≡ Some v) is at
head_is (q ∷ ps) (suc i) v p at here = head_is ps i v p at here

over_here : (o : Option ℕ) (os : List (Option ℕ)) → AllOver (o ∷ os) → o ≡ None
over_here None os h = refl
over_here (Some v) os h = absurd h

over_rest : (o : Option ℕ) (os : List (Option ℕ)) → AllOver (o ∷ os) → AllOver os
over_rest None os h = h
over_rest (Some v) os h = absurd h

over_at : (ps : List PartReader) (i : ℕ) (p : PartReader) → AllOver (heads_of ps) → slice_get ps i ≡ Some p → p.head ≡ None
over_at [] i p over at = absurd (cc at)
over_at (q ∷ ps) zero p over at = let is : q ≡ p = cc in subst (λ (x : PartReader). x.head ≡ None) is (over_here q.head (heads_of ps) over)
over_at (q ∷ ps) (suc i) p over at = over_at ps i p (over_rest q.head (heads_of ps) over) at

before_here : (k v : ℕ) (o : Option ℕ) (os : List (Option ℕ)) → NoneBefore k (o ∷ os) → o ≡ Some v → k ≤ v
before_here k v None os h is = absurd (cc is)
before_here k v (Some w) os h is = let same : w ≡ v = cc in omega (arith, h.0, same)

before_rest : (k : ℕ) (o : Option ℕ) (os : List (Option ℕ)) → NoneBefore k (o ∷ os) → NoneBefore k os
before_rest k None os h = h
before_rest k (Some v) os h = h.1

before_at : (ps : List PartReader) (i k v : ℕ) (p : PartReader) → NoneBefore k (heads_of ps) → slice_get ps i ≡ Some p → p.head ≡ Some v → k ≤ v
before_at [] i k v p low at is = absurd (cc at)
before_at (q ∷ ps) zero k v p low at is = let same : q ≡ p = cc in before_here k v q.head (heads_of ps) low (ap (λ (x : PartReader). x.head) same ∙ is)
before_at (q ∷ ps) (suc i) k v p low at is = before_at ps i k v p (before_rest k q.head (heads_of ps) low) at is

-- the part of a graph with one vertex more
part_here : (parts q : ℕ) (e : ℕ × Vertex) (g : Graph) → partition_of e.0 parts ≡ q → to_part parts q (e ∷ g) ≡ e ∷ to_part parts q g
part_here parts q e g is = cond-true _ (e ∷ to_part parts q g) (to_part parts q g) (eq-eqb (partition_of e.0 parts) q is)

part_other : (parts q : ℕ) (e : ℕ × Vertex) (g : Graph) → (partition_of e.0 parts ≡ q → ⊥) → to_part parts q (e ∷ g) ≡ to_part parts q g
part_other parts q e g not = cond-false _ (e ∷ to_part parts q g) (to_part parts q g) (ne_eqb (partition_of e.0 parts) q not)

some_vid : {a b : ℕ} → Some a ≡ Some b → a ≡ b
some_vid e = cc

-- the first of a part is above what all are above
first_above : (parts q k v : ℕ) (g : Graph) → AllAbove k (vids g) → first_vid (to_part parts q g) ≡ Some v → k < v
first_above parts q k v [] above first = absurd (cc first)
first_above parts q k v (e ∷ g) above first = elim (cases_eq (partition_of e.0 parts) q) [
  | inl is ↦
      let same : e.0 ≡ v = some_vid (sym (ap first_vid (part_here parts q e g is)) ∙ first) in
      omega (arith, above.0, same)
  | inr not ↦ first_above parts q k v g above.1 (sym (ap first_vid (part_other parts q e g not)) ∙ first)
]

first_same : {a b : ℕ × Vertex} {x y : Graph} → a ∷ x ≡ b ∷ y → a ≡ b
first_same e = cc

rest_same : {a b : ℕ × Vertex} {x y : Graph} → a ∷ x ≡ b ∷ y → x ≡ y
rest_same e = cc

-- the vertex that is next stands in the file of its partition
pub own_head : (s : Shown) (room : ℕ) (ps : List PartReader) (e : ℕ × Vertex) (g : Graph) → 1 ≤ length ps → AreLooked s room ps (e ∷ g)
    → (p : PartReader) × (slice_get ps (partition_of e.0 (length ps)) ≡ Some p) × (p.head ≡ Some e.0)
own_head s room ps e g some looked =
    let q = partition_of e.0 (length ps) in
    let p = within ps q (partition_of-lt e.0 (length ps) (omega (arith, some))) in
    (p.0, p.1, (looked q p.0 p.1).head ∙ ap first_vid (part_here (length ps) q e g refl))

-- where all have come to their ends, no vertex is left
pub none_left : (s : Shown) (room : ℕ) (ps : List PartReader) (g : Graph) → 1 ≤ length ps → AllOver (heads_of ps) → AreLooked s room ps g → g ≡ []
none_left s room ps [] some over looked = refl
none_left s room ps (e ∷ g) some over looked =
    let own = own_head s room ps e g some looked in
    absurd (cc (sym own.2 ∙ over_at ps (partition_of e.0 (length ps)) own.0 over own.1))

-- the least head is that of the vertex which is next
pub least_own : (s : Shown) (room : ℕ) (ps : List PartReader) (e : ℕ × Vertex) (g : Graph) (q v : ℕ) → 1 ≤ length ps → IsMap (e ∷ g) → AreLooked s room ps (e ∷ g)
    → slice_index_or (heads_of ps) q None ≡ Some v → NoneBefore v (heads_of ps) → partition_of e.0 (length ps) ≡ q
least_own s room ps e g q v some map looked at low =
    let own = own_head s room ps e g some looked in
    let le : v ≤ e.0 = before_at ps (partition_of e.0 (length ps)) v e.0 own.0 low own.1 own.2 in
    let p = within ps q (head_below ps q v at) in
    let first : first_vid (to_part (length ps) q (e ∷ g)) ≡ Some v = sym (looked q p.0 p.1).head ∙ head_is ps q v p.0 at p.1 in
    elim (cases_eq (partition_of e.0 (length ps)) q) [
      | inl is ↦ is
      | inr not ↦ absurd (omega (arith, le, first_above (length ps) q e.0 v g map.0 (sym (ap first_vid (part_other (length ps) q e g not)) ∙ first)))
    ]

-- a head is known, so a vertex is left
pub some_left : (s : Shown) (room : ℕ) (ps : List PartReader) (q v : ℕ) → AreLooked s room ps [] → slice_index_or (heads_of ps) q None ≡ Some v → ⊥
some_left s room ps q v looked at =
    let p = within ps q (head_below ps q v at) in
    cc (sym (head_is ps q v p.0 at p.1) ∙ (looked q p.0 p.1).head)

-- the vertices behind the one that was taken
pub taken : (parts q : ℕ) (e : ℕ × Vertex) (g : Graph) (v : ℕ) (x : Vertex) (After : Graph → Type 0) → partition_of e.0 parts ≡ q
    → Begins (to_part parts q (e ∷ g)) v x (λ rest. (k : Graph) → to_part parts q k ≡ rest → ((i : ℕ) → (i ≡ q → ⊥) → to_part parts i k ≡ to_part parts i (e ∷ g)) → After k)
    → (e ≡ (v, x)) × After g
taken parts q e g v x After own b =
    let both : e ∷ to_part parts q g ≡ (v, x) ∷ b.rest = sym (part_here parts q e g own) ∙ b.is in
    (first_same both, b.after g (rest_same both) (λ i other. sym (part_other parts i e g (λ is. other (sym is ∙ own)))))

module _ {X : Type 0} where
  -- what holds of each by its place, once one more stands behind
  each_push_at : (P : ℕ → X → Type 0) (xs : List X) (x : X) → ((q : ℕ) (z : X) → slice_get xs q ≡ Some z → P q z) → P (length xs) x → (q : ℕ) (z : X) → slice_get (xs ++ x ∷ []) q ≡ Some z → P q z
  each_push_at P [] x own last zero z at = let same : x ≡ z = cc in subst (P 0) same last
  each_push_at P [] x own last (suc q) z at = absurd (cc at)
  each_push_at P (y ∷ xs) x own last zero z at = own zero z at
  each_push_at P (y ∷ xs) x own last (suc q) z at = each_push_at (λ n. P (suc n)) xs x (λ n w h. own (suc n) w h) last q z at

  pub each_push : (P : ℕ → X → Type 0) (xs ys : List X) (x : X) → ys ≡ xs ++ x ∷ [] → ((q : ℕ) (z : X) → slice_get xs q ≡ Some z → P q z) → P (length xs) x → (q : ℕ) (z : X) → slice_get ys q ≡ Some z → P q z
  each_push P xs ys x is own last q z at = each_push_at P xs x own last q z (sym (ap (λ (l : List X). slice_get l q) is) ∙ at)

  -- once one of them changed
  pub each_change : (P : ℕ → X → Type 0) (xs : List X) (q : ℕ) (y : X) → q < length xs → P q y → ((i : ℕ) (z : X) → (i ≡ q → ⊥) → slice_get xs i ≡ Some z → P i z) → (i : ℕ) (z : X) → slice_get (set xs q y) i ≡ Some z → P i z
  each_change P xs q y low new own i z at = elim (cases_eq i q) [
    | inl e ↦
        let same : y ≡ z = some_is (sym (slice_get-set_same xs q y low) ∙ ap (slice_get (set xs q y)) (sym e) ∙ at) in
        subst (λ (j : ℕ). P j z) (sym e) (subst (P q) same new)
    | inr other ↦ own i z other (sym (slice_get-set_other xs q i y other) ∙ at)
  ]

  get_front : (xs : List X) (x : X) (q : ℕ) (z : X) → slice_get xs q ≡ Some z → slice_get (xs ++ x ∷ []) q ≡ Some z
  get_front [] x q z at = absurd (cc at)
  get_front (y ∷ xs) x zero z at = at
  get_front (y ∷ xs) x (suc q) z at = get_front xs x q z at

  get_last : (xs : List X) (x : X) → slice_get (xs ++ x ∷ []) (length xs) ≡ Some x
  get_last [] x = refl
  get_last (y ∷ xs) x = get_last xs x

  -- of all before the last, and of the last
  pub each_front : (P : ℕ → X → Type 0) (xs ys : List X) (x : X) → ys ≡ xs ++ x ∷ [] → ((q : ℕ) (z : X) → slice_get ys q ≡ Some z → P q z) → (q : ℕ) (z : X) → slice_get xs q ≡ Some z → P q z
  each_front P xs ys x is own q z at = own q z (ap (λ (l : List X). slice_get l q) is ∙ get_front xs x q z at)

  pub each_last : (P : ℕ → X → Type 0) (xs ys : List X) (x : X) → ys ≡ xs ++ x ∷ [] → ((q : ℕ) (z : X) → slice_get ys q ≡ Some z → P q z) → P (length xs) x
  each_last P xs ys x is own = own (length xs) x (ap (λ (l : List X). slice_get l (length xs)) is ∙ get_last xs x)

-- those that were opened are to give their parts
abbrev pub GiveFirst : Shown → ℕ → ℕ → List PartReader → Graph → Type 0
GiveFirst s room parts ps g = (q : ℕ) (p : PartReader) → slice_get ps q ≡ Some p → GivesVertices s room p (to_part parts q g)

-- the first ones were looked at
abbrev pub Looking : Shown → ℕ → ℕ → List PartReader → Graph → Type 0
Looking s room n ps g = (q : ℕ) (p : PartReader) → slice_get ps q ≡ Some p → GivesVertices s room p (to_part (length ps) q g) × (q < n → p.head ≡ first_vid (to_part (length ps) q g))

pub looking_first : (s : Shown) (room : ℕ) (ps : List PartReader) (g : Graph) → GiveParts s room ps g → Looking s room 0 ps g
looking_first s room ps g give q p at = (give q p at, λ low. absurd (omega (arith, low)))

pub reader_more : (P Q : ReaderView → Type 0) (o : Option ReaderView) → ((r : ReaderView) → P r → Q r) → OfReader P o → OfReader Q o
reader_more P Q None f h = h
reader_more P Q (Some r) f h = f r h

pub reader_is : (P : ReaderView → Type 0) (o : Option ReaderView) (r : ReaderView) → o ≡ Some r → OfReader P o → P r
reader_is P None r is h = absurd h
reader_is P (Some x) r is h = let same : x ≡ r = cc in subst P same h

pub some_reader : (P : ReaderView → Type 0) (o : Option ReaderView) → OfReader P o → IfSome o P
some_reader P None h = tt
some_reader P (Some r) h = h

gives_same : (s t : Shown) (room : ℕ) (p : PartReader) (l : Graph) → Touches NoFile s t → GivesVertices s room p l → GivesVertices t room p l
gives_same s t room p l touches give =
    reader_more (λ r. Spelled room (ToGive s r) l) (λ r. Spelled room (ToGive t r) l) p.reader (λ r. spelled_more room (ToGive s r) (ToGive t r) l (λ es. to_give_same s t r es (same_by_none (Only r.file) s t touches))) give

looked_same : (s t : Shown) (room : ℕ) (p : PartReader) (l : Graph) → Touches NoFile s t → IsLooked s room p l → IsLooked t room p l
looked_same s t room p l touches h = record { gives = gives_same s t room p l touches h.gives; head = h.head }

-- one more was
pub looking_next : (s t : Shown) (room n : ℕ) (ps : List PartReader) (p p' : PartReader) (g : Graph) → Touches NoFile s t → slice_get ps n ≡ Some p → n < length ps → ((l : Graph) → GivesVertices s room p l → IsLooked t room p' l)
    → Looking s room n ps g → Looking t room (n + 1) (set ps n p') g
looking_next s t room n ps p p' g touches here low looks h =
    let k = length ps in
    let P : ℕ → PartReader → Type 0 = λ q x. GivesVertices t room x (to_part k q g) × (q < n + 1 → x.head ≡ first_vid (to_part k q g)) in
    let new = looks (to_part k n g) (h n p here).0 in
    let all = each_change P ps n p' low (new.gives, λ any. new.head) (λ i z other at. (gives_same s t room z (to_part k i g) touches (h i z at).0, λ lower. (h i z at).1 (omega (arith, lower, other)))) in
    λ q x at. subst (λ (m : ℕ). GivesVertices t room x (to_part m q g) × (q < n + 1 → x.head ≡ first_vid (to_part m q g))) (sym (length-set ps n p')) (all q x at)

pub looking_last : (s : Shown) (room n : ℕ) (ps : List PartReader) (g : Graph) → length ps ≤ n → Looking s room n ps g → AreLooked s room ps g
looking_last s room n ps g all h q p at = record { gives = (h q p at).0; head = (h q p at).1 (omega (arith, all, below ps q p at)) }

-- how many are left of all, where one has fewer
left_set : (q : ℕ) (ps : List PartReader) (x x' : PartReader) → slice_get ps q ≡ Some x → all_left (set ps q x') + left_in x.reader ≡ all_left ps + left_in x'.reader
left_set q [] x x' at = absurd (cc at)
left_set zero (p ∷ ps) x x' at = let is : p ≡ x = cc in let same : left_in p.reader ≡ left_in x.reader = ap (λ (y : PartReader). left_in y.reader) is in omega (arith, same)
left_set (suc q) (p ∷ ps) x x' at = omega (arith, left_set q ps x x' at)

pub left_falls : (q : ℕ) (ps : List PartReader) (x x' : PartReader) → slice_get ps q ≡ Some x → left_in x'.reader < left_in x.reader → all_left (set ps q x') < all_left ps
left_falls q ps x x' at less = omega (arith, left_set q ps x x' at, less)

-- one vertex was taken from its file
pub taken_at : (s t : Shown) (room q v : ℕ) (x : Vertex) (ps : List PartReader) (p p' : PartReader) (g : Graph) → Touches NoFile s t → slice_get ps q ≡ Some p → q < length ps
    → ((l : Graph) → IsLooked s room p l → Begins l v x (IsLooked t room p')) → AreLooked s room ps g
    → Begins (to_part (length ps) q g) v x (λ rest. (k : Graph) → to_part (length ps) q k ≡ rest → ((i : ℕ) → (i ≡ q → ⊥) → to_part (length ps) i k ≡ to_part (length ps) i g) → AreLooked t room (set ps q p') k)
taken_at s t room q v x ps p p' g touches here low takes looked =
    let n = length ps in
    let b = takes (to_part n q g) (looked q p here) in
    record {
      rest = b.rest;
      is = b.is;
      after = λ k mine others.
          let all = each_change (λ i z. IsLooked t room z (to_part n i k)) ps q p' low (subst (IsLooked t room p') (sym mine) b.after)
          (λ i z other at. looked_same s t room z (to_part n i k) touches (subst (IsLooked s room z) (sym (others i other)) (looked i z at))) in
          λ i z at. subst (λ (m : ℕ). IsLooked t room z (to_part m i k)) (sym (length-set ps q p')) (all i z at);
    }

-- what was peeked at is the first vertex
pub none_first : (room : ℕ) (P : List Entry → Type 0) (l : Graph) → ((es : List Entry) → P es → es ≡ []) → Spelled room P l → l ≡ []
none_first room P l none s = sym s.is ∙ ap vertices_of (no_tuples s.pairs (none (tuples s.pairs) s.of))

first_of : (h : Head) (body : List ℕ) (After : List Entry → Type 0) (k : Pairs) → Leads (tuple h body) (tuples k) After → first_vid (vertices_of k) ≡ Some h.key
first_of h body After [] lead = absurd (cc lead.is)
first_of h body After (p ∷ k) lead = ap (λ (n : ℕ). Some n) (ap (λ (es : List Entry). key_of es) lead.is)

pub some_first : (room : ℕ) (h : Head) (body : List ℕ) (P After : List Entry → Type 0) (l : Graph) → ((es : List Entry) → P es → Leads (tuple h body) es After) → Spelled room P l → first_vid l ≡ Some h.key
some_first room h body P After l lead s = sym (ap first_vid s.is) ∙ first_of h body After s.pairs (lead (tuples s.pairs) s.of)

-- what was taken is the first vertex
pub begins_with : (room : ℕ) (v : HeldVertex) (l : Graph) (P Q : List Entry → Type 0) (After : Graph → Type 0) → ((k : Pairs) → AllBodies room k → P (tuples k) → GaveNext true v k (λ rest. Q (tuples rest)))
    → ((m : Graph) → Spelled room Q m → After m) → Spelled room P l → Begins l v.vid v.vertex After
begins_with room v l P Q After gave then s =
    let n = gave s.pairs s.bodies s.of in
    let body = n.0 in
    let rest = n.1 in
    record {
      rest = vertices_of rest;
      is = sym s.is ∙ ap vertices_of n.2 ∙ ap (λ (x : Vertex). (v.vid, x) ∷ vertices_of rest) (sym n.3);
      after = then (vertices_of rest) (record { pairs = rest; bodies = (subst (AllBodies room) n.2 s.bodies).1; is = refl; of = n.4 });
    }

-- a file that was opened is to give what it holds
pub opened : (s : Shown) (room file pages : ℕ) (r : ReaderView) (l : Graph) → ((es : List Entry) → Holds s file pages es → ToGive s r es) → HoldsVertices s room file pages l → Spelled room (ToGive s r) l
opened s room file pages r l give h = spelled_more room (Holds s file pages) (ToGive s r) l give h

-- a file whose head is known gives a vertex
pub no_head : (s : Shown) (room : ℕ) (ps : List PartReader) (g : Graph) (q v : ℕ) → AreLooked s room ps g → slice_index_or (heads_of ps) q None ≡ Some v → to_part (length ps) q g ≡ [] → ⊥
no_head s room ps g q v looked at none =
    let p = within ps q (head_below ps q v at) in
    cc (sym (head_is ps q v p.0 at p.1) ∙ (looked q p.0 p.1).head ∙ ap first_vid none)

-- the first vertex was taken, and the next looked at
pub begins_looked : (s t : Shown) (room v : ℕ) (x : Vertex) (r r' : ReaderView) (head : Option ℕ) (p : PartReader) (l : Graph) → Begins l v x (Spelled room (ToGive s r)) → ((m : Graph) → Spelled room (ToGive s r) m → Spelled room (ToGive t r') m)
    → ((m : Graph) → Spelled room (ToGive s r) m → head ≡ first_vid m) → p ≡ record { reader = Some r'; head = head } → Begins l v x (IsLooked t room p)
begins_looked s t room v x r r' head p l b gives vid is = record {
  rest = b.rest;
  is = b.is;
  after = subst (λ (y : PartReader). IsLooked t room y b.rest) (sym is) (record { gives = gives b.rest b.after; head = vid b.rest b.after });
}
