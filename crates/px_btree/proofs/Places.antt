-- A key's place among the tuples of one page.
use Rattle.std.proofs.Common.{◌≡◌, ◌<◌, ◌≤◌, ◌+◌, ℕ, zero, suc, Bool, true, false, List, [], ◌∷◌, ◌++◌, length, take, drop, set, get_or, refl, sym, ◌∙◌, ap, subst, arith, inl, inr}
use Rattle.std.proofs.lemmas.Bool.{cases_lt}
use Rattle.std.specs.Prelude.{Option, Some, None, slice_get, option_map, is_some, IfSome}
use Rattle.std.specs.List.{prefix_len, insert, remove}
use Rattle.std.specs.List.Sorted.{IsNonDecreasingBy}
use Rattle.std.proofs.lemmas.List.{length-append, take-append-drop}
use Rattle.px_pages.specs.Entry.{Entry, entry_bytes, bytes_of, size_of}
use Rattle.px_pages.proofs.Writing.{length-entry_bytes}
use Rattle.px_pages.proofs.Editing.{bytes_join}
use Rattle.px_pages.specs.Place.{IsPlace, is_below}
use Rattle.px_pages.specs.Page.{tuples_of, entry_of}
use Rattle.px_pages.specs.Children.{AreChildren, is_up_to}
use Rattle.px_pages.specs.declared.reader.Tuple.{Tuple}
use Rattle.px_pages.specs.declared.place.Place.{Place}
use Rattle.px_cache.proofs.Lists.{some_is}
use Rattle.px_btree.specs.Search.{KeyIs, IsPlaceOf, IsChildPage, chosen, found, leads_to}
use Rattle.px_btree.specs.Tree.{Piece, AreKeys, IsLevel, tuples, index}
use Rattle.px_btree.specs.Find.{piece_at}
use Rattle.px_btree.specs.Put.{placed, gone}
use Rattle.px_btree.proofs.Items.{none_below}
use Rattle.px_btree.proofs.Orders.{not_below, below, not_equal, equal}

-- how many tuples are below a key
pub past : (v : ℕ) (e : Entry) (es : List Entry) → e.key < v → prefix_len (is_below v) (e ∷ es) ≡ suc (prefix_len (is_below v) es)
past v e es lt = rw (below e.key v lt) (omega arith)

pub stops : (v : ℕ) (e : Entry) (es : List Entry) → v ≤ e.key → prefix_len (is_below v) (e ∷ es) ≡ 0
stops v e es ge = rw (not_below e.key v ge) refl

-- the tuple of a key is put in its place, or between others
pub placed_insert : (e : Entry) (es : List Entry) (i : ℕ) → i ≡ prefix_len (is_below e.key) es → ((d : Entry) → slice_get es i ≡ Some d → d.key ≡ e.key → ⊥) → placed e es ≡ insert es i e
placed_insert e [] i is none = ap (λ (k : ℕ). take k [] ++ e ∷ drop k []) (sym is)
placed_insert e (d ∷ es) i is none = elim (cases_lt d.key e.key) [
  | inl lt ↦
      let n = prefix_len (is_below e.key) es in
      let i_is : i ≡ suc n = is ∙ past e.key d es lt in
      let rest = placed_insert e es n refl (λ f at. none f (ap (λ (k : ℕ). slice_get (d ∷ es) k) i_is ∙ at)) in
      rw (not_below e.key d.key (omega (arith, lt)), not_equal e.key d.key (λ same. omega (arith, lt, same))) (ap (λ (l : List Entry). d ∷ l) rest ∙ ap (λ (k : ℕ). insert (d ∷ es) k e) (sym i_is))
  | inr ge ↦
      let i_is : i ≡ 0 = is ∙ stops e.key d es ge in
      let other : d.key ≡ e.key → ⊥ = none d (ap (λ (k : ℕ). slice_get (d ∷ es) k) i_is) in
      rw (below e.key d.key (omega (arith, ge, other))) (ap (λ (k : ℕ). insert (d ∷ es) k e) (sym i_is))
]

pub placed_set : (e : Entry) (es : List Entry) (i : ℕ) (d : Entry) → i ≡ prefix_len (is_below e.key) es → slice_get es i ≡ Some d → d.key ≡ e.key → placed e es ≡ set es i e
placed_set e [] i d is at key = absurd (none_some d at)
  where
    none_some : (d : Entry) → None ≡ Some d → ⊥
    none_some d h = cc h
placed_set e (f ∷ es) i d is at key = elim (cases_lt f.key e.key) [
  | inl lt ↦
      let n = prefix_len (is_below e.key) es in
      let i_is : i ≡ suc n = is ∙ past e.key f es lt in
      let rest = placed_set e es n d refl (ap (λ (k : ℕ). slice_get (f ∷ es) k) (sym i_is) ∙ at) key in
      rw (not_below e.key f.key (omega (arith, lt)), not_equal e.key f.key (λ same. omega (arith, lt, same))) (ap (λ (l : List Entry). f ∷ l) rest ∙ ap (λ (k : ℕ). set (f ∷ es) k e) (sym i_is))
  | inr ge ↦
      let i_is : i ≡ 0 = is ∙ stops e.key f es ge in
      let same : f ≡ d = some_is (ap (λ (k : ℕ). slice_get (f ∷ es) k) (sym i_is) ∙ at) in
      let key' : e.key ≡ f.key = sym (ap (λ (x : Entry). x.key) same ∙ key) in
      rw (not_below e.key f.key (omega (arith, key')), equal e.key f.key key') (ap (λ (k : ℕ). set (f ∷ es) k e) (sym i_is))
]

-- it is taken out, or it is not there
pub gone_remove : (v : ℕ) (es : List Entry) (i : ℕ) (d : Entry) → i ≡ prefix_len (is_below v) es → slice_get es i ≡ Some d → d.key ≡ v → gone v es ≡ remove es i
gone_remove v [] i d is at key = absurd (none_some d at)
  where
    none_some : (d : Entry) → None ≡ Some d → ⊥
    none_some d h = cc h
gone_remove v (f ∷ es) i d is at key = elim (cases_lt f.key v) [
  | inl lt ↦
      let n = prefix_len (is_below v) es in
      let i_is : i ≡ suc n = is ∙ past v f es lt in
      let rest = gone_remove v es n d refl (ap (λ (k : ℕ). slice_get (f ∷ es) k) (sym i_is) ∙ at) key in
      rw (below f.key v lt) (ap (λ (l : List Entry). f ∷ l) rest ∙ ap (λ (k : ℕ). remove (f ∷ es) k) (sym i_is))
  | inr ge ↦
      let i_is : i ≡ 0 = is ∙ stops v f es ge in
      let same : f ≡ d = some_is (ap (λ (k : ℕ). slice_get (f ∷ es) k) (sym i_is) ∙ at) in
      let key' : v ≡ f.key = sym (ap (λ (x : Entry). x.key) same ∙ key) in
      rw (not_below f.key v ge, equal v f.key key') (ap (λ (k : ℕ). remove (f ∷ es) k) (sym i_is))
]

pub gone_same : (v : ℕ) (es : List Entry) (i : ℕ) → i ≡ prefix_len (is_below v) es → ((d : Entry) → slice_get es i ≡ Some d → d.key ≡ v → ⊥) → gone v es ≡ es
gone_same v [] i is none = refl
gone_same v (f ∷ es) i is none = elim (cases_lt f.key v) [
  | inl lt ↦
      let i_is : i ≡ suc (prefix_len (is_below v) es) = is ∙ past v f es lt in
      rw (below f.key v lt) (ap (λ (l : List Entry). f ∷ l) (gone_same v es (prefix_len (is_below v) es) refl (λ d at. none d (ap (λ (k : ℕ). slice_get (f ∷ es) k) i_is ∙ at))))
  | inr ge ↦
      let i_is : i ≡ 0 = is ∙ stops v f es ge in
      let other : f.key ≡ v → ⊥ = none f (ap (λ (k : ℕ). slice_get (f ∷ es) k) i_is) in
      rw (not_below f.key v ge, not_equal v f.key (λ same. other (sym same))) refl
]

-- among ascending keys it is found in its place
pub found_here : (v low : ℕ) (es : List Entry) (xs : List Piece) (i : ℕ) (d : Entry) → AreKeys low es xs → i ≡ prefix_len (is_below v) es → slice_get es i ≡ Some d → d.key ≡ v → found v es ≡ Some d
found_here v low [] xs i d keys is at key = absurd (none_some d at)
  where
    none_some : (d : Entry) → None ≡ Some d → ⊥
    none_some d h = cc h
found_here v low (f ∷ es) xs i d keys is at key = elim (cases_lt f.key v) [
  | inl lt ↦
      let i_is : i ≡ suc (prefix_len (is_below v) es) = is ∙ past v f es lt in
      rw (not_equal v f.key (λ same. omega (arith, lt, same))) (found_here v (f.key + 1) es xs (prefix_len (is_below v) es) d keys.2 refl (ap (λ (k : ℕ). slice_get (f ∷ es) k) (sym i_is) ∙ at) key)
  | inr ge ↦
      let i_is : i ≡ 0 = is ∙ stops v f es ge in
      let same : Some f ≡ Some d = ap (λ (k : ℕ). slice_get (f ∷ es) k) (sym i_is) ∙ at in
      let key' : v ≡ f.key = sym (ap (λ (x : Entry). x.key) (some_is same) ∙ key) in
      rw (equal v f.key key') same
]

pub found_not : (v low : ℕ) (es : List Entry) (xs : List Piece) (i : ℕ) → AreKeys low es xs → i ≡ prefix_len (is_below v) es → ((d : Entry) → slice_get es i ≡ Some d → d.key ≡ v → ⊥) → found v es ≡ None
found_not v low [] xs i keys is none = refl
found_not v low (f ∷ es) xs i keys is none = elim (cases_lt f.key v) [
  | inl lt ↦
      let i_is : i ≡ suc (prefix_len (is_below v) es) = is ∙ past v f es lt in
      rw (not_equal v f.key (λ same. omega (arith, lt, same)))
      (found_not v (f.key + 1) es xs (prefix_len (is_below v) es) keys.2 refl (λ d at. none d (ap (λ (k : ℕ). slice_get (f ∷ es) k) i_is ∙ at)))
  | inr ge ↦
      let i_is : i ≡ 0 = is ∙ stops v f es ge in
      let other : f.key ≡ v → ⊥ = none f (ap (λ (k : ℕ). slice_get (f ∷ es) k) i_is) in
      rw (not_equal v f.key (λ same. other (sym same))) (none_below v (f.key + 1) es xs (omega (arith, ge, other)) keys.2)
]

-- what a place says of a key
pub key_some : (o : Option Tuple) (v : ℕ) → KeyIs o v → is_some o ≡ true
key_some None v key = absurd key
key_some (Some t) v key = refl

pub key_get : (place : Place) (page : List ℕ) (v : ℕ) → IsPlace place page → KeyIs place.tuple v → (t : Tuple) × (place.tuple ≡ Some t) × (slice_get (tuples_of page) place.index ≡ Some (entry_of t page)) × (t.key ≡ v)
key_get place page v is key = key_of place.tuple page (slice_get (tuples_of page) place.index) v is.tuple key
  where
    key_of : (o : Option Tuple) (page : List ℕ) (g : Option Entry) (v : ℕ) → option_map (λ (t : Tuple). entry_of t page) o ≡ g → KeyIs o v → (t : Tuple) × (o ≡ Some t) × (g ≡ Some (entry_of t page)) × (t.key ≡ v)
    key_of None page g v is key = absurd key
    key_of (Some t) page g v is key = (t, refl, sym is, key)

pub key_not : (place : Place) (page : List ℕ) (v : ℕ) → IsPlace place page → (KeyIs place.tuple v → ⊥) → (d : Entry) → slice_get (tuples_of page) place.index ≡ Some d → d.key ≡ v → ⊥
key_not place page v is off d at key = not_of place.tuple page (slice_get (tuples_of page) place.index) v is.tuple off d at key
  where
    not_of : (o : Option Tuple) (page : List ℕ) (g : Option Entry) (v : ℕ) → option_map (λ (t : Tuple). entry_of t page) o ≡ g → (KeyIs o v → ⊥) → (d : Entry) → g ≡ Some d → d.key ≡ v → ⊥
    not_of None page g v is off d at key = absurd (none_some d (is ∙ at))
      where
        none_some : (d : Entry) → None ≡ Some d → ⊥
        none_some d h = cc h
    not_of (Some t) page g v is off d at key = off (ap (λ (x : Entry). x.key) (some_is (is ∙ at)) ∙ key)

-- in a page of ascending keys the tuple at its key's place is the one that is found
pub key_tuple : (place : Place) (page : List ℕ) (v : ℕ) → KeyIs place.tuple v
    → IfSome place.tuple (λ t. (low : ℕ) (xs : List Piece) → IsPlaceOf v place page → AreKeys low (tuples_of page) xs → found v (tuples_of page) ≡ Some (entry_of t page))
key_tuple place page v key = tuple_found place.tuple page v place.index key (λ is. is.place.tuple) (λ is. is.first)
  where
    tuple_found : (o : Option Tuple) (page : List ℕ) (v i : ℕ) → KeyIs o v → (IsPlaceOf v place page → option_map (λ (t : Tuple). entry_of t page) o ≡ slice_get (tuples_of page) i) → (IsPlaceOf v place page → i ≡ prefix_len (is_below v) (tuples_of page))
        → IfSome o (λ t. (low : ℕ) (xs : List Piece) → IsPlaceOf v place page → AreKeys low (tuples_of page) xs → found v (tuples_of page) ≡ Some (entry_of t page))
    tuple_found None page v i key at first = absurd key
    tuple_found (Some t) page v i key at first = λ low xs is keys. found_here v low (tuples_of page) xs i (entry_of t page) keys (first is) (sym (at is)) key

-- the last child whose key is not above v
pub chosen_none : (v n : ℕ) (es : List Entry) → prefix_len (is_up_to v) es ≡ 0 → chosen v n es ≡ n
chosen_none v n [] is = refl
chosen_none v n (e ∷ es) is = elim (cases_lt v e.key) [
  | inl lt ↦ rw (below v e.key lt) refl
  | inr ge ↦ absurd (omega (arith, sym (rw (not_below v e.key ge) at is)))
]

one_more : (v k : ℕ) (e : Entry) (es : List Entry) → e.key ≤ v → prefix_len (is_up_to v) (e ∷ es) ≡ suc k → prefix_len (is_up_to v) es ≡ k
one_more v k e es ge is = omega (arith, rw (not_below v e.key ge) at is)

no_more : (v k : ℕ) (e : Entry) (es : List Entry) → v < e.key → prefix_len (is_up_to v) (e ∷ es) ≡ suc k → ⊥
no_more v k e es lt is = omega (arith, rw (below v e.key lt) at is)

pub chosen_some : (v n k : ℕ) (es : List Entry) (d : Entry) → prefix_len (is_up_to v) es ≡ suc k → chosen v n es ≡ leads_to (get_or es k d)
chosen_some v n k [] d is = absurd (omega (arith, is))
chosen_some v n zero (e ∷ es) d is = elim (cases_lt v e.key) [
  | inl lt ↦ absurd (no_more v zero e es lt is)
  | inr ge ↦ rw (not_below v e.key ge) (chosen_none v (leads_to e) es (one_more v zero e es ge is))
]
chosen_some v n (suc j) (e ∷ es) d is = elim (cases_lt v e.key) [
  | inl lt ↦ absurd (no_more v (suc j) e es lt is)
  | inr ge ↦ rw (not_below v e.key ge) (chosen_some v (leads_to e) j es d (one_more v (suc j) e es ge is))
]

-- the tuples of a level that lead to the next one
pub index_children : (ys : List Piece) → AreChildren (index ys)
index_children [] = tt
index_children (y ∷ ys) = (refl, index_children ys)

pub children_left : (es fs : List Entry) → AreChildren (es ++ fs) → AreChildren es
children_left [] fs all = tt
children_left (e ∷ es) fs all = (all.0, children_left es fs all.1)

pub children_right : (es fs : List Entry) → AreChildren (es ++ fs) → AreChildren fs
children_right [] fs all = all
children_right (e ∷ es) fs all = children_right es fs all.1

pub piece_children : (v : ℕ) (xs : List Piece) → AreChildren (tuples xs) → AreChildren (piece_at v xs).es
piece_children v [] all = all
piece_children v (x ∷ []) all = children_left x.es [] all
piece_children v (x ∷ y ∷ ys) all = elim (cases_lt v y.low) [
  | inl lt ↦ rw (below v y.low lt) (children_left x.es (tuples (y ∷ ys)) all)
  | inr ge ↦ rw (not_below v y.low ge) (piece_children v (y ∷ ys) (children_right x.es (tuples (y ∷ ys)) all))
]

-- the keys of a page ascend
keys_least : (low : ℕ) (es : List Entry) (xs : List Piece) (j : ℕ) (d : Entry) → AreKeys low es xs → j < length es → low ≤ (get_or es j d).key
keys_least low [] xs j d keys lt = absurd (omega (arith, lt))
keys_least low (e ∷ es) xs zero d keys lt = keys.0
keys_least low (e ∷ es) xs (suc j) d keys lt = omega (arith, keys.0, keys_least (e.key + 1) es xs j d keys.2 (omega (arith, lt)))

keys_ascend : (low : ℕ) (es : List Entry) (xs : List Piece) → AreKeys low es xs → IsNonDecreasingBy (λ (e : Entry). e.key) es
keys_ascend low [] xs keys i j d le lt = absurd (omega (arith, lt))
keys_ascend low (e ∷ es) xs keys zero zero d le lt = omega arith
keys_ascend low (e ∷ es) xs keys zero (suc j) d le lt = omega (arith, keys_least (e.key + 1) es xs j d keys.2 (omega (arith, lt)))
keys_ascend low (e ∷ es) xs keys (suc i) zero d le lt = absurd (omega (arith, le))
keys_ascend low (e ∷ es) xs keys (suc i) (suc j) d le lt = keys_ascend (e.key + 1) es xs keys.2 i j d (omega (arith, le)) (omega (arith, lt))

pub piece_keys : (v len : ℕ) (leaf : Bool) (ps : List (List ℕ)) (xs : List Piece) → IsLevel len leaf ps xs → (rest : List Piece) × AreKeys (piece_at v xs).low (piece_at v xs).es rest
piece_keys v len leaf ps [] is = ([], tt)
piece_keys v len leaf ps (x ∷ []) is = ([], is.1)
piece_keys v len leaf ps (x ∷ y ∷ ys) is = elim (cases_lt v y.low) [
  | inl lt ↦ rw (below v y.low lt) (y ∷ ys, is.1)
  | inr ge ↦ rw (not_below v y.low ge) (piece_keys v len leaf ps (y ∷ ys) is.4)
]

-- an inner page leads to pages
pub inner_page : (v len : ℕ) (ps : List (List ℕ)) (xs ys : List Piece) → IsLevel len false ps xs → tuples xs ≡ index ys → IsChildPage (piece_at v xs).es
inner_page v len ps xs ys is leads =
    let keys = piece_keys v len false ps xs is in
    record {
      children = piece_children v xs (subst AreChildren (sym leads) (index_children ys));
      ascending = keys_ascend (piece_at v xs).low (piece_at v xs).es keys.0 keys.1;
    }

-- the bytes of tuples with one more, or another
pub bytes_insert : (es : List Entry) (i : ℕ) (e : Entry) → length (bytes_of (insert es i e)) ≡ length (bytes_of es) + size_of e
bytes_insert es i e =
    omega (
      arith,
      ap length (bytes_join (take i es) (e ∷ drop i es)),
      length-append (bytes_of (take i es)) (bytes_of (e ∷ drop i es)),
      length-append (entry_bytes e) (bytes_of (drop i es)),
      length-entry_bytes e,
      ap length (bytes_join (take i es) (drop i es)),
      length-append (bytes_of (take i es)) (bytes_of (drop i es)),
      ap (λ (l : List Entry). length (bytes_of l)) (take-append-drop i es),
    )

pub bytes_set : (es : List Entry) (i : ℕ) (d e : Entry) → slice_get es i ≡ Some d → length (bytes_of (set es i e)) + size_of d ≡ length (bytes_of es) + size_of e
bytes_set [] i d e at = absurd (none_is d at)
  where
    none_is : (d : Entry) → None ≡ Some d → ⊥
    none_is d h = cc h
bytes_set (f ∷ es) zero d e at =
    omega (arith, length-append (entry_bytes e) (bytes_of es), length-append (entry_bytes f) (bytes_of es), length-entry_bytes e, length-entry_bytes f, ap (λ (x : Entry). length x.body) (some_is at))
bytes_set (f ∷ es) (suc i) d e at = omega (arith, bytes_set es i d e at, length-append (entry_bytes f) (bytes_of (set es i e)), length-append (entry_bytes f) (bytes_of es))
