-- A level after one of its pages was cut in two. What the level above needs is one tuple more: `index_cut`.
use Rattle.std.proofs.Common.{◌≡◌, ◌<◌, ◌≤◌, ◌+◌, ℕ, zero, suc, Bool, true, false, List, [], ◌∷◌, ◌++◌, length, map, set, refl, sym, ◌∙◌, ap, subst, arith, inl, inr, ◌==◌}
use Rattle.std.proofs.lemmas.Bool.{cases_lt}
use Rattle.std.proofs.lemmas.Bool.Decides.{nat_tests}
use Rattle.std.proofs.lemmas.List.{append-nil, append_assoc, length-set}
use Rattle.std.proofs.lemmas.Option.{slice_get_within}
use Rattle.std.specs.Prelude.{Some, slice_get}
use Rattle.px_pages.specs.Entry.{Entry}
use Rattle.px_pages.specs.Page.{IsMade, writer_of}
use Rattle.px_cache.proofs.Lists.{slice_get-set_same, some_is}
use Rattle.px_btree.specs.Search.{child}
use Rattle.px_btree.specs.Tree.{Piece, HoldsPage, AreKeys, BelowNext, Begins, IsLevel, AreApart, tuples, index, link_to, kind_if}
use Rattle.px_btree.specs.Find.{piece_at, pick}
use Rattle.px_btree.specs.Put.{placed, changed}
use Rattle.px_btree.specs.Split.{second_part, cut, KeysHold}
use Rattle.px_btree.proofs.Putting.{level_frame, page_frame, keys_next, keys_placed, lacks_at, lacks_as, tuples_changed}
use Rattle.px_btree.proofs.Orders.{not_below, below}

not_equal : (a b : ℕ) → b < a → (a == b) ≡ false
not_equal a b other = grind (arith, nat_tests)

-- what becomes of the page: the first part links to page n, the second to where the page did
abbrev pub CutInto : ℕ → ℕ → List Entry → Entry → List Entry → List Entry → List ℕ → List ℕ → List ℕ → Type 0
CutInto len n left r right es old first second =
    (kind link : ℕ) → IsMade (writer_of len es) kind link es old → IsMade (writer_of len left) kind (n + 1) left first × IsMade (writer_of len (r ∷ right)) kind link (r ∷ right) second

-- the keys of the two parts
pub keys_least : (low : ℕ) (left : List Entry) (r : Entry) (right : List Entry) (xs : List Piece) → AreKeys low (left ++ r ∷ right) xs → low ≤ r.key
keys_least low [] r right xs keys = keys.0
keys_least low (d ∷ left) r right xs keys = omega (arith, keys.0, keys_least (d.key + 1) left r right xs keys.2)

pub keys_left : (low n : ℕ) (left : List Entry) (r : Entry) (right : List Entry) (xs zs : List Piece) → AreKeys low (left ++ r ∷ right) xs → AreKeys low left (second_part n r right ∷ zs)
keys_left low n [] r right xs zs keys = tt
keys_left low n (d ∷ left) r right xs zs keys =
    (keys.0, omega (arith, keys_least (d.key + 1) left r right xs keys.2), keys_left (d.key + 1) n left r right xs zs keys.2)

pub keys_right : (low : ℕ) (left : List Entry) (r : Entry) (right : List Entry) (xs : List Piece) → AreKeys low (left ++ r ∷ right) xs → AreKeys r.key (r ∷ right) xs
keys_right low [] r right xs keys = (omega arith, keys.1, keys.2)
keys_right low (d ∷ left) r right xs keys = keys_right (d.key + 1) left r right xs keys.2

-- a page that was added, and the ones before it
pub added_last : (ps : List (List ℕ)) (c : List ℕ) (n : ℕ) → n ≡ length ps → slice_get (ps ++ c ∷ []) n ≡ Some c
added_last [] c zero is = refl
added_last [] c (suc n) is = absurd (cc is)
added_last (p ∷ ps) c zero is = absurd (cc is)
added_last (p ∷ ps) c (suc n) is = added_last ps c n (omega (arith, is))

pub added_before : (ps : List (List ℕ)) (c b : List ℕ) (q : ℕ) → slice_get ps q ≡ Some b → slice_get (ps ++ c ∷ []) q ≡ Some b
added_before [] c b q is = absurd (cc is)
added_before (p ∷ ps) c b zero is = is
added_before (p ∷ ps) c b (suc q) is = added_before ps c b q is

pub page_added : (len k l q : ℕ) (ps : List (List ℕ)) (c : List ℕ) (es : List Entry) → HoldsPage len k l ps q es → HoldsPage len k l (ps ++ c ∷ []) q es
page_added len k l q ps c es is = record { page = is.page; at = added_before ps c is.page q is.at; made = is.made }

pub level_added : (len : ℕ) (leaf : Bool) (ps : List (List ℕ)) (c : List ℕ) (xs : List Piece) → IsLevel len leaf ps xs → IsLevel len leaf (ps ++ c ∷ []) xs
level_added len leaf ps c [] is = tt
level_added len leaf ps c (x ∷ xs) is = (page_added len (kind_if leaf) (link_to xs) x.page ps c x.es is.0, is.1, is.2, is.3, level_added len leaf ps c xs is.4)

pub low_at : (v len : ℕ) (leaf : Bool) (ps : List (List ℕ)) (y : Piece) (ys : List Piece) → IsLevel len leaf ps (y ∷ ys) → y.low ≤ (piece_at v (y ∷ ys)).low
low_at v len leaf ps y [] is = omega arith
low_at v len leaf ps y (z ∷ zs) is = elim (cases_lt v z.low) [
  | inl lt ↦ rw (below v z.low lt) (omega arith)
  | inr ge ↦ rw (not_below v z.low ge) (omega (arith, is.2, low_at v len leaf ps z zs is.4))
]

-- the tuples that lead to the pages: one more
pub index_cut : (v n len : ℕ) (leaf : Bool) (ps : List (List ℕ)) (left : List Entry) (r : Entry) (right : List Entry) (x : Piece) (xs : List Piece) → IsLevel len leaf ps (x ∷ xs)
    → KeysHold v (piece_at v (x ∷ xs)) left r right → (piece_at v (x ∷ xs)).low < r.key → index (cut v n left r right (x ∷ xs)) ≡ placed (child r.key n) (index (x ∷ xs))
index_cut v n len leaf ps left r right x [] is keys above = rw (not_below r.key x.low (omega (arith, above)), not_equal r.key x.low above) refl
index_cut v n len leaf ps left r right x (y ∷ ys) is keys above = elim (cases_lt v y.low) [
  | inl lt ↦
      let here : piece_at v (x ∷ y ∷ ys) ≡ x = ap (λ (c : Bool). pick c x (piece_at v (y ∷ ys))) (below v y.low lt) in
      let keys' = subst (λ (z : Piece). KeysHold v z left r right) here keys in
      let above' = subst (λ (z : Piece). z.low < r.key) here above in
      let next : r.key < y.low = (keys_right x.low left r right (y ∷ ys) (keys' (y ∷ ys) lt is.1)).1 in
      rw (below v y.low lt, not_below r.key x.low (omega (arith, above')), not_equal r.key x.low above', below r.key y.low next) refl
  | inr ge ↦
      let here : piece_at v (x ∷ y ∷ ys) ≡ piece_at v (y ∷ ys) = ap (λ (c : Bool). pick c x (piece_at v (y ∷ ys))) (not_below v y.low ge) in
      let above' = subst (λ (z : Piece). z.low < r.key) here above in
      let past : x.low < r.key = omega (arith, is.2, low_at v len leaf ps y ys is.4, above') in
      rw (not_below v y.low ge, not_below r.key x.low (omega (arith, past)), not_equal r.key x.low past)
      (ap (λ (l : List Entry). child x.low x.page ∷ l) (index_cut v n len leaf ps left r right y ys is.4 (subst (λ (z : Piece). KeysHold v z left r right) here keys) above'))
]

-- the first page of a level after the cut
cut_next : (v n k : ℕ) (left : List Entry) (r : Entry) (right : List Entry) (y : Piece) (ys : List Piece) → BelowNext k (y ∷ ys) → BelowNext k (cut v n left r right (y ∷ ys))
cut_next v n k left r right y [] next = next
cut_next v n k left r right y (z ∷ zs) next = elim (cases_lt v z.low) [
  | inl lt ↦ rw (below v z.low lt) next
  | inr ge ↦ rw (not_below v z.low ge) next
]

cut_link : (v n : ℕ) (left : List Entry) (r : Entry) (right : List Entry) (y : Piece) (ys : List Piece) → link_to (cut v n left r right (y ∷ ys)) ≡ link_to (y ∷ ys)
cut_link v n left r right y [] = refl
cut_link v n left r right y (z ∷ zs) = elim (cases_lt v z.low) [
  | inl lt ↦ rw (below v z.low lt) refl
  | inr ge ↦ rw (not_below v z.low ge) refl
]

-- the two pages of the parts
parts : (len n p : ℕ) (leaf : Bool) (ps : List (List ℕ)) (old b c : List ℕ) (left : List Entry) (r : Entry) (right : List Entry) (x : Piece) (rest : List Piece) → n ≡ length ps → p ≡ x.page → slice_get ps p ≡ Some old
    → CutInto len n left r right x.es old b c → HoldsPage len (kind_if leaf) (link_to rest) ps x.page x.es
    → HoldsPage len (kind_if leaf) (n + 1) (set ps p b ++ c ∷ []) x.page left × HoldsPage len (kind_if leaf) (link_to rest) (set ps p b ++ c ∷ []) n (r ∷ right)
parts len n p leaf ps old b c left r right x rest end here at into is =
    let same : is.page ≡ old = some_is (sym is.at ∙ ap (slice_get ps) (sym here) ∙ at) in
    let made = into (kind_if leaf) (link_to rest) (subst (λ (l : List ℕ). IsMade (writer_of len x.es) (kind_if leaf) (link_to rest) x.es l) same is.made) in
    let first : slice_get (set ps p b) x.page ≡ Some b = ap (slice_get (set ps p b)) (sym here) ∙ slice_get-set_same ps p b (slice_get_within ps p old at) in (
      record { page = b; at = added_before (set ps p b) c b x.page first; made = made.0 },
      record { page = c; at = added_last (set ps p b) c n (end ∙ sym (length-set ps p b)); made = made.1 },
    )

begins_right : (leaf : Bool) (r : Entry) (right : List Entry) → Begins leaf r.key (r ∷ right)
begins_right true r right = tt
begins_right false r right = refl

pub level_cut : (v n len p : ℕ) (leaf : Bool) (ps : List (List ℕ)) (old b c : List ℕ) (left : List Entry) (r : Entry) (right : List Entry) (x : Piece) (xs : List Piece) → IsLevel len leaf ps (x ∷ xs)
    → n ≡ length ps → p ≡ (piece_at v (x ∷ xs)).page → AreApart (map (λ (y : Piece). y.page) (x ∷ xs)) → slice_get ps p ≡ Some old → CutInto len n left r right (piece_at v (x ∷ xs)).es old b c
    → KeysHold v (piece_at v (x ∷ xs)) left r right → (piece_at v (x ∷ xs)).low < r.key → Begins leaf (piece_at v (x ∷ xs)).low left
    → IsLevel len leaf (set ps p b ++ c ∷ []) (cut v n left r right (x ∷ xs))
level_cut v n len p leaf ps old b c left r right x [] is end here apart at into keys above begins =
    let both = parts len n p leaf ps old b c left r right x [] end here at into is.0 in
    let all = keys [] tt is.1 in
    (both.0, keys_left x.low n left r right [] [] all, above, begins, (both.1, keys_right x.low left r right [] all, tt, begins_right leaf r right, tt))
level_cut v n len p leaf ps old b c left r right x (y ∷ ys) is end here apart at into keys above begins = elim (cases_lt v y.low) [
  | inl lt ↦
      let mine : piece_at v (x ∷ y ∷ ys) ≡ x = ap (λ (d : Bool). pick d x (piece_at v (y ∷ ys))) (below v y.low lt) in
      let here' : p ≡ x.page = here ∙ ap (λ (z : Piece). z.page) mine in
      let both = parts len n p leaf ps old b c left r right x (y ∷ ys) end here' at (subst (λ (z : Piece). CutInto len n left r right z.es old b c) mine into) is.0 in
      let all = (subst (λ (z : Piece). KeysHold v z left r right) mine keys) (y ∷ ys) lt is.1 in
      let right_keys = keys_right x.low left r right (y ∷ ys) all in
      let rest = level_added len leaf (set ps p b) c (y ∷ ys) (level_frame len p leaf ps b (y ∷ ys) (lacks_as x.page p (map (λ (z : Piece). z.page) (y ∷ ys)) (sym here') apart.0) is.4) in
      rw (below v y.low lt) (
        both.0,
        keys_left x.low n left r right (y ∷ ys) (y ∷ ys) all,
        subst (λ (z : Piece). z.low < r.key) mine above,
        subst (λ (z : Piece). Begins leaf z.low left) mine begins,
        (both.1, right_keys, right_keys.1, begins_right leaf r right, rest),
      )
  | inr ge ↦
      let mine : piece_at v (x ∷ y ∷ ys) ≡ piece_at v (y ∷ ys) = ap (λ (d : Bool). pick d x (piece_at v (y ∷ ys))) (not_below v y.low ge) in
      let there : p ≡ (piece_at v (y ∷ ys)).page = here ∙ ap (λ (z : Piece). z.page) mine in
      let rest =
      level_cut v n len p leaf ps old b c left r right y ys is.4 end there apart.1 at (subst (λ (z : Piece). CutInto len n left r right z.es old b c) mine into) (subst (λ (z : Piece). KeysHold v z left r right) mine keys)
      (subst (λ (z : Piece). z.low < r.key) mine above) (subst (λ (z : Piece). Begins leaf z.low left) mine begins) in
      let other : p ≡ x.page → ⊥ = λ same. lacks_at v x.page y ys apart.0 (sym same ∙ there) in
      let page = page_added len (kind_if leaf) (y.page + 1) x.page (set ps p b) c x.es (page_frame len (kind_if leaf) (y.page + 1) p x.page ps b x.es other is.0) in
      let page' = subst (λ (l : ℕ). HoldsPage len (kind_if leaf) l (set ps p b ++ c ∷ []) x.page x.es) (sym (cut_link v n left r right y ys)) page in
      rw (not_below v y.low ge) (page', keys_next x.low x.es (y ∷ ys) (cut v n left r right (y ∷ ys)) (λ k. cut_next v n k left r right y ys) is.1, cut_next v n x.low left r right y ys is.2, is.3, rest)
]

-- the tuples of a level after the cut are those of the page together, in the place of its own
tuples_cut_as : (v n : ℕ) (left : List Entry) (r : Entry) (right : List Entry) (x : Piece) (xs : List Piece) (f : List Entry → List Entry) → f (piece_at v (x ∷ xs)).es ≡ left ++ r ∷ right
    → tuples (cut v n left r right (x ∷ xs)) ≡ tuples (changed v f (x ∷ xs))
tuples_cut_as v n left r right x [] f is = ap (λ (l : List Entry). left ++ l) (append-nil (r ∷ right)) ∙ sym is ∙ sym (append-nil (f x.es))
tuples_cut_as v n left r right x (y ∷ ys) f is = elim (cases_lt v y.low) [
  | inl lt ↦
      let is' : f x.es ≡ left ++ r ∷ right = sym (ap (λ (c : Bool). f (pick c x (piece_at v (y ∷ ys))).es) (below v y.low lt)) ∙ is in
      rw (below v y.low lt) (sym (append_assoc left (r ∷ right) (tuples (y ∷ ys))) ∙ ap (λ (l : List Entry). l ++ tuples (y ∷ ys)) (sym is'))
  | inr ge ↦
      let is' : f (piece_at v (y ∷ ys)).es ≡ left ++ r ∷ right = sym (ap (λ (c : Bool). f (pick c x (piece_at v (y ∷ ys))).es) (not_below v y.low ge)) ∙ is in
      rw (not_below v y.low ge) (ap (λ (l : List Entry). x.es ++ l) (tuples_cut_as v n left r right y ys f is'))
]

-- a tuple is put into a page that is cut at once: among the tuples of the level it is put as into any page
pub tuples_cut : (e : Entry) (n len : ℕ) (leaf : Bool) (ps : List (List ℕ)) (left : List Entry) (r : Entry) (right : List Entry) (x : Piece) (xs : List Piece) → placed e (piece_at e.key (x ∷ xs)).es ≡ left ++ r ∷ right
    → IsLevel len leaf ps (x ∷ xs) → tuples (cut e.key n left r right (x ∷ xs)) ≡ placed e (tuples (x ∷ xs))
tuples_cut e n len leaf ps left r right x xs is level = tuples_cut_as e.key n left r right x xs (placed e) is ∙ tuples_changed e len leaf ps x xs level

-- the keys of a page with one tuple more are what the cut asks for
pub keys_hold : (e : Entry) (z : Piece) (left : List Entry) (r : Entry) (right : List Entry) → placed e z.es ≡ left ++ r ∷ right → z.low ≤ e.key → KeysHold e.key z left r right
keys_hold e z left r right is low rest next keys = subst (λ (es : List Entry). AreKeys z.low es rest) is (keys_placed e z.low z.es rest low next keys)
