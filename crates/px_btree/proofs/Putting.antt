-- A vertex is put into its leaf.
use Rattle.std.proofs.Common.{◌≡◌, ◌<◌, ◌≤◌, ◌+◌, ◌*◌, ℕ, zero, suc, Bool, true, false, List, [], ◌∷◌, ◌++◌, length, map, set, refl, sym, ◌∙◌, ap, subst, arith, inl, inr}
use Rattle.std.proofs.lemmas.Bool.{cases_lt, cases_eq}
use Rattle.std.proofs.lemmas.List.{append-nil, length-set}
use Rattle.std.proofs.lemmas.Option.{slice_get_within}
use Rattle.std.specs.Prelude.{Option, Some, None, slice_get, is_some, if◌then◌else◌}
use Rattle.std.specs.Option.{option_map}
use Rattle.px_core.specs.Shown.{Shown}
use Rattle.px_pages.specs.Entry.{Entry}
use Rattle.px_pages.specs.Page.{IsMade, IsPageLen}
use Rattle.px_cache.specs.View.{Shows}
use Rattle.px_btree.proofs.Items.{leaves_level, lookup_found, lookup_leaf, none_in_level, none_above, none_below}
use Rattle.px_meaning.specs.Graph.{Vertex, Graph, put, delete, lookup, vertex_size}
use Rattle.px_record.specs.Body.{vertex_of, body_of}
use Rattle.px_record.proofs.Laws.{length-body_of}
use Rattle.px_cache.proofs.Lists.{slice_get-set_same, slice_get-set_other, some_is}
use Rattle.px_btree.specs.Search.{child, found}
use Rattle.px_store.specs.declared.shared.Desk.{Desk}
use Rattle.px_pages.specs.Page.{writer_of}
use Rattle.px_pages.specs.Place.{Turned}
use Rattle.px_btree.specs.Tree.{Piece, TreeView, IsTree, IsHeld, FirstIs, HoldsPage, AreKeys, BelowNext, Begins, IsLevel, IsStack, IsItem, AreItems, Lacks, AreApart, AreBushy, MarkFits, numbers, item, items, tuples, index, leaves_of, link_to, kind_if}
use Rattle.px_btree.specs.Find.{piece_at, leaf_at, pick}
use Rattle.px_btree.specs.declared.tree.Mark.{Mark}
use Rattle.px_btree.specs.Put.{placed, removed, gone, changed, changed_leaf, TurnedAt}
use Rattle.px_btree.proofs.Orders.{not_below, below, not_equal, equal}

-- among tuples as among vertices
pub items_placed : (e : Entry) (es : List Entry) → items (placed e es) ≡ put e.key (vertex_of e.body) (items es)
items_placed e [] = refl
items_placed e (d ∷ es) = elim (cases_lt e.key d.key) [
  | inl lt ↦ rw (below e.key d.key lt) refl
  | inr ge ↦ elim (cases_eq e.key d.key) [
    | inl same ↦ rw (not_below e.key d.key ge, equal e.key d.key same) refl
    | inr other ↦ rw (not_below e.key d.key ge, not_equal e.key d.key other) (ap (λ (l : Graph). item d ∷ l) (items_placed e es))
  ]
]

-- into the first of two lists, or the second
placed_front : (e d : Entry) (ds : List Entry) → e.key < d.key → placed e (d ∷ ds) ≡ e ∷ d ∷ ds
placed_front e d ds lt = rw (below e.key d.key lt) refl

pub placed_left : (e d : Entry) (es ds : List Entry) → e.key < d.key → placed e (es ++ d ∷ ds) ≡ placed e es ++ d ∷ ds
placed_left e d [] ds lt = placed_front e d ds lt
placed_left e d (c ∷ es) ds lt = elim (cases_lt e.key c.key) [
  | inl less ↦ rw (below e.key c.key less) refl
  | inr ge ↦ elim (cases_eq e.key c.key) [
    | inl same ↦ rw (not_below e.key c.key ge, equal e.key c.key same) refl
    | inr other ↦ rw (not_below e.key c.key ge, not_equal e.key c.key other) (ap (λ (l : List Entry). c ∷ l) (placed_left e d es ds lt))
  ]
]

placed_right : (e : Entry) (low : ℕ) (es ds : List Entry) (y : Piece) (ys : List Piece) → y.low ≤ e.key → AreKeys low es (y ∷ ys) → placed e (es ++ ds) ≡ es ++ placed e ds
placed_right e low [] ds y ys le keys = refl
placed_right e low (c ∷ es) ds y ys le keys =
    rw (not_below e.key c.key (omega (arith, le, keys.1)), not_equal e.key c.key (λ same. omega (arith, le, keys.1, same)))
    (ap (λ (l : List Entry). c ∷ l) (placed_right e (c.key + 1) es ds y ys le keys.2))

-- a vid below the least key of a page is below those of the pages after it
pub next_above : (v w : ℕ) (xs : List Piece) → v < w → BelowNext w xs → BelowNext v xs
next_above v w [] lt next = tt
next_above v w (x ∷ xs) lt next = omega (arith, lt, next)

head_above : (v low : ℕ) (es fs : List Entry) (xs : List Piece) (d : Entry) (ds : List Entry) → v < low → AreKeys low es xs → d ∷ ds ≡ es ++ fs → (d ∷ ds ≡ fs → v < d.key) → v < d.key
head_above v low [] fs xs d ds lt keys is ih = ih is
head_above v low (c ∷ es) fs xs d ds lt keys is ih =
    let same : d ≡ c = cc is in
    subst (λ (x : Entry). v < x.key) (sym same) (omega (arith, lt, keys.0))

first_above : (v len : ℕ) (leaf : Bool) (ps : List (List ℕ)) (xs : List Piece) (d : Entry) (ds : List Entry) → BelowNext v xs → IsLevel len leaf ps xs → d ∷ ds ≡ tuples xs → v < d.key
first_above v len leaf ps [] d ds lt level is = absurd (cc is)
first_above v len leaf ps (x ∷ xs) d ds lt level is =
    head_above v x.low x.es (tuples xs) xs d ds lt level.1 is (λ later. first_above v len leaf ps xs d ds (next_above v x.low xs lt level.2) level.4 later)

no_later : (e : Entry) (es fs : List Entry) (len : ℕ) (leaf : Bool) (ps : List (List ℕ)) (xs : List Piece) → BelowNext e.key xs → IsLevel len leaf ps xs → fs ≡ tuples xs → placed e (es ++ fs) ≡ placed e es ++ fs
no_later e es [] len leaf ps xs lt level is = ap (placed e) (append-nil es) ∙ sym (append-nil (placed e es))
no_later e es (d ∷ ds) len leaf ps xs lt level is = placed_left e d es ds (first_above e.key len leaf ps xs d ds lt level is)

pub tuples_changed : (e : Entry) (len : ℕ) (leaf : Bool) (ps : List (List ℕ)) (x : Piece) (xs : List Piece) → IsLevel len leaf ps (x ∷ xs) → tuples (changed e.key (placed e) (x ∷ xs)) ≡ placed e (tuples (x ∷ xs))
tuples_changed e len leaf ps x [] level = append-nil (placed e x.es) ∙ sym (ap (placed e) (append-nil x.es))
tuples_changed e len leaf ps x (y ∷ ys) level = elim (cases_lt e.key y.low) [
  | inl lt ↦ rw (below e.key y.low lt) (sym (no_later e x.es (tuples (y ∷ ys)) len leaf ps (y ∷ ys) lt level.4 refl))
  | inr ge ↦ rw (not_below e.key y.low ge) (ap (λ (l : List Entry). x.es ++ l) (tuples_changed e len leaf ps y ys level.4) ∙ sym (placed_right e x.low x.es (tuples (y ∷ ys)) y ys ge level.1))
]

-- the keys of a page with one tuple more
pub keys_placed : (e : Entry) (low : ℕ) (es : List Entry) (xs : List Piece) → low ≤ e.key → BelowNext e.key xs → AreKeys low es xs → AreKeys low (placed e es) xs
keys_placed e low [] xs le next keys = (le, next, tt)
keys_placed e low (d ∷ ds) xs le next keys = elim (cases_lt e.key d.key) [
  | inl lt ↦ rw (below e.key d.key lt) (le, next, (omega (arith, lt), keys.1, keys.2))
  | inr ge ↦ elim (cases_eq e.key d.key) [
    | inl same ↦ rw (not_below e.key d.key ge, equal e.key d.key same) (le, next, subst (λ (k : ℕ). AreKeys (k + 1) ds xs) (sym same) keys.2)
    | inr other ↦ rw (not_below e.key d.key ge, not_equal e.key d.key other) (keys.0, keys.1, keys_placed e (d.key + 1) ds xs (omega (arith, ge, other)) next keys.2)
  ]
]

-- the keys of a page before others that begin alike
pub keys_next : (low : ℕ) (es : List Entry) (xs ys : List Piece) → ((k : ℕ) → BelowNext k xs → BelowNext k ys) → AreKeys low es xs → AreKeys low es ys
keys_next low [] xs ys on keys = tt
keys_next low (e ∷ es) xs ys on keys = (keys.0, on e.key keys.1, keys_next (e.key + 1) es xs ys on keys.2)

changed_next : (v k : ℕ) (f : List Entry → List Entry) (xs : List Piece) → BelowNext k xs → BelowNext k (changed v f xs)
changed_next v k f [] next = tt
changed_next v k f (x ∷ []) next = next
changed_next v k f (x ∷ y ∷ ys) next = elim (cases_lt v y.low) [
  | inl lt ↦ rw (below v y.low lt) next
  | inr ge ↦ rw (not_below v y.low ge) next
]

changed_link : (v : ℕ) (f : List Entry → List Entry) (xs : List Piece) → link_to (changed v f xs) ≡ link_to xs
changed_link v f [] = refl
changed_link v f (x ∷ []) = refl
changed_link v f (x ∷ y ∷ ys) = elim (cases_lt v y.low) [
  | inl lt ↦ rw (below v y.low lt) refl
  | inr ge ↦ rw (not_below v y.low ge) refl
]

-- the numbers of the pages, and the tuples that lead to them
pub changed_pages : (v : ℕ) (f : List Entry → List Entry) (xs : List Piece) → map (λ (x : Piece). x.page) (changed v f xs) ≡ map (λ (x : Piece). x.page) xs
changed_pages v f [] = refl
changed_pages v f (x ∷ []) = refl
changed_pages v f (x ∷ y ∷ ys) = elim (cases_lt v y.low) [
  | inl lt ↦ rw (below v y.low lt) refl
  | inr ge ↦ rw (not_below v y.low ge) (ap (λ (l : List ℕ). x.page ∷ l) (changed_pages v f (y ∷ ys)))
]

pub changed_index : (v : ℕ) (f : List Entry → List Entry) (xs : List Piece) → index (changed v f xs) ≡ index xs
changed_index v f [] = refl
changed_index v f (x ∷ []) = refl
changed_index v f (x ∷ y ∷ ys) = elim (cases_lt v y.low) [
  | inl lt ↦ rw (below v y.low lt) refl
  | inr ge ↦ rw (not_below v y.low ge) (ap (λ (l : List Entry). child x.low x.page ∷ l) (changed_index v f (y ∷ ys)))
]

-- another page is written
pub page_frame : (len k l p q : ℕ) (ps : List (List ℕ)) (b : List ℕ) (es : List Entry) → (p ≡ q → ⊥) → HoldsPage len k l ps q es → HoldsPage len k l (set ps p b) q es
page_frame len k l p q ps b es other is = record { page = is.page; at = slice_get-set_other ps p q b (λ e. other (sym e)) ∙ is.at; made = is.made }

pub level_frame : (len p : ℕ) (leaf : Bool) (ps : List (List ℕ)) (b : List ℕ) (xs : List Piece) → Lacks p (map (λ (x : Piece). x.page) xs) → IsLevel len leaf ps xs → IsLevel len leaf (set ps p b) xs
level_frame len p leaf ps b [] out is = tt
level_frame len p leaf ps b (x ∷ xs) out is = (page_frame len (kind_if leaf) (link_to xs) p x.page ps b x.es out.0 is.0, is.1, is.2, is.3, level_frame len p leaf ps b xs out.1 is.4)

-- the page is written that a level has for a vid
pub lacks_at : (v n : ℕ) (x : Piece) (xs : List Piece) → Lacks n (map (λ (y : Piece). y.page) (x ∷ xs)) → n ≡ (piece_at v (x ∷ xs)).page → ⊥
lacks_at v n x [] out = out.0
lacks_at v n x (y ∷ ys) out = elim (cases_lt v y.low) [
  | inl lt ↦ rw (below v y.low lt) out.0
  | inr ge ↦ rw (not_below v y.low ge) (lacks_at v n y ys out.1)
]

pub lacks_as : (n m : ℕ) (ns : List ℕ) → n ≡ m → Lacks n ns → Lacks m ns
lacks_as n m ns is out = subst (λ (k : ℕ). Lacks k ns) is out

page_turned : (len k l p : ℕ) (f : List Entry → List Entry) (ps : List (List ℕ)) (old b : List ℕ) (es : List Entry) → slice_get ps p ≡ Some old → TurnedAt f es old b → HoldsPage len k l ps p es → HoldsPage len k l (set ps p b) p (f es)
page_turned len k l p f ps old b es at turned is =
    let same : is.page ≡ old = some_is (sym is.at ∙ at) in
    record {
      page = b;
      at = slice_get-set_same ps p b (slice_get_within ps p old at);
      made = turned len k l (subst (λ (x : List ℕ). IsMade (writer_of len es) k l es x) same is.made);
    }

-- the keys stay what a page asks for
abbrev pub KeepsKeys : ℕ → (List Entry → List Entry) → Type 0
KeepsKeys v f = (low : ℕ) (es : List Entry) (rest : List Piece) → low ≤ v → BelowNext v rest → AreKeys low es rest → AreKeys low (f es) rest

pub level_changed : (v : ℕ) (f : List Entry → List Entry) (len : ℕ) (leaf : Bool) (ps : List (List ℕ)) (old b : List ℕ) (x : Piece) (xs : List Piece) (p : ℕ) → KeepsKeys v f → p ≡ (piece_at v (x ∷ xs)).page → x.low ≤ v → AreApart (map (λ (y : Piece). y.page) (x ∷ xs))
    → slice_get ps p ≡ Some old → TurnedAt f (piece_at v (x ∷ xs)).es old b → Begins leaf (piece_at v (x ∷ xs)).low (f (piece_at v (x ∷ xs)).es) → IsLevel len leaf ps (x ∷ xs) → IsLevel len leaf (set ps p b) (changed v f (x ∷ xs))
level_changed v f len leaf ps old b x [] p keys here low apart at turned begins is =
    let new = page_turned len (kind_if leaf) 0 x.page f ps old b x.es (ap (slice_get ps) (sym here) ∙ at) turned is.0 in
    let new' = subst (λ (n : ℕ). HoldsPage len (kind_if leaf) 0 (set ps n b) x.page (f x.es)) (sym here) new in
    (new', keys x.low x.es [] low tt is.1, tt, begins, tt)
level_changed v f len leaf ps old b x (y ∷ ys) p keys here low apart at turned begins is = elim (cases_lt v y.low) [
  | inl lt ↦
      let turned' = subst (λ (z : Piece). TurnedAt f z.es old b) (ap (λ (c : Bool). pick c x (piece_at v (y ∷ ys))) (below v y.low lt)) turned in
      let mine : p ≡ x.page = here ∙ ap (λ (c : Bool). (pick c x (piece_at v (y ∷ ys))).page) (below v y.low lt) in
      let begins' = subst (λ (z : Piece). Begins leaf z.low (f z.es)) (ap (λ (c : Bool). pick c x (piece_at v (y ∷ ys))) (below v y.low lt)) begins in
      let new = page_turned len (kind_if leaf) (y.page + 1) x.page f ps old b x.es (ap (slice_get ps) (sym mine) ∙ at) turned' is.0 in
      let new' = subst (λ (n : ℕ). HoldsPage len (kind_if leaf) (y.page + 1) (set ps n b) x.page (f x.es)) (sym mine) new in
      rw (below v y.low lt) (new', keys x.low x.es (y ∷ ys) low lt is.1, is.2, begins', level_frame len p leaf ps b (y ∷ ys) (lacks_as x.page p (map (λ (z : Piece). z.page) (y ∷ ys)) (sym mine) apart.0) is.4)
  | inr ge ↦
      let turned' = subst (λ (z : Piece). TurnedAt f z.es old b) (ap (λ (c : Bool). pick c x (piece_at v (y ∷ ys))) (not_below v y.low ge)) turned in
      let there : p ≡ (piece_at v (y ∷ ys)).page = here ∙ ap (λ (c : Bool). (pick c x (piece_at v (y ∷ ys))).page) (not_below v y.low ge) in
      let rest = level_changed v f len leaf ps old b y ys p keys there ge apart.1 at turned' (subst (λ (z : Piece). Begins leaf z.low (f z.es)) (ap (λ (c : Bool). pick c x (piece_at v (y ∷ ys))) (not_below v y.low ge)) begins) is.4 in
      let next = changed v f (y ∷ ys) in
      let other : p ≡ x.page → ⊥ = λ same. lacks_at v x.page y ys apart.0 (sym same ∙ there) in
      let page = page_frame len (kind_if leaf) (y.page + 1) p x.page ps b x.es other is.0 in
      let page' = subst (λ (l : ℕ). HoldsPage len (kind_if leaf) l (set ps p b) x.page x.es) (sym (changed_link v f (y ∷ ys))) page in
      rw (not_below v y.low ge) (page', keys_next x.low x.es (y ∷ ys) next (λ k. changed_next v k f (y ∷ ys)) is.1, changed_next v x.low f (y ∷ ys) is.2, is.3, rest)
]

-- numbers that stand apart
pub lacks_left : (n : ℕ) (ms ns : List ℕ) → Lacks n (ms ++ ns) → Lacks n ms
lacks_left n [] ns out = tt
lacks_left n (m ∷ ms) ns out = (out.0, lacks_left n ms ns out.1)

pub apart_left : (ms ns : List ℕ) → AreApart (ms ++ ns) → AreApart ms
apart_left [] ns apart = tt
apart_left (m ∷ ms) ns apart = (lacks_left m ms ns apart.0, apart_left ms ns apart.1)

pub lacks_right : (n : ℕ) (ms ns : List ℕ) → Lacks n (ms ++ ns) → Lacks n ns
lacks_right n [] ns out = out
lacks_right n (m ∷ ms) ns out = lacks_right n ms ns out.1

pub apart_right : (ms ns : List ℕ) → AreApart (ms ++ ns) → AreApart ns
apart_right [] ns apart = apart
apart_right (m ∷ ms) ns apart = apart_right ms ns apart.1

apart_cross : (n : ℕ) (ms ns : List ℕ) → AreApart (ms ++ ns) → (Lacks n ns → ⊥) → Lacks n ms
apart_cross n [] ns apart there = tt
apart_cross n (m ∷ ms) ns apart there = (λ is. there (lacks_as m n ns (sym is) (lacks_right m ms ns apart.0)), apart_cross n ms ns apart.1 there)

-- the first key of the leaves is not above the vid
abbrev pub StartsBelow : ℕ → List Piece → Type 0
StartsBelow v [] = ⊥
StartsBelow v (x ∷ xs) = x.low ≤ v

-- the leaf's page is one of the tree's
leaf_there : (v : ℕ) (levels : List (List Piece)) → StartsBelow v (leaves_of levels) → Lacks (leaf_at v levels).page (numbers levels) → ⊥
leaf_there v [] starts out = starts
leaf_there v ([] ∷ []) starts out = starts
leaf_there v ((x ∷ xs) ∷ []) starts out = lacks_at v _ x xs (lacks_left _ (map (λ (y : Piece). y.page) (x ∷ xs)) [] out) refl
leaf_there v (xs ∷ ys ∷ rest) starts out = leaf_there v (ys ∷ rest) starts (lacks_right _ (map (λ (y : Piece). y.page) xs) (numbers (ys ∷ rest)) out)

-- one leaf of a tree is written
pub stack_changed : (v : ℕ) (f : List Entry → List Entry) (len : ℕ) (ps : List (List ℕ)) (old b : List ℕ) (levels : List (List Piece)) (p : ℕ) → KeepsKeys v f → p ≡ (leaf_at v levels).page → StartsBelow v (leaves_of levels) → AreApart (numbers levels)
    → slice_get ps p ≡ Some old → TurnedAt f (leaf_at v levels).es old b → IsStack len ps levels → IsStack len (set ps p b) (changed_leaf v f levels)
stack_changed v f len ps old b [] p keys here starts apart at turned is = absurd is
stack_changed v f len ps old b ([] ∷ []) p keys here starts apart at turned is = absurd starts
stack_changed v f len ps old b ((x ∷ xs) ∷ []) p keys here starts apart at turned is =
    level_changed v f len true ps old b x xs p keys here starts (apart_left (map (λ (y : Piece). y.page) (x ∷ xs)) [] apart) at turned tt is
stack_changed v f len ps old b (xs ∷ ys ∷ []) p keys here starts apart at turned is =
    let pages = map (λ (y : Piece). y.page) xs in
    let out = apart_cross p pages (numbers (ys ∷ [])) apart (λ lacks. leaf_there v (ys ∷ []) starts (lacks_as p _ (numbers (ys ∷ [])) here lacks)) in (
      level_frame len p false ps b xs out is.0,
      is.1 ∙ sym (changed_index v f ys),
      stack_changed v f len ps old b (ys ∷ []) p keys here starts (apart_right pages (numbers (ys ∷ [])) apart) at turned is.2,
    )
stack_changed v f len ps old b (xs ∷ ys ∷ zs ∷ rest) p keys here starts apart at turned is =
    let pages = map (λ (y : Piece). y.page) xs in
    let below = numbers (ys ∷ zs ∷ rest) in
    let out = apart_cross p pages below apart (λ lacks. leaf_there v (ys ∷ zs ∷ rest) starts (lacks_as p _ below here lacks)) in (
      level_frame len p false ps b xs out is.0,
      is.1,
      stack_changed v f len ps old b (ys ∷ zs ∷ rest) p keys here starts (apart_right pages below apart) at turned is.2,
    )

pub leaves_changed : (v : ℕ) (f : List Entry → List Entry) (levels : List (List Piece)) → leaves_of (changed_leaf v f levels) ≡ changed v f (leaves_of levels)
leaves_changed v f [] = refl
leaves_changed v f (xs ∷ []) = refl
leaves_changed v f (xs ∷ ys ∷ []) = refl
leaves_changed v f (xs ∷ ys ∷ zs ∷ rest) = leaves_changed v f (ys ∷ zs ∷ rest)

pub numbers_changed : (v : ℕ) (f : List Entry → List Entry) (levels : List (List Piece)) → numbers (changed_leaf v f levels) ≡ numbers levels
numbers_changed v f [] = refl
numbers_changed v f (xs ∷ []) = ap (λ (l : List ℕ). l ++ []) (changed_pages v f xs)
numbers_changed v f (xs ∷ ys ∷ rest) = ap (λ (l : List ℕ). map (λ (x : Piece). x.page) xs ++ l) (numbers_changed v f (ys ∷ rest))

pub depth_changed : (v : ℕ) (f : List Entry → List Entry) (levels : List (List Piece)) → length (changed_leaf v f levels) ≡ length levels
depth_changed v f [] = refl
depth_changed v f (xs ∷ []) = refl
depth_changed v f (xs ∷ ys ∷ rest) = ap suc (depth_changed v f (ys ∷ rest))

bushy_changed : (v : ℕ) (f : List Entry → List Entry) (levels : List (List Piece)) → AreBushy levels → AreBushy (changed_leaf v f levels)
bushy_changed v f [] is = is
bushy_changed v f (xs ∷ []) is = is
bushy_changed v f (xs ∷ ys ∷ []) is = is
bushy_changed v f (xs ∷ ys ∷ zs ∷ rest) is = (is.0, bushy_changed v f (ys ∷ zs ∷ rest) is.1)

pub length_changed : (v : ℕ) (f : List Entry → List Entry) (xs : List Piece) → length (changed v f xs) ≡ length xs
length_changed v f [] = refl
length_changed v f (x ∷ []) = refl
length_changed v f (x ∷ y ∷ ys) = elim (cases_lt v y.low) [
  | inl lt ↦ rw (below v y.low lt) refl
  | inr ge ↦ rw (not_below v y.low ge) (ap suc (length_changed v f (y ∷ ys)))
]

pub first_changed : (v n : ℕ) (f : List Entry → List Entry) (xs : List Piece) → FirstIs n xs → FirstIs n (changed v f xs)
first_changed v n f [] is = is
first_changed v n f (x ∷ []) is = is
first_changed v n f (x ∷ y ∷ ys) is = elim (cases_lt v y.low) [
  | inl lt ↦ rw (below v y.low lt) is
  | inr ge ↦ rw (not_below v y.low ge) is
]

pub items_with : (len : ℕ) (e : Entry) (es : List Entry) → IsItem len e → AreItems len es → AreItems len (placed e es)
items_with len e [] is all = (is, tt)
items_with len e (d ∷ es) is all = elim (cases_lt e.key d.key) [
  | inl lt ↦ rw (below e.key d.key lt) (is, all)
  | inr ge ↦ elim (cases_eq e.key d.key) [
    | inl same ↦ rw (not_below e.key d.key ge, equal e.key d.key same) (is, all.1)
    | inr other ↦ rw (not_below e.key d.key ge, not_equal e.key d.key other) (all.0, items_with len e es is all.1)
  ]
]

root_changed : (v root : ℕ) (f : List Entry → List Entry) (es : List Entry) (rest : List (List Piece)) → (es' : List Entry) × (rest' : List (List Piece)) × (changed_leaf v f ((record { low = 0; page = root; es = es } ∷ []) ∷ rest) ≡ (record { low = 0; page = root; es = es' } ∷ []) ∷ rest')
root_changed v root f es [] = (f es, [], refl)
root_changed v root f es (ys ∷ rest) = (es, changed_leaf v f (ys ∷ rest), refl)

all_changed : (e : Entry) (len : ℕ) (ps : List (List ℕ)) (xs : List Piece) → StartsBelow e.key xs → IsLevel len true ps xs → tuples (changed e.key (placed e) xs) ≡ placed e (tuples xs)
all_changed e len ps [] starts level = absurd starts
all_changed e len ps (x ∷ xs) starts level = tuples_changed e len true ps x xs level

-- the leaf where a vid lies is changed
pub tree_put : (t : TreeView) (d d' : Desk) (s s' : Shown) (levels : List (List Piece)) (v : ℕ) (f : List Entry → List Entry) (old b : List ℕ) → (is : IsTree t d s levels) → KeepsKeys v f → StartsBelow v (leaves_of levels)
    → AreItems s.page_len (tuples (changed v f (leaves_of levels))) → s'.page_len ≡ s.page_len → slice_get is.ps (leaf_at v levels).page ≡ Some old → TurnedAt f (leaf_at v levels).es old b → Shows d'.cache s' (8 * t.part) (set is.ps (leaf_at v levels).page b)
    → (m : Option Mark) → MarkFits m (changed_leaf v f levels) → IsTree (record t { mark = m }) d' s' (changed_leaf v f levels)
tree_put t d d' s s' levels v f old b is keys starts all len at turned shows m fits =
    let p = (leaf_at v levels).page in
    let leaves = leaves_changed v f levels in
    let stack = stack_changed v f s.page_len is.ps old b levels p keys refl starts is.apart at turned is.stack in
    let root = root_changed v t.root f is.root.0 is.root.1 in
    record {
      ps = set is.ps p b;
      shows = shows;
      len = subst IsPageLen (sym len) is.len;
      stack = subst (λ (n : ℕ). IsStack n (set is.ps p b) (changed_leaf v f levels)) (sym len) stack;
      depth = depth_changed v f levels ∙ is.depth;
      pages = length-set is.ps p b ∙ is.pages;
      leaves = ap length leaves ∙ length_changed v f (leaves_of levels) ∙ is.leaves;
      apart = subst AreApart (sym (numbers_changed v f levels)) is.apart;
      first = subst (FirstIs 0) (sym leaves) (first_changed v 0 f (leaves_of levels) is.first);
      root = (root.0, root.1, ap (changed_leaf v f) is.root.2 ∙ root.2);
      items = subst (λ (n : ℕ). AreItems n (tuples (leaves_of (changed_leaf v f levels)))) (sym len) (subst (λ (xs : List Piece). AreItems s.page_len (tuples xs)) (sym leaves) all);
      bushy = bushy_changed v f levels is.bushy;
      mark = fits;
    }

-- a vertex is put into the leaf where its vid lies
pub held_put : (t t' : TreeView) (d d' : Desk) (s s' : Shown) (l : Graph) (e : Entry) (old b : List ℕ) → (held : IsHeld t d s l) → IsItem s.page_len e → StartsBelow e.key (leaves_of held.levels)
    → s'.page_len ≡ s.page_len → slice_get held.tree.ps (leaf_at e.key held.levels).page ≡ Some old → Turned (placed e) old b → Shows d'.cache s' (8 * t.part) (set held.tree.ps (leaf_at e.key held.levels).page b)
    → (m : Option Mark) → MarkFits m (changed_leaf e.key (placed e) held.levels) → t' ≡ record t { mark = m } → IsHeld t' d' s' (put e.key (vertex_of e.body) l)
held_put t t' d d' s s' l e old b held is starts len at turned shows m fits now =
    let tree = held.tree in
    let same = all_changed e s.page_len tree.ps (leaves_of held.levels) starts (leaves_level s.page_len tree.ps held.levels tree.stack) in
    let all = subst (λ (es : List Entry). AreItems s.page_len es) (sym same) (items_with s.page_len e (tuples (leaves_of held.levels)) is tree.items) in
    let after : IsHeld (record t { mark = m }) d' s' (put e.key (vertex_of e.body) l) = record {
      levels = changed_leaf e.key (placed e) held.levels;
      tree = tree_put t d d' s s' held.levels e.key (placed e) old b tree (λ low es rest. keys_placed e low es rest) starts all len at (λ n k l. turned n k l (leaf_at e.key held.levels).es) shows m fits;
      is = ap (put e.key (vertex_of e.body)) held.is ∙ sym (items_placed e (tuples (leaves_of held.levels))) ∙ ap items (sym (ap tuples (leaves_changed e.key (placed e) held.levels) ∙ same));
    } in
    subst (λ (u : TreeView). IsHeld u d' s' (put e.key (vertex_of e.body) l)) (sym now) after

pub starts_of : (v n : ℕ) (xs : List Piece) → FirstIs n xs → StartsBelow v xs
starts_of v n [] is = absurd is
starts_of v n (x ∷ xs) is = omega (arith, is.1)

-- a page is written as it was
pub set_same : (ps : List (List ℕ)) (p : ℕ) (b : List ℕ) → slice_get ps p ≡ Some b → set ps p b ≡ ps
set_same [] p b at = refl
set_same (q ∷ ps) zero b at = ap (λ (x : List ℕ). x ∷ ps) (sym (some_is at))
set_same (q ∷ ps) (suc p) b at = ap (λ (l : List (List ℕ)). q ∷ l) (set_same ps p b at)

-- the room that a vertex's body needs
pub body_room : (x : Vertex) (room : ℕ) (body : List ℕ) → body ≡ body_of x → vertex_size x ≤ room → 13 + length body ≤ room
body_room x room body is fits = omega (arith, ap length is, length-body_of x, fits)

-- a vertex is removed
pub items_removed : (v : ℕ) (es : List Entry) → items (removed v es) ≡ delete v (items es)
items_removed v [] = refl
items_removed v (e ∷ es) = elim (cases_eq v e.key) [
  | inl same ↦ rw (equal v e.key same) (items_removed v es)
  | inr other ↦ rw (not_equal v e.key other) (ap (λ (l : Graph). item e ∷ l) (items_removed v es))
]

removed_none : (v : ℕ) (es : List Entry) → found v es ≡ None → removed v es ≡ es
removed_none v [] none = refl
removed_none v (e ∷ es) none = elim (cases_eq v e.key) [
  | inl same ↦ absurd (cc (sym none ∙ ap (λ (b : Bool). if b then Some e else found v es) (equal v e.key same)))
  | inr other ↦
      let rest : found v es ≡ None = sym (ap (λ (b : Bool). if b then Some e else found v es) (not_equal v e.key other)) ∙ none in
      rw (not_equal v e.key other) (ap (λ (l : List Entry). e ∷ l) (removed_none v es rest))
]

removed_join : (v : ℕ) (es fs : List Entry) → removed v (es ++ fs) ≡ removed v es ++ removed v fs
removed_join v [] fs = refl
removed_join v (e ∷ es) fs = elim (cases_eq v e.key) [
  | inl same ↦ rw (equal v e.key same) (removed_join v es fs)
  | inr other ↦ rw (not_equal v e.key other) (ap (λ (l : List Entry). e ∷ l) (removed_join v es fs))
]

tuples_removed : (v len : ℕ) (ps : List (List ℕ)) (xs : List Piece) → IsLevel len true ps xs → tuples (changed v (removed v) xs) ≡ removed v (tuples xs)
tuples_removed v len ps [] level = refl
tuples_removed v len ps (x ∷ []) level = append-nil (removed v x.es) ∙ sym (ap (removed v) (append-nil x.es))
tuples_removed v len ps (x ∷ y ∷ ys) level = elim (cases_lt v y.low) [
  | inl lt ↦
      rw (below v y.low lt)
      (ap (λ (l : List Entry). removed v x.es ++ l) (sym (removed_none v (tuples (y ∷ ys)) (none_in_level v len true ps y ys lt level.4))) ∙ sym (removed_join v x.es (tuples (y ∷ ys))))
  | inr ge ↦
      rw (not_below v y.low ge)
      (ap (λ (l : List Entry). x.es ++ l) (tuples_removed v len ps (y ∷ ys) level.4)
      ∙ ap (λ (l : List Entry). l ++ removed v (tuples (y ∷ ys))) (sym (removed_none v x.es (none_above v x.low x.es y ys ge level.1))) ∙ sym (removed_join v x.es (tuples (y ∷ ys))))
]

keys_lower : (low high : ℕ) (es : List Entry) (rest : List Piece) → low ≤ high → AreKeys high es rest → AreKeys low es rest
keys_lower low high [] rest le keys = tt
keys_lower low high (e ∷ es) rest le keys = (omega (arith, le, keys.0), keys.1, keys.2)

keys_removed : (v low : ℕ) (es : List Entry) (rest : List Piece) → AreKeys low es rest → AreKeys low (removed v es) rest
keys_removed v low [] rest keys = tt
keys_removed v low (e ∷ es) rest keys = elim (cases_eq v e.key) [
  | inl same ↦ rw (equal v e.key same) (keys_lower low (e.key + 1) (removed v es) rest (omega (arith, keys.0)) (keys_removed v (e.key + 1) es rest keys.2))
  | inr other ↦ rw (not_equal v e.key other) (keys.0, keys.1, keys_removed v (e.key + 1) es rest keys.2)
]

items_less : (v len : ℕ) (es : List Entry) → AreItems len es → AreItems len (removed v es)
items_less v len [] all = tt
items_less v len (e ∷ es) all = elim (cases_eq v e.key) [
  | inl same ↦ rw (equal v e.key same) (items_less v len es all.1)
  | inr other ↦ rw (not_equal v e.key other) (all.0, items_less v len es all.1)
]

-- of ascending tuples the one in the place of a key is the only one that may have it
gone_removed : (v low : ℕ) (es : List Entry) (rest : List Piece) → AreKeys low es rest → gone v es ≡ removed v es
gone_removed v low [] rest keys = refl
gone_removed v low (e ∷ es) rest keys = elim (cases_lt e.key v) [
  | inl lt ↦ rw (below e.key v lt, not_equal v e.key (λ same. omega (arith, lt, same))) (ap (λ (l : List Entry). e ∷ l) (gone_removed v (e.key + 1) es rest keys.2))
  | inr ge ↦ elim (cases_eq v e.key) [
    | inl same ↦ rw (not_below e.key v ge, equal v e.key same) (sym (removed_none v es (none_below v (e.key + 1) es rest (omega (arith, same)) keys.2)))
    | inr other ↦ rw (not_below e.key v ge, not_equal v e.key other) (ap (λ (l : List Entry). e ∷ l) (sym (removed_none v es (none_below v (e.key + 1) es rest (omega (arith, ge)) keys.2))))
  ]
]

pub gone_at : (v len : ℕ) (ps : List (List ℕ)) (xs : List Piece) → IsLevel len true ps xs → gone v (piece_at v xs).es ≡ removed v (piece_at v xs).es
gone_at v len ps [] level = refl
gone_at v len ps (x ∷ []) level = gone_removed v x.low x.es [] level.1
gone_at v len ps (x ∷ y ∷ ys) level = elim (cases_lt v y.low) [
  | inl lt ↦ rw (below v y.low lt) (gone_removed v x.low x.es (y ∷ ys) level.1)
  | inr ge ↦ rw (not_below v y.low ge) (gone_at v len ps (y ∷ ys) level.4)
]

pub held_removed : (t t' : TreeView) (d d' : Desk) (s s' : Shown) (l : Graph) (v : ℕ) (old b : List ℕ) → (held : IsHeld t d s l) → s'.page_len ≡ s.page_len → slice_get held.tree.ps (leaf_at v held.levels).page ≡ Some old
    → Turned (gone v) old b → Shows d'.cache s' (8 * t.part) (set held.tree.ps (leaf_at v held.levels).page b)
    → (m : Option Mark) → MarkFits m (changed_leaf v (removed v) held.levels) → t' ≡ record t { mark = m } → IsHeld t' d' s' (delete v l)
held_removed t t' d d' s s' l v old b held len at turned shows m fits now =
    let tree = held.tree in
    let same = tuples_removed v s.page_len tree.ps (leaves_of held.levels) (leaves_level s.page_len tree.ps held.levels tree.stack) in
    let es = (leaf_at v held.levels).es in
    let as_gone : gone v es ≡ removed v es = gone_at v s.page_len tree.ps (leaves_of held.levels) (leaves_level s.page_len tree.ps held.levels tree.stack) in
    let turned' : TurnedAt (removed v) es old b = λ n k l made. subst (λ (fs : List Entry). IsMade (writer_of n fs) k l fs b) as_gone (turned n k l es made) in
    let all = subst (λ (es : List Entry). AreItems s.page_len es) (sym same) (items_less v s.page_len (tuples (leaves_of held.levels)) tree.items) in
    let after : IsHeld (record t { mark = m }) d' s' (delete v l) = record {
      levels = changed_leaf v (removed v) held.levels;
      tree = tree_put t d d' s s' held.levels v (removed v) old b tree (λ low es rest le next keys. keys_removed v low es rest keys) (starts_of v 0 (leaves_of held.levels) tree.first) all len at turned' shows m fits;
      is = ap (delete v) held.is ∙ sym (items_removed v (tuples (leaves_of held.levels))) ∙ ap items (sym (ap tuples (leaves_changed v (removed v) held.levels) ∙ same));
    } in
    subst (λ (u : TreeView). IsHeld u d' s' (delete v l)) (sym now) after

-- whether the vid is there
some_map : (o : Option Entry) → is_some (option_map (λ (e : Entry). vertex_of e.body) o) ≡ is_some o
some_map None = refl
some_map (Some e) = refl

pub there_is : (v len : ℕ) (ps : List (List ℕ)) (levels : List (List Piece)) → IsStack len ps levels → is_some (found v (leaf_at v levels).es) ≡ is_some (lookup v (items (tuples (leaves_of levels))))
there_is v len ps levels is = sym (some_map (found v (leaf_at v levels).es)) ∙ ap is_some (sym (lookup_found v (leaf_at v levels).es) ∙ sym (lookup_leaf v len ps levels is))
