-- How a vid is found from level to level.
use Rattle.std.proofs.Common.{◌≡◌, ◌<◌, ◌≤◌, ◌+◌, ◌^◌, ℕ, Bool, true, false, List, [], ◌∷◌, ◌++◌, length, drop, get_or, refl, sym, ◌∙◌, ap, subst, arith, inl, inr}
use Rattle.std.proofs.lemmas.Bool.{cases_lt}
use Rattle.std.proofs.lemmas.List.{append-nil, length-drop, drop-drop}
use Rattle.std.proofs.lemmas.Option.{slice_get_within}
use Rattle.std.specs.Prelude.{Some, slice_get}
use Rattle.byteorder.specs.Numbers.{big_number-reads_back}
use Rattle.px_pages.specs.Entry.{Entry}
use Rattle.px_pages.specs.Page.{tuples_of}
use Rattle.px_pages.proofs.Writing.{made_tuples}
use Rattle.px_core.specs.Shown.{Shown}
use Rattle.px_cache.specs.View.{CacheView, Holds, Shows, ShownAfterLoad}
use Rattle.px_cache.proofs.Lists.{some_is}
use Rattle.px_btree.specs.Search.{IsChildPage, chosen, child, leads_to, found}
use Rattle.px_pages.specs.Page.{writer_of}
use Rattle.px_btree.specs.Tree.{Piece, HoldsPage, AreKeys, Begins, IsLevel, IsStack, tuples, index, leaves_of, kind_if}
use Rattle.px_btree.proofs.Places.{inner_page}
use Rattle.px_btree.specs.Find.{piece_at, leaf_at, pick, FromZero, IsAt, CameTo, Reaches}
use Rattle.px_btree.proofs.Orders.{not_below, below}

-- a tuple that leads to a page leads there
child_read : (low page : ℕ) → page < 2 ^ 64 → leads_to (child low page) ≡ page
child_read low page fits = big_number-reads_back 8 page [] fits

-- the search goes past tuples whose keys are not above v
chosen_past : (v low n : ℕ) (es fs : List Entry) (e : Entry) (xs : List Piece) (y : Piece) → e.key ≡ y.low → y.low ≤ v → AreKeys low es (y ∷ xs)
    → chosen v n (es ++ e ∷ fs) ≡ chosen v (leads_to e) fs
chosen_past v low n [] fs e xs y is le keys = rw (not_below v e.key (omega (arith, is, le))) refl
chosen_past v low n (d ∷ es) fs e xs y is le keys =
    rw (not_below v d.key (omega (arith, keys.1, le))) (chosen_past v (d.key + 1) (leads_to d) es fs e xs y is le keys.2)

-- and stops at one that is
chosen_stops : (v n : ℕ) (es fs : List Entry) (e : Entry) → v < e.key → chosen v n (es ++ e ∷ fs) ≡ chosen v n es
chosen_stops v n [] fs e lt = rw (below v e.key lt) refl
chosen_stops v n (d ∷ es) fs e lt = elim (cases_lt v d.key) [
  | inl less ↦ rw (below v d.key less) refl
  | inr ge ↦ rw (not_below v d.key ge) (chosen_stops v (leads_to d) es fs e lt)
]

-- of a level the search comes to the page in which the vid lies
next_chosen : (v n : ℕ) (x y : Piece) (ys : List Piece) (es : List Entry) → y.es ≡ es → AreKeys x.low x.es (y ∷ ys) → Begins false y.low y.es
    → ((m : ℕ) → chosen v m (y.es ++ tuples ys) ≡ chosen v m (piece_at v (y ∷ ys)).es)
    → chosen v n (x.es ++ (y.es ++ tuples ys)) ≡ chosen v n (piece_at v (x ∷ y ∷ ys)).es
next_chosen v n x y ys [] same keys begins ih = absurd (subst (Begins false y.low) same begins)
next_chosen v n x y ys (e ∷ es) same keys begins ih =
    let key : e.key ≡ y.low = subst (Begins false y.low) same begins in
    let whole : y.es ++ tuples ys ≡ e ∷ (es ++ tuples ys) = ap (λ (l : List Entry). l ++ tuples ys) same in
    let first : chosen v n (x.es ++ (y.es ++ tuples ys)) ≡ chosen v n (x.es ++ e ∷ (es ++ tuples ys)) = ap (λ (l : List Entry). chosen v n (x.es ++ l)) whole in
    elim (cases_lt v y.low) [
      | inl lt ↦
          first ∙ chosen_stops v n x.es (es ++ tuples ys) e (omega (arith, lt, key))
          ∙ ap (λ (b : Bool). chosen v n (pick b x (piece_at v (y ∷ ys))).es) (sym (below v y.low lt))
      | inr ge ↦
          let passed : chosen v n (e ∷ (es ++ tuples ys)) ≡ chosen v (leads_to e) (es ++ tuples ys) = rw (not_below v e.key (omega (arith, ge, key))) refl in
          first ∙ chosen_past v x.low n x.es (es ++ tuples ys) e ys y key ge keys
          ∙ sym passed ∙ sym (ap (λ (l : List Entry). chosen v n l) whole) ∙ ih n
          ∙ ap (λ (b : Bool). chosen v n (pick b x (piece_at v (y ∷ ys))).es) (sym (not_below v y.low ge))
    ]

level_chosen : (v n len : ℕ) (ps : List (List ℕ)) (xs : List Piece) → IsLevel len false ps xs → chosen v n (tuples xs) ≡ chosen v n (piece_at v xs).es
level_chosen v n len ps [] is = refl
level_chosen v n len ps (x ∷ []) is = ap (λ (l : List Entry). chosen v n l) (append-nil x.es)
level_chosen v n len ps (x ∷ y ∷ ys) is = next_chosen v n x y ys y.es refl is.1 is.4.3 (λ m. level_chosen v m len ps (y ∷ ys) is.4)

-- all pages of a level have numbers below the end of the file
abbrev pub AllIn : ℕ → List Piece → Type 0
AllIn n [] = Unit {0}
AllIn n (x ∷ xs) = (x.page < n) × AllIn n xs

pub level_in : (len : ℕ) (leaf : Bool) (ps : List (List ℕ)) (xs : List Piece) → IsLevel len leaf ps xs → AllIn (length ps) xs
level_in len leaf ps [] is = tt
level_in len leaf ps (x ∷ xs) is = (slice_get_within ps x.page _ is.0.at, level_in len leaf ps xs is.4)

stack_in : (len : ℕ) (ps : List (List ℕ)) (xs : List Piece) (rest : List (List Piece)) → IsStack len ps (xs ∷ rest) → AllIn (length ps) xs
stack_in len ps xs [] is = level_in len true ps xs is
stack_in len ps xs (ys ∷ rest) is = level_in len false ps xs is.0

-- among the tuples that lead to the pages of a level, the search finds the page in which the vid lies
index_chosen : (v n m : ℕ) (y : Piece) (ys : List Piece) → m < 2 ^ 64 → AllIn m (y ∷ ys) → y.low ≤ v → chosen v n (index (y ∷ ys)) ≡ (piece_at v (y ∷ ys)).page
index_chosen v n m y [] few all le = rw (not_below v y.low le) (child_read y.low y.page (omega (arith, few, all.0)))
index_chosen v n m y (z ∷ zs) few all le =
    let first : chosen v n (index (y ∷ z ∷ zs)) ≡ chosen v y.page (index (z ∷ zs)) =
    rw (not_below v y.low le) (ap (λ (p : ℕ). chosen v p (index (z ∷ zs))) (child_read y.low y.page (omega (arith, few, all.0)))) in
    elim (cases_lt v z.low) [
      | inl lt ↦ first ∙ rw (below v z.low lt) refl
      | inr ge ↦ first ∙ index_chosen v y.page m z zs few all.1 ge ∙ rw (not_below v z.low ge) refl
    ]

-- the page in which a vid lies is a page of the level
pub level_at : (v len : ℕ) (leaf : Bool) (ps : List (List ℕ)) (x : Piece) (xs : List Piece) → IsLevel len leaf ps (x ∷ xs)
    → (link : ℕ) × HoldsPage len (kind_if leaf) link ps (piece_at v (x ∷ xs)).page (piece_at v (x ∷ xs)).es
level_at v len leaf ps x [] is = (0, is.0)
level_at v len leaf ps x (y ∷ ys) is = elim (cases_lt v y.low) [
  | inl lt ↦ rw (below v y.low lt) (y.page + 1, is.0)
  | inr ge ↦ rw (not_below v y.low ge) (level_at v len leaf ps y ys is.4)
]

-- the tuples of a page that is shown
pub page_tuples : (len kind link p : ℕ) (ps : List (List ℕ)) (es : List Entry) (b : List ℕ) → HoldsPage len kind link ps p es → slice_get ps p ≡ Some b → tuples_of b ≡ es
page_tuples len kind link p ps es b is at = ap tuples_of (some_is (sym at ∙ is.at)) ∙ made_tuples (writer_of len es) kind link es is.page is.made

-- the first of the tuples of the topmost level, and of the next
second_zero : (len : ℕ) (ps : List (List ℕ)) (x : Piece) (xs : List Piece) (es : List Entry) (ys : List Piece) → x.es ≡ es → Begins false x.low x.es → x.low ≡ 0 → tuples (x ∷ xs) ≡ index ys
    → (y : Piece) × ((zs : List Piece) × (ys ≡ y ∷ zs) × (y.low ≡ 0))
second_zero len ps x xs [] ys same begins from is = absurd (subst (Begins false x.low) same begins)
second_zero len ps x xs (e ∷ es) [] same begins from is = absurd (cc (sym (ap (λ (l : List Entry). l ++ tuples xs) same) ∙ is))
second_zero len ps x xs (e ∷ es) (y ∷ zs) same begins from is =
    let key : e.key ≡ x.low = subst (Begins false x.low) same begins in
    let both : e ∷ (es ++ tuples xs) ≡ child y.low y.page ∷ index zs = sym (ap (λ (l : List Entry). l ++ tuples xs) same) ∙ is in
    let first : e ≡ child y.low y.page = cc both in
    (y, (zs, refl, ap (λ (d : Entry). d.key) (sym first) ∙ key ∙ from))

-- one level down
pub one_down : (v len p q : ℕ) (ps : List (List ℕ)) (levels : List (List Piece)) (b : List ℕ) → IsAt v len ps levels p → 2 ≤ length levels → slice_get ps p ≡ Some b → (IsChildPage (tuples_of b) → q ≡ chosen v 0 (tuples_of b))
    → IsAt v len ps (drop 1 levels) q × (leaves_of (drop 1 levels) ≡ leaves_of levels)
one_down v len p q ps [] b at two shown is = absurd (omega (arith, two))
one_down v len p q ps (xs ∷ []) b at two shown is = absurd (omega (arith, two))
one_down v len p q ps ([] ∷ ys ∷ rest) b at two shown is = absurd at.zero
one_down v len p q ps ((x ∷ xs) ∷ ys ∷ rest) b at two shown is =
    let here = level_at v len false ps x xs at.stack.0 in
    let shown' : slice_get ps (piece_at v (x ∷ xs)).page ≡ Some b = ap (slice_get ps) at.page ∙ shown in
    let es_is = page_tuples len 4 here.0 _ ps _ b here.1 shown' in
    let found : q ≡ chosen v 0 (index ys) =
    is (subst IsChildPage (sym es_is) (inner_page v len ps (x ∷ xs) ys at.stack.0 at.stack.1)) ∙ ap (chosen v 0) es_is ∙ sym (level_chosen v 0 len ps (x ∷ xs) at.stack.0) ∙ ap (chosen v 0) at.stack.1 in
    let second = second_zero len ps x xs x.es ys refl at.stack.0.3 at.zero at.stack.1 in (
      record {
        stack = at.stack.2;
        zero = subst (λ (zs : List Piece). FromZero (zs ∷ rest)) (sym second.1.1) second.1.2;
        page = (
            let all : AllIn (length ps) ys = stack_in len ps ys rest at.stack.2 in
            let all' = subst (λ (zs : List Piece). AllIn (length ps) zs) second.1.1 all in
            ap (λ (zs : List Piece). (piece_at v zs).page) second.1.1
            ∙ sym (index_chosen v 0 (length ps) second.0 second.1.0 at.few all' (omega (arith, second.1.2)))
            ∙ sym (found ∙ ap (λ (zs : List Piece). chosen v 0 (index zs)) second.1.1)
            );
        few = at.few;
      },
      refl,
    )

-- the page where the vid lies in the topmost level
pub at_within : (v len p : ℕ) (ps : List (List ℕ)) (levels : List (List Piece)) → IsAt v len ps levels p → p < length ps
at_within v len p ps [] at = absurd at.zero
at_within v len p ps ([] ∷ rest) at = absurd at.zero
at_within v len p ps ((x ∷ xs) ∷ []) at = let here = level_at v len true ps x xs at.stack in slice_get_within ps p _ (ap (slice_get ps) (sym at.page) ∙ here.1.at)
at_within v len p ps ((x ∷ xs) ∷ ys ∷ rest) at = let here = level_at v len false ps x xs at.stack.0 in slice_get_within ps p _ (ap (slice_get ps) (sym at.page) ∙ here.1.at)

-- one level further down
pub came_down : (v k file len p q i : ℕ) (levels : List (List Piece)) (c c' : CacheView) (s s' : Shown) (ps : List (List ℕ)) (b : List ℕ) → CameTo v k file len levels p c s ps → k + 2 ≤ length levels
    → ShownAfterLoad file p c s c' s' → Holds c'.notes i file p → b ≡ get_or c'.frames i [] → (IsChildPage (tuples_of b) → q ≡ chosen v 0 (tuples_of b)) → CameTo v (k + 1) file len levels q c' s' ps
came_down v k file len p q i levels c c' s s' ps b came two load holds is found =
    let shows = load file ps (λ e. at_within v len p ps (drop k levels) came.at) came.shows in
    let here : slice_get ps p ≡ Some b = shows.held i p holds ∙ ap (λ (x : List ℕ). Some x) (sym is) in
    let down = one_down v len p q ps (drop k levels) b came.at (omega (arith, two, length-drop k levels)) here found in
    let next : drop 1 (drop k levels) ≡ drop (k + 1) levels = drop-drop 1 k levels in
    record {
      shows = shows;
      at = subst (λ (l : List (List Piece)). IsAt v len ps l q) next down.0;
      same = ap leaves_of (sym next) ∙ down.1 ∙ came.same;
    }

last_level : (v len p : ℕ) (ps : List (List ℕ)) (levels : List (List Piece)) (b : List ℕ) → length levels ≡ 1 → IsAt v len ps levels p → slice_get ps p ≡ Some b
    → (p ≡ (piece_at v (leaves_of levels)).page) × (tuples_of b ≡ (piece_at v (leaves_of levels)).es)
last_level v len p ps [] b one at is = absurd at.zero
last_level v len p ps ([] ∷ rest) b one at is = absurd at.zero
last_level v len p ps ((x ∷ xs) ∷ []) b one at is =
    let here = level_at v len true ps x xs at.stack in
    (sym at.page, page_tuples len 3 here.0 _ ps _ b here.1 (ap (slice_get ps) at.page ∙ is))
last_level v len p ps ((x ∷ xs) ∷ ys ∷ rest) b one at is = absurd (omega (arith, one))

-- the leaf
pub came_leaf : (v k file len p i : ℕ) (levels : List (List Piece)) (c c' : CacheView) (s s' : Shown) (ps : List (List ℕ)) → CameTo v k file len levels p c s ps → length levels ≡ k + 1
    → ShownAfterLoad file p c s c' s' → Holds c'.notes i file p → Reaches v file levels i c' s' ps
came_leaf v k file len p i levels c c' s s' ps came one load holds =
    let shows = load file ps (λ e. at_within v len p ps (drop k levels) came.at) came.shows in
    let here = shows.held i p holds in
    let last = last_level v len p ps (drop k levels) _ (omega (arith, one, length-drop k levels)) came.at here in
    let page : p ≡ (leaf_at v levels).page = last.0 ∙ ap (λ (xs : List Piece). (piece_at v xs).page) came.same in
    record {
      shows = shows;
      holds = subst (λ (n : ℕ). Holds c'.notes i file n) page holds;
      bytes = ap (slice_get ps) (sym page) ∙ here;
      tuples = last.1 ∙ ap (λ (xs : List Piece). (piece_at v xs).es) came.same;
    }

-- at the root
pub came_start : (v file len p : ℕ) (levels : List (List Piece)) (c : CacheView) (s : Shown) (ps : List (List ℕ)) → Shows c s file ps → IsAt v len ps levels p → CameTo v 0 file len levels p c s ps
came_start v file len p levels c s ps sh at = record { shows = sh; at = at; same = refl }
