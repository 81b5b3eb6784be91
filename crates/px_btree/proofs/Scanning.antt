-- The cursor of a tree, from one call to the next.
use Rattle.std.proofs.Common.{◌≡◌, ◌<◌, ◌≤◌, ◌+◌, ◌-◌, ◌*◌, ℕ, zero, suc, Bool, true, false, List, [], ◌∷◌, ◌++◌, length, get_or, refl, sym, ◌∙◌, ap, subst, arith, ◌==◌, ◌&&◌}
use Rattle.std.proofs.lemmas.Bool.Decides.{nat_tests}
use Rattle.std.proofs.lemmas.List.{append_assoc}
use Rattle.std.proofs.lemmas.Option.{slice_get_within}
use Rattle.std.specs.Prelude.{Option, Some, None, slice_get, if◌then◌else◌, IsTrue, IsFalse}
use Rattle.px_core.specs.Shown.{Shown}
use Rattle.px_pages.specs.Entry.{Entry}
use Rattle.px_pages.specs.Page.{PageReaderView, tuples_of, link_of}
use Rattle.px_pages.proofs.Writing.{made_link}
use Rattle.px_meaning.specs.Graph.{Vertex, Graph}
use Rattle.px_record.specs.Body.{vertex_of}
use Rattle.px_cache.specs.declared.note.Note.{Note}
use Rattle.px_cache.specs.View.{CacheView, Shows, ShownAfterLoad, OthersShown, Holds}
use Rattle.px_cache.proofs.Lists.{some_is}
use Rattle.px_store.specs.declared.shared.Desk.{Desk}
use Rattle.px_pages.specs.Page.{writer_of}
use Rattle.px_btree.specs.Tree.{Piece, TreeView, IsLevel, IsTree, IsHeld, IsItem, AreItems, FirstIs, item, items, tuples, leaves_of, link_to}
use Rattle.px_btree.specs.Scan.{IsScan, ToCome, Looked, Given, left_here, is_held, unheld, unread}
use Rattle.px_btree.proofs.Levels.{page_tuples}
use Rattle.px_btree.proofs.Items.{tree_kept, tree_cursor, leaves_level}

-- a held page is found among the notes, and what is found is held
test_yes : (n : Note) (f p : ℕ) → n.used ≡ true → n.file ≡ f → n.page ≡ p → (n.used && (n.file == f && n.page == p)) ≡ true
test_yes n f p used file page = grind (arith, nat_tests)

test_used : (n : Note) (f p : ℕ) → (n.used && (n.file == f && n.page == p)) ≡ true → n.used ≡ true
test_used n f p is = grind (arith, nat_tests)

test_file : (n : Note) (f p : ℕ) → (n.used && (n.file == f && n.page == p)) ≡ true → n.file ≡ f
test_file n f p is = grind (arith, nat_tests)

test_page : (n : Note) (f p : ℕ) → (n.used && (n.file == f && n.page == p)) ≡ true → n.page ≡ p
test_page n f p is = grind (arith, nat_tests)

or_right : (a b : Bool) → b ≡ true → (if a then true else b) ≡ true
or_right true b is = refl
or_right false b is = is

pub held_is : (notes : List Note) (i f p : ℕ) → Holds notes i f p → is_held notes f p ≡ true
held_is [] i f p h = absurd h
held_is (n ∷ ns) zero f p h = rw (test_yes n f p h.0 h.1 h.2) refl
held_is (n ∷ ns) (suc i) f p h = or_right (n.used && (n.file == f && n.page == p)) (is_held ns f p) (held_is ns i f p h)

here_or_on : (n : Note) (ns : List Note) (f p : ℕ) (b : Bool) → (n.used && (n.file == f && n.page == p)) ≡ b → (if b then true else is_held ns f p) ≡ true → (is_held ns f p ≡ true → (i : ℕ) × Holds ns i f p)
    → (i : ℕ) × Holds (n ∷ ns) i f p
here_or_on n ns f p true is all ih = (zero, (test_used n f p is, test_file n f p is, test_page n f p is))
here_or_on n ns f p false is all ih = let h = ih all in (suc h.0, h.1)

pub held_at : (notes : List Note) (f p : ℕ) → is_held notes f p ≡ true → (i : ℕ) × Holds notes i f p
held_at [] f p is = absurd (cc is)
held_at (n ∷ ns) f p is = here_or_on n ns f p (n.used && (n.file == f && n.page == p)) refl is (held_at ns f p)

-- what a call reads, and what may still be read
unheld_most : (b : Bool) → unheld b ≤ 1
unheld_most true = omega arith
unheld_most false = omega arith

unheld_not : (b : Bool) → (b ≡ true → ⊥) → unheld b ≡ 1
unheld_not true un = absurd (un refl)
unheld_not false un = refl

unread_some : (t : TreeView) (d : Desk) → 0 < t.togo → unread t d ≡ (t.togo - 1) + unheld (is_held d.cache.notes (8 * t.part) t.at)
unread_some t d some =
    let no : (t.togo == 0) ≡ false = grind (arith, nat_tests) in
    ap (λ (b : Bool). if b then 0 else (t.togo - 1) + unheld (is_held d.cache.notes (8 * t.part) t.at)) no

unread_by : (n m : ℕ) (b : Bool) → (if n == 0 then 0 else (n - 1) + unheld b) ≤ n
unread_by zero m b = omega arith
unread_by (suc n) m b =
    let nonzero : (suc n == 0) ≡ false = grind (arith, nat_tests) in
    rw nonzero (omega (arith, unheld_most b))

pub unread_most : (t : TreeView) (d : Desk) → unread t d ≤ t.togo
unread_most t d = unread_by t.togo 0 (is_held d.cache.notes (8 * t.part) t.at)

pub read_err : (t : TreeView) (d d' : Desk) (r r' : ℕ) → 0 < t.togo → r' ≡ r → (is_held d.cache.notes (8 * t.part) t.at ≡ true → ⊥) → r' + unread t d' ≤ r + unread t d
read_err t d d' r r' some same un = omega (arith, unread_most t d', unread_some t d some, unheld_not (is_held d.cache.notes (8 * t.part) t.at) un, same, some)

read_by : (b : Bool) (n r r' m : ℕ) → 0 < n → m + 1 ≤ n → r' ≤ r + 1 → (b ≡ true → r' ≡ r) → r' + m ≤ r + ((n - 1) + unheld b)
read_by true n r r' m some less most same = omega (arith, some, less, same refl)
read_by false n r r' m some less most same = omega (arith, some, less, most)

pub read_ok : (t : TreeView) (d : Desk) (r r' m : ℕ) → 0 < t.togo → m + 1 ≤ t.togo → r' ≤ r + 1 → (is_held d.cache.notes (8 * t.part) t.at ≡ true → r' ≡ r) → r' + m ≤ r + unread t d
read_ok t d r r' m some less most same =
    subst (λ (u : ℕ). r' + m ≤ r + u) (sym (unread_some t d some)) (read_by (is_held d.cache.notes (8 * t.part) t.at) t.togo r r' m some less most same)

pub unread_held : (t : TreeView) (d : Desk) → 0 < t.togo → is_held d.cache.notes (8 * t.part) t.at ≡ true → unread t d + 1 ≡ t.togo
unread_held t d some held = omega (arith, some, unread_some t d some, ap unheld held)

-- the leaves from one on
level_back : (len : ℕ) (ps : List (List ℕ)) (front back : List Piece) → IsLevel len true ps (front ++ back) → IsLevel len true ps back
level_back len ps [] back is = is
level_back len ps (x ∷ front) back is = level_back len ps front back is.4

-- the cursor before a leaf that was not looked into
abbrev BeginsAt : ℕ → List Piece → Type 0
BeginsAt n [] = Unit {0}
BeginsAt n (x ∷ xs) = x.page ≡ n

to_come : (len at : ℕ) (ps : List (List ℕ)) (xs : List Piece) (b : Graph) → IsLevel len true ps xs → BeginsAt at xs → b ≡ items (tuples xs) → AreItems len (tuples xs) → ToCome len None at ps xs b
to_come len at ps [] b level begins is all = is
to_come len at ps (x ∷ xs) b level begins is all =
    let page = level.0.page in
    let here : slice_get ps at ≡ Some page = ap (slice_get ps) (sym begins) ∙ level.0.at in
    let same : tuples_of page ≡ x.es = page_tuples len 3 (link_to xs) x.page ps x.es page level.0 level.0.at in
    (page, begins, here, is ∙ ap (λ (es : List Entry). items (es ++ tuples xs)) (sym same), subst (λ (es : List Entry). AreItems len (es ++ tuples xs)) (sym same) all)

first_begins : (n : ℕ) (xs : List Piece) → FirstIs n xs → BeginsAt n xs
first_begins n [] is = absurd is
first_begins n (x ∷ xs) is = is.0

pub rewound : (t : TreeView) (d : Desk) (s : Shown) (l : Graph) → IsHeld t d s l → IsScan (record t { at = 0; togo = t.leaves; here = None }) d s [] l
rewound t d s l held =
    let tree = held.tree in
    record {
      levels = held.levels;
      tree = tree_cursor t d s held.levels 0 t.leaves None tree;
      front = [];
      back = leaves_of held.levels;
      split = refl;
      togo = tree.leaves;
      whole = held.is;
      rest = to_come s.page_len 0 tree.ps (leaves_of held.levels) l (leaves_level s.page_len tree.ps held.levels tree.stack) (first_begins 0 (leaves_of held.levels) tree.first) held.is tree.items;
    }

-- one vertex is given
give_one : (len : ℕ) (here now : Option PageReaderView) (at : ℕ) (ps : List (List ℕ)) (x : Piece) (xs : List Piece) (b : Graph) (page : List ℕ) (v : ℕ) (z : Vertex) (e : Entry)
    → ToCome len here at ps (x ∷ xs) b → slice_get ps at ≡ Some page → left_here here page ≡ e ∷ left_here now page → (IsItem len e → (v ≡ e.key) × (z ≡ vertex_of e.body))
    → (rest : Graph) × (b ≡ (v, z) ∷ rest) × ToCome len now at ps (x ∷ xs) rest
give_one len here now at ps x xs b page v z e come is first given =
    let same : come.0 ≡ page = some_is (sym come.2 ∙ is) in
    let whole : left_here here come.0 ++ tuples xs ≡ e ∷ (left_here now page ++ tuples xs) = ap (λ (l : List ℕ). left_here here l ++ tuples xs) same ∙ ap (λ (es : List Entry). es ++ tuples xs) first in
    let all : AreItems len (e ∷ (left_here now page ++ tuples xs)) = subst (λ (es : List Entry). AreItems len es) whole come.4 in
    let are = given all.0 in
    let pair : item e ≡ (v, z) = ap (λ (k : ℕ). let p : ℕ × Vertex = (k, vertex_of e.body) in p) (sym are.0) ∙ ap (λ (y : Vertex). let p : ℕ × Vertex = (v, y) in p) (sym are.1) in
    (items (left_here now page ++ tuples xs), come.3 ∙ ap items whole ∙ ap (λ (p : ℕ × Vertex). p ∷ items (left_here now page ++ tuples xs)) pair, (page, come.1, is, refl, all.1))

next_begins : (n : ℕ) (xs : List Piece) → n ≡ link_to xs → BeginsAt (n - 1) xs
next_begins n [] is = tt
next_begins n (x ∷ xs) is = omega (arith, is)

-- the cursor goes on to the next leaf
go_on : (len : ℕ) (here : Option PageReaderView) (at : ℕ) (ps : List (List ℕ)) (x : Piece) (xs : List Piece) (b : Graph) (page : List ℕ) → IsLevel len true ps (x ∷ xs)
    → ToCome len here at ps (x ∷ xs) b → slice_get ps at ≡ Some page → left_here here page ≡ [] → ToCome len None (link_of page - 1) ps xs b
go_on len here at ps x xs b page level come is none =
    let same : come.0 ≡ page = some_is (sym come.2 ∙ is) in
    let whole : left_here here come.0 ++ tuples xs ≡ tuples xs = ap (λ (l : List ℕ). left_here here l ++ tuples xs) same ∙ ap (λ (es : List Entry). es ++ tuples xs) none in
    let mine : level.0.page ≡ page = some_is (sym level.0.at ∙ ap (slice_get ps) come.1 ∙ is) in
    let link : link_of page ≡ link_to xs = ap link_of (sym mine) ∙ made_link (writer_of len x.es) 3 (link_to xs) x.es level.0.page level.0.made in
    to_come len (link_of page - 1) ps xs b level.4 (next_begins (link_of page) xs link) (come.3 ∙ ap items whole) (subst (λ (es : List Entry). AreItems len es) whole come.4)

looked : (given : Bool) (t t' : TreeView) (d : Desk) (c' : CacheView) (s s' : Shown) (a b : Graph) (page : List ℕ) (v : ℕ) (z : Vertex) (levels : List (List Piece)) (front back : List Piece)
    → (tree : IsTree t d s levels) → leaves_of levels ≡ front ++ back → length back ≡ t.togo → a ++ b ≡ items (tuples (leaves_of levels)) → ToCome s.page_len t.here t.at tree.ps back b
    → 0 < t.togo → Shows c' s' (8 * t.part) tree.ps → s'.page_len ≡ s.page_len → slice_get tree.ps t.at ≡ Some page
    → Given given s.page_len t.here t'.here page v z
    → (IsTrue given → t' ≡ record t { here = t'.here }) → (IsFalse given → t' ≡ record t { here = None; togo = t.togo - 1; at = link_of page - 1 })
    → Looked given v z a b (IsScan t' (record d { cache = c' }) s')
looked given t t' d c' s s' a b page v z levels front [] tree split togo whole come some shows len is gave on over = absurd (omega (arith, togo, some))
looked true t t' d c' s s' a b page v z levels front (x ∷ xs) tree split togo whole come some shows len is gave on over =
    let one = give_one s.page_len t.here t'.here t.at tree.ps x xs b page v z gave.0 come is gave.1 gave.2 in
    let kept = tree_kept t d (record d { cache = c' }) s s' levels tree len shows in
    let scan : IsScan (record t { here = t'.here }) (record d { cache = c' }) s' (a ++ (v, z) ∷ []) one.0 = record {
      levels = levels;
      tree = tree_cursor t (record d { cache = c' }) s' levels t.at t.togo t'.here kept;
      front = front;
      back = x ∷ xs;
      split = split;
      togo = togo;
      whole = append_assoc a ((v, z) ∷ []) one.0 ∙ ap (λ (l : Graph). a ++ l) (sym one.1) ∙ whole;
      rest = subst (λ (n : ℕ). ToCome n t'.here t.at tree.ps (x ∷ xs) one.0) (sym len) one.2;
    } in
    (one.0, one.1, subst (λ (u : TreeView). IsScan u (record d { cache = c' }) s' (a ++ (v, z) ∷ []) one.0) (sym (on refl)) scan)
looked false t t' d c' s s' a b page v z levels front (x ∷ xs) tree split togo whole come some shows len is gave on over =
    let kept = tree_kept t d (record d { cache = c' }) s s' levels tree len shows in
    let level = level_back s.page_len tree.ps front (x ∷ xs) (subst (λ (l : List Piece). IsLevel s.page_len true tree.ps l) split (leaves_level s.page_len tree.ps levels tree.stack)) in
    let rest = go_on s.page_len t.here t.at tree.ps x xs b page level come is gave in
    let scan : IsScan (record t { here = None; togo = t.togo - 1; at = link_of page - 1 }) (record d { cache = c' }) s' a b = record {
      levels = levels;
      tree = tree_cursor t (record d { cache = c' }) s' levels (link_of page - 1) (t.togo - 1) None kept;
      front = front ++ x ∷ [];
      back = xs;
      split = split ∙ sym (append_assoc front (x ∷ []) xs);
      togo = omega (arith, togo);
      whole = whole;
      rest = subst (λ (n : ℕ). ToCome n None (link_of page - 1) tree.ps xs b) (sym len) rest;
    } in
    subst (λ (u : TreeView). IsScan u (record d { cache = c' }) s' a b) (sym (over refl)) scan

nothing_left : (len : ℕ) (here : Option PageReaderView) (at : ℕ) (ps : List (List ℕ)) (back : List Piece) (b : Graph) → length back ≡ 0 → ToCome len here at ps back b → b ≡ []
nothing_left len here at ps [] b is come = come
nothing_left len here at ps (x ∷ xs) b is come = absurd (omega (arith, is))

-- the cursor's leaf is a page of the file
come_within : (len : ℕ) (here : Option PageReaderView) (at n : ℕ) (ps : List (List ℕ)) (back : List Piece) (b : Graph) → length back ≡ n → 0 < n → ToCome len here at ps back b → at < length ps
come_within len here at n ps [] b is some come = absurd (omega (arith, is, some))
come_within len here at n ps (x ∷ xs) b is some come = slice_get_within ps at _ come.2

pub look_on : (given : Bool) (t t' : TreeView) (d : Desk) (c' : CacheView) (s s' : Shown) (a b : Graph) (f at i : ℕ) (page : List ℕ) (v : ℕ) (z : Vertex)
    → IsScan t d s a b → 0 < t.togo → f ≡ 8 * t.part → at ≡ t.at → ShownAfterLoad f at d.cache s c' s' → Holds c'.notes i f at → page ≡ get_or c'.frames i [] → s'.page_len ≡ s.page_len
    → Given given s.page_len t.here t'.here page v z
    → (IsTrue given → t' ≡ record t { here = t'.here }) → (IsFalse given → t' ≡ record t { here = None; togo = t.togo - 1; at = link_of page - 1 })
    → Looked given v z a b (IsScan t' (record d { cache = c' }) s')
look_on given t t' d c' s s' a b f at i page v z scan some file place load holds bytes len gave on over =
    let tree = scan.tree in
    let within : at < length tree.ps = subst (λ (n : ℕ). n < length tree.ps) (sym place) (come_within s.page_len t.here t.at t.togo tree.ps scan.back b scan.togo some scan.rest) in
    let shows' : Shows c' s' f tree.ps = load f tree.ps (λ e. within) (subst (λ (n : ℕ). Shows d.cache s n tree.ps) (sym file) tree.shows) in
    let here : slice_get tree.ps t.at ≡ Some page = ap (slice_get tree.ps) (sym place) ∙ shows'.held i at holds ∙ ap (λ (l : List ℕ). Some l) (sym bytes) in
    looked given t t' d c' s s' a b page v z scan.levels scan.front scan.back tree scan.split scan.togo scan.whole scan.rest some (subst (λ (n : ℕ). Shows c' s' n tree.ps) file shows') len here gave on over

pub others_after : (f q p : ℕ) (c c' : CacheView) (s s' : Shown) → f ≡ 8 * q → ShownAfterLoad f p c s c' s' → OthersShown (8 * q) c s c' s'
others_after f q p c c' s s' file load g ps other sh = load g ps (λ e. absurd (other (e ∙ file))) sh

pub read_look : (given : Bool) (t t' : TreeView) (d' : Desk) (dummy i : ℕ) (page : List ℕ) → 0 < t.togo → Holds d'.cache.notes i (8 * t.part) t.at
    → (IsTrue given → t' ≡ record t { here = t'.here }) → (IsFalse given → t' ≡ record t { here = None; togo = t.togo - 1; at = link_of page - 1 }) → unread t' d' + 1 ≤ t.togo
read_look true t t' d' dummy i page some now on over =
    let u : TreeView = record t { here = t'.here } in
    let held = unread_held u d' some (held_is d'.cache.notes i (8 * t.part) t.at now) in
    omega (arith, held, ap (λ (w : TreeView). unread w d') (on refl))
read_look false t t' d' dummy i page some now on over =
    let u : TreeView = record t { here = None; togo = t.togo - 1; at = link_of page - 1 } in
    omega (arith, some, unread_most u d', ap (λ (w : TreeView). unread w d') (over refl))

pub scan_end : (t : TreeView) (d : Desk) (s : Shown) (a b : Graph) → t.togo ≡ 0 → IsScan t d s a b → (b ≡ []) × IsScan t d s a []
scan_end t d s a b none scan =
    let done = nothing_left s.page_len t.here t.at scan.tree.ps scan.back b (scan.togo ∙ none) scan.rest in
    (done, subst (λ (l : Graph). IsScan t d s a l) done scan)
