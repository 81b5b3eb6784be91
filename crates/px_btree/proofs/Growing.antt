-- A tree with a root more, and how many leaves a tree has.
use Rattle.std.proofs.Common.{◌≡◌, ◌<◌, ◌≤◌, ◌+◌, ◌*◌, ◌^◌, ℕ, zero, suc, false, List, [], ◌∷◌, ◌++◌, length, map, replicate, refl, sym, ◌∙◌, ap, subst, arith, inl, inr}
use Rattle.std.proofs.lemmas.Bool.{cases_eq}
use Rattle.std.proofs.lemmas.List.{length-append}
use Rattle.std.specs.Prelude.{Option, Some, None}
use Rattle.px_core.specs.Shown.{Shown}
use Rattle.px_meaning.specs.Graph.{Graph, put}
use Rattle.px_pages.specs.Entry.{Entry}
use Rattle.px_pages.specs.Page.{IsPageLen, IsMade, writer_of}
use Rattle.px_pages.specs.declared.inner.Child.{Child}
use Rattle.px_record.specs.Body.{vertex_of}
use Rattle.px_cache.specs.View.{CacheView, Shows, ShownAfterNew, Holds, written_frame}
use Rattle.px_cache.proofs.Shows.{write_shows, shown_few}
use Rattle.px_store.specs.declared.shared.Desk.{Desk}
use Rattle.px_btree.specs.Search.{child}
use Rattle.px_btree.specs.Tree.{Piece, TreeView, IsTree, IsHeld, IsLevel, IsStack, HoldsPage, IsItem, AreItems, Lacks, AreApart, HaveTwo, AreBushy, FirstIs, MarkFits, numbers, items, tuples, index, leaves_of}
use Rattle.px_btree.specs.declared.tree.Mark.{Mark}
use Rattle.px_btree.specs.Find.{piece_at, IsAt}
use Rattle.px_btree.specs.Put.{changed}
use Rattle.px_btree.specs.Split.{cut}
use Rattle.px_btree.specs.Rise.{top_of, TopChanged, TopCut, Grows, PutStack, PutsBelow, WithRoot, Owes}
use Rattle.px_btree.proofs.Items.{tree_at}
use Rattle.px_btree.proofs.Putting.{items_placed, items_with}
use Rattle.px_btree.proofs.Splitting.{added_before, added_last}
use Rattle.px_btree.proofs.Starting.{set_last}
use Rattle.px_btree.proofs.Rising.{AllUnder, stack_under, lacks_end, stack_kept, lack_none}
use Rattle.px_btree.proofs.Stacking.{over, leaves_over, bushy_over}

pub root_added : (c c' : CacheView) (s s' : Shown) (f p i len left : ℕ) (right : Child) (b : List ℕ) → ShownAfterNew f p c s c' s' → Holds c'.notes i f p → length c'.notes ≡ length c'.frames
    → IsMade (writer_of len (child 0 left ∷ child right.key right.page ∷ [])) 4 0 (child 0 left ∷ child right.key right.page ∷ []) b
    → (ps : List (List ℕ)) → p ≡ length ps → Shows c s f ps → WithRoot len f left right ps (written_frame c' i b) s'
root_added c c' s s' f p i len left right b new holds whole made ps end sh =
    let written = write_shows c' s' i f p b whole holds (ps ++ replicate c.len 0 ∷ []) (new.added ps end sh) in
    record {
      page = b;
      made = made;
      shows = subst (λ (qs : List (List ℕ)). Shows (written_frame c' i b) s' f qs) (set_last ps (replicate c.len 0) b p end) written;
    }

-- NUMBERS THAT STAND APART. There are no more of them than of the numbers that they may be.
record Fewer (n : ℕ) (ns : List ℕ) : Type 0 where
  pub rest : List ℕ
  pub apart : AreApart rest
  pub under : AllUnder n rest
  pub lacks : (q : ℕ) → Lacks q ns → Lacks q rest
  pub length : length ns ≤ length rest + 1

under_less : (n : ℕ) (ns : List ℕ) → AllUnder (suc n) ns → Lacks n ns → AllUnder n ns
under_less n [] under out = tt
under_less n (m ∷ ns) under out = (below_other n m under.0 out.0, under_less n ns under.1 out.1)
  where
    below_other : (n m : ℕ) → m < suc n → (n ≡ m → ⊥) → m < n
    below_other n m lt other = elim (cases_eq n m) [
      | inl same ↦ absurd (other same)
      | inr apart ↦ omega (arith, lt, apart)
    ]

fewer : (n : ℕ) (ns : List ℕ) → AllUnder (suc n) ns → AreApart ns → Fewer n ns
fewer n [] under apart = record { rest = []; apart = tt; under = tt; lacks = λ q out. tt; length = omega arith }
fewer n (m ∷ ns) under apart = elim (cases_eq n m) [
  | inl same ↦ record {
    rest = ns;
    apart = apart.1;
    under = under_less n ns under.1 (subst (λ (k : ℕ). Lacks k ns) (sym same) apart.0);
    lacks = λ q out. out.1;
    length = omega arith;
  }
  | inr other ↦
      let less = fewer n ns under.1 apart.1 in
      record {
        rest = m ∷ less.rest;
        apart = (less.lacks m apart.0, less.apart);
        under = (omega (arith, under.0, other), less.under);
        lacks = λ q out. (out.0, less.lacks q out.1);
        length = omega (arith, less.length);
      }
]

apart_few : (n : ℕ) (ns : List ℕ) → AllUnder n ns → AreApart ns → length ns ≤ n
apart_few zero [] under apart = omega arith
apart_few zero (m ∷ ns) under apart = absurd (omega (arith, under.0))
apart_few (suc n) ns under apart =
    let less = fewer n ns under apart in
    omega (arith, less.length, apart_few n less.rest less.under less.apart)

length_pages : (xs : List Piece) → length (map (λ (x : Piece). x.page) xs) ≡ length xs
length_pages [] = refl
length_pages (x ∷ xs) = ap suc (length_pages xs)

leaves_numbers : (levels : List (List Piece)) → length (leaves_of levels) ≤ length (numbers levels)
leaves_numbers [] = omega arith
leaves_numbers (xs ∷ []) = omega (arith, length-append (map (λ (x : Piece). x.page) xs) [], length_pages xs)
leaves_numbers (xs ∷ ys ∷ rest) = omega (arith, length-append (map (λ (x : Piece). x.page) xs) (numbers (ys ∷ rest)), leaves_numbers (ys ∷ rest))

pub leaves_few : (len : ℕ) (ps : List (List ℕ)) (levels : List (List Piece)) → IsStack len ps levels → AreApart (numbers levels) → length (leaves_of levels) ≤ length ps
leaves_few len ps levels is apart = omega (arith, leaves_numbers levels, apart_few (length ps) (numbers levels) (stack_under len ps levels is) apart)

-- WIDTH. Each level of a bushy tree has twice the pages of that above it.
two_each : (xs : List Piece) → HaveTwo xs → 2 * length xs ≤ length (tuples xs)
two_each [] two = omega arith
two_each (x ∷ xs) two = omega (arith, length-append x.es (tuples xs), two.0, two_each xs two.1)

length_index : (xs : List Piece) → length (index xs) ≡ length xs
length_index [] = refl
length_index (x ∷ xs) = ap suc (length_index xs)

abbrev doubled : ℕ → ℕ → ℕ
doubled zero n = n
doubled (suc k) n = doubled k (2 * n)

doubled_more : (k m n : ℕ) → m ≤ n → doubled k m ≤ doubled k n
doubled_more zero m n le = le
doubled_more (suc k) m n le = doubled_more k (2 * m) (2 * n) (omega (arith, le))

wide : (len : ℕ) (ps : List (List ℕ)) (k : ℕ) (xs : List Piece) (rest : List (List Piece)) → IsStack len ps (xs ∷ rest) → AreBushy (xs ∷ rest) → k ≡ length rest → doubled k (length xs) ≤ length (leaves_of (xs ∷ rest))
wide len ps zero xs [] is two same = omega arith
wide len ps (suc k) xs [] is two same = absurd (omega (arith, same))
wide len ps zero xs (ys ∷ rest) is two same = absurd (omega (arith, same))
wide len ps (suc k) xs (ys ∷ rest) is two same =
    let more : 2 * length xs ≤ length ys = omega (arith, two_each xs two.0, ap length is.1, length_index ys) in
    omega (arith, wide len ps k ys rest is.2 two.1 (omega (arith, same)), doubled_more k (2 * length xs) (length ys) more)

-- A TREE AFTER A PUT
next_is : (len : ℕ) (qs : List (List ℕ)) (next : List (List Piece)) → IsStack len qs next → (rest : List (List Piece)) × (next ≡ top_of next ∷ rest)
next_is len qs [] is = absurd is
next_is len qs (ys ∷ rest) is = (rest, refl)

-- as many leaves as were counted
pub counted : (o : Option Child) (pages more leaves now count : ℕ) → Grows o pages more leaves now → (more ≡ pages → count ≡ leaves) → (pages < more → leaves + 1 < 2 ^ 64 → count ≡ leaves + 1) → leaves + 1 < 2 ^ 64 → now ≡ count
counted None pages more leaves now count (inl is) same greater few = is.1 ∙ sym (same is.0)
counted None pages more leaves now count (inr is) same greater few = is.1 ∙ sym (greater is.0 few)
counted (Some o) pages more leaves now count is same greater few = is.1 ∙ sym (greater is.0 few)

-- so few leaves that one more can be counted
pub few_leaves : (t : TreeView) (d : Desk) (s : Shown) (levels : List (List Piece)) → length d.cache.notes ≤ 65536 → IsTree t d s levels → t.leaves + 1 < 2 ^ 64
few_leaves t d s levels few is =
    omega (arith, is.leaves, leaves_few s.page_len is.ps levels is.stack is.apart, shown_few d.cache s (8 * t.part) is.ps is.shows, few)

-- no page was cut at the top
pub held_after : (t : TreeView) (d d' : Desk) (s s' : Shown) (l : Graph) (e : Entry) (end leaves : ℕ) → t.mark ≡ None → (held : IsHeld t d s l) → IsItem s.page_len e → s'.page_len ≡ s.page_len → (is : PutStack e (8 * t.part) s.page_len None end held.tree.ps held.levels d'.cache s')
    → length (leaves_of is.next) ≡ leaves → IsHeld (record t { pages = end; leaves = leaves }) d' s' (put e.key (vertex_of e.body) l)
held_after t d d' s s' l e end leaves none held item len is count =
    let tree = held.tree in
    let first = next_is s.page_len is.qs is.next is.stack in
    let top : TopChanged (top_of held.levels) (top_of is.next) = is.top in
    let root = tree.root in
    let all = items_with s.page_len e (tuples (leaves_of held.levels)) item tree.items in
    record {
      levels = is.next;
      tree = record {
        ps = is.qs;
        shows = is.shows;
        len = subst IsPageLen (sym len) tree.len;
        stack = subst (λ (n : ℕ). IsStack n is.qs is.next) (sym len) is.stack;
        depth = is.depth ∙ tree.depth;
        pages = sym is.end_is;
        leaves = count;
        apart = is.apart;
        first = is.first tree.first;
        root = (top.f root.0, first.0, first.1 ∙ ap (λ (ys : List Piece). ys ∷ first.0) (top.is ∙ ap (λ (ls : List (List Piece)). changed top.at top.f (top_of ls)) root.2));
        items = subst (λ (n : ℕ). AreItems n (tuples (leaves_of is.next))) (sym len) (subst (λ (es : List Entry). AreItems s.page_len es) (sym is.leaves) all);
        bushy = is.bushy tree.bushy;
        mark = subst (λ (m : Option Mark). MarkFits m is.next) (sym none) tt;
      };
      is = ap (put e.key (vertex_of e.body)) held.is ∙ sym (items_placed e (tuples (leaves_of held.levels))) ∙ ap items (sym is.leaves);
    }

abbrev cut_root : ℕ → ℕ → ℕ → List Entry → List Entry → List Piece
cut_root root k page a b = record { low = 0; page = root; es = a } ∷ record { low = k; page = page; es = b } ∷ []

-- the root was cut
pub owes_after : (t : TreeView) (d d' : Desk) (s s' : Shown) (l : Graph) (e : Entry) (o : Child) (end leaves : ℕ) → t.mark ≡ None → (held : IsHeld t d s l) → IsItem s.page_len e → s'.page_len ≡ s.page_len
    → (is : PutStack e (8 * t.part) s.page_len (Some o) end held.tree.ps held.levels d'.cache s') → length (leaves_of is.next) ≡ leaves → Owes (record t { pages = end; leaves = leaves }) o d' s' (put e.key (vertex_of e.body) l)
owes_after t d d' s s' l e o end leaves none held item len is count =
    let tree = held.tree in
    let first = next_is s.page_len is.qs is.next is.stack in
    let top : TopCut o e.key (top_of held.levels) (top_of is.next) = is.top in
    let root = tree.root in
    let all = items_with s.page_len e (tuples (leaves_of held.levels)) item tree.items in
    let was : top_of held.levels ≡ record { low = 0; page = t.root; es = root.0 } ∷ [] = ap top_of root.2 in
    let above : 0 < top.r.key = subst (λ (xs : List Piece). (piece_at top.at xs).low < top.r.key) was top.above in
    let two = top.is ∙ ap (λ (xs : List Piece). cut top.at o.page top.left top.r top.right xs) was in
    let low : top_of is.next ≡ record { low = 0; page = t.root; es = top.left } ∷ record { low = o.key; page = o.page; es = top.r ∷ top.right } ∷ [] =
    two ∙ ap (λ (k : ℕ). cut_root t.root k o.page top.left (top.r ∷ top.right)) (sym top.key) in
    record {
      ps = is.qs;
      levels = is.next;
      shows = is.shows;
      len = subst IsPageLen (sym len) tree.len;
      stack = subst (λ (n : ℕ). IsStack n is.qs is.next) (sym len) is.stack;
      depth = is.depth ∙ tree.depth;
      pages = sym is.end_is;
      leaves = count;
      apart = is.apart;
      first = is.first tree.first;
      top = (top.left, top.r ∷ top.right, first.0, first.1 ∙ ap (λ (ys : List Piece). ys ∷ first.0) low);
      above = omega (arith, above, top.key);
      all = subst (λ (n : ℕ). AreItems n (tuples (leaves_of is.next))) (sym len) (subst (λ (es : List Entry). AreItems s.page_len es) (sym is.leaves) all);
      bushy = is.bushy tree.bushy;
      mark = none;
      is = ap (put e.key (vertex_of e.body)) held.is ∙ sym (items_placed e (tuples (leaves_of held.levels))) ∙ ap items (sym is.leaves);
    }

-- a tree of 64 levels whose root was cut would need more pages than a file has
pub too_deep : (t : TreeView) (right : Child) (d : Desk) (s : Shown) (l : Graph) → length d.cache.notes ≤ 65536 → t.depth ≡ 64 → Owes t right d s l → ⊥
too_deep t right d s l few deep is =
    let top = is.top in
    let rest : length top.2 ≡ 63 = omega (arith, deep, is.depth, ap length top.3) in
    let xs : List Piece = record { low = 0; page = t.root; es = top.0 } ∷ record { low = right.key; page = right.page; es = top.1 } ∷ [] in
    let leaves = wide s.page_len is.ps 63 xs top.2 (subst (IsStack s.page_len is.ps) top.3 is.stack) (subst AreBushy top.3 is.bushy) (sym rest) in
    let big : doubled 63 2 ≡ 2 ^ 64 = refl in
    omega (arith, big, leaves, ap (λ (ls : List (List Piece)). length (leaves_of ls)) top.3, leaves_few s.page_len is.ps is.levels is.stack is.apart, shown_few d.cache s (8 * t.part) is.ps is.shows, few)

-- and gets a root
pub rooted : (t : TreeView) (right : Child) (d d' : Desk) (s s' : Shown) (l : Graph) (more : ℕ) → (is : Owes t right d s l) → s'.page_len ≡ s.page_len → WithRoot s.page_len (8 * t.part) t.root right is.ps d'.cache s' → more ≡ t.pages + 1
    → IsHeld (record t { root = t.pages; depth = t.depth + 1; pages = more }) d' s' l
rooted t right d d' s s' l more is len new pages =
    let es = child 0 t.root ∷ child right.key right.page ∷ [] in
    let root : Piece = record { low = 0; page = t.pages; es = es } in
    let qs = is.ps ++ new.page ∷ [] in
    let holds : HoldsPage s.page_len 4 0 qs t.pages es = record { page = new.page; at = added_last is.ps new.page t.pages (sym is.pages); made = new.made } in
    let level : IsLevel s.page_len false qs (root ∷ []) = (holds, (omega arith, tt, (omega (arith, is.above), tt, tt)), tt, refl, tt) in
    let lower = stack_kept s.page_len [] is.ps qs is.levels (λ q b out here. added_before is.ps new.page b q here) (lack_none (numbers is.levels)) is.stack in
    let leads : tuples (root ∷ []) ≡ index (top_of is.levels) = sym (ap (λ (ls : List (List Piece)). index (top_of ls)) is.top.3) in
    let same = leaves_over s.page_len qs (root ∷ []) is.levels lower in
    let under = subst (λ (n : ℕ). Lacks n (numbers is.levels)) is.pages (lacks_end (length is.ps) (numbers is.levels) (stack_under s.page_len is.ps is.levels is.stack)) in
    record {
      levels = (root ∷ []) ∷ is.levels;
      tree = record {
        ps = qs;
        shows = new.shows;
        len = subst IsPageLen (sym len) is.len;
        stack = subst (λ (n : ℕ). IsStack n qs ((root ∷ []) ∷ is.levels)) (sym len) (over s.page_len qs (root ∷ []) is.levels level leads lower);
        depth = omega (arith, is.depth);
        pages = omega (arith, length-append is.ps (new.page ∷ []), is.pages, pages);
        leaves = ap length same ∙ is.leaves;
        apart = (under, is.apart);
        first = subst (FirstIs 0) (sym same) is.first;
        root = (es, is.levels, refl);
        items = subst (λ (n : ℕ). AreItems n (tuples (leaves_of ((root ∷ []) ∷ is.levels)))) (sym len) (subst (λ (xs : List Piece). AreItems s.page_len (tuples xs)) (sym same) is.all);
        bushy = bushy_over s.page_len qs (root ∷ []) is.levels lower (omega arith, tt) is.bushy;
        mark = subst (λ (m : Option Mark). MarkFits m ((root ∷ []) ∷ is.levels)) (sym is.mark) tt;
      };
      is = is.is ∙ ap (λ (xs : List Piece). items (tuples xs)) (sym same);
    }

-- what a put below the root did to a tree
pub put_stack : (t : TreeView) (d : Desk) (s : Shown) (l : Graph) (held : IsHeld t d s l) (e : Entry) (o : Option Child) (low p file end end' : ℕ) (c' : CacheView) (s' : Shown) → PutsBelow e low p file o end end' d.cache s c' s' → p ≡ t.root → file ≡ 8 * t.part → low + 1 ≡ t.depth → end ≡ t.pages
    → length d.cache.notes ≤ 65536 → IsItem s.page_len e → PutStack e (8 * t.part) s.page_len o end' held.tree.ps held.levels c' s'
put_stack t d s l held e o low p file end end' c' s' puts root is_file depth pages few item =
    let tree = held.tree in
    subst (λ (f : ℕ). PutStack e f s.page_len o end' tree.ps held.levels c' s') is_file
    (puts tree.ps held.levels (pages ∙ sym tree.pages) few (subst (λ (f : ℕ). Shows d.cache s f tree.ps) (sym is_file) tree.shows)
    (subst (IsAt e.key s.page_len tree.ps held.levels) (sym root) (tree_at t d s held.levels e.key few tree)) (tree.depth ∙ sym depth) tree.apart item)

-- the leaves that a tree counts then
pub put_count : (t : TreeView) (d : Desk) (s : Shown) (l : Graph) (held : IsHeld t d s l) (e : Entry) (o : Option Child) (end count : ℕ) (c' : CacheView) (s' : Shown) → (is : PutStack e (8 * t.part) s.page_len o end held.tree.ps held.levels c' s') → length d.cache.notes ≤ 65536
    → (end ≡ t.pages → count ≡ t.leaves) → (t.pages < end → t.leaves + 1 < 2 ^ 64 → count ≡ t.leaves + 1) → length (leaves_of is.next) ≡ count
put_count t d s l held e o end count c' s' is few same more =
    let tree = held.tree in
    let grows = subst (λ (n : ℕ). Grows o n (length is.qs) (length (leaves_of held.levels)) (length (leaves_of is.next))) tree.pages is.grow in
    let grows' = subst (λ (n : ℕ). Grows o t.pages n (length (leaves_of held.levels)) (length (leaves_of is.next))) (sym is.end_is) grows in
    let grows'' = subst (λ (n : ℕ). Grows o t.pages end n (length (leaves_of is.next))) tree.leaves grows' in
    counted o t.pages end t.leaves (length (leaves_of is.next)) count grows'' same more (few_leaves t d s held.levels few tree)
