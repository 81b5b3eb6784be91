-- The levels from a page's down to the leaves after a put.
use Rattle.std.proofs.Common.{◌≡◌, ◌<◌, ◌≤◌, ◌+◌, ◌^◌, ℕ, suc, Bool, true, false, List, [], ◌∷◌, ◌++◌, length, set, drop, refl, sym, ◌∙◌, ap, subst, arith, inl, inr}
use Rattle.std.proofs.lemmas.Bool.{cases_lt}
use Rattle.std.proofs.lemmas.List.{append-nil, length-append, length-set, length-drop}
use Rattle.std.specs.Prelude.{Option, Some, None, slice_get}
use Rattle.px_core.specs.Shown.{Shown}
use Rattle.px_pages.specs.Entry.{Entry, size_of}
use Rattle.px_meaning.specs.Graph.{room_of}
use Rattle.px_pages.specs.Page.{IsPageLen}
use Rattle.px_pages.specs.Children.{AreChildren}
use Rattle.px_pages.specs.declared.inner.Child.{Child}
use Rattle.px_cache.specs.View.{CacheView, Shows, SameCache}
use Rattle.px_cache.proofs.Shows.{shown_few}
use Rattle.px_btree.specs.Search.{child}
use Rattle.px_btree.specs.Tree.{Piece, IsLevel, IsStack, IsItem, Lacks, AreApart, HaveTwo, AreBushy, FirstIs, numbers, tuples, index, leaves_of}
use Rattle.px_btree.specs.Find.{piece_at, FromZero, IsAt, CameTo}
use Rattle.px_btree.specs.Put.{placed, changed}
use Rattle.px_btree.specs.Split.{PutShown}
use Rattle.px_btree.specs.Rise.{top_of, Alike, TopChanged, TopCut, TopPut, Grows, PutStack, PutsBelow}
use Rattle.px_btree.proofs.Levels.{at_within, came_start}
use Rattle.px_btree.proofs.Places.{index_children}
use Rattle.px_btree.proofs.Putting.{changed_index, lacks_at, lacks_left, lacks_right, apart_left, apart_right}
use Rattle.px_btree.proofs.Splitting.{index_cut}
use Rattle.px_btree.proofs.Rising.{pages_of, AllLack, AlikeKeys, LevelPut, ForInner, alike_then, alike_index, alike_level, cut_alike, piece_alike, lack_flip, lack_on, lacks_join, apart_join, apart_split, level_under, stack_under, level_kept, stack_kept, level_here, level_parted}
use Rattle.px_btree.proofs.Orders.{not_below, below}

-- a level and a put into it, whatever the code did
record PutLevel (e : Entry) (file len : ℕ) (leaf : Bool) (o : Option Child) (end : ℕ) (ps : List (List ℕ)) (xs : List Piece) (c : CacheView) (s : Shown) : Type 0 where
  pub qs : List (List ℕ)
  pub ys : List Piece
  pub shows : Shows c s file qs
  pub end_is : end ≡ length qs
  pub put : LevelPut e len leaf o ps qs xs ys

put_level : (e : Entry) (p file len : ℕ) (leaf : Bool) (o : Option Child) (end : ℕ) (ps : List (List ℕ)) (x : Piece) (xs : List Piece) (c : CacheView) (s : Shown) → IsLevel len leaf ps (x ∷ xs) → x.low ≤ e.key → AreApart (pages_of (x ∷ xs)) → ForInner leaf e (x ∷ xs)
    → size_of e ≤ room_of len → p ≡ (piece_at e.key (x ∷ xs)).page → PutShown e p file ps o end c s → PutLevel e file len leaf o end ps (x ∷ xs) c s
put_level e p file len leaf None end ps x xs c s is low apart inner room here put =
    let at : slice_get ps (piece_at e.key (x ∷ xs)).page ≡ Some put.old = ap (slice_get ps) (sym here) ∙ put.at in
    record {
      qs = set ps (piece_at e.key (x ∷ xs)).page put.new;
      ys = changed e.key (placed e) (x ∷ xs);
      shows = subst (λ (q : ℕ). Shows c s file (set ps q put.new)) here put.shows;
      end_is = put.end_is ∙ sym (length-set ps (piece_at e.key (x ∷ xs)).page put.new);
      put = level_here e len leaf ps put.old put.new x xs is low apart at put.turned;
    }
put_level e p file len leaf (Some o) end ps x xs c s is low apart inner room here put =
    let z = (piece_at e.key (x ∷ xs)).page in
    let at : slice_get ps z ≡ Some put.cut.old = ap (slice_get ps) (sym here) ∙ put.cut.at in
    let level = level_parted e len leaf ps o put.cut.old put.cut.first put.cut.second x xs is low apart inner room at (put.full put.cut.old put.cut.at) put.page (put.cut.parts len) in
    record {
      qs = set ps z put.cut.first ++ put.cut.second ∷ [];
      ys = level.0;
      shows = subst (λ (q : ℕ). Shows c s file (set ps q put.cut.first ++ put.cut.second ∷ [])) here put.cut.shows;
      end_is = omega (arith, put.end_is, length-append (set ps z put.cut.first) (put.cut.second ∷ []), length-set ps z put.cut.first);
      put = level.1;
    }

-- at the leaves
not_false : true ≡ false → ⊥
not_false h = cc h

pub put_leaf : (e : Entry) (p file len : ℕ) (o : Option Child) (end : ℕ) (ps : List (List ℕ)) (levels : List (List Piece)) (c : CacheView) (s : Shown) → IsAt e.key len ps levels p → length levels ≡ 1 → AreApart (numbers levels) → IsItem len e
    → PutShown e p file ps o end c s → PutStack e file len o end ps levels c s
put_leaf e p file len o end ps [] c s at one apart item put = absurd at.zero
put_leaf e p file len o end ps ([] ∷ rest) c s at one apart item put = absurd at.zero
put_leaf e p file len o end ps ((x ∷ xs) ∷ ys ∷ rest) c s at one apart item put = absurd (omega (arith, one))
put_leaf e p file len o end ps ((x ∷ xs) ∷ []) c s at one apart item put =
    let pages = pages_of (x ∷ xs) in
    let lev = put_level e p file len true o end ps x xs c s at.stack (omega (arith, at.zero)) (apart_left pages [] apart) (λ f. absurd (not_false f)) item.room (sym at.page) put in
    let new = append-nil (pages_of lev.ys) in
    record {
      qs = lev.qs;
      next = lev.ys ∷ [];
      shows = lev.shows;
      end_is = lev.end_is;
      stack = lev.put.level;
      top = lev.put.top;
      leaves = lev.put.with_it;
      depth = refl;
      apart = subst AreApart (sym new) lev.put.apart;
      fresh = λ q lt out. subst (Lacks q) (sym new) (lev.put.fresh q lt (lacks_left q pages [] out));
      kept = λ q b out here. lev.put.kept q b (lacks_at e.key q x xs (lacks_left q pages [] out), tt) here;
      grow = lev.put.grow;
      first = lev.put.first;
      bushy = λ all. all;
    }

-- a level over others
pub over : (len : ℕ) (qs : List (List ℕ)) (xs : List Piece) (next : List (List Piece)) → IsLevel len false qs xs → tuples xs ≡ index (top_of next) → IsStack len qs next → IsStack len qs (xs ∷ next)
over len qs xs [] level leads is = absurd is
over len qs xs (ys ∷ rest) level leads is = (level, leads, is)

pub leaves_over : (len : ℕ) (qs : List (List ℕ)) (xs : List Piece) (next : List (List Piece)) → IsStack len qs next → leaves_of (xs ∷ next) ≡ leaves_of next
leaves_over len qs xs [] is = absurd is
leaves_over len qs xs (ys ∷ rest) is = refl

pub bushy_over : (len : ℕ) (qs : List (List ℕ)) (xs : List Piece) (next : List (List Piece)) → IsStack len qs next → HaveTwo xs → AreBushy next → AreBushy (xs ∷ next)
bushy_over len qs xs [] is two all = absurd is
bushy_over len qs xs (ys ∷ rest) is two all = (two, all)

top_level : (len : ℕ) (ps : List (List ℕ)) (ys : List Piece) (rest : List (List Piece)) → IsStack len ps (ys ∷ rest) → (leaf : Bool) × IsLevel len leaf ps ys
top_level len ps ys [] is = (true, is)
top_level len ps ys (zs ∷ rest) is = (false, is.0)

changed_none : (v : ℕ) (xs : List Piece) → changed v (λ es. es) xs ≡ xs
changed_none v [] = refl
changed_none v (x ∷ []) = refl
changed_none v (x ∷ y ∷ ys) = elim (cases_lt v y.low) [
  | inl lt ↦ rw (below v y.low lt) refl
  | inr ge ↦ rw (not_below v y.low ge) (ap (λ (l : List Piece). x ∷ l) (changed_none v (y ∷ ys)))
]

-- no page of this level is among those after the put below it
apart_below : (e : Entry) (file len : ℕ) (o : Option Child) (end : ℕ) (ps : List (List ℕ)) (xs : List Piece) (levels : List (List Piece)) (c : CacheView) (s : Shown) → IsLevel len false ps xs → AreApart (pages_of xs ++ numbers levels) → (is : PutStack e file len o end ps levels c s)
    → AllLack (pages_of xs) (numbers is.next)
apart_below e file len o end ps xs levels c s level apart is =
    let pages = pages_of xs in
    lack_flip (numbers is.next) pages (lack_on (length ps) (numbers levels) (numbers is.next) pages is.fresh (level_under len false ps xs level) (lack_flip pages (numbers levels) (apart_split pages (numbers levels) apart)))

level_over : (e : Entry) (file len : ℕ) (o : Option Child) (end : ℕ) (ps : List (List ℕ)) (xs : List Piece) (levels : List (List Piece)) (c : CacheView) (s : Shown) → IsLevel len false ps xs → AreApart (pages_of xs ++ numbers levels) → (is : PutStack e file len o end ps levels c s)
    → IsLevel len false is.qs xs
level_over e file len o end ps xs levels c s level apart is =
    level_kept len false (numbers levels) ps is.qs xs is.kept (lack_flip (pages_of xs) (numbers levels) (apart_split (pages_of xs) (numbers levels) apart)) level

-- nothing is put into the level above
pub put_none : (e : Entry) (file len end : ℕ) (ps : List (List ℕ)) (xs ys : List Piece) (rest : List (List Piece)) (c : CacheView) (s : Shown) → IsStack len ps (xs ∷ ys ∷ rest) → AreApart (numbers (xs ∷ ys ∷ rest))
    → PutStack e file len None end ps (ys ∷ rest) c s → PutStack e file len None end ps (xs ∷ ys ∷ rest) c s
put_none e file len end ps xs ys rest c s is apart low =
    let pages = pages_of xs in
    let lower = numbers (ys ∷ rest) in
    let level = level_over e file len None end ps xs (ys ∷ rest) c s is.0 apart low in
    let top : TopChanged ys (top_of low.next) = low.top in
    let same = leaves_over len low.qs xs low.next low.stack in
    record {
      qs = low.qs;
      next = xs ∷ low.next;
      shows = low.shows;
      end_is = low.end_is;
      stack = over len low.qs xs low.next level (is.1 ∙ sym (ap index top.is ∙ changed_index top.at top.f ys)) low.stack;
      top = record { at = 0; f = λ es. es; is = sym (changed_none 0 xs) };
      leaves = ap tuples same ∙ low.leaves;
      depth = ap suc low.depth;
      apart = apart_join pages (numbers low.next) (apart_left pages lower apart) low.apart (apart_below e file len None end ps xs (ys ∷ rest) c s is.0 apart low);
      fresh = λ q lt out. lacks_join q pages (numbers low.next) (lacks_left q pages lower out) (low.fresh q lt (lacks_right q pages lower out));
      kept = λ q b out here. low.kept q b (lacks_right q pages lower out) here;
      grow = subst (λ (l : List Piece). Grows None (length ps) (length low.qs) (length (leaves_of (ys ∷ rest))) (length l)) (sym same) low.grow;
      first = λ f. subst (FirstIs 0) (sym same) (low.first f);
      bushy = λ all. bushy_over len low.qs xs low.next low.stack all.0 (low.bushy all.1);
    }

-- or the tuple that leads to the new page
grows_within : (o : Option Child) (a b m n : ℕ) → Grows o a b m n → a ≤ b
grows_within None a b m n (inl same) = omega (arith, same.0)
grows_within None a b m n (inr more) = omega (arith, more.0)
grows_within (Some o) a b m n more = omega (arith, more.0)

grows_more : (o : Option Child) (a b m n : ℕ) → a < b → n ≡ m + 1 → Grows o a b m n
grows_more None a b m n lt is = inr (lt, is)
grows_more (Some o) a b m n lt is = (lt, is)

top_as : (o : Option Child) (v k : ℕ) (xs ys : List Piece) → Alike v k xs → TopPut o k xs ys → TopPut o v xs ys
top_as None v k xs ys alike top = top
top_as (Some o) v k xs ys alike top = record {
  at = top.at;
  alike = alike_then v k top.at xs alike top.alike;
  left = top.left;
  r = top.r;
  right = top.right;
  is = top.is;
  key = top.key;
  keys = top.keys;
  above = top.above;
}

pub put_some : (e : Entry) (p file len : ℕ) (o : Child) (o' : Option Child) (end end' : ℕ) (ps : List (List ℕ)) (xs ys : List Piece) (rest : List (List Piece)) (c c' : CacheView) (s s' : Shown) → IsAt e.key len ps (xs ∷ ys ∷ rest) p → FromZero (ys ∷ rest) → IsPageLen len
    → AreApart (numbers (xs ∷ ys ∷ rest)) → (low : PutStack e file len (Some o) end ps (ys ∷ rest) c s) → PutShown (child o.key o.page) p file low.qs o' end' c' s' → PutStack e file len o' end' ps (xs ∷ ys ∷ rest) c' s'
put_some e p file len o o' end end' ps [] ys rest c c' s s' at start long apart low put = absurd at.zero
put_some e p file len o o' end end' ps (x ∷ xs) [] rest c c' s s' at start long apart low put = absurd start
put_some e p file len o o' end end' ps (x ∷ xs) (y ∷ ys) rest c c' s s' at start long apart low put =
    let is = at.stack in
    let pages = pages_of (x ∷ xs) in
    let lower = numbers ((y ∷ ys) ∷ rest) in
    let d = child o.key o.page in
    let top : TopCut o e.key (y ∷ ys) (top_of low.next) = low.top in
    let leaf = top_level len ps (y ∷ ys) rest is.2 in
    let beside = cut_alike top.at len leaf.0 ps top.left top.r top.right y ys (omega (arith, start)) leaf.1 top.keys top.above in
    let along = alike_index e.key top.r.key (y ∷ ys) (alike_then e.key top.at top.r.key (y ∷ ys) top.alike beside) in
    let there = alike_level e.key top.r.key len ps (x ∷ xs) is.0 (subst (AlikeKeys e.key top.r.key) (sym is.1) along) in
    let alike : Alike e.key o.key (x ∷ xs) = subst (λ (k : ℕ). Alike e.key k (x ∷ xs)) (sym top.key) there in
    let here : p ≡ (piece_at o.key (x ∷ xs)).page = sym at.page ∙ ap (λ (z : Piece). z.page) (sym (piece_alike e.key o.key (x ∷ xs) alike)) in
    let level = level_over e file len (Some o) end ps (x ∷ xs) ((y ∷ ys) ∷ rest) c s is.0 apart low in
    let eight : length d.body ≡ 8 = refl in
    let inner : ForInner false d (x ∷ xs) = λ f. (subst AreChildren (sym is.1) (index_children (y ∷ ys)), eight) in
    let lev = put_level d p file len false o' end' low.qs x xs c' s' level (omega (arith, at.zero)) (apart_left pages lower apart) inner (omega (arith, eight, long.0)) here put in
    let within = grows_within o' (length low.qs) (length lev.qs) _ _ lev.put.grow in
    let z = (piece_at o.key (x ∷ xs)).page in
    let under = stack_under len low.qs low.next low.stack in
    let sep = apart_below e file len (Some o) end ps (x ∷ xs) ((y ∷ ys) ∷ rest) c s is.0 apart low in
    let new = lack_on (length low.qs) pages (pages_of lev.ys) (numbers low.next) lev.put.fresh under sep in
    let off = lack_on (length low.qs) pages (z ∷ []) (numbers low.next) (λ q lt out. (lacks_at o.key q x xs out, tt)) under sep in
    let stack = stack_kept len (z ∷ []) low.qs lev.qs low.next lev.put.kept off low.stack in
    let same = leaves_over len lev.qs lev.ys low.next stack in
    let leads : tuples lev.ys ≡ index (top_of low.next) =
    lev.put.with_it ∙ ap (placed d) is.1 ∙ ap (λ (k : ℕ). placed (child k o.page) (index (y ∷ ys))) top.key
    ∙ sym (index_cut top.at o.page len leaf.0 ps top.left top.r top.right y ys leaf.1 top.keys top.above) ∙ sym (ap index top.is) in
    record {
      qs = lev.qs;
      next = lev.ys ∷ low.next;
      shows = lev.shows;
      end_is = lev.end_is;
      stack = over len lev.qs lev.ys low.next lev.put.level leads stack;
      top = top_as o' e.key o.key (x ∷ xs) lev.ys alike lev.put.top;
      leaves = ap tuples same ∙ low.leaves;
      depth = ap suc low.depth;
      apart = apart_join (pages_of lev.ys) (numbers low.next) lev.put.apart low.apart new;
      fresh = λ q lt out. lacks_join q (pages_of lev.ys) (numbers low.next) (lev.put.fresh q (omega (arith, lt, low.grow.0)) (lacks_left q pages lower out)) (low.fresh q lt (lacks_right q pages lower out));
      kept = λ q b out here'. lev.put.kept q b (lacks_at o.key q x xs (lacks_left q pages lower out), tt) (low.kept q b (lacks_right q pages lower out) here');
      grow = grows_more o' (length ps) (length lev.qs) _ _ (omega (arith, within, low.grow.0)) (ap length same ∙ low.grow.1);
      first = λ f. subst (FirstIs 0) (sym same) (low.first f);
      bushy = λ all. bushy_over len lev.qs lev.ys low.next stack (lev.put.two refl all.0) (low.bushy all.1);
    }

-- the same where the levels are any
pub lower_apart : (levels : List (List Piece)) → AreApart (numbers levels) → AreApart (numbers (drop 1 levels))
lower_apart [] apart = tt
lower_apart (xs ∷ rest) apart = apart_right (pages_of xs) (numbers rest) apart

pub rise_none : (e : Entry) (p file len end : ℕ) (ps : List (List ℕ)) (levels : List (List Piece)) (c : CacheView) (s : Shown) → IsAt e.key len ps levels p → 2 ≤ length levels → AreApart (numbers levels)
    → PutStack e file len None end ps (drop 1 levels) c s → PutStack e file len None end ps levels c s
rise_none e p file len end ps [] c s at two apart low = absurd at.zero
rise_none e p file len end ps (xs ∷ []) c s at two apart low = absurd (omega (arith, two))
rise_none e p file len end ps (xs ∷ ys ∷ rest) c s at two apart low = put_none e file len end ps xs ys rest c s at.stack apart low

pub rise_some : (e : Entry) (p q file len : ℕ) (o : Child) (o' : Option Child) (end end' : ℕ) (ps : List (List ℕ)) (levels : List (List Piece)) (c c' : CacheView) (s s' : Shown) → IsAt e.key len ps levels p → IsAt e.key len ps (drop 1 levels) q → 2 ≤ length levels → IsPageLen len
    → AreApart (numbers levels) → (low : PutStack e file len (Some o) end ps (drop 1 levels) c s) → PutShown (child o.key o.page) p file low.qs o' end' c' s' → PutStack e file len o' end' ps levels c' s'
rise_some e p q file len o o' end end' ps [] c c' s s' at next two long apart low put = absurd at.zero
rise_some e p q file len o o' end end' ps (xs ∷ []) c c' s s' at next two long apart low put = absurd (omega (arith, two))
rise_some e p q file len o o' end end' ps (xs ∷ ys ∷ rest) c c' s s' at next two long apart low put = put_some e p file len o o' end end' ps xs ys rest c c' s s' at next.zero long apart low put

-- THE CALLS
pub small : (c : CacheView) (s : Shown) (file end : ℕ) (ps : List (List ℕ)) → Shows c s file ps → length c.notes ≤ 65536 → end ≡ length ps → end + 1 < 2 ^ 64
small c s file end ps sh few is = omega (arith, shown_few c s file ps sh, few, is)

-- a tuple is put into a page, wherever the file is shown
abbrev pub Puts : Entry → ℕ → ℕ → Option Child → ℕ → ℕ → CacheView → Shown → CacheView → Shown → Type 0
Puts e p file o end end' c s c' s' = (ps : List (List ℕ)) → end ≡ length ps → end + 1 < 2 ^ 64 → p < length ps → Shows c s file ps → PutShown e p file ps o end' c' s'

-- the way goes one level down
abbrev pub StepsDown : ℕ → ℕ → ℕ → ℕ → CacheView → Shown → CacheView → Shown → Type 0
StepsDown v p q file c s c' s' =
    (k len : ℕ) (ps : List (List ℕ)) (levels : List (List Piece)) → CameTo v k file len levels p c s ps → k + 2 ≤ length levels → CameTo v (k + 1) file len levels q c' s' ps

pub leaf_put : (e : Entry) (p file : ℕ) (o : Option Child) (end end' : ℕ) (c c' : CacheView) (s s' : Shown) → Puts e p file o end end' c s c' s' → PutsBelow e 0 p file o end end' c s c' s'
leaf_put e p file o end end' c c' s s' puts = λ ps levels is few sh at depth apart item.
    put_leaf e p file s.page_len o end' ps levels c' s' at depth apart item (puts ps is (small c s file end ps sh few is) (at_within e.key s.page_len p ps levels at) sh)

lower_put : (e : Entry) (low p q file : ℕ) (o : Option Child) (end end' : ℕ) (c c1 c2 : CacheView) (s s1 s2 : Shown) (ps : List (List ℕ)) (levels : List (List Piece)) → StepsDown e.key p q file c s c1 s1 → SameCache c c1 → s1.page_len ≡ s.page_len
    → PutsBelow e low q file o end end' c1 s1 c2 s2 → end ≡ length ps → length c.notes ≤ 65536 → Shows c s file ps → IsAt e.key s.page_len ps levels p → length levels ≡ low + 2 → AreApart (numbers levels) → IsItem s.page_len e
    → IsAt e.key s.page_len ps (drop 1 levels) q × PutStack e file s.page_len o end' ps (drop 1 levels) c2 s2
lower_put e low p q file o end end' c c1 c2 s s1 s2 ps levels down stays len puts is few sh at depth apart item =
    let came = down 0 s.page_len ps levels (came_start e.key file s.page_len p levels c s ps sh at) (omega (arith, depth)) in
    let next : IsAt e.key s.page_len ps (drop 1 levels) q = came.at in
    let low_put = puts ps (drop 1 levels) is (omega (arith, few, stays.size)) came.shows (subst (λ (n : ℕ). IsAt e.key n ps (drop 1 levels) q) (sym len) next) (omega (arith, depth, length-drop 1 levels)) (lower_apart levels apart) (subst (λ (n : ℕ). IsItem n e) (sym len) item) in
    (next, subst (λ (n : ℕ). PutStack e file n o end' ps (drop 1 levels) c2 s2) len low_put)

pub none_put : (e : Entry) (level low p q file end end' : ℕ) (c c1 c2 : CacheView) (s s1 s2 : Shown) → level ≡ low + 1 → StepsDown e.key p q file c s c1 s1 → SameCache c c1 → s1.page_len ≡ s.page_len → PutsBelow e low q file None end end' c1 s1 c2 s2
    → PutsBelow e level p file None end end' c s c2 s2
none_put e level low p q file end end' c c1 c2 s s1 s2 up down stays len puts = λ ps levels is few sh at depth apart item.
    let both = lower_put e low p q file None end end' c c1 c2 s s1 s2 ps levels down stays len puts is few sh at (omega (arith, depth, up)) apart item in
    rise_none e p file s.page_len end' ps levels c2 s2 at (omega (arith, depth, up)) apart both.1

pub some_put : (e : Entry) (level low p q file : ℕ) (o : Child) (o' : Option Child) (end end1 end' : ℕ) (c c1 c2 c3 : CacheView) (s s1 s2 s3 : Shown) → level ≡ low + 1 → IsPageLen s.page_len → StepsDown e.key p q file c s c1 s1 → SameCache c c1 → SameCache c1 c2 → s1.page_len ≡ s.page_len
    → PutsBelow e low q file (Some o) end end1 c1 s1 c2 s2 → Puts (child o.key o.page) p file o' end1 end' c2 s2 c3 s3 → PutsBelow e level p file o' end end' c s c3 s3
some_put e level low p q file o o' end end1 end' c c1 c2 c3 s s1 s2 s3 up long down stays stays' len puts above = λ ps levels is few sh at depth apart item.
    let both = lower_put e low p q file (Some o) end end1 c c1 c2 s s1 s2 ps levels down stays len puts is few sh at (omega (arith, depth, up)) apart item in
    let low_put = both.1 in
    let few' : length c2.notes ≤ 65536 = omega (arith, few, stays.size, stays'.size) in
    let within : p < length low_put.qs = omega (arith, at_within e.key s.page_len p ps levels at, low_put.grow.0) in
    rise_some e p q file s.page_len o o' end1 end' ps levels c2 c3 s2 s3 at both.0 (omega (arith, depth, up)) long apart low_put
    (above low_put.qs low_put.end_is (small c2 s2 file end1 low_put.qs low_put.shows few' low_put.end_is) within low_put.shows)
