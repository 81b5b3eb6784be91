-- The inner levels are made, from the leaves up.
use Rattle.std.proofs.Common.{◌≡◌, ◌<◌, ◌≤◌, ◌+◌, ◌-◌, ◌*◌, ◌^◌, ◌==◌, ℕ, zero, suc, Bool, true, false, List, [], ◌∷◌, ◌++◌, length, drop, get_or, refl, sym, ◌∙◌, ap, subst, arith}
use Rattle.std.proofs.lemmas.List.{append-nil, append_assoc, length-append}
use Rattle.std.proofs.Math.Nat.{pow-suc}
use Rattle.std.proofs.lemmas.Option.{slice_get_within}
use Rattle.px_btree.specs.declared.tree.Mark.{Mark}
use Rattle.std.specs.Prelude.{Option, Some, None, slice_get, if◌then◌else◌}
use Rattle.px_core.specs.Shown.{Shown}
use Rattle.px_meaning.specs.Graph.{Graph}
use Rattle.px_pages.specs.Entry.{Entry, bytes_of}
use Rattle.px_pages.specs.Page.{IsMade, IsPageLen, used_of, tuples_of, writer_of}
use Rattle.px_pages.proofs.Writing.{made_tuples}
use Rattle.px_cache.specs.declared.note.Note.{Note}
use Rattle.px_cache.specs.View.{CacheView, Shows, ShownAfterLoad, ShownAfterNew, Holds, NoPins, TwoFree, written_frame}
use Rattle.px_cache.proofs.Lists.{some_is}
use Rattle.px_cache.proofs.Shows.{write_shows, shown_few}
use Rattle.px_store.specs.declared.shared.Desk.{Desk}
use Rattle.px_btree.specs.Search.{child}
use Rattle.px_btree.specs.Tree.{Piece, TreeView, IsHeld, HoldsPage, AreKeys, Begins, IsLevel, IsStack, FirstIs, Lacks, AreApart, HaveTwo, MarkFits, numbers, tuples, index, link_to, kind_if, started_in}
use Rattle.px_btree.specs.Fill.{Appends, WithTuples, AreLeaves, IsFilling, Indexes, IsBuilt, AreInner, Counts, AllBegin, AllUnder, pages_of, low_in, leads, link_at, first_key_of}
use Rattle.px_btree.specs.Fresh.{WithPage}
use Rattle.px_btree.proofs.Orders.{not_equal, equal}
use Rattle.px_btree.proofs.Starting.{set_last}
use Rattle.px_btree.proofs.Filling.{used_push, get_left, get_next, tuples_join, counts_push, begins_push}

-- two frames are not pinned
pub two_free : (notes : List Note) → NoPins notes → TwoFree notes
two_free notes none = record {
  one = 0;
  two = 1;
  apart = λ e. cc e;
  one_free = none.free 0 (omega (arith, none.some));
  two_free = none.free 1 (omega (arith, none.some));
}

-- a new page
pub page_begun : (c c' : CacheView) (s s' : Shown) (f p i kind link len : ℕ) (b : List ℕ) → ShownAfterNew f p c s c' s' → Holds c'.notes i f p → length c'.notes ≡ length c'.frames → IsMade (writer_of len []) kind link [] b
    → (ps : List (List ℕ)) → p ≡ length ps → Shows c s f ps → WithTuples len kind link f [] ps (written_frame c' i b) s'
page_begun c c' s s' f p i kind link len b new holds whole made ps end sh =
    let written = write_shows c' s' i f p b whole holds _ (new.added ps end sh) in
    record {
      page = b;
      made = made;
      shows = subst (λ (qs : List (List ℕ)). Shows (written_frame c' i b) s' f qs) (set_last ps _ b p end) written;
    }

-- the last page of the file gets one tuple more
pub child_added : (c c' : CacheView) (s s' : Shown) (f p i link len : ℕ) (e : Entry) (b0 b : List ℕ) (ps : List (List ℕ)) (es : List Entry) → p ≡ length ps → used_of (es ++ e ∷ []) ≤ len → WithTuples len 4 link f es ps c s
    → ShownAfterLoad f p c s c' s' → Holds c'.notes i f p → length c'.notes ≡ length c'.frames → b0 ≡ get_or c'.frames i [] → Appends e b0 b → WithTuples len 4 link f (es ++ e ∷ []) ps (written_frame c' i b) s'
child_added c c' s s' f p i link len e b0 b ps es end fits was load holds whole same put =
    let long : p < length (ps ++ was.page ∷ []) = omega (arith, end, length-append ps (was.page ∷ [])) in
    let shows = load f (ps ++ was.page ∷ []) (λ x. long) was.shows in
    let here : was.page ≡ b0 = some_is (sym (get_next ps [] was.page p end) ∙ shows.held i p holds) ∙ sym same in
    let written = write_shows c' s' i f p b whole holds (ps ++ was.page ∷ []) shows in
    record {
      page = b;
      made = put len 4 link es (subst (λ (x : List ℕ). IsMade (writer_of len es) 4 link es x) here was.made) fits;
      shows = subst (λ (qs : List (List ℕ)). Shows (written_frame c' i b) s' f qs) (set_last ps was.page b p end) written;
    }

-- the least key of a page, as it is read
pub or_get : (ps : List (List ℕ)) (n : ℕ) (b : List ℕ) → slice_get ps n ≡ Some b → get_or ps n [] ≡ b
or_get [] n b is = absurd (cc is)
or_get (p ∷ ps) zero b is = some_is is
or_get (p ∷ ps) (suc n) b is = or_get ps n b is

pub low_first : (first : ℕ) (ps : List (List ℕ)) (n : ℕ) → n ≡ first → low_in first ps n ≡ 0
low_first first ps n is = ap (λ (b : Bool). if b then 0 else first_key_of (tuples_of (get_or ps n []))) (equal n first is)

pub low_read : (first : ℕ) (ps : List (List ℕ)) (n : ℕ) (b : List ℕ) → (n ≡ first → ⊥) → slice_get ps n ≡ Some b → low_in first ps n ≡ first_key_of (tuples_of b)
low_read first ps n b other at =
    ap (λ (t : Bool). if t then 0 else first_key_of (tuples_of (get_or ps n []))) (not_equal n first other) ∙ ap (λ (x : List ℕ). first_key_of (tuples_of x)) (or_get ps n b at)

get_or_left : (ps qs : List (List ℕ)) (n : ℕ) → n < length ps → get_or (ps ++ qs) n [] ≡ get_or ps n []
get_or_left [] qs n lt = absurd (omega (arith, lt))
get_or_left (p ∷ ps) qs zero lt = refl
get_or_left (p ∷ ps) qs (suc n) lt = get_or_left ps qs n (omega (arith, lt))

low_left : (first : ℕ) (ps qs : List (List ℕ)) (n : ℕ) → n < length ps → low_in first (ps ++ qs) n ≡ low_in first ps n
low_left first ps qs n lt = ap (λ (b : List ℕ). if n == first then 0 else first_key_of (tuples_of b)) (get_or_left ps qs n lt)

leads_left : (first : ℕ) (ps qs : List (List ℕ)) (n k : ℕ) → n + k ≤ length ps → leads first (ps ++ qs) n k ≡ leads first ps n k
leads_left first ps qs n zero le = refl
leads_left first ps qs n (suc k) le =
    ap (λ (low : ℕ). child low n ∷ leads first (ps ++ qs) (n + 1) k) (low_left first ps qs n (omega (arith, le)))
    ∙ ap (λ (l : List Entry). child (low_in first ps n) n ∷ l) (leads_left first ps qs (n + 1) k (omega (arith, le)))

leads_join : (first : ℕ) (ps : List (List ℕ)) (n a b m : ℕ) → m ≡ n + a → leads first ps n (a + b) ≡ leads first ps n a ++ leads first ps m b
leads_join first ps n zero b m is =
    let none : zero + b ≡ b = omega arith in
    ap (leads first ps n) none ∙ ap (λ (x : ℕ). leads first ps x b) (omega (arith, is))
leads_join first ps n (suc a) b m is =
    let step : suc a + b ≡ suc (a + b) = omega arith in
    ap (leads first ps n) step ∙ ap (λ (l : List Entry). child (low_in first ps n) n ∷ l) (leads_join first ps (n + 1) a b m (omega (arith, is)))

leads_used : (first : ℕ) (ps : List (List ℕ)) (n k : ℕ) → length (bytes_of (leads first ps n k)) ≡ 21 * k
leads_used first ps n zero = refl
leads_used first ps n (suc k) = omega (arith, leads_used first ps (n + 1) k, length-append (bytes_of (child (low_in first ps n) n ∷ [])) (bytes_of (leads first ps (n + 1) k)))

leads_length : (first : ℕ) (ps : List (List ℕ)) (n k : ℕ) → length (leads first ps n k) ≡ k
leads_length first ps n zero = refl
leads_length first ps n (suc k) = ap suc (leads_length first ps (n + 1) k)

-- no child was added yet
pub leads_none : (len link f first from n : ℕ) (ps : List (List ℕ)) (c : CacheView) (s : Shown) → n ≡ 0 → WithTuples len 4 link f [] ps c s → WithTuples len 4 link f (leads first ps from n) ps c s
leads_none len link f first from n ps c s none was = subst (λ (k : ℕ). WithTuples len 4 link f (leads first ps from k) ps c s) (sym none) was

-- one child more
pub child_step : (len len' link f first from at key k k' : ℕ) (ps : List (List ℕ)) (p : ℕ) (c m c' : CacheView) (s u s' : Shown) → p ≡ length ps → at < p → from ≤ at → k ≡ at - from → k' ≡ at + 1 - from → 32 + 21 * k' ≤ len → len' ≡ len
    → WithTuples len 4 link f (leads first ps from k) ps c s
    → ((qs : List (List ℕ)) → at < length qs → Shows c s f qs → (key ≡ low_in first qs at) × Shows m u f qs)
    → ((qs : List (List ℕ)) (l : ℕ) (es : List Entry) → p ≡ length qs → used_of (es ++ child key at ∷ []) ≤ len' → WithTuples len' 4 l f es qs m u → WithTuples len' 4 l f (es ++ child key at ∷ []) qs c' s')
    → WithTuples len 4 link f (leads first ps from k') ps c' s'
child_step len len' link f first from at key k k' ps p c m c' s u s' end lt least k_is k'_is room same was read add =
    let qs = ps ++ was.page ∷ [] in
    let low = read qs (omega (arith, end, lt, length-append ps (was.page ∷ []))) was.shows in
    let key_is : key ≡ low_in first ps at = low.0 ∙ low_left first ps (was.page ∷ []) at (omega (arith, end, lt)) in
    let es = leads first ps from k in
    let fits : used_of (es ++ child key at ∷ []) ≤ len' = omega (arith, used_push es (child key at), leads_used first ps from k, room, same, k_is, k'_is, least) in
    let mid : WithTuples len 4 link f es ps m u = record { page = was.page; made = was.made; shows = low.1 } in
    let added = add ps link es end fits (subst (λ (n : ℕ). WithTuples n 4 link f es ps m u) (sym same) mid) in
    let one : leads first ps at 1 ≡ child key at ∷ [] = ap (λ (n : ℕ). child n at ∷ []) (sym key_is) in
    let more : es ++ child key at ∷ [] ≡ leads first ps from k' =
    ap (λ (l : List Entry). es ++ l) (sym one) ∙ sym (leads_join first ps from k 1 at (omega (arith, k_is, least))) ∙ ap (leads first ps from) (omega (arith, k_is, k'_is, least)) in
    subst (λ (l : List Entry). WithTuples len 4 link f l ps c' s') more (subst (λ (n : ℕ). WithTuples n 4 link f (es ++ child key at ∷ []) ps c' s') same added)

-- a page behind others
inner_push : (len mid_link last_link : ℕ) (ps : List (List ℕ)) (xs : List Piece) (y : Piece) → mid_link ≡ y.page + 1 → AreInner len mid_link ps xs → HoldsPage len 4 last_link ps y.page y.es → AreInner len last_link ps (xs ++ y ∷ [])
inner_push len mid_link last_link ps [] y is inner page = page
inner_push len mid_link last_link ps (x ∷ []) y is inner page = (subst (λ (l : ℕ). HoldsPage len 4 l ps x.page x.es) is inner, page)
inner_push len mid_link last_link ps (x ∷ z ∷ zs) y is inner page = (inner.0, inner_push len mid_link last_link ps (z ∷ zs) y is inner.1 page)

page_left : (len k l p : ℕ) (ps qs : List (List ℕ)) (es : List Entry) → HoldsPage len k l ps p es → HoldsPage len k l (ps ++ qs) p es
page_left len k l p ps qs es is = record { page = is.page; at = get_left ps qs p (slice_get_within ps p is.page is.at) ∙ is.at; made = is.made }

inner_left : (len last_link : ℕ) (ps qs : List (List ℕ)) (xs : List Piece) → AreInner len last_link ps xs → AreInner len last_link (ps ++ qs) xs
inner_left len last_link ps qs [] is = tt
inner_left len last_link ps qs (x ∷ []) is = page_left len 4 last_link x.page ps qs x.es is
inner_left len last_link ps qs (x ∷ y ∷ ys) is = (page_left len 4 (y.page + 1) x.page ps qs x.es is.0, inner_left len last_link ps qs (y ∷ ys) is.1)

two_push : (xs : List Piece) (y : Piece) → HaveTwo xs → 2 ≤ length y.es → HaveTwo (xs ++ y ∷ [])
two_push [] y all this = (this, tt)
two_push (x ∷ xs) y all this = (all.0, two_push xs y all.1 this)

begins_first : (es : List Entry) → 1 ≤ length es → Begins false (first_key_of es) es
begins_first [] some = absurd (omega (arith, some))
begins_first (e ∷ es) some = refl

-- one page of a level more
pub index_step : (len f first from to end page n : ℕ) (ps : List (List ℕ)) (c c' : CacheView) (s s' : Shown) → first ≤ from → from < end → from + 2 ≤ to → to ≤ end → end ≡ length ps → n ≡ page + 1
    → Indexes len f first from end page ps c s
    → ((qs : List (List ℕ)) → page ≡ length qs → Shows c s f qs → WithTuples len 4 (link_at to end n) f (leads first qs from (to - from)) qs c' s')
    → Indexes len f first to end n ps c' s'
index_step len f first from to end page n ps c c' s s' least less two most long n_is is add =
    let qs = ps ++ is.more in
    let new = add qs (sym is.pages) is.shows in
    let all = leads first qs from (to - from) in
    let same : all ≡ leads first ps from (to - from) = leads_left first ps is.more from (to - from) (omega (arith, long, most, two)) in
    let y : Piece = record { low = first_key_of all; page = page; es = all } in
    let rs = qs ++ new.page ∷ [] in
    let join : rs ≡ ps ++ (is.more ++ new.page ∷ []) = append_assoc ps is.more (new.page ∷ []) in
    let mid : link_at from end page ≡ page + 1 = ap (λ (b : Bool). if b then 0 else page + 1) (not_equal from end (λ e. omega (arith, less, e))) in
    let here : HoldsPage len 4 (link_at to end n) rs page all = record { page = new.page; at = get_next qs [] new.page page (sym is.pages); made = new.made } in
    let inner = inner_push len (link_at from end page) (link_at to end n) rs is.row y mid (inner_left len (link_at from end page) qs (new.page ∷ []) is.row is.inner) here in
    let count : length all ≡ to - from = leads_length first qs from (to - from) in
    record {
      more = is.more ++ new.page ∷ [];
      row = is.row ++ y ∷ [];
      shows = subst (λ (xs : List (List ℕ)). Shows c' s' f xs) join new.shows;
      pages = ap (λ (xs : List (List ℕ)). length xs) (sym join) ∙ omega (arith, length-append qs (new.page ∷ []), is.pages, n_is);
      inner = subst (λ (xs : List (List ℕ)). AreInner len (link_at to end n) xs (is.row ++ y ∷ [])) join inner;
      counts = counts_push end is.row y is.counts (omega (arith, is.number));
      number = omega (arith, is.number, length-append is.row (y ∷ []), n_is);
      begins = begins_push is.row y is.begins (begins_first all (omega (arith, count, two)));
      two = two_push is.row y is.two (omega (arith, count, two));
      whole = tuples_join is.row (y ∷ []) ∙ ap (λ (l : List Entry). tuples is.row ++ l) (append-nil all ∙ same) ∙ ap (λ (l : List Entry). l ++ leads first ps from (to - from)) is.whole
          ∙ sym (leads_join first ps first (from - first) (to - from) from (omega (arith, least))) ∙ ap (leads first ps first) (omega (arith, least, two));
    }

pub index_none : (len f first from end page : ℕ) (ps : List (List ℕ)) (c : CacheView) (s : Shown) → from ≡ first → page ≡ end → end ≡ length ps → Shows c s f ps → Indexes len f first from end page ps c s
index_none len f first from end page ps c s from_is page_is long shows =
    let none : from - first ≡ 0 = omega (arith, from_is) in
    record {
      more = [];
      row = [];
      shows = subst (λ (xs : List (List ℕ)). Shows c s f xs) (sym (append-nil ps)) shows;
      pages = ap (λ (xs : List (List ℕ)). length xs) (append-nil ps) ∙ sym long ∙ sym page_is;
      inner = tt;
      counts = tt;
      number = omega (arith, page_is);
      begins = tt;
      two = tt;
      whole = ap (leads first ps first) (sym none);
    }

-- the tuples that lead to the pages of a level are as they are read
first_is : (low : ℕ) (es : List Entry) → Begins false low es → first_key_of es ≡ low
first_is low [] is = absurd is
first_is low (e ∷ es) is = is

leads_index : (len n first : ℕ) (leaf : Bool) (ps : List (List ℕ)) (xs : List Piece) → first < n → IsLevel len leaf ps xs → Counts n (pages_of xs) → AllBegin xs → leads first ps n (length xs) ≡ index xs
leads_index len n first leaf ps [] lt level counts begins = refl
leads_index len n first leaf ps (x ∷ xs) lt level counts begins =
    let here = level.0 in
    let at : slice_get ps n ≡ Some here.page = ap (slice_get ps) (sym counts.0) ∙ here.at in
    let read : low_in first ps n ≡ first_key_of x.es = low_read first ps n here.page (λ e. omega (arith, lt, e)) at ∙ ap first_key_of (made_tuples (writer_of len x.es) (kind_if leaf) (link_to xs) x.es here.page here.made) in
    let low : low_in first ps n ≡ x.low = read ∙ first_is x.low x.es begins.0 in
    ap (λ (m : ℕ). child m n ∷ leads first ps (n + 1) (length xs)) low ∙ ap (λ (m : ℕ). child x.low m ∷ leads first ps (n + 1) (length xs)) (sym counts.0)
    ∙ ap (λ (l : List Entry). child x.low x.page ∷ l) (leads_index len (n + 1) first leaf ps xs (omega (arith, lt)) level.4 counts.1 begins.1)

pub top_index : (len first : ℕ) (leaf : Bool) (ps : List (List ℕ)) (xs : List Piece) → FirstIs first xs → IsLevel len leaf ps xs → Counts first (pages_of xs) → AllBegin (drop 1 xs) → leads first ps first (length xs) ≡ index xs
top_index len first leaf ps [] from level counts begins = absurd from
top_index len first leaf ps (x ∷ xs) from level counts begins =
    let low : low_in first ps first ≡ x.low = low_first first ps first refl ∙ sym from.1 in
    ap (λ (m : ℕ). child m first ∷ leads first ps (first + 1) (length xs)) low ∙ ap (λ (m : ℕ). child x.low m ∷ leads first ps (first + 1) (length xs)) (sym from.0)
    ∙ ap (λ (l : List Entry). child x.low x.page ∷ l) (leads_index len (first + 1) first leaf ps xs (omega arith) level.4 counts.1 begins)

-- their keys ascend
index_keys : (len low : ℕ) (leaf : Bool) (ps : List (List ℕ)) (x : Piece) (xs : List Piece) → low ≤ x.low → IsLevel len leaf ps (x ∷ xs) → AreKeys low (index (x ∷ xs)) []
index_keys len low leaf ps x [] le level = (le, tt, tt)
index_keys len low leaf ps x (y ∷ ys) le level = (le, tt, index_keys len (x.low + 1) leaf ps y ys (omega (arith, level.2)) level.4)

-- of ascending tuples those of one page, and those behind them
key_before : (low : ℕ) (es : List Entry) (f : Entry) (fs : List Entry) (k m : ℕ) → k < low → f.key ≡ m → AreKeys low (es ++ f ∷ fs) [] → k < m
key_before low [] f fs k m lt is keys = omega (arith, lt, is, keys.0)
key_before low (e ∷ es) f fs k m lt is keys = key_before (e.key + 1) es f fs k m (omega (arith, lt, keys.0)) is keys.2

keys_front : (low : ℕ) (es : List Entry) (f : Entry) (fs : List Entry) (y : Piece) (ys : List Piece) → f.key ≡ y.low → AreKeys low (es ++ f ∷ fs) [] → AreKeys low es (y ∷ ys)
keys_front low [] f fs y ys is keys = tt
keys_front low (e ∷ es) f fs y ys is keys = (keys.0, key_before (e.key + 1) es f fs e.key y.low (omega arith) is keys.2, keys_front (e.key + 1) es f fs y ys is keys.2)

keys_back : (low : ℕ) (es fs : List Entry) → AreKeys low (es ++ fs) [] → (m : ℕ) × AreKeys m fs []
keys_back low [] fs keys = (low, keys)
keys_back low (e ∷ es) fs keys = keys_back (e.key + 1) es fs keys.2

keys_at : (low b : ℕ) (es : List Entry) → Begins false b es → AreKeys low es [] → AreKeys b es []
keys_at low b [] begins keys = absurd begins
keys_at low b (e ∷ es) begins keys = (omega (arith, begins), tt, keys.2)

keys_from : (low b : ℕ) (es : List Entry) (xs : List Piece) → Begins false b es → AreKeys low es xs → AreKeys b es xs
keys_from low b [] xs begins keys = absurd begins
keys_from low b (e ∷ es) xs begins keys = (omega (arith, begins), keys.1, keys.2)

below_next : (low b m : ℕ) (es : List Entry) (f : Entry) (fs : List Entry) → Begins false b es → f.key ≡ m → AreKeys low (es ++ f ∷ fs) [] → b < m
below_next low b m [] f fs begins is keys = absurd begins
below_next low b m (e ∷ es) f fs begins is keys = key_before (e.key + 1) es f fs b m (omega (arith, begins)) is keys.2

-- inner pages whose tuples ascend are a level
inner_more : (len low : ℕ) (qs : List (List ℕ)) (x y : Piece) (ys : List Piece) (es : List Entry) → y.es ≡ es → HoldsPage len 4 (y.page + 1) qs x.page x.es → Begins false x.low x.es → Begins false y.low y.es → AreKeys low (x.es ++ tuples (y ∷ ys)) []
    → IsLevel len false qs (y ∷ ys) → IsLevel len false qs (x ∷ y ∷ ys)
inner_more len low qs x y ys [] same page begin next keys level = absurd (subst (Begins false y.low) same next)
inner_more len low qs x y ys (f ∷ fs) same page begin next keys level =
    let key : f.key ≡ y.low = subst (Begins false y.low) same next in
    let keys' : AreKeys low (x.es ++ f ∷ (fs ++ tuples ys)) [] = subst (λ (l : List Entry). AreKeys low (x.es ++ (l ++ tuples ys)) []) same keys in
    (page, keys_from low x.low x.es (y ∷ ys) begin (keys_front low x.es f (fs ++ tuples ys) y ys key keys'), below_next low x.low y.low x.es f (fs ++ tuples ys) begin key keys', begin, level)

pub inner_level : (len low : ℕ) (qs : List (List ℕ)) (xs : List Piece) → AreInner len 0 qs xs → AllBegin xs → AreKeys low (tuples xs) [] → IsLevel len false qs xs
inner_level len low qs [] inner begins keys = tt
inner_level len low qs (x ∷ []) inner begins keys = (inner, keys_at low x.low x.es begins.0 (subst (λ (l : List Entry). AreKeys low l []) (append-nil x.es) keys), tt, begins.0, tt)
inner_level len low qs (x ∷ y ∷ ys) inner begins keys =
    let back = keys_back low x.es (tuples (y ∷ ys)) keys in
    inner_more len low qs x y ys y.es refl inner.0 begins.0 begins.1.0 keys (inner_level len back.0 qs (y ∷ ys) inner.1 begins.1 back.1)

-- pages come behind those of the file
level_left : (len : ℕ) (leaf : Bool) (ps qs : List (List ℕ)) (xs : List Piece) → IsLevel len leaf ps xs → IsLevel len leaf (ps ++ qs) xs
level_left len leaf ps qs [] is = tt
level_left len leaf ps qs (x ∷ xs) is = (page_left len (kind_if leaf) (link_to xs) x.page ps qs x.es is.0, is.1, is.2, is.3, level_left len leaf ps qs xs is.4)

stack_left : (len : ℕ) (ps qs : List (List ℕ)) (levels : List (List Piece)) → IsStack len ps levels → IsStack len (ps ++ qs) levels
stack_left len ps qs [] is = is
stack_left len ps qs (xs ∷ []) is = level_left len true ps qs xs is
stack_left len ps qs (xs ∷ ys ∷ rest) is = (level_left len false ps qs xs is.0, is.1, stack_left len ps qs (ys ∷ rest) is.2)

-- numbers below one another
under_more : (n m : ℕ) (ns : List ℕ) → n ≤ m → AllUnder n ns → AllUnder m ns
under_more n m [] le all = tt
under_more n m (k ∷ ns) le all = (omega (arith, le, all.0), under_more n m ns le all.1)

under_join : (n : ℕ) (ms ns : List ℕ) → AllUnder n ms → AllUnder n ns → AllUnder n (ms ++ ns)
under_join n [] ns all more = more
under_join n (m ∷ ms) ns all more = (all.0, under_join n ms ns all.1 more)

lacks_counts : (n k : ℕ) (ms ns : List ℕ) → n < k → Counts k ms → Lacks n ns → Lacks n (ms ++ ns)
lacks_counts n k [] ns lt counts out = out
lacks_counts n k (m ∷ ms) ns lt counts out = (λ e. omega (arith, e, lt, counts.0), lacks_counts n (k + 1) ms ns (omega (arith, lt)) counts.1 out)

lacks_under : (n m : ℕ) (ns : List ℕ) → m ≤ n → AllUnder m ns → Lacks n ns
lacks_under n m [] le all = tt
lacks_under n m (k ∷ ns) le all = (λ e. omega (arith, e, le, all.0), lacks_under n m ns le all.1)

apart_counts : (n k : ℕ) (ms ns : List ℕ) → n ≤ k → Counts k ms → AllUnder n ns → AreApart ns → AreApart (ms ++ ns)
apart_counts n k [] ns le counts under apart = apart
apart_counts n k (m ∷ ms) ns le counts under apart =
    (lacks_counts m (k + 1) ms ns (omega (arith, counts.0)) counts.1 (lacks_under m n ns (omega (arith, le, counts.0)) under), apart_counts n (k + 1) ms ns (omega (arith, le)) counts.1 under apart)

counts_within : (n m : ℕ) (xs : List Piece) → Counts n (pages_of xs) → n + length xs ≤ m → AllUnder m (pages_of xs)
counts_within n m [] counts le = tt
counts_within n m (x ∷ xs) counts le = (omega (arith, counts.0, le), counts_within (n + 1) m xs counts.1 (omega (arith, le)))

begins_drop : (xs : List Piece) → AllBegin xs → AllBegin (drop 1 xs)
begins_drop [] all = tt
begins_drop (x ∷ xs) all = all.1

-- the first page of the next level
row_low : (low page b : ℕ) (es fs gs : List Entry) → low ≡ 0 → es ++ fs ≡ child low page ∷ gs → Begins false b es → b ≡ 0
row_low low page b [] fs gs none is begins = absurd begins
row_low low page b (e ∷ es) fs gs none is begins =
    let same : e ≡ child low page = cc is in
    sym begins ∙ ap (λ (d : Entry). d.key) same ∙ none

row_first : (n end : ℕ) (xs row : List Piece) → FirstIs n xs → tuples row ≡ index xs → AllBegin row → Counts end (pages_of row) → FirstIs end row
row_first n end [] row from is begins counts = absurd from
row_first n end (x ∷ xs) [] from is begins counts = absurd (cc is)
row_first n end (x ∷ xs) (y ∷ ys) from is begins counts = (counts.0, row_low x.low x.page y.low y.es (tuples ys) (index xs) from.1 is begins.0)

index_up : (len n : ℕ) (leaf : Bool) (ps : List (List ℕ)) (xs : List Piece) → FirstIs n xs → IsLevel len leaf ps xs → AreKeys 0 (index xs) []
index_up len n leaf ps [] from level = absurd from
index_up len n leaf ps (x ∷ xs) from level = index_keys len 0 leaf ps x xs (omega arith) level

stack_index : (len first : ℕ) (ps : List (List ℕ)) (xs : List Piece) (rest : List (List Piece)) → FirstIs first xs → IsStack len ps (xs ∷ rest) → Counts first (pages_of xs) → AllBegin (drop 1 xs)
    → (leads first ps first (length xs) ≡ index xs) × AreKeys 0 (index xs) []
stack_index len first ps xs [] from is counts begins = (top_index len first true ps xs from is counts begins, index_up len first true ps xs from is)
stack_index len first ps xs (ys ∷ rest) from is counts begins = (top_index len first false ps xs from is.0 counts begins, index_up len first false ps xs from is.0)

-- one level more
pub built_more : (f len first end stop depth depth' number : ℕ) (l : Graph) (c c' : CacheView) (s s' : Shown) → first ≤ end → depth' ≡ depth + 1 → IsBuilt f len first end depth l number c s
    → ((ps : List (List ℕ)) → end ≡ length ps → Shows c s f ps → Indexes len f first end end stop ps c' s') → IsBuilt f len end stop depth' l number c' s'
built_more f len first end stop depth depth' number l c c' s s' order next is add =
    let row = add is.ps (sym is.pages) is.shows in
    let xs = is.top in
    let read = stack_index len first is.ps xs is.rest is.low is.stack is.counts is.begins in
    let whole : tuples row.row ≡ index xs = row.whole ∙ ap (leads first is.ps first) (omega (arith, is.width)) ∙ read.0 in
    let none : link_at end end stop ≡ 0 = ap (λ (b : Bool). if b then 0 else stop + 1) (equal end end refl) in
    let inner = subst (λ (k : ℕ). AreInner len k (is.ps ++ row.more) row.row) none row.inner in
    let level = inner_level len 0 (is.ps ++ row.more) row.row inner row.begins (subst (λ (es : List Entry). AreKeys 0 es []) (sym whole) read.1) in
    record {
      ps = is.ps ++ row.more;
      top = row.row;
      rest = xs ∷ is.rest;
      shows = row.shows;
      pages = row.pages;
      stack = (level, whole, stack_left len is.ps row.more (xs ∷ is.rest) is.stack);
      counts = row.counts;
      width = row.number;
      begins = begins_drop row.row row.begins;
      low = row_first first end xs row.row is.low whole row.begins row.counts;
      under = under_join end (pages_of xs) (numbers is.rest) (counts_within first end xs is.counts (omega (arith, is.width))) (under_more first end (numbers is.rest) order is.under);
      apart = apart_counts first first (pages_of xs) (numbers is.rest) (omega arith) is.counts is.under is.apart;
      bushy = (row.two, is.bushy);
      height = omega (arith, is.height, next);
      first_leaf = is.first_leaf;
      number_leaves = is.number_leaves;
      is = is.is;
      items = is.items;
    }

-- the leaves alone
pub built_first : (t : TreeView) (c : CacheView) (s : Shown) (l : Graph) → IsFilling t c s l → IsBuilt (8 * t.part) s.page_len 0 t.leaves 1 l t.leaves c s
built_first t c s l filling =
    let is = filling.leaves in
    let xs = filling.front ++ filling.last ∷ [] in
    let long : length xs ≡ t.leaves = omega (arith, length-append filling.front (filling.last ∷ []), is.number) in
    record {
      ps = is.ps;
      top = xs;
      rest = [];
      shows = is.shows;
      pages = is.pages;
      stack = is.level;
      counts = is.counts;
      width = omega (arith, long);
      begins = filling.begins;
      low = is.first;
      under = tt;
      apart = tt;
      bushy = tt;
      height = refl;
      first_leaf = is.first;
      number_leaves = long;
      is = is.is;
      items = is.items;
    }

-- a level of one page is the root
one_page : (root : ℕ) (xs : List Piece) → length xs ≤ 1 → FirstIs root xs → (es : List Entry) × (xs ≡ (record { low = 0; page = root; es = es } ∷ []))
one_page root [] few from = absurd from
one_page root (x ∷ []) few from = (x.es, ap (λ (n : ℕ). let y : Piece = record { low = n; page = x.page; es = x.es } in y ∷ []) from.1 ∙ ap (λ (n : ℕ). let y : Piece = record { low = 0; page = n; es = x.es } in y ∷ []) from.0)
one_page root (x ∷ y ∷ ys) few from = absurd (omega (arith, few))

pub built_held : (t : TreeView) (d : Desk) (s : Shown) (l : Graph) (first end depth : ℕ) → IsPageLen s.page_len → end ≤ first + 1 → t.root ≡ first → t.depth ≡ depth → t.pages ≡ end → t.mark ≡ None → IsBuilt (8 * t.part) s.page_len first end depth l t.leaves d.cache s → IsHeld t d s l
built_held t d s l first end depth len few root_is depth_is pages_is none is =
    let top = one_page first is.top (omega (arith, few, is.width)) is.low in
    let first_page : Piece = record { low = 0; page = first; es = top.0 } in
    record {
      levels = is.top ∷ is.rest;
      tree = record {
        ps = is.ps;
        shows = is.shows;
        len = len;
        stack = is.stack;
        depth = is.height ∙ sym depth_is;
        pages = is.pages ∙ sym pages_is;
        leaves = is.number_leaves;
        apart = apart_counts first first (pages_of is.top) (numbers is.rest) (omega arith) is.counts is.under is.apart;
        first = is.first_leaf;
        root = (top.0, is.rest, ap (λ (xs : List Piece). xs ∷ is.rest) top.1 ∙ ap (λ (n : ℕ). let y : Piece = record { low = 0; page = n; es = top.0 } in (y ∷ []) ∷ is.rest) (sym root_is));
        items = is.items;
        bushy = is.bushy;
        mark = subst (λ (m : Option Mark). MarkFits m (is.top ∷ is.rest)) (sym none) tt;
      };
      is = is.is;
    }

-- how high the levels can be
pub halved : (k m n : ℕ) → m ≤ 2 ^ k → 2 ≤ m → 2 * n ≤ m → (1 ≤ k) × (n ≤ 2 ^ (k - 1))
halved zero m n most two half = absurd (omega (arith, most, two))
halved (suc k) m n most two half =
    let below : suc k - 1 ≡ k = omega arith in
    let less : n ≤ 2 ^ k = omega (arith, most, half, pow-suc 2 k) in
    (omega arith, subst (λ (j : ℕ). n ≤ 2 ^ j) (sym below) less)

-- the reads that a filled tree asks for are counted
pub paid_for : (t : TreeView) (c : CacheView) (s : Shown) (l : Graph) → length c.notes ≤ 65536 → IsFilling t c s l → (t.leaves ≤ 2 ^ 41) × (2 * t.leaves ≤ t.togo + 2)
paid_for t c s l few filling =
    let is = filling.leaves in
    (omega (arith, shown_few c s (8 * t.part) is.ps is.shows, is.pages, few), omega (arith, is.saved, is.number))

-- what was read to the end of the levels
pub all_read : (now before wide leaves togo : ℕ) → now + 2 * wide ≤ before + 2 * leaves → (1 ≤ leaves → 1 ≤ wide) → 2 * leaves ≤ togo + 2 → now ≤ before + togo
all_read now before wide zero togo le some paid = omega (arith, le)
all_read now before wide (suc n) togo le some paid = omega (arith, le, some (omega arith), paid)

-- one empty leaf
pub started_filling : (q len : ℕ) (c : CacheView) (s : Shown) → IsPageLen s.page_len → len ≡ s.page_len → WithPage len 3 (8 * q) [] c s → IsFilling (started_in q) c s []
started_filling q len c s long same page =
    let x : Piece = record { low = 0; page = 0; es = [] } in
    let made = subst (λ (n : ℕ). IsMade (writer_of n []) 3 0 [] page.page) same page.made in
    let holds : HoldsPage s.page_len 3 0 (page.page ∷ []) 0 [] = record { page = page.page; at = refl; made = made } in
    let leaves : AreLeaves (started_in q) c s [] [] x = record {
      ps = page.page ∷ [];
      shows = page.shows;
      len = long;
      level = (holds, tt, tt, tt, tt);
      pages = refl;
      number = refl;
      counts = (refl, tt);
      first = (refl, refl);
      is = refl;
      items = tt;
      saved = omega arith;
    } in
    record { front = []; last = x; leaves = leaves; begins = tt }
