-- Leaves are filled from left to right.
use Rattle.std.proofs.Common.{◌≡◌, ◌<◌, ◌≤◌, ◌+◌, ◌-◌, ◌*◌, ◌^◌, ℕ, zero, suc, Bool, true, false, min, List, [], ◌∷◌, ◌++◌, length, set, take, drop, get_or, refl, sym, ◌∙◌, ap, subst, arith}
use Rattle.std.proofs.lemmas.List.{append-nil, append_assoc, length-append, length-set, map-append, take_all, drop_all}
use Rattle.std.proofs.lemmas.Option.{slice_get_past}
use Rattle.std.specs.Prelude.{Some, None, slice_get, IfSome, IsTrue, IsFalse}
use Rattle.std.specs.Option.{option_map}
use Rattle.std.specs.List.{insert}
use Rattle.px_core.specs.Shown.{Shown}
use Rattle.px_pages.specs.Entry.{Entry, bytes_of, entry_bytes}
use Rattle.px_pages.specs.Page.{IsMade, IsWritten, IsPageLen, PageWriterView, kind_of, link_of, count_of, used_at, used_of, tuples_of, writer_of, entry_of}
use Rattle.px_pages.specs.Place.{IsPlace, Turned, Overflows}
use Rattle.px_pages.specs.declared.place.Place.{Place}
use Rattle.px_pages.proofs.Writing.{made_tuples, made_kind, written_of, length-bytes_of, length-entry_bytes}
use Rattle.px_pages.proofs.Editing.{made_used, made_count_of, bytes_join}
use Rattle.px_meaning.specs.Graph.{Graph, front_len}
use Rattle.px_cache.specs.View.{CacheView, Shows, Holds, ShownAfterLoad, written_frame}
use Rattle.px_cache.proofs.Lists.{slice_get-set_same, slice_get-set_other, some_is}
use Rattle.px_cache.proofs.Shows.{write_shows, shown_few}
use Rattle.px_store.specs.Desks.{AllBelow}
use Rattle.px_btree.specs.Tree.{Piece, TreeView, HoldsPage, AreKeys, BelowNext, Begins, IsLevel, IsItem, AreItems, FirstIs, item, items, tuples, link_to}
use Rattle.px_btree.specs.Fill.{Appends, WithTuples, AreLeaves, IsFilling, IsOpen, Counts, AllBegin, AllUnder, pages_of, with_last}
use Rattle.px_btree.proofs.Putting.{keys_next}

-- a page gets another link
pub relinked : (w : PageWriterView) (k l m : ℕ) (es : List Entry) (old new : List ℕ) → IsMade w k l es old → (IsWritten w old → IsWritten w new) → kind_of new ≡ kind_of old → link_of new ≡ m → tuples_of new ≡ tuples_of old → IsMade w k m es new
relinked w k l m es old new made kept kind link same =
    let written = kept (written_of w k l es old made) in
    let one = subst (λ (x : ℕ). IsMade w x (link_of new) (tuples_of new) new) (kind ∙ made_kind w k l es old made) written in
    let two = subst (λ (x : ℕ). IsMade w k x (tuples_of new) new) link one in
    subst (λ (x : List Entry). IsMade w k m x new) (same ∙ made_tuples w k l es old made) two

-- a tuple comes behind the others
pub used_push : (es : List Entry) (e : Entry) → used_of (es ++ e ∷ []) ≡ used_of es + (13 + length e.body)
used_push es e =
    let one : length (bytes_of (e ∷ [])) ≡ 13 + length e.body = ap length (append-nil (entry_bytes e)) ∙ length-entry_bytes e in
    omega (arith, ap length (bytes_join es (e ∷ [])), length-append (bytes_of es) (bytes_of (e ∷ [])), one)

insert_end : (es : List Entry) (i : ℕ) (e : Entry) → i ≡ length es → insert es i e ≡ es ++ e ∷ []
insert_end es i e is =
    ap (λ (l : List Entry). l ++ e ∷ drop i es) (take_all i es (omega (arith, is)))
    ∙ ap (λ (l : List Entry). es ++ e ∷ l) (drop_all i es (omega (arith, is)))

behind : (place : Place) (page : List ℕ) (len k l : ℕ) (es : List Entry) → place.index ≡ count_of page → place.at ≡ used_at page → place.tuple ≡ None → IsMade (writer_of len es) k l es page → IsPlace place page
behind place page len k l es index at none made =
    let es_is : tuples_of page ≡ es = made_tuples (writer_of len es) k l es page made in
    let count : place.index ≡ length es = index ∙ made_count_of len k l es page made in
    let nothing : slice_get (tuples_of page) place.index ≡ None = ap (λ (x : List Entry). slice_get x place.index) es_is ∙ slice_get_past es place.index (omega (arith, count)) in
    record {
      index = omega (arith, count, ap (λ (x : List Entry). length x) es_is);
      at = at ∙ made_used len k l es page made ∙ ap used_of (sym (take_all place.index es (omega (arith, count)))) ∙ ap (λ (x : List Entry). used_of (take place.index x)) (sym es_is);
      tuple = ap (option_map (λ t. entry_of t page)) none ∙ sym nothing;
      within = subst (λ o. IfSome o (λ t. t.at + t.len ≤ length page)) (sym none) tt;
    }

pub appended : (b : Bool) (e : Entry) (place : Place) (old new : List ℕ) → place.index ≡ count_of old → place.at ≡ used_at old → place.tuple ≡ None
    → (IsTrue b → IsPlace place old → Turned (λ (es : List Entry). insert es place.index e) old new) → (IsFalse b → IsPlace place old → Overflows 0 (front_len + length e.body) old) → Appends e old new
appended true e place old new index at none put full len k l es made fits =
    let is = behind place old len k l es index at none made in
    subst (λ (fs : List Entry). IsMade (writer_of len fs) k l fs new) (insert_end es place.index e (index ∙ made_count_of len k l es old made)) (put refl is len k l es made)
appended false e place old new index at none put full len k l es made fits =
    let is = behind place old len k l es index at none made in
    absurd (omega (arith, full refl is len k l es made, fits, used_push es e))

-- lists of pages
abbrev pub with_es : Piece → List Entry → Piece
with_es x fs = record { low = x.low; page = x.page; es = fs }

pub get_left : (ps qs : List (List ℕ)) (p : ℕ) → p < length ps → slice_get (ps ++ qs) p ≡ slice_get ps p
get_left [] qs p lt = absurd (omega (arith, lt))
get_left (x ∷ ps) qs zero lt = refl
get_left (x ∷ ps) qs (suc p) lt = get_left ps qs p (omega (arith, lt))

pub get_next : (ps qs : List (List ℕ)) (x : List ℕ) (p : ℕ) → p ≡ length ps → slice_get (ps ++ x ∷ qs) p ≡ Some x
get_next [] qs x zero is = refl
get_next [] qs x (suc p) is = absurd (cc is)
get_next (y ∷ ps) qs x zero is = absurd (cc is)
get_next (y ∷ ps) qs x (suc p) is = get_next ps qs x p (omega (arith, is))

pub tuples_join : (xs ys : List Piece) → tuples (xs ++ ys) ≡ tuples xs ++ tuples ys
tuples_join [] ys = refl
tuples_join (x ∷ xs) ys = ap (λ (l : List Entry). x.es ++ l) (tuples_join xs ys) ∙ sym (append_assoc x.es (tuples xs) (tuples ys))

tuples_end : (xs : List Piece) (x : Piece) → tuples (xs ++ x ∷ []) ≡ tuples xs ++ x.es
tuples_end xs x = tuples_join xs (x ∷ []) ∙ ap (λ (l : List Entry). tuples xs ++ l) (append-nil x.es)

items_both : (len : ℕ) (es fs : List Entry) → AreItems len es → AreItems len fs → AreItems len (es ++ fs)
items_both len [] fs all more = more
items_both len (e ∷ es) fs all more = (all.0, items_both len es fs all.1 more)

below_right : (v : ℕ) (es fs : List Entry) → AllBelow v (items (es ++ fs)) → AllBelow v (items fs)
below_right v [] fs all = all
below_right v (e ∷ es) fs all = below_right v es fs all.1

items_right : (len : ℕ) (es fs : List Entry) → AreItems len (es ++ fs) → AreItems len fs
items_right len [] fs all = all
items_right len (e ∷ es) fs all = items_right len es fs all.1

-- the keys of a page before a greater one
keys_push : (low : ℕ) (es : List Entry) (e : Entry) → low ≤ e.key → AllBelow e.key (items es) → AreKeys low es [] → AreKeys low (es ++ e ∷ []) []
keys_push low [] e le below keys = (le, tt, tt)
keys_push low (d ∷ es) e le below keys = (keys.0, tt, keys_push (d.key + 1) es e (omega (arith, below.0)) below.1 keys.2)

keys_before : (low v : ℕ) (es : List Entry) (y : Piece) (ys : List Piece) → y.low ≡ v → AllBelow v (items es) → AreKeys low es [] → AreKeys low es (y ∷ ys)
keys_before low v [] y ys is below keys = tt
keys_before low v (d ∷ es) y ys is below keys = (keys.0, omega (arith, below.0, is), keys_before (d.key + 1) v es y ys is below.1 keys.2)

-- the last leaf gets other tuples, and others come behind it
link_same : (xs : List Piece) (x : Piece) (fs : List Entry) (ys : List Piece) → link_to (xs ++ x ∷ []) ≡ link_to (xs ++ with_es x fs ∷ ys)
link_same [] x fs ys = refl
link_same (z ∷ zs) x fs ys = refl

next_same : (k : ℕ) (xs : List Piece) (x : Piece) (fs : List Entry) (ys : List Piece) → BelowNext k (xs ++ x ∷ []) → BelowNext k (xs ++ with_es x fs ∷ ys)
next_same k [] x fs ys next = next
next_same k (z ∷ zs) x fs ys next = next

level_more : (len : ℕ) (ps qs : List (List ℕ)) (n : ℕ) (xs : List Piece) (x : Piece) (fs : List Entry) (ys : List Piece) → AllUnder n (pages_of xs) → ((p : ℕ) → p < n → slice_get qs p ≡ slice_get ps p)
    → HoldsPage len 3 (link_to ys) qs x.page fs → AreKeys x.low fs ys → BelowNext x.low ys → IsLevel len true qs ys → IsLevel len true ps (xs ++ x ∷ []) → IsLevel len true qs (xs ++ with_es x fs ∷ ys)
level_more len ps qs n [] x fs ys under same page keys next rest level = (page, keys, next, tt, rest)
level_more len ps qs n (z ∷ zs) x fs ys under same page keys next rest level =
    let old = level.0 in
    let new : HoldsPage len 3 (link_to (zs ++ with_es x fs ∷ ys)) qs z.page z.es = record {
      page = old.page;
      at = same z.page under.0 ∙ old.at;
      made = subst (λ (l : ℕ). IsMade (writer_of len z.es) 3 l z.es old.page) (link_same zs x fs ys) old.made;
    } in (
      new,
      keys_next z.low z.es (zs ++ x ∷ []) (zs ++ with_es x fs ∷ ys) (λ k. next_same k zs x fs ys) level.1,
      next_same z.low zs x fs ys level.2,
      tt,
      level_more len ps qs n zs x fs ys under.1 same page keys next rest level.4,
    )

level_last : (len : ℕ) (ps : List (List ℕ)) (xs : List Piece) (x : Piece) → IsLevel len true ps (xs ++ x ∷ []) → IsLevel len true ps (x ∷ [])
level_last len ps [] x level = level
level_last len ps (z ∷ zs) x level = level_last len ps zs x level.4

-- the numbers of the pages
pub counts_last : (n : ℕ) (xs : List Piece) (x : Piece) → Counts n (pages_of (xs ++ x ∷ [])) → x.page ≡ n + length xs
counts_last n [] x counts = omega (arith, counts.0)
counts_last n (z ∷ zs) x counts = omega (arith, counts_last (n + 1) zs x counts.1)

pub counts_under : (n m : ℕ) (xs ys : List Piece) → Counts n (pages_of (xs ++ ys)) → n + length xs ≤ m → AllUnder m (pages_of xs)
counts_under n m [] ys counts le = tt
counts_under n m (z ∷ zs) ys counts le = (omega (arith, counts.0, le), counts_under (n + 1) m zs ys counts.1 (omega (arith, le)))

pub counts_push : (n : ℕ) (xs : List Piece) (y : Piece) → Counts n (pages_of xs) → y.page ≡ n + length xs → Counts n (pages_of (xs ++ y ∷ []))
counts_push n [] y counts is = (omega (arith, is), tt)
counts_push n (z ∷ zs) y counts is = (counts.0, counts_push (n + 1) zs y counts.1 (omega (arith, is)))

counts_with : (n : ℕ) (xs : List Piece) (x : Piece) (fs : List Entry) → Counts n (pages_of (xs ++ x ∷ [])) → Counts n (pages_of (xs ++ with_es x fs ∷ []))
counts_with n [] x fs counts = counts
counts_with n (z ∷ zs) x fs counts = (counts.0, counts_with (n + 1) zs x fs counts.1)

first_with : (xs : List Piece) (x : Piece) (fs : List Entry) (ys : List Piece) → FirstIs 0 (xs ++ x ∷ []) → FirstIs 0 (xs ++ with_es x fs ∷ ys)
first_with [] x fs ys is = is
first_with (z ∷ zs) x fs ys is = is

-- each page but the first begins with its least key
begins_last : (xs : List Piece) (x : Piece) → AllBegin (xs ++ x ∷ []) → Begins false x.low x.es
begins_last [] x all = all.0
begins_last (z ∷ zs) x all = begins_last zs x all.1

pub begins_push : (xs : List Piece) (y : Piece) → AllBegin xs → Begins false y.low y.es → AllBegin (xs ++ y ∷ [])
begins_push [] y all this = (this, tt)
begins_push (z ∷ zs) y all this = (all.0, begins_push zs y all.1 this)

begins_with : (xs : List Piece) (x : Piece) (fs : List Entry) → (Begins false x.low x.es → Begins false x.low fs) → AllBegin (xs ++ x ∷ []) → AllBegin (xs ++ with_es x fs ∷ [])
begins_with [] x fs on all = (on all.0, tt)
begins_with (z ∷ zs) x fs on all = (all.0, begins_with zs x fs on all.1)

drop_with : (xs : List Piece) (x : Piece) (fs : List Entry) → (Begins false x.low x.es → Begins false x.low fs) → AllBegin (drop 1 (xs ++ x ∷ [])) → AllBegin (drop 1 (xs ++ with_es x fs ∷ []))
drop_with [] x fs on all = tt
drop_with (z ∷ zs) x fs on all = begins_with zs x fs on all

drop_push : (xs : List Piece) (x y : Piece) → AllBegin (drop 1 (xs ++ x ∷ [])) → Begins false y.low y.es → AllBegin (drop 1 ((xs ++ x ∷ []) ++ y ∷ []))
drop_push [] x y all this = (this, tt)
drop_push (z ∷ zs) x y all this = begins_push (zs ++ x ∷ []) y all this

begin_push : (low : ℕ) (es : List Entry) (e : Entry) → Begins false low es → Begins false low (es ++ e ∷ [])
begin_push low [] e is = absurd is
begin_push low (d ∷ es) e is = is

low_below : (low : ℕ) (es : List Entry) (e : Entry) → Begins false low es → AllBelow e.key (items es) → low ≤ e.key
low_below low [] e is below = absurd is
low_below low (d ∷ es) e is below = omega (arith, is, below.0)

last_low : (xs : List Piece) (x : Piece) (e : Entry) → FirstIs 0 (xs ++ x ∷ []) → AllBegin (drop 1 (xs ++ x ∷ [])) → AllBelow e.key (items x.es) → x.low ≤ e.key
last_low [] x e first all below = omega (arith, first.1)
last_low (z ∷ zs) x e first all below = low_below x.low x.es e (begins_last zs x all) below

low_under : (low : ℕ) (es : List Entry) (v : ℕ) → 1 ≤ length es → AreKeys low es [] → AllBelow v (items es) → low < v
low_under low [] v some keys below = absurd (omega (arith, some))
low_under low (d ∷ es) v some keys below = omega (arith, keys.0, below.0)

-- the file is shown by another cache
pub leaves_kept : (t : TreeView) (c c' : CacheView) (s s' : Shown) (l : Graph) (front : List Piece) (last : Piece) → (is : AreLeaves t c s l front last) → s'.page_len ≡ s.page_len → Shows c' s' (8 * t.part) is.ps → AreLeaves t c' s' l front last
leaves_kept t c c' s s' l front last is len shows = record {
  ps = is.ps;
  shows = shows;
  len = subst IsPageLen (sym len) is.len;
  level = subst (λ (n : ℕ). IsLevel n true is.ps (front ++ last ∷ [])) (sym len) is.level;
  pages = is.pages;
  number = is.number;
  counts = is.counts;
  first = is.first;
  items = subst (λ (n : ℕ). AreItems n (tuples (front ++ last ∷ []))) (sym len) is.items;
  is = is.is;
  saved = is.saved;
}

below_last : (t : TreeView) (c : CacheView) (s : Shown) (l : Graph) (v : ℕ) (front : List Piece) (last : Piece) → AreLeaves t c s l front last → AllBelow v l → AllBelow v (items last.es)
below_last t c s l v front last is all =
    below_right v (tuples front) last.es (subst (λ (es : List Entry). AllBelow v (items es)) (tuples_end front last) (subst (AllBelow v) is.is all))

items_last : (t : TreeView) (c : CacheView) (s : Shown) (l : Graph) (front : List Piece) (last : Piece) → AreLeaves t c s l front last → AreItems s.page_len last.es
items_last t c s l front last is = items_right s.page_len (tuples front) last.es (subst (AreItems s.page_len) (tuples_end front last) is.items)

-- two tuples have room in an empty page
room_for : (len : ℕ) (es : List Entry) (e : Entry) → IsPageLen len → length es ≤ 1 → AreItems len es → IsItem len e → used_of (es ++ e ∷ []) ≤ len
room_for len [] e long few all this = omega (arith, long, this.room, used_push [] e)
room_for len (d ∷ []) e long few all this = omega (arith, long, this.room, all.0.room, used_push (d ∷ []) e, used_push [] d)
room_for len (d ∷ f ∷ es) e long few all this = absurd (omega (arith, few))

fits_when : (len count : ℕ) (es : List Entry) (e : Entry) → IsPageLen len → count ≡ length es → AreItems len es → IsItem len e → (2 ≤ count → used_of (es ++ e ∷ []) ≤ len) → used_of (es ++ e ∷ []) ≤ len
fits_when len zero es e long is all this room = room_for len es e long (omega (arith, is)) all this
fits_when len (suc zero) es e long is all this room = room_for len es e long (omega (arith, is)) all this
fits_when len (suc (suc n)) es e long is all this room = room (omega arith)

-- the last leaf's page is in the frame
last_page : (t : TreeView) (c : CacheView) (s : Shown) (l : Graph) (front : List Piece) (last : Piece) (i : ℕ) → (is : AreLeaves t c s l front last) → Holds c.notes i (8 * t.part) last.page
    → IsMade (writer_of s.page_len last.es) 3 0 last.es (get_or c.frames i [])
last_page t c s l front last i is holds =
    let here = (level_last s.page_len is.ps front last is.level).0 in
    let same : here.page ≡ get_or c.frames i [] = some_is (sym here.at ∙ is.shows.held i last.page holds) in
    subst (λ (b : List ℕ). IsMade (writer_of s.page_len last.es) 3 0 last.es b) same here.made

pub last_number : (t : TreeView) (c : CacheView) (s : Shown) (l : Graph) (front : List Piece) (last : Piece) → AreLeaves t c s l front last → last.page ≡ t.leaves - 1
last_number t c s l front last is = omega (arith, counts_last 0 front last is.counts, is.number)

-- the last leaf was loaded
pub leaf_loaded : (t : TreeView) (c c' : CacheView) (s s' : Shown) (l : Graph) (front : List Piece) (last : Piece) (at : ℕ) → AreLeaves t c s l front last → at ≡ t.leaves - 1 → s'.page_len ≡ s.page_len → ShownAfterLoad (8 * t.part) at c s c' s'
    → AreLeaves t c' s' l front last
leaf_loaded t c c' s s' l front last at is here len load =
    leaves_kept t c c' s s' l front last is len (load (8 * t.part) is.ps (λ e. omega (arith, here, is.pages, is.number)) is.shows)

-- it has room for the tuple
pub open_here : (t : TreeView) (c : CacheView) (s : Shown) (l : Graph) (e : Entry) (i : ℕ) (front : List Piece) (last : Piece) (b : List ℕ) → (is : AreLeaves t c s l front last) → AllBegin (drop 1 (front ++ last ∷ [])) → IsItem s.page_len e → AllBelow e.key l
    → Holds c.notes i (8 * t.part) last.page → b ≡ get_or c.frames i [] → (2 ≤ count_of b → used_at b + 13 + length e.body ≤ length b) → length b ≡ s.page_len → IsOpen t c s l e i
open_here t c s l e i front last b is begins this all holds same room len =
    let below = below_last t c s l e.key front last is all in
    let made = subst (λ (x : List ℕ). IsMade (writer_of s.page_len last.es) 3 0 last.es x) (sym same) (last_page t c s l front last i is holds) in
    let used = made_used s.page_len 3 0 last.es b made in
    record {
      front = front;
      last = last;
      leaves = is;
      begins = drop_with front last (last.es ++ e ∷ []) (begin_push last.low last.es e) begins;
      holds = holds;
      keys = keys_push last.low last.es e (last_low front last e is.first begins below) below (level_last s.page_len is.ps front last is.level).1;
      fits = fits_when s.page_len (count_of b) last.es e is.len (made_count_of s.page_len 3 0 last.es b made) (items_last t c s l front last is) this (λ two. omega (arith, room two, used, len, used_push last.es e));
    }

-- the next leaf is begun behind it
pub open_next : (t : TreeView) (c c2 : CacheView) (s s2 : Shown) (l : Graph) (e : Entry) (i j : ℕ) (front : List Piece) (last : Piece) (b b1 : List ℕ) (many : ℕ) → (is : AreLeaves t c s l front last) → AllBegin (drop 1 (front ++ last ∷ [])) → IsItem s.page_len e → AllBelow e.key l
    → length c.notes ≤ 65536 → length c.notes ≡ length c.frames → Holds c.notes i (8 * t.part) last.page → b ≡ get_or c.frames i [] → 2 ≤ count_of b → (IsWritten (writer_of s.page_len last.es) b → IsWritten (writer_of s.page_len last.es) b1) → kind_of b1 ≡ kind_of b → link_of b1 ≡ min (t.leaves + 1) (2 ^ 64 - 1) → tuples_of b1 ≡ tuples_of b
    → ((ps : List (List ℕ)) → t.leaves ≡ length ps → Shows (written_frame c i b1) s (8 * t.part) ps → WithTuples s.page_len 3 0 (8 * t.part) [] ps c2 s2) → Holds c2.notes j (8 * t.part) t.leaves → s2.page_len ≡ s.page_len → many ≡ min (t.leaves + 1) (2 ^ 64 - 1)
    → IsOpen (record t { leaves = many; pages = many }) c2 s2 l e j
open_next t c c2 s s2 l e i j front last b b1 many is begins this all few whole holds same two kept kind link same_tuples begun holds2 len2 many_is =
    let len = s.page_len in
    let below = below_last t c s l e.key front last is all in
    let made = subst (λ (x : List ℕ). IsMade (writer_of len last.es) 3 0 last.es x) (sym same) (last_page t c s l front last i is holds) in
    let number = counts_last 0 front last is.counts in
    let small = shown_few c s (8 * t.part) is.ps is.shows in
    let next : min (t.leaves + 1) (2 ^ 64 - 1) ≡ t.leaves + 1 = omega (arith, small, few, is.pages) in
    let made1 = relinked (writer_of len last.es) 3 0 (t.leaves + 1) last.es b b1 made kept kind (link ∙ next) same_tuples in
    let set_ps = set is.ps last.page b1 in
    let long : length set_ps ≡ t.leaves = length-set is.ps last.page b1 ∙ is.pages in
    let added = begun set_ps (sym long) (write_shows c s i (8 * t.part) last.page b1 whole holds is.ps is.shows) in
    let qs = set_ps ++ added.page ∷ [] in
    let y : Piece = record { low = e.key; page = t.leaves; es = [] } in
    let t' : TreeView = record t { leaves = many; pages = many } in
    let front' = front ++ with_es last last.es ∷ [] in
    let within : last.page < length is.ps = omega (arith, number, is.number, is.pages) in
    let join : front ++ with_es last last.es ∷ y ∷ [] ≡ front' ++ y ∷ [] = sym (append_assoc front (with_es last last.es ∷ []) (y ∷ [])) in
    let under = counts_under 0 last.page front (last ∷ []) is.counts (omega (arith, number)) in
    let others : (p : ℕ) → p < last.page → slice_get qs p ≡ slice_get is.ps p = λ p lt. get_left set_ps (added.page ∷ []) p (omega (arith, lt, within, long, is.pages)) ∙ slice_get-set_other is.ps last.page p b1 (λ x. omega (arith, lt, x)) in
    let here : HoldsPage len 3 (t.leaves + 1) qs last.page last.es = record {
      page = b1;
      at = get_left set_ps (added.page ∷ []) last.page (omega (arith, within, long, is.pages)) ∙ slice_get-set_same is.ps last.page b1 within;
      made = made1;
    } in
    let there : HoldsPage len 3 0 qs t.leaves [] = record { page = added.page; at = get_next set_ps [] added.page t.leaves (sym long); made = added.made } in
    let keys = keys_before last.low e.key last.es y [] refl below (level_last len is.ps front last is.level).1 in
    let count : 2 ≤ length last.es = omega (arith, two, made_count_of len 3 0 last.es b made) in
    let lower : last.low < e.key = low_under last.low last.es e.key (omega (arith, count)) (level_last len is.ps front last is.level).1 below in
    let level = level_more len is.ps qs last.page front last last.es (y ∷ []) under others here keys lower (there, tt, tt, tt, tt) is.level in
    let same_all : tuples (front' ++ y ∷ []) ≡ tuples (front ++ last ∷ []) = tuples_end front' y ∙ append-nil (tuples front') ∙ tuples_end front (with_es last last.es) ∙ sym (tuples_end front last) in
    let wide : length front' ≡ length front + 1 = length-append front (with_es last last.es ∷ []) in
    let leaves : AreLeaves t' c2 s2 l front' y = record {
      ps = qs;
      shows = added.shows;
      len = subst IsPageLen (sym len2) is.len;
      level = subst (λ (n : ℕ). IsLevel n true qs (front' ++ y ∷ [])) (sym len2) (subst (IsLevel len true qs) join level);
      pages = omega (arith, length-append set_ps (added.page ∷ []), long, many_is, next);
      number = omega (arith, wide, is.number, many_is, next);
      counts = counts_push 0 front' y (counts_with 0 front last last.es is.counts) (omega (arith, wide, is.number));
      first = subst (FirstIs 0) join (first_with front last last.es (y ∷ []) is.first);
      items = subst (λ (n : ℕ). AreItems n (tuples (front' ++ y ∷ []))) (sym len2) (subst (AreItems len) (sym same_all) is.items);
      is = is.is ∙ ap items (sym same_all);
      saved = omega (arith, wide, is.saved, count);
    } in
    record {
      front = front';
      last = y;
      leaves = leaves;
      begins = drop_push front (with_es last last.es) (with_last e y) (drop_with front last last.es (λ x. x) begins) refl;
      holds = holds2;
      keys = (omega arith, tt, tt);
      fits = subst (λ (n : ℕ). used_of (e ∷ []) ≤ n) (sym len2) (room_for len [] e is.len (omega arith) tt this);
    }

-- the tuple is put
pub filled_more : (t : TreeView) (c : CacheView) (s : Shown) (l : Graph) (e : Entry) (i togo : ℕ) (b0 b : List ℕ) → IsOpen t c s l e i → IsItem s.page_len e → length c.notes ≤ 65536 → length c.notes ≡ length c.frames → b0 ≡ get_or c.frames i [] → Appends e b0 b → togo ≡ min (t.togo + 1) (2 ^ 64 - 1)
    → IsFilling (record t { togo = togo }) (written_frame c i b) s (l ++ item e ∷ [])
filled_more t c s l e i togo b0 b way this few whole same put togo_is =
    let is = way.leaves in
    let front = way.front in
    let last = way.last in
    let len = s.page_len in
    let fs = last.es ++ e ∷ [] in
    let number = counts_last 0 front last is.counts in
    let made = put len 3 0 last.es (subst (λ (x : List ℕ). IsMade (writer_of len last.es) 3 0 last.es x) (sym same) (last_page t c s l front last i is way.holds)) way.fits in
    let qs = set is.ps last.page b in
    let within : last.page < length is.ps = omega (arith, number, is.number, is.pages) in
    let here : HoldsPage len 3 0 qs last.page fs = record { page = b; at = slice_get-set_same is.ps last.page b within; made = made } in
    let under = counts_under 0 last.page front (last ∷ []) is.counts (omega (arith, number)) in
    let others : (p : ℕ) → p < last.page → slice_get qs p ≡ slice_get is.ps p = λ p lt. slice_get-set_other is.ps last.page p b (λ x. omega (arith, lt, x)) in
    let level = level_more len is.ps qs last.page front last fs [] under others here way.keys tt tt is.level in
    let small = shown_few c s (8 * t.part) is.ps is.shows in
    let count : 13 * length fs ≤ 1048576 = omega (arith, length-bytes_of fs, way.fits, is.len) in
    let longer : length fs ≡ length last.es + 1 = length-append last.es (e ∷ []) in
    let more : tuples (front ++ with_es last fs ∷ []) ≡ tuples (front ++ last ∷ []) ++ e ∷ [] =
    tuples_end front (with_es last fs) ∙ sym (append_assoc (tuples front) last.es (e ∷ [])) ∙ ap (λ (es : List Entry). es ++ e ∷ []) (sym (tuples_end front last)) in
    let leaves : AreLeaves (record t { togo = togo }) (written_frame c i b) s (l ++ item e ∷ []) front (with_es last fs) = record {
      ps = qs;
      shows = write_shows c s i (8 * t.part) last.page b whole way.holds is.ps is.shows;
      len = is.len;
      level = level;
      pages = length-set is.ps last.page b ∙ is.pages;
      number = is.number;
      counts = counts_with 0 front last fs is.counts;
      first = first_with front last fs [] is.first;
      items = subst (AreItems len) (sym more) (items_both len (tuples (front ++ last ∷ [])) (e ∷ []) is.items (this, tt));
      is = ap (λ (g : Graph). g ++ item e ∷ []) is.is ∙ sym (map-append item (tuples (front ++ last ∷ [])) (e ∷ [])) ∙ ap items (sym more);
      saved = omega (arith, togo_is, is.saved, longer, is.number, is.pages, small, few, count);
    } in
    record { front = front; last = with_es last fs; leaves = leaves; begins = way.begins }
