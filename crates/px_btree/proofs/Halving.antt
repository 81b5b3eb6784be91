-- The two parts of a page that is cut at the tuple across its middle.
use Rattle.std.proofs.Common.{◌≡◌, ◌<◌, ◌≤◌, ◌+◌, ◌*◌, ◌/◌, ℕ, suc, Bool, true, false, List, [], ◌∷◌, ◌++◌, length, take, drop, refl, sym, ◌∙◌, ap, subst, arith, inl, inr, ◌==◌, drop-cons}
use Rattle.std.proofs.Math.Seq.{take-suc}
use Rattle.std.proofs.lemmas.Bool.{cases_lt, cases_eq}
use Rattle.std.proofs.lemmas.List.{append-nil, append_assoc, length-append, take-append-drop}
use Rattle.std.proofs.lemmas.Option.{slice_get_within, get_or_from_slice_get}
use Rattle.std.specs.Prelude.{Option, Some, None, slice_get, if◌then◌else◌, not, IsTrue, IsFalse, IfSome, IfNone}
use Rattle.px_pages.specs.Entry.{Entry, entry_bytes, bytes_of, size_of}
use Rattle.px_meaning.specs.Graph.{room_of}
use Rattle.px_pages.specs.Page.{IsPageLen, IsMade, IsWritten, PageWriterView, tuples_of, used_of, kind_of, link_of, entry_of, writer_of}
use Rattle.px_pages.specs.Place.{IsPlace, Turned}
use Rattle.px_pages.specs.declared.reader.Tuple.{Tuple}
use Rattle.px_pages.specs.Children.{AreChildren}
use Rattle.px_pages.proofs.Writing.{length-entry_bytes, made_tuples, made_kind, written_of}
use Rattle.px_pages.proofs.Places.{here_at, end_at}
use Rattle.px_pages.proofs.Editing.{bytes_join}
use Rattle.px_btree.specs.Tree.{Piece, AreKeys}
use Rattle.px_btree.specs.Put.{placed, IsFullFor}
use Rattle.px_btree.specs.Split.{IsAcross, Halves, IsCrowded, CutsFor, IsFirst, IsSecond, left_part, right_part}
use Rattle.px_btree.specs.declared.split.Across.{Across}
use Rattle.px_btree.proofs.Places.{children_left, children_right}
use Rattle.px_btree.proofs.Putting.{placed_left}
use Rattle.px_btree.proofs.Splitting.{keys_least, keys_right}
use Rattle.px_btree.proofs.Orders.{not_below, below, not_equal, equal}

-- the bytes of tuples
bytes_more : (d : Entry) (es : List Entry) → length (bytes_of (d ∷ es)) ≡ size_of d + length (bytes_of es)
bytes_more d es = omega (arith, length-append (entry_bytes d) (bytes_of es), length-entry_bytes d)

pub bytes_both : (a b : List Entry) → length (bytes_of (a ++ b)) ≡ length (bytes_of a) + length (bytes_of b)
bytes_both a b = omega (arith, ap length (bytes_join a b), length-append (bytes_of a) (bytes_of b))

pub bytes_placed : (e : Entry) (es : List Entry) → length (bytes_of (placed e es)) ≤ length (bytes_of es) + size_of e
bytes_placed e [] = omega (arith, bytes_more e [])
bytes_placed e (d ∷ es) = elim (cases_lt e.key d.key) [
  | inl lt ↦ rw (below e.key d.key lt) (omega (arith, bytes_more e (d ∷ es)))
  | inr ge ↦ elim (cases_eq e.key d.key) [
    | inl same ↦ rw (not_below e.key d.key ge, equal e.key d.key same) (omega (arith, bytes_more e es, bytes_more d es))
    | inr other ↦ rw (not_below e.key d.key ge, not_equal e.key d.key other) (omega (arith, bytes_more d (placed e es), bytes_more d es, bytes_placed e es))
  ]
]

pub length_placed : (e : Entry) (es : List Entry) → length es ≤ length (placed e es)
length_placed e [] = omega arith
length_placed e (d ∷ es) = elim (cases_lt e.key d.key) [
  | inl lt ↦ rw (below e.key d.key lt) (omega arith)
  | inr ge ↦ elim (cases_eq e.key d.key) [
    | inl same ↦ rw (not_below e.key d.key ge, equal e.key d.key same) (omega arith)
    | inr other ↦ rw (not_below e.key d.key ge, not_equal e.key d.key other) (omega (arith, length_placed e es))
  ]
]

children_bytes : (es : List Entry) → AreChildren es → length (bytes_of es) ≡ 21 * length es
children_bytes [] all = refl
children_bytes (e ∷ es) all = omega (arith, bytes_more e es, all.0, children_bytes es all.1)

-- a tuple that does not go before this one
placed_past : (e d : Entry) (low : ℕ) (a b : List Entry) (xs : List Piece) → AreKeys low (a ++ d ∷ b) xs → d.key ≤ e.key → placed e (a ++ d ∷ b) ≡ a ++ placed e (d ∷ b)
placed_past e d low [] b xs keys le = refl
placed_past e d low (c ∷ a) b xs keys le =
    let lt : c.key < e.key = omega (arith, keys_least (c.key + 1) a d b xs keys.2, le) in
    rw (not_below e.key c.key (omega (arith, lt)), not_equal e.key c.key (λ same. omega (arith, lt, same))) (ap (λ (l : List Entry). c ∷ l) (placed_past e d (c.key + 1) a b xs keys.2 le))

-- some tuple is the first
record First (low : ℕ) (es : List Entry) : Type 0 where
  pub r : Entry
  pub right : List Entry
  pub is : es ≡ r ∷ right
  pub least : low ≤ r.key

placed_first : (e : Entry) (low : ℕ) (es : List Entry) (xs : List Piece) → AreKeys low es xs → low ≤ e.key → First low (placed e es)
placed_first e low [] xs keys le = record { r = e; right = []; is = refl; least = le }
placed_first e low (d ∷ es) xs keys le = elim (cases_lt e.key d.key) [
  | inl lt ↦ rw (below e.key d.key lt) (record { r = e; right = d ∷ es; is = refl; least = le })
  | inr ge ↦ elim (cases_eq e.key d.key) [
    | inl same ↦ rw (not_below e.key d.key ge, equal e.key d.key same) (record { r = e; right = es; is = refl; least = le })
    | inr other ↦ rw (not_below e.key d.key ge, not_equal e.key d.key other) (record { r = d; right = placed e es; is = refl; least = keys.0 })
  ]
]

-- the parts as two lists
abbrev left_with : Entry → Bool → List Entry → List Entry
left_with e first f = if first then placed e f else f

abbrev right_with : Entry → Bool → List Entry → List Entry
right_with e first g = if first then g else placed e g

record Halved (e : Entry) (len low : ℕ) (first : Bool) (f g : List Entry) : Type 0 where
  pub r : Entry
  pub right : List Entry
  pub right_is : right_with e first g ≡ r ∷ right
  pub whole : placed e (f ++ g) ≡ left_with e first f ++ r ∷ right
  pub above : low < r.key
  pub left_fits : used_of (left_with e first f) ≤ len
  pub right_fits : used_of (right_with e first g) ≤ len
  pub two : AreChildren (f ++ g) → length e.body ≡ 8 → (2 ≤ length (left_with e first f)) × (2 ≤ length (right_with e first g))

halves_of : (e : Entry) (len low c : ℕ) (first : Bool) (es f g : List Entry) → take c es ≡ f → drop c es ≡ g → Halved e len low first f g → Halves e len low c first es
halves_of e len low c first es f g front back is =
    let whole : es ≡ f ++ g = sym (take-append-drop c es) ∙ ap (λ (l : List Entry). l ++ drop c es) front ∙ ap (λ (l : List Entry). f ++ l) back in
    let left : left_part e c first es ≡ left_with e first f = ap (left_with e first) front in
    let right : right_part e c first es ≡ right_with e first g = ap (right_with e first) back in
    record {
      r = is.r;
      right = is.right;
      right_is = right ∙ is.right_is;
      whole = ap (placed e) whole ∙ is.whole ∙ ap (λ (l : List Entry). l ++ is.r ∷ is.right) (sym left);
      above = is.above;
      left_fits = subst (λ (l : List Entry). used_of l ≤ len) (sym left) is.left_fits;
      right_fits = subst (λ (l : List Entry). used_of l ≤ len) (sym right) is.right_fits;
      two = λ all eight.
          let both = is.two (subst AreChildren whole all) eight in
          (subst (λ (l : List Entry). 2 ≤ length l) (sym left) both.0, subst (λ (l : List Entry). 2 ≤ length l) (sym right) both.1);
    }

-- what is known of the tuple d across the middle, with a before it and b after it
record Middle (e : Entry) (len low : ℕ) (a : List Entry) (d : Entry) (b : List Entry) (xs : List Piece) : Type 0 where
  pub len_is : IsPageLen len
  pub room : size_of e ≤ room_of len
  pub keys : AreKeys low (a ++ d ∷ b) xs
  pub least : low ≤ e.key
  pub fits : 32 + (length (bytes_of a) + (size_of d + length (bytes_of b))) ≤ len
  pub front : 32 + length (bytes_of a) ≤ len / 2 + 16
  pub back : len / 2 + 16 < 32 + (length (bytes_of a) + size_of d)
  pub full : len < used_of (placed e (a ++ d ∷ b))

-- the sizes of children before and after the middle
children_sizes : (a : List Entry) (d : Entry) (b : List Entry) → AreChildren (a ++ d ∷ b) → (length (bytes_of a) ≡ 21 * length a) × (size_of d ≡ 21) × (length (bytes_of b) ≡ 21 * length b)
children_sizes a d b all =
    let right = children_right a (d ∷ b) all in
    (children_bytes a (children_left a (d ∷ b) all), omega (arith, right.0), children_bytes b right.1)

cut_before : (e : Entry) (len low : ℕ) (a : List Entry) (d : Entry) (b : List Entry) (xs : List Piece) → Middle e len low a d b xs → e.key < d.key → Halved e len low true a (d ∷ b)
cut_before e len low a d b xs is lt = record {
  r = d;
  right = b;
  right_is = refl;
  whole = placed_left e d a b lt;
  above = omega (arith, is.least, lt);
  left_fits = omega (arith, bytes_placed e a, is.front, is.room, is.len_is.0);
  right_fits = omega (arith, bytes_more d b, is.fits);
  two = λ all eight.
      let size = children_sizes a d b all in
      let whole = is.full in
      let more = bytes_placed e (a ++ d ∷ b) in
      (omega (arith, length_placed e a, size.0, size.1, is.back, is.len_is.0), omega (arith, size.0, size.1, size.2, is.front, is.len_is.0, whole, more, bytes_both a (d ∷ b), bytes_more d b, eight));
}

-- a tuple with the key of that across the middle
same_whole : (e : Entry) (len low : ℕ) (a : List Entry) (d : Entry) (b : List Entry) (xs : List Piece) → Middle e len low a d b xs → e.key ≡ d.key → placed e (a ++ d ∷ b) ≡ a ++ e ∷ b
same_whole e len low a d b xs is same =
    placed_past e d low a b xs is.keys (omega (arith, same))
    ∙ ap (λ (l : List Entry). a ++ l) (rw (not_below e.key d.key (omega (arith, same)), equal e.key d.key same) refl)

keys_one : (low : ℕ) (a : List Entry) (d : Entry) (b : List Entry) (xs : List Piece) → AreKeys low (a ++ d ∷ b) xs → AreKeys low (a ++ d ∷ []) []
keys_one low [] d b xs keys = (keys.0, tt, tt)
keys_one low (c ∷ a) d b xs keys = (keys.0, tt, keys_one (c.key + 1) a d b xs keys.2)

cut_same : (e : Entry) (len low : ℕ) (a : List Entry) (d : Entry) (b : List Entry) (xs : List Piece) → Middle e len low a d b xs → e.key ≡ d.key → Halved e len low true (a ++ d ∷ []) b
cut_same e len low a d [] xs is same =
    absurd (omega (arith, is.full, ap used_of (same_whole e len low a d [] xs is same), bytes_both a (e ∷ []), bytes_more e [], is.front, is.room, is.len_is.0))
cut_same e len low a d (r ∷ b) xs is same =
    let whole = same_whole e len low a d (r ∷ b) xs is same in
    let front : placed e (a ++ d ∷ []) ≡ a ++ e ∷ [] =
    placed_past e d low a [] [] (keys_one low a d (r ∷ b) xs is.keys) (omega (arith, same))
    ∙ ap (λ (l : List Entry). a ++ l) (rw (not_below e.key d.key (omega (arith, same)), equal e.key d.key same) refl) in
    let keys = keys_right low a d (r ∷ b) xs is.keys in
    let least = keys_least low a d (r ∷ b) xs is.keys in
    record {
      r = r;
      right = b;
      right_is = refl;
      whole =
          ap (placed e) (append_assoc a (d ∷ []) (r ∷ b)) ∙ whole ∙ sym (append_assoc a (e ∷ []) (r ∷ b))
          ∙ ap (λ (l : List Entry). l ++ r ∷ b) (sym front);
      above = omega (arith, least, keys.2.0);
      left_fits = omega (arith, ap used_of front, bytes_both a (e ∷ []), bytes_more e [], is.front, is.room, is.len_is.0);
      right_fits = omega (arith, is.fits);
      two = λ all eight.
          let size = children_sizes a d (r ∷ b) (subst AreChildren (append_assoc a (d ∷ []) (r ∷ b)) all) in
          absurd (omega (arith, is.full, ap used_of whole, bytes_both a (e ∷ r ∷ b), bytes_more e (r ∷ b), size.1, eight, is.fits));
    }

cut_after : (e : Entry) (len low : ℕ) (a : List Entry) (d : Entry) (b : List Entry) (xs : List Piece) → Middle e len low a d b xs → d.key < e.key → Halved e len low false (a ++ d ∷ []) b
cut_after e len low a d b xs is lt =
    let whole : placed e (a ++ d ∷ b) ≡ a ++ d ∷ placed e b =
    placed_past e d low a b xs is.keys (omega (arith, lt))
    ∙ ap (λ (l : List Entry). a ++ l) (rw (not_below e.key d.key (omega (arith, lt)), not_equal e.key d.key (λ same. omega (arith, lt, same))) refl) in
    let keys = keys_right low a d b xs is.keys in
    let least = keys_least low a d b xs is.keys in
    let first = placed_first e (d.key + 1) b xs keys.2 (omega (arith, lt)) in
    record {
      r = first.r;
      right = first.right;
      right_is = first.is;
      whole =
          ap (placed e) (append_assoc a (d ∷ []) b) ∙ whole ∙ sym (append_assoc a (d ∷ []) (placed e b))
          ∙ ap (λ (l : List Entry). (a ++ d ∷ []) ++ l) first.is;
      above = omega (arith, least, first.least);
      left_fits = omega (arith, bytes_both a (d ∷ []), bytes_more d [], is.fits);
      right_fits = omega (arith, bytes_placed e b, is.fits, is.back, is.room, is.len_is.0);
      two = λ all eight.
          let size = children_sizes a d b (subst AreChildren (append_assoc a (d ∷ []) b) all) in (
            omega (arith, length-append a (d ∷ []), size.0, size.1, is.back, is.len_is.0),
            omega (arith, length_placed e b, size.0, size.1, size.2, is.front, is.len_is.0, is.full, bytes_placed e (a ++ d ∷ b), bytes_both a (d ∷ b), bytes_more d b, eight),
          );
    }

-- the tuples before and behind the tuple across the middle
record Around (a : Across) (page : List ℕ) (es : List Entry) : Type 0 where
  pub front : List Entry
  pub d : Entry
  pub back : List Entry
  pub key : a.tuple.key ≡ d.key
  pub take_before : take a.before.index es ≡ front
  pub drop_before : drop a.before.index es ≡ d ∷ back
  pub take_after : take a.after.index es ≡ front ++ d ∷ []
  pub drop_after : drop a.after.index es ≡ back
  pub before : a.before.at ≡ used_of front
  pub after : a.after.at ≡ used_of (front ++ d ∷ [])

around : (a : Across) (limit : ℕ) (page : List ℕ) (es : List Entry) → IsAcross a limit page → tuples_of page ≡ es → Around a page es
around a limit page es is found =
    let m = a.before.index in
    let d = entry_of a.tuple page in
    let at : slice_get es m ≡ Some d = ap (λ (l : List Entry). slice_get l m) (sym found) ∙ is.tuple in
    let within = slice_get_within es m d at in
    let get = get_or_from_slice_get es m d d at in
    let next : a.after.index ≡ suc m = omega (arith, is.next) in
    let take_after : take a.after.index es ≡ take m es ++ d ∷ [] = ap (λ (k : ℕ). take k es) next ∙ take-suc es m d within ∙ ap (λ (x : Entry). take m es ++ x ∷ []) get in
    record {
      front = take m es;
      d = d;
      back = drop (suc m) es;
      key = refl;
      take_before = refl;
      drop_before = drop-cons es m d within ∙ ap (λ (x : Entry). x ∷ drop (suc m) es) get;
      take_after = take_after;
      drop_after = ap (λ (k : ℕ). drop k es) next;
      before = is.before.at ∙ ap (λ (l : List Entry). used_of (take m l)) found;
      after = is.after.at ∙ ap (λ (l : List Entry). used_of (take a.after.index l)) found ∙ ap used_of take_after;
    }

middle : (e : Entry) (len kind link low : ℕ) (es : List Entry) (xs : List Piece) (page : List ℕ) (a : Across) (limit : ℕ) → (on : Around a page es) → IsAcross a limit page → limit ≡ length page / 2 + 16 → IsCrowded e len kind link low es xs page
    → Middle e len low on.front on.d on.back xs
middle e len kind link low es xs page a limit on is half crowd =
    let whole : es ≡ on.front ++ on.d ∷ on.back =
    sym (take-append-drop a.before.index es) ∙ ap (λ (l : List Entry). l ++ drop a.before.index es) on.take_before ∙ ap (λ (l : List Entry). on.front ++ l) on.drop_before in
    let limit_is : limit ≡ len / 2 + 16 = half ∙ ap (λ (n : ℕ). n / 2 + 16) crowd.made.page_len in
    record {
      len_is = crowd.made.len;
      room = crowd.room;
      keys = subst (λ (l : List Entry). AreKeys low l xs) whole crowd.keys;
      least = crowd.least;
      fits = omega (arith, crowd.made.fits, ap used_of whole, bytes_both on.front (on.d ∷ on.back), bytes_more on.d on.back);
      front = omega (arith, is.low, on.before, limit_is);
      back = omega (arith, is.high, on.after, limit_is, bytes_both on.front (on.d ∷ []), bytes_more on.d []);
      full = subst (λ (l : List Entry). len < used_of (placed e l)) whole crowd.full;
    }

pub cuts_before : (v : ℕ) (page : List ℕ) (a : Across) (limit : ℕ) → IsAcross a limit page → limit ≡ length page / 2 + 16 → v < a.tuple.key → CutsFor v a.before.index true page
cuts_before v page a limit is half lt = λ e len kind link low es xs key crowd.
    let on = around a limit page es is (made_tuples (writer_of len es) kind link es page crowd.made) in
    let mid = middle e len kind link low es xs page a limit on is half crowd in
    halves_of e len low a.before.index true es on.front (on.d ∷ on.back) on.take_before on.drop_before (cut_before e len low on.front on.d on.back xs mid (omega (arith, lt, on.key, key)))

pub cuts_same : (v : ℕ) (page : List ℕ) (a : Across) (limit : ℕ) → IsAcross a limit page → limit ≡ length page / 2 + 16 → v ≡ a.tuple.key → CutsFor v a.after.index true page
cuts_same v page a limit is half same = λ e len kind link low es xs key crowd.
    let on = around a limit page es is (made_tuples (writer_of len es) kind link es page crowd.made) in
    let mid = middle e len kind link low es xs page a limit on is half crowd in
    halves_of e len low a.after.index true es (on.front ++ on.d ∷ []) on.back on.take_after on.drop_after (cut_same e len low on.front on.d on.back xs mid (omega (arith, same, on.key, key)))

pub cuts_after : (v : ℕ) (page : List ℕ) (a : Across) (limit : ℕ) → IsAcross a limit page → limit ≡ length page / 2 + 16 → a.tuple.key < v → CutsFor v a.after.index false page
cuts_after v page a limit is half lt = λ e len kind link low es xs key crowd.
    let on = around a limit page es is (made_tuples (writer_of len es) kind link es page crowd.made) in
    let mid = middle e len kind link low es xs page a limit on is half crowd in
    halves_of e len low a.after.index false es (on.front ++ on.d ∷ []) on.back on.take_after on.drop_after (cut_after e len low on.front on.d on.back xs mid (omega (arith, lt, on.key, key)))

-- behind the tuple across the middle, by the key of that
pub cuts_behind : (v : ℕ) (first : Bool) (page : List ℕ) (a : Across) (limit : ℕ) → IsAcross a limit page → limit ≡ length page / 2 + 16 → a.tuple.key ≤ v → first ≡ (v == a.tuple.key) → CutsFor v a.after.index first page
cuts_behind v first page a limit is half le first_is = elim (cases_eq v a.tuple.key) [
  | inl same ↦ subst (λ (b : Bool). CutsFor v a.after.index b page) (sym (first_is ∙ equal v a.tuple.key same)) (cuts_same v page a limit is half same)
  | inr other ↦ subst (λ (b : Bool). CutsFor v a.after.index b page) (sym (first_is ∙ not_equal v a.tuple.key other)) (cuts_after v page a limit is half (omega (arith, le, other)))
]

-- a page whose tuples end before its middle has room
pub cuts_none : (v c : ℕ) (first : Bool) (page : List ℕ) (limit : ℕ) → used_of (tuples_of page) ≤ limit → limit ≡ length page / 2 + 16 → CutsFor v c first page
cuts_none v c first page limit short half = λ e len kind link low es xs key crowd.
    let found = made_tuples (writer_of len es) kind link es page crowd.made in
    let limit_is : limit ≡ len / 2 + 16 = half ∙ ap (λ (n : ℕ). n / 2 + 16) crowd.made.page_len in
    absurd (omega (arith, crowd.full, bytes_placed e es, ap used_of found, short, limit_is, crowd.room, crowd.made.len.0))

-- a reader came to a place
pub came_to : (page : List ℕ) (i at : ℕ) (o : Option Tuple) (l l' : List Entry) → i ≤ length (tuples_of page) → at ≡ used_of (take i (tuples_of page)) → drop i (tuples_of page) ≡ l → IfNone o (l ≡ []) → IfSome o (λ t. l ≡ entry_of t page ∷ l') → IfSome o (λ t. t.at + t.len ≤ length page)
    → IsPlace (record { index = i; at = at; tuple = o }) page
came_to page i at None l l' le is left none some within = end_at page i at le is (left ∙ none)
came_to page i at (Some t) l l' le is left none some within = here_at page i at le is t l' (left ∙ some) within

pub whole_of : (i : ℕ) (ts : List Entry) → drop i ts ≡ [] → ts ≡ take i ts
whole_of i ts is = sym (take-append-drop i ts) ∙ ap (λ (l : List Entry). take i ts ++ l) is ∙ append-nil (take i ts)

-- a tuple is put into a page that has room
put_made : (e : Entry) (len kind link : ℕ) (es : List Entry) (b : Bool) (old new : List ℕ) → (IsTrue b → Turned (placed e) old new) → (IsFalse b → IsFullFor e old) → IsMade (writer_of len es) kind link es old → used_of (placed e es) ≤ len
    → IsMade (writer_of len (placed e es)) kind link (placed e es) new
put_made e len kind link es true old new put full made fits = put refl len kind link es made
put_made e len kind link es false old new put full made fits = absurd (omega (arith, full refl len kind link es made, fits))

-- a page gets another link
linked : (len kind link new : ℕ) (es : List Entry) (page now : List ℕ) → link_of now ≡ new → kind_of now ≡ kind_of page → tuples_of now ≡ tuples_of page → ((w : PageWriterView) → IsWritten w page → IsWritten w now) → IsMade (writer_of len es) kind link es page
    → IsMade (writer_of len es) kind new es now
linked len kind link new es page now is_link is_kind same written made =
    let w = writer_of len es in
    let all = written w (written_of w kind link es page made) in
    let one = subst (λ (k : ℕ). IsMade w k (link_of now) (tuples_of now) now) (is_kind ∙ made_kind w kind link es page made) all in
    let two = subst (λ (l : ℕ). IsMade w kind l (tuples_of now) now) is_link one in
    subst (λ (l : List Entry). IsMade w kind new l now) (same ∙ made_tuples w kind link es page made) two

-- the first part, and the second
pub first_with : (e : Entry) (c link : ℕ) (first b : Bool) (old mid now new : List ℕ) → first ≡ true → Turned (take c) old mid → link_of now ≡ link → kind_of now ≡ kind_of mid → tuples_of now ≡ tuples_of mid → ((w : PageWriterView) → IsWritten w mid → IsWritten w now)
    → (IsTrue b → Turned (placed e) now new) → (IsFalse b → IsFullFor e now) → IsFirst e c first link old new
first_with e c link first b old mid now new on turned is_link is_kind same written put full =
    subst (λ (f : Bool). IsFirst e c f link old new) (sym on)
    (λ len kind l es made fits. put_made e len kind link (take c es) b now new put full (linked len kind l link (take c es) mid now is_link is_kind same written (turned len kind l es made)) fits)

pub first_without : (e : Entry) (c link : ℕ) (first : Bool) (old mid now : List ℕ) → first ≡ false → Turned (take c) old mid → link_of now ≡ link → kind_of now ≡ kind_of mid → tuples_of now ≡ tuples_of mid → ((w : PageWriterView) → IsWritten w mid → IsWritten w now)
    → IsFirst e c first link old now
first_without e c link first old mid now off turned is_link is_kind same written = subst (λ (f : Bool). IsFirst e c f link old now) (sym off) (λ len kind l es made fits. linked len kind l link (take c es) mid now is_link is_kind same written (turned len kind l es made))

pub second_with : (e : Entry) (c : ℕ) (first b : Bool) (old mid new : List ℕ) → first ≡ false → Turned (drop c) old mid → (IsTrue b → Turned (placed e) mid new) → (IsFalse b → IsFullFor e mid) → IsSecond e c first old new
second_with e c first b old mid new off turned put full = subst (λ (f : Bool). IsSecond e c f old new) (sym off) (λ len kind l es made fits. put_made e len kind l (drop c es) b mid new put full (turned len kind l es made) fits)

pub second_without : (e : Entry) (c : ℕ) (first : Bool) (old mid : List ℕ) → first ≡ true → Turned (drop c) old mid → IsSecond e c first old mid
second_without e c first old mid on turned = subst (λ (f : Bool). IsSecond e c f old mid) (sym on) (λ len kind l es made fits. turned len kind l es made)

pub not_on : (b : Bool) → not b ≡ true → b ≡ false
not_on true is = absurd (cc is)
not_on false is = refl

pub not_off : (b : Bool) → not b ≡ false → b ≡ true
not_off true is = refl
not_off false is = absurd (cc is)
