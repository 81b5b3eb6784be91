-- Writers of the partitions: one of them is changed, and the others keep what they took.
use Rattle.std.proofs.Common.{◌≡◌, ◌≤◌, ◌<◌, ◌≢◌, ℕ, zero, suc, ◌+◌, ◌^◌, ◌==◌, List, [], ◌∷◌, ◌++◌, length, map, filter, Bool, true, false, sym, ◌∙◌, ap, subst, refl, inl, inr, arith}
use Rattle.std.specs.Prelude.{Option, Some, None, slice_index_or, slice_set}
use Rattle.std.specs.List.{refill}
use Rattle.std.proofs.lemmas.Bool.{cases_eq, eq-eqb, ne_eqb}
use Rattle.std.proofs.lemmas.List.{get_or-set_same, get_or-set_other, length-set, map-append, append-nil, get_or_append_left, length-append}
use Rattle.std.proofs.Math.Seq.{get_or-append_seam}
use Rattle.std.proofs.lemmas.List.Elements.{filter-append}
use Rattle.px_core.specs.Parts.{to_part}
use Rattle.px_core.specs.Partition.{partition_of}
use Rattle.px_core.specs.Shown.{Shown, Touches, Only, Clean, Broke}
use Rattle.px_core.specs.declared.stop.Stop.{Stop}
use Rattle.px_core.proofs.Keeping.{same_by_touches}
use Rattle.px_core.proofs.Steps.{clean_more, broke_more}
use Rattle.px_frames.proofs.Slots.{refill_same}
use Rattle.px_meaning.specs.Merge.{Pairs}
use Rattle.px_stream.specs.Stream.{Holds}
use Rattle.px_stream.specs.Views.{WriterView}
use Rattle.px_stream.proofs.Kept.{took_same, has_same}
use Rattle.px_connectors.specs.Messages.{tagged}
use Rattle.px_connectors.specs.Writers.{WritersView, parts_in, writer_at, OfWriter, IsFileOf, EachWriter, WritesPart, AreWriters, TookAll, TookParts, HoldParts}
use Rattle.px_connectors.specs.Frames.{of_both}

pub of_more : (P Q : WriterView → Type 0) (o : Option WriterView) → ((w : WriterView) → P w → Q w) → OfWriter P o → OfWriter Q o
of_more P Q None more h = absurd h
of_more P Q (Some w) more h = more w h

pub of_some : (P : WriterView → Type 0) (o : Option WriterView) (w : WriterView) → o ≡ Some w → OfWriter P o → P w
of_some P o w is h = subst (OfWriter P) is h

-- a list that is lent, and comes back with one writer changed
pub set_back : (xs ys : List (Option WriterView)) (q : ℕ) (o : Option WriterView) → ys ≡ xs → refill (length xs) xs (slice_set ys q o) ≡ slice_set xs q o
set_back xs ys q o is = ap (λ (zs : List (Option WriterView)). refill (length xs) xs (slice_set zs q o)) is ∙ refill_same xs (slice_set xs q o) (length-set xs q o)

-- the writer of a partition, however it is looked up
at_any : (xs : List (Option WriterView)) (q : ℕ) (d : Option WriterView) → q < length xs → slice_index_or xs q d ≡ slice_index_or xs q None
at_any [] q d lt = absurd (omega (arith, lt))
at_any (x ∷ xs) zero d lt = refl
at_any (x ∷ xs) (suc q) d lt = at_any xs q d (omega (arith, lt))

pub writer_is : (xs ys : List (Option WriterView)) (q : ℕ) (d : Option WriterView) → ys ≡ xs → q < length xs → slice_index_or ys q d ≡ slice_index_or xs q None
writer_is xs ys q d is lt = ap (λ (zs : List (Option WriterView)). slice_index_or zs q d) is ∙ at_any xs q d lt

-- one writer is changed
pub each_set : (P Q : ℕ → WriterView → Type 0) (ws : List (Option WriterView)) (q : ℕ) (o : Option WriterView) → q < length ws → OfWriter (Q q) o
    → ((i : ℕ) (w : WriterView) → i ≢ q → P i w → Q i w) → EachWriter P ws → EachWriter Q (slice_set ws q o)
each_set P Q ws q o lt here others each i below = elim (cases_eq i q) [
  | inl e ↦ rw e (rw get_or-set_same here)
  | inr other ↦
      let was = of_more (P i) (Q i) (slice_index_or ws i None) (λ w h. others i w other h) (each i (omega (arith, below, length-set ws q o))) in
      subst (OfWriter (Q i)) (sym (get_or-set_other ws q i o None other)) was
]

-- the writer that is changed writes its file as before
pub are_set : (first len : ℕ) (pages pages' : List ℕ) (ws : List (Option WriterView)) (q : ℕ) (was o : Option WriterView) → q < length ws
    → was ≡ slice_index_or ws q None → ((f n p : ℕ) → OfWriter (WritesPart f n p) was → OfWriter (WritesPart f n p) o)
    → AreWriters (record { first = first; frame_len = len; writers = ws; pages = pages })
    → AreWriters (record { first = first; frame_len = len; writers = slice_set ws q o; pages = pages' })
are_set first len pages pages' ws q was o lt at same are =
    let long = length-set ws q o in
    record {
      some = omega (arith, long, are.some);
      most = omega (arith, long, are.most);
      last = are.last;
      len = are.len;
      each = each_set (WritesPart first len) (WritesPart first len) ws q o lt (same first len q (subst (OfWriter (WritesPart first len q)) (sym at) (are.each q lt))) (λ i w other h. h) are.each;
    }

-- the file of the writer of a partition
pub file_of : (first len q : ℕ) (o : Option WriterView) → OfWriter (WritesPart first len q) o → (f : ℕ) → IsFileOf o f → Only (first + q) f
file_of first len q None w f is = absurd w
file_of first len q (Some v) w f is = is ∙ w.file

pub clean_at : (first len q : ℕ) (ws : List (Option WriterView)) (was : Option WriterView) (a b : Shown) → EachWriter (WritesPart first len) ws → q < length ws → was ≡ slice_index_or ws q None
    → Clean (IsFileOf was) a b → Clean (Only (first + q)) a b
clean_at first len q ws was a b each lt at h =
    clean_more (IsFileOf was) (Only (first + q)) a b (file_of first len q was (subst (OfWriter (WritesPart first len q)) (sym at) (each q lt))) h

pub broke_at : (first len q : ℕ) (ws : List (Option WriterView)) (was : Option WriterView) (a b : Shown) (e : Stop) → EachWriter (WritesPart first len) ws → q < length ws → was ≡ slice_index_or ws q None
    → Broke Stop.Scratch (IsFileOf was) a b e → Broke Stop.Scratch (Only (first + q)) a b e
broke_at first len q ws was a b e each lt at h =
    broke_more Stop.Scratch (IsFileOf was) (Only (first + q)) a b e (file_of first len q was (subst (OfWriter (WritesPart first len q)) (sym at) (each q lt))) h

-- what a writer took stays where another one's file is changed
pub took_other : (tag first len i q : ℕ) (a b : Shown) (w : WriterView) (l : Pairs) → i ≢ q → Touches (Only (first + q)) a b → WritesPart first len i w → TookAll a tag w l → TookAll b tag w l
took_other tag first len i q a b w l other t writes took = record {
  front = took.front;
  took = took_same a b w (map (tagged tag) l)
      (same_by_touches (Only w.file) (Only (first + q)) a b (λ f own is. other (omega (arith, own, is, writes.file))) t) took.took;
}

-- so do the pages of another one's file
pub holds_other : (first i q pages : ℕ) (a b : Shown) (l : Pairs) (tag : ℕ) → i ≢ q → Touches (Only (first + q)) a b → Holds a (first + i) pages (map (tagged tag) l) → Holds b (first + i) pages (map (tagged tag) l)
holds_other first i q pages a b l tag other t holds =
    has_same a b (first + i) 0 pages (map (tagged tag) l) (same_by_touches (Only (first + i)) (Only (first + q)) a b (λ f own is. other (omega (arith, own, is))) t) holds

one_kept : (p : ℕ × List ℕ → Bool) (x : ℕ × List ℕ) → p x ≡ true → filter p (x ∷ []) ≡ x ∷ []
one_kept p x is = rw is refl

one_dropped : (p : ℕ × List ℕ → Bool) (x : ℕ × List ℕ) → p x ≡ false → filter p (x ∷ []) ≡ []
one_dropped p x is = rw is refl

-- what belongs to a partition once a pair is put
pub to_part-push_same : (parts q vid : ℕ) (l : Pairs) (body : List ℕ) → partition_of vid parts ≡ q → to_part parts q (l ++ (vid, body) ∷ []) ≡ to_part parts q l ++ (vid, body) ∷ []
to_part-push_same parts q vid l body is =
    let p : ℕ × List ℕ → Bool = λ e. partition_of e.0 parts == q in
    filter-append p l ((vid, body) ∷ []) ∙ ap (λ (x : Pairs). filter p l ++ x) (one_kept p (vid, body) (eq-eqb (partition_of vid parts) q is))

pub to_part-push_other : (parts q vid : ℕ) (l : Pairs) (body : List ℕ) → partition_of vid parts ≢ q → to_part parts q (l ++ (vid, body) ∷ []) ≡ to_part parts q l
to_part-push_other parts q vid l body other =
    let p : ℕ × List ℕ → Bool = λ e. partition_of e.0 parts == q in
    filter-append p l ((vid, body) ∷ []) ∙ ap (λ (x : Pairs). filter p l ++ x) (one_dropped p (vid, body) (ne_eqb (partition_of vid parts) q other)) ∙ append-nil (filter p l)

-- a pair is put to the writer of its partition
pub took_put : (tag first len : ℕ) (pages : List ℕ) (ws : List (Option WriterView)) (q vid : ℕ) (was o : Option WriterView) (a b : Shown) (l : Pairs) (body : List ℕ)
    → q < length ws → was ≡ slice_index_or ws q None → partition_of vid (length ws) ≡ q → Touches (Only (first + q)) a b
    → AreWriters (record { first = first; frame_len = len; writers = slice_set ws q o; pages = pages })
    → ((k : Pairs) → OfWriter (λ w. TookAll a tag w k) was → OfWriter (λ w. TookAll b tag w (k ++ (vid, body) ∷ [])) o)
    → TookParts a tag (record { first = first; frame_len = len; writers = ws; pages = pages }) l
    → TookParts b tag (record { first = first; frame_len = len; writers = slice_set ws q o; pages = pages }) (l ++ (vid, body) ∷ [])
took_put tag first len pages ws q vid was o a b l body lt at is t are put took =
    let long = length-set ws q o in
    let n = length ws in
    let Q : ℕ → WriterView → Type 0 = λ i w. TookAll b tag w (to_part n i (l ++ (vid, body) ∷ [])) in
    let P : ℕ → WriterView → Type 0 = λ i w. WritesPart first len i w × TookAll a tag w (to_part n i l) in
    let here : OfWriter (Q q) o = subst (λ (x : Pairs). OfWriter (λ w. TookAll b tag w x) o) (sym (to_part-push_same n q vid l body is)) (put (to_part n q l) (subst (OfWriter (λ w. TookAll a tag w (to_part n q l))) (sym at) (took.each q lt))) in
    let before : EachWriter P ws = λ i below. of_both (WritesPart first len i) (λ w. TookAll a tag w (to_part n i l)) (P i) (slice_index_or ws i None) (λ w x y. (x, y)) (took.are.each i below) (took.each i below) in
    record {
      are = are;
      each = subst (λ (k : ℕ). EachWriter (λ i w. TookAll b tag w (to_part k i (l ++ (vid, body) ∷ []))) (slice_set ws q o)) (sym long)
          (each_set P Q ws q o lt here (λ i w other h.
          subst (λ (x : Pairs). TookAll b tag w x) (sym (to_part-push_other n i vid l body (λ e. other (sym e ∙ is)))) (took_other tag first len i q a b w (to_part n i l) other t h.0 h.1)) before);
    }

pub pushed : (tag vid : ℕ) (l : Pairs) (body : List ℕ) → map (tagged tag) l ++ tagged tag (vid, body) ∷ [] ≡ map (tagged tag) (l ++ (vid, body) ∷ [])
pushed tag vid l body = sym (map-append (tagged tag) l ((vid, body) ∷ []))

-- in the midst of the start of all writers: those before this one took nothing
pub record Starting (s : Shown) (q : ℕ) (v : WritersView) : Type 0 where
  pub each : (tag i : ℕ) → i < q → OfWriter (λ w. TookAll s tag w []) (writer_at v i)

pub starting_next : (a b : Shown) (q : ℕ) (v v' : WritersView) → AreWriters v → Touches (Only (v.first + q)) a b → q < parts_in v
    → ((tag : ℕ) → OfWriter (λ w. TookAll b tag w []) (writer_at v' q)) → ((i : ℕ) → i ≢ q → writer_at v' i ≡ writer_at v i) → Starting a q v → Starting b (q + 1) v'
starting_next a b q v v' are t lt here others h = record {
  each = λ tag i below. elim (cases_eq i q) [
    | inl e ↦ rw e (here tag)
    | inr other ↦
        let was = of_both (WritesPart v.first v.frame_len i) (λ w. TookAll a tag w []) (λ w. TookAll b tag w []) (writer_at v i) (λ w x y. took_other tag v.first v.frame_len i q a b w [] other t x y)
        (are.each i (omega (arith, below, lt, other))) (h.each tag i (omega (arith, below, other))) in
        subst (OfWriter (λ w. TookAll b tag w [])) (sym (others i other)) was
  ];
}

pub started : (s : Shown) (q : ℕ) (v : WritersView) (tag : ℕ) → AreWriters v → parts_in v ≤ q → Starting s q v → TookParts s tag v []
started s q v tag are past h = record { are = are; each = λ i lt. h.each tag i (omega (arith, past, lt)) }

-- in the midst of the end of all writers: the files of those before this one hold their parts of the list, and the others took theirs
pub record Ending (s : Shown) (tag q parts first : ℕ) (v : WritersView) (l : Pairs) : Type 0 where
  pub done : (i : ℕ) → i < q → Holds s (first + i) (slice_index_or v.pages i 0) (map (tagged tag) (to_part parts i l))
  pub rest : (i : ℕ) → q ≤ i → i < parts → OfWriter (λ w. TookAll s tag w (to_part parts i l)) (writer_at v i)

pub ending_next : (a b : Shown) (tag q parts first : ℕ) (v v' : WritersView) (l : Pairs) → AreWriters v → v.first ≡ first → parts_in v ≡ parts → q < parts → Touches (Only (v.first + q)) a b
    → ((k : Pairs) → OfWriter (λ w. TookAll a tag w k) (writer_at v q) → Holds b (v.first + q) (slice_index_or v'.pages q 0) (map (tagged tag) k))
    → ((i : ℕ) → i ≢ q → writer_at v' i ≡ writer_at v i) → ((i : ℕ) → i ≢ q → slice_index_or v'.pages i 0 ≡ slice_index_or v.pages i 0)
    → Ending a tag q parts first v l → Ending b tag (q + 1) parts first v' l
ending_next a b tag q parts first v v' l are first_is parts_are lt t here others others_pages h = record {
  done = λ i below. elim (cases_eq i q) [
    | inl e ↦ rw (e, ← first_is) (here (to_part parts q l) (h.rest q (omega arith) lt))
    | inr other ↦
        subst (λ (n : ℕ). Holds b (first + i) n (map (tagged tag) (to_part parts i l))) (sym (others_pages i other))
        (holds_other first i q (slice_index_or v.pages i 0) a b (to_part parts i l) tag other (subst (λ (f : ℕ). Touches (Only (f + q)) a b) first_is t) (h.done i (omega (arith, below, other))))
  ];
  rest = λ i low below.
      let other : i ≢ q = λ e. omega (arith, low, e) in
      let was = of_both (WritesPart v.first v.frame_len i) (λ w. TookAll a tag w (to_part parts i l)) (λ w. TookAll b tag w (to_part parts i l)) (writer_at v i)
      (λ w x y. took_other tag v.first v.frame_len i q a b w (to_part parts i l) other t x y) (are.each i (omega (arith, below, parts_are))) (h.rest i (omega (arith, low)) below) in
      subst (OfWriter (λ w. TookAll b tag w (to_part parts i l))) (sym (others i other)) was;
}

pub ended : (s : Shown) (tag q parts first : ℕ) (v : WritersView) (l : Pairs) → parts ≤ 16 → parts ≤ q → Ending s tag q parts first v l → HoldParts s tag first parts v.pages l
ended s tag q parts first v l most past h = record { most = most; each = λ i lt. h.done i (omega (arith, past, lt)) }

-- all writers are turned to other files
pub are_turned : (first first' len : ℕ) (pages : List ℕ) (ws ws' : List (Option WriterView)) → length ws' ≡ length ws → first' + 16 ≤ 2 ^ 31
    → (EachWriter (WritesPart first len) ws → EachWriter (WritesPart first' len) ws')
    → AreWriters (record { first = first; frame_len = len; writers = ws; pages = pages })
    → AreWriters (record { first = first'; frame_len = len; writers = ws'; pages = pages })
are_turned first first' len pages ws ws' long last each are = record {
  some = omega (arith, long, are.some);
  most = omega (arith, long, are.most);
  last = last;
  len = are.len;
  each = each are.each;
}

-- the last writer is taken out
pub each_init : (P : ℕ → WriterView → Type 0) (xs ys : List (Option WriterView)) (o : Option WriterView) → xs ≡ ys ++ o ∷ [] → EachWriter P xs → EachWriter P ys
each_init P xs ys o is each q lt =
    let all : EachWriter P (ys ++ o ∷ []) = subst (EachWriter P) is each in
    subst (OfWriter (P q)) (get_or_append_left ys (o ∷ []) None q lt) (all q (omega (arith, lt, length-append ys (o ∷ []))))

pub each_last : (P : ℕ → WriterView → Type 0) (xs ys : List (Option WriterView)) (o : Option WriterView) → xs ≡ ys ++ o ∷ [] → EachWriter P xs → OfWriter (P (length ys)) o
each_last P xs ys o is each =
    let all : EachWriter P (ys ++ o ∷ []) = subst (EachWriter P) is each in
    subst (OfWriter (P (length ys))) (get_or-append_seam ys o [] None) (all (length ys) (omega (arith, length-append ys (o ∷ []))))
