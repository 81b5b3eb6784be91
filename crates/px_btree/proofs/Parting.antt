-- A page and its copy become the two parts, in a cache.
use Rattle.std.proofs.Common.{◌≡◌, ◌<◌, ◌≤◌, ◌+◌, ℕ, zero, suc, Bool, List, [], ◌∷◌, ◌++◌, length, set, get_or, replicate, refl, sym, ◌∙◌, ap, subst, arith}
use Rattle.std.proofs.lemmas.List.{length-set}
use Rattle.std.proofs.lemmas.Option.{slice_get_within}
use Rattle.std.specs.Prelude.{Some}
use Rattle.px_core.specs.Shown.{Shown}
use Rattle.px_pages.specs.Entry.{Entry}
use Rattle.px_pages.specs.Page.{IsMade, tuples_of, writer_of}
use Rattle.px_pages.proofs.Writing.{made_tuples}
use Rattle.px_cache.specs.declared.note.Note.{Note}
use Rattle.px_cache.specs.View.{CacheView, Shows, ShownAfterNew, OthersShown, Holds, NoPins, TwoFree, written_frame}
use Rattle.px_cache.proofs.Lists.{some_is, length-mark}
use Rattle.px_cache.proofs.Shows.{write_shows, write_others, mark_holds}
use Rattle.px_btree.specs.Split.{CutShown, CutsFor, IsFirst, IsSecond, IsCrowded, Parts, left_part}
use Rattle.px_btree.specs.Tree.{Piece}
use Rattle.px_btree.proofs.Starting.{set_last}
use Rattle.px_btree.proofs.Splitting.{added_before}

pub two_free : (ns : List Note) → NoPins ns → TwoFree ns
two_free ns is = record { one = 0; two = 1; apart = λ e. absurd (omega (arith, e)); one_free = is.free 0 (omega (arith, is.some)); two_free = is.free 1 (omega (arith, is.some)) }

pub get_set_same : (xs : List (List ℕ)) (i : ℕ) (y d : List ℕ) → i < length xs → get_or (set xs i y) i d ≡ y
get_set_same [] i y d lt = absurd (omega (arith, lt))
get_set_same (x ∷ xs) zero y d lt = refl
get_set_same (x ∷ xs) (suc i) y d lt = get_set_same xs i y d (omega (arith, lt))

get_set_other : (xs : List (List ℕ)) (i j : ℕ) (y d : List ℕ) → (i ≡ j → ⊥) → get_or (set xs j y) i d ≡ get_or xs i d
get_set_other [] i j y d other = refl
get_set_other (x ∷ xs) zero zero y d other = absurd (other refl)
get_set_other (x ∷ xs) zero (suc j) y d other = refl
get_set_other (x ∷ xs) (suc i) zero y d other = refl
get_set_other (x ∷ xs) (suc i) (suc j) y d other = get_set_other xs i j y d (λ e. other (ap suc e))

-- the bytes that the two frames have before they become the parts
pub first_old : (c1 c2 : CacheView) (i j : ℕ) (x : List ℕ) → c2 ≡ written_frame c1 j x → (i ≡ j → ⊥) → get_or c2.frames i [] ≡ get_or c1.frames i []
first_old c1 c2 i j x is other = ap (λ (v : CacheView). get_or v.frames i []) is ∙ get_set_other c1.frames i j x [] other

pub second_old : (c1 c2 : CacheView) (i j : ℕ) (x b : List ℕ) → c2 ≡ written_frame c1 j x → (i ≡ j → ⊥) → j < length c1.frames → get_or (set c2.frames i b) j [] ≡ x
second_old c1 c2 i j x b is other lt =
    get_set_other c2.frames j i b [] (λ e. other (sym e)) ∙ ap (λ (v : CacheView). get_or v.frames j []) is ∙ get_set_same c1.frames j x [] lt

set_early : (ps : List (List ℕ)) (x b : List ℕ) (p : ℕ) → p < length ps → set (ps ++ x ∷ []) p b ≡ set ps p b ++ x ∷ []
set_early [] x b p lt = absurd (omega (arith, lt))
set_early (q ∷ ps) x b zero lt = refl
set_early (q ∷ ps) x b (suc p) lt = ap (λ (l : List (List ℕ)). q ∷ l) (set_early ps x b p (omega (arith, lt)))

-- the two parts that were made
parts_made : (e : Entry) (n k c : ℕ) (first : Bool) (old one two : List ℕ) → CutsFor e.key c first old → IsFirst e c first (n + 1) old one → IsSecond e c first old two → ((r : Entry) (right : List Entry) → tuples_of two ≡ r ∷ right → k ≡ r.key)
    → (len kind link low : ℕ) (es : List Entry) (xs : List Piece) → IsCrowded e len kind link low es xs old → Parts e len kind link low n k es one two
parts_made e n k c first old one two cuts first_is second_is key len kind link low es xs crowd =
    let half = cuts e len kind link low es xs refl crowd in
    let made = subst (λ (l : List Entry). IsMade (writer_of len l) kind link l two) half.right_is (second_is len kind link es crowd.made half.right_fits) in
    record {
      left = left_part e c first es;
      r = half.r;
      right = half.right;
      whole = half.whole;
      above = half.above;
      key = key half.r half.right (made_tuples (writer_of len (half.r ∷ half.right)) kind link (half.r ∷ half.right) two made);
      first_is = first_is len kind link es crowd.made half.left_fits;
      second_is = made;
      two = λ all eight. let both = half.two all eight in (both.0, subst (λ (l : List Entry). 2 ≤ length l) half.right_is both.1);
    }

pub cut_shown : (e : Entry) (c0 c1 : CacheView) (s0 s1 : Shown) (file i j p n k at : ℕ) (first : Bool) (b second : List ℕ) (ps : List (List ℕ)) → ShownAfterNew file n c0 s0 c1 s1 → n ≡ length ps → Shows c0 s0 file ps
    → Holds c0.notes i file p → Holds c1.notes i file p → Holds c1.notes j file n → length c1.notes ≡ length c1.frames → CutsFor e.key at first (get_or c1.frames i [])
    → IsFirst e at first (n + 1) (get_or c1.frames i []) b → IsSecond e at first (get_or c1.frames i []) second → ((r : Entry) (right : List Entry) → tuples_of second ≡ r ∷ right → k ≡ r.key)
    → CutShown e p n file ps k (written_frame (written_frame (written_frame c1 j (get_or c1.frames i [])) i b) j second) s1
cut_shown e c0 c1 s0 s1 file i j p n k at first b second ps new end sh holds0 holds1 holdsj whole cuts first_is second_is key =
    let x = get_or c1.frames i [] in
    let z : List ℕ = replicate c0.len 0 in
    let at0 = sh.held i p holds0 in
    let within : p < length ps = slice_get_within ps p _ at0 in
    let shows1 = new.added ps end sh in
    let old : get_or c0.frames i [] ≡ x = some_is (sym (added_before ps z _ p at0) ∙ shows1.held i p holds1) in
    let shows2 = write_shows c1 s1 j file n x whole holdsj (ps ++ z ∷ []) shows1 in
    let c2 : CacheView = written_frame c1 j x in
    let whole2 : length c2.notes ≡ length c2.frames = length-mark c1.notes j ∙ whole ∙ sym (length-set c1.frames j x) in
    let shows3 = write_shows c2 s1 i file p b whole2 (mark_holds c1.notes j i file p holds1) (set (ps ++ z ∷ []) n x) shows2 in
    let c3 : CacheView = written_frame c2 i b in
    let whole3 : length c3.notes ≡ length c3.frames = length-mark c2.notes i ∙ whole2 ∙ sym (length-set c2.frames i b) in
    let shows4 = write_shows c3 s1 j file n second whole3 (mark_holds c2.notes i j file n (mark_holds c1.notes j j file n holdsj)) (set (set (ps ++ z ∷ []) n x) p b) shows3 in
    let pages : set (set (set (ps ++ z ∷ []) n x) p b) n second ≡ set ps p b ++ second ∷ [] =
    ap (λ (l : List (List ℕ)). set (set l p b) n second) (set_last ps z x n end) ∙ ap (λ (l : List (List ℕ)). set l n second) (set_early ps x b p within) ∙ set_last (set ps p b) x second n (end ∙ sym (length-set ps p b)) in
    record {
      old = x;
      at = at0 ∙ ap (λ (l : List ℕ). Some l) old;
      first = b;
      second = second;
      shows = subst (λ (l : List (List ℕ)). Shows (written_frame c3 j second) s1 file l) pages shows4;
      parts = parts_made e n k at first x b second cuts first_is second_is key;
    }

pub cut_others : (c0 c1 c2 : CacheView) (s0 s1 : Shown) (file i j p n : ℕ) (x b second : List ℕ) → OthersShown file c0 s0 c1 s1 → c2 ≡ written_frame c1 j x → Holds c1.notes i file p → Holds c1.notes j file n
    → OthersShown file c0 s0 (written_frame (written_frame c2 i b) j second) s1
cut_others c0 c1 c2 s0 s1 file i j p n x b second others is holds1 holdsj f ps other sh =
    let shows2 = write_others c1 s1 j file n x holdsj f ps other (others f ps other sh) in
    let c2' : CacheView = written_frame c1 j x in
    let shows3 = write_others c2' s1 i file p b (mark_holds c1.notes j i file p holds1) f ps other shows2 in
    let shows4 = write_others (written_frame c2' i b) s1 j file n second (mark_holds c2'.notes i j file n (mark_holds c1.notes j j file n holdsj)) f ps other shows3 in
    subst (λ (v : CacheView). Shows (written_frame (written_frame v i b) j second) s1 f ps) (sym is) shows4
