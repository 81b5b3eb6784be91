-- Lists that one write changes.
use Rattle.std.proofs.Common.{◌≡◌, ◌≢◌, ◌<◌, ℕ, zero, suc, Bool, true, false, List, [], ◌∷◌, ◌++◌, length, set, map, refl, sym, ◌∙◌, ap, subst, arith}
use Rattle.std.specs.Prelude.{Some, slice_get}
use Rattle.px_frames.specs.Shares.{ShareView, SamePlaces}
use Rattle.px_cache.specs.declared.note.Note.{Note}
use Rattle.px_cache.specs.Note.{unpacked, notes_of}
use Rattle.px_cache.specs.View.{CacheView, view_of, IsCache, Holds, IsChanged, mark, clean, bare, changes, pins, IsFree}

pub some_is : {X : Type 0} {x y : X} → Some x ≡ Some y → x ≡ y
some_is h = cc h

pub slice_get-set_same : {X : Type 0} (xs : List X) (i : ℕ) (y : X) → i < length xs → slice_get (set xs i y) i ≡ Some y
slice_get-set_same [] i y lt = absurd (omega (arith, lt))
slice_get-set_same (x ∷ xs) zero y lt = refl
slice_get-set_same (x ∷ xs) (suc i) y lt = slice_get-set_same xs i y (omega (arith, lt))

pub slice_get-set_other : {X : Type 0} (xs : List X) (i j : ℕ) (y : X) → j ≢ i → slice_get (set xs i y) j ≡ slice_get xs j
slice_get-set_other [] i j y other = refl
slice_get-set_other (x ∷ xs) zero zero y other = absurd (other refl)
slice_get-set_other (x ∷ xs) zero (suc j) y other = refl
slice_get-set_other (x ∷ xs) (suc i) zero y other = refl
slice_get-set_other (x ∷ xs) (suc i) (suc j) y other = slice_get-set_other xs i j y (λ e. other (ap suc e))

pub mark_is : (ns : List Note) (i : ℕ) (n : Note) → slice_get ns i ≡ Some n → set ns i (record n { changed = true }) ≡ mark ns i
mark_is [] i n is = refl
mark_is (m ∷ ns) zero n is = ap (λ (k : Note). record k { changed = true } ∷ ns) (sym (some_is is))
mark_is (m ∷ ns) (suc i) n is = ap (λ (l : List Note). m ∷ l) (mark_is ns i n is)

pub length-mark : (ns : List Note) (i : ℕ) → length (mark ns i) ≡ length ns
length-mark [] i = refl
length-mark (n ∷ ns) zero = refl
length-mark (n ∷ ns) (suc i) = ap suc (length-mark ns i)

-- notes that say the same are the same, but for what was written
pub clean_is : (ns : List Note) (i : ℕ) (n : Note) → slice_get ns i ≡ Some n → set ns i (record n { changed = false }) ≡ clean ns i
clean_is [] i n is = refl
clean_is (m ∷ ns) zero n is = ap (λ (k : Note). record k { changed = false } ∷ ns) (sym (some_is is))
clean_is (m ∷ ns) (suc i) n is = ap (λ (l : List Note). m ∷ l) (clean_is ns i n is)

pub clean_bare : (ns : List Note) (i : ℕ) → bare (clean ns i) ≡ bare ns
clean_bare [] i = refl
clean_bare (n ∷ ns) zero = refl
clean_bare (n ∷ ns) (suc i) = ap (λ (l : List Note). record n { changed = false } ∷ l) (clean_bare ns i)

pub clean_fewer : (ns : List Note) (i : ℕ) → IsChanged ns i → changes (clean ns i) < changes ns
clean_fewer [] i h = absurd h
clean_fewer (n ∷ ns) zero h = rw h (omega arith)
clean_fewer (n ∷ ns) (suc i) h = omega (arith, clean_fewer ns i h)

-- the notes, as if nothing was written: the same pages, pins and length
pub to_bare : (ns : List Note) (i f p : ℕ) → Holds ns i f p → Holds (bare ns) i f p
to_bare [] i f p h = h
to_bare (n ∷ ns) zero f p h = h
to_bare (n ∷ ns) (suc i) f p h = to_bare ns i f p h

pub of_bare : (ns : List Note) (i f p : ℕ) → Holds (bare ns) i f p → Holds ns i f p
of_bare [] i f p h = h
of_bare (n ∷ ns) zero f p h = h
of_bare (n ∷ ns) (suc i) f p h = of_bare ns i f p h

pub to_bare_free : (ns : List Note) (i : ℕ) → IsFree ns i → IsFree (bare ns) i
to_bare_free [] i h = h
to_bare_free (n ∷ ns) zero h = h
to_bare_free (n ∷ ns) (suc i) h = to_bare_free ns i h

pub of_bare_free : (ns : List Note) (i : ℕ) → IsFree (bare ns) i → IsFree ns i
of_bare_free [] i h = h
of_bare_free (n ∷ ns) zero h = h
of_bare_free (n ∷ ns) (suc i) h = of_bare_free ns i h

pub bare_length : (ns : List Note) → length (bare ns) ≡ length ns
bare_length [] = refl
bare_length (n ∷ ns) = ap suc (bare_length ns)

pub bare_pins : (ns : List Note) → pins (bare ns) ≡ pins ns
bare_pins [] = refl
bare_pins (n ∷ ns) = ap (λ (l : List Bool). n.pinned ∷ l) (bare_pins ns)

pub same_bare : (old new : List Note) → bare new ≡ bare old → (i f p : ℕ) → Holds old i f p → Holds new i f p
same_bare old new is i f p h = of_bare new i f p (subst (λ (ns : List Note). Holds ns i f p) (sym is) (to_bare old i f p h))

pub same_bare_free : (old new : List Note) → bare new ≡ bare old → (i : ℕ) → IsFree old i → IsFree new i
same_bare_free old new is i h = of_bare_free new i (subst (λ (ns : List Note). IsFree ns i) (sym is) (to_bare_free old i h))

pub same_bare_length : (old new : List Note) → bare new ≡ bare old → length new ≡ length old
same_bare_length old new is = sym (bare_length new) ∙ ap length is ∙ bare_length old

pub same_bare_pins : (old new : List Note) → bare new ≡ bare old → pins new ≡ pins old
same_bare_pins old new is = sym (bare_pins new) ∙ ap pins is ∙ bare_pins old

pub free_within : (ns : List Note) (i : ℕ) → IsFree ns i → i < length ns
free_within [] i h = absurd h
free_within (n ∷ ns) zero h = omega arith
free_within (n ∷ ns) (suc i) h = omega (arith, free_within ns i h)

-- the share of a cache
pub notes_length : (l : List (ℕ × ℕ)) → length (map unpacked l) ≡ length l
notes_length [] = refl
notes_length (x ∷ l) = ap suc (notes_length l)

pub in_frames : (s : ShareView) (hand i : ℕ) → IsCache s hand → i < length (notes_of s) → i < length s.frames
in_frames s hand i is lt = omega (arith, lt, notes_length s.notes, is.share.places, is.full)

pub same_number : (s : ShareView) (hand : ℕ) → IsCache s hand → length (notes_of s) ≡ length s.frames
same_number s hand is = omega (arith, notes_length s.notes, is.share.places, is.full)

-- the cache after its notes were written
pub view_as : (c : CacheView) (s t : ShareView) (hand : ℕ) (ns : List Note) → view_of s hand ≡ c → notes_of t ≡ ns → t.frames ≡ s.frames → SamePlaces s t → view_of t hand ≡ record c { notes = ns }
view_as c s t hand ns is notes frames stays =
    let v : CacheView = view_of s hand in
    ap (λ (n : ℕ). let w : CacheView = record { len = n; notes = notes_of t; frames = t.frames; hand = hand } in w) stays.frame_len
    ∙ ap (λ (l : List (List ℕ)). let w : CacheView = record { len = s.frame_len; notes = notes_of t; frames = l; hand = hand } in w) frames
    ∙ ap (λ (l : List Note). let w : CacheView = record { len = s.frame_len; notes = l; frames = s.frames; hand = hand } in w) notes
    ∙ ap (λ (w : CacheView). let x : CacheView = record w { notes = ns } in x) is
