-- Frames that are not pinned, after calls that change no pin.
use Rattle.std.proofs.Common.{◌≡◌, ℕ, zero, suc, Bool, true, List, [], ◌∷◌, length, set, refl, sym, ◌∙◌, ap, arith}
use Rattle.px_cache.specs.declared.note.Note.{Note}
use Rattle.px_cache.specs.View.{IsFree, NoPins, HasFree, CacheView, SameCache, written_frame, pins, mark}
use Rattle.px_cache.proofs.Shows.{mark_pins}

no_cons : (x : Bool) (xs : List Bool) → [] ≡ x ∷ xs → ⊥
no_cons x xs is = cc is

pub free_stays : (a b : List Note) → pins b ≡ pins a → (i : ℕ) → IsFree a i → IsFree b i
free_stays [] b same i free = absurd free
free_stays (n ∷ a) [] same i free = absurd (no_cons n.pinned (pins a) same)
free_stays (n ∷ a) (m ∷ b) same zero free = cc
free_stays (n ∷ a) (m ∷ b) same (suc i) free = (let rest : pins b ≡ pins a = cc in free_stays a b rest i free)

count : (a : List Note) → length (pins a) ≡ length a
count [] = refl
count (n ∷ a) = ap suc (count a)

pub pins_length : (a b : List Note) → pins b ≡ pins a → length b ≡ length a
pins_length a b same = sym (count b) ∙ ap (λ (l : List Bool). length l) same ∙ count a

-- no frame is pinned, as before
pub no_pins_stay : (a b : List Note) → pins b ≡ pins a → NoPins a → NoPins b
no_pins_stay a b same none =
    let len = pins_length a b same in
    record {
      some = omega (arith, none.some, len);
      free = λ i lt. free_stays a b same i (none.free i (omega (arith, lt, len)));
    }

pub no_pins-mark : (a : List Note) (i : ℕ) → NoPins a → NoPins (mark a i)
no_pins-mark a i none = no_pins_stay a (mark a i) (mark_pins a i) none

pub some_free : (a : List Note) → NoPins a → HasFree a
some_free a none = (0, none.free 0 (omega (arith, none.some)))

pub has_free_stays : (a b : List Note) → pins b ≡ pins a → HasFree a → HasFree b
has_free_stays a b same free = (free.0, free_stays a b same free.0 free.1)

-- a place beside this one
unset : (a b : List Note) (i j : ℕ) → pins b ≡ set (pins a) i true → (j ≡ i → ⊥) → IsFree a j → IsFree b j
unset [] b i j same other free = absurd free
unset (n ∷ a) [] zero j same other free = absurd (no_cons true (pins a) same)
unset (n ∷ a) [] (suc i) j same other free = absurd (no_cons n.pinned (set (pins a) i true) same)
unset (n ∷ a) (m ∷ b) zero zero same other free = absurd (other refl)
unset (n ∷ a) (m ∷ b) zero (suc j) same other free = (let rest : pins b ≡ pins a = cc in free_stays a b rest j free)
unset (n ∷ a) (m ∷ b) (suc i) zero same other free = cc
unset (n ∷ a) (m ∷ b) (suc i) (suc j) same other free = (let rest : pins b ≡ set (pins a) i true = cc in unset a b i j rest (λ e. other (ap suc e)) free)

-- one frame was pinned of several
pub free_beside : (a b : List Note) (i : ℕ) → pins b ≡ set (pins a) i true → NoPins a → HasFree b
free_beside a b zero same none = (1, unset a b 0 1 same (λ e. omega (arith, e)) (none.free 1 (omega (arith, none.some))))
free_beside a b (suc i) same none = (0, unset a b (suc i) 0 same (λ e. omega (arith, e)) (none.free 0 (omega (arith, none.some))))

pub same_cache : (a b : CacheView) → b.len ≡ a.len → pins b.notes ≡ pins a.notes → SameCache a b
same_cache a b len same = record {
  len = len;
  size = pins_length a.notes b.notes same;
  pins = same;
  none = no_pins_stay a.notes b.notes same;
  free = has_free_stays a.notes b.notes same;
}

-- a frame was written
pub same-mark : (c d : CacheView) (i : ℕ) (b : List ℕ) → SameCache c d → SameCache c (written_frame d i b)
same-mark c d i b same = same_cache c (written_frame d i b) same.len (mark_pins d.notes i ∙ same.pins)

pub same_refl : (a : CacheView) → SameCache a a
same_refl a = record { len = refl; size = refl; pins = refl; none = λ none. none; free = λ free. free }

-- one call after another
pub same_then : (a b c : CacheView) → SameCache a b → SameCache b c → SameCache a c
same_then a b c x y = record {
  len = y.len ∙ x.len;
  size = y.size ∙ x.size;
  pins = y.pins ∙ x.pins;
  none = λ none. y.none (x.none none);
  free = λ free. y.free (x.free free);
}
