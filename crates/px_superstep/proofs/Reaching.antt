-- The states of a run so far, and the lines that are kept of them.
use Rattle.std.proofs.Common.{◌≡◌, ℕ, zero, suc, ◌+◌, ◌-◌, ◌<◌, ◌≤◌, List, [], ◌∷◌, ◌++◌, Bool, true, false, Some, length, drop, map, refl, sym, ◌∙◌, ap, ap₂, subst, arith, append_assoc}
use Rattle.std.proofs.lemmas.List.{append-nil, drop-append-le, drop-drop, drop-map, length-append, length-drop, length-map, map-append}
use Rattle.px_global_state.specs.States.{IsGs}
use Rattle.px_global_state.specs.declared.gs.Gs.{Gs}
use Rattle.px_meaning.specs.GraphText as text
use Rattle.px_meaning.specs.GraphText.{TextMeaning}
use Rattle.px_meaning.specs.Meaning.{first_state, is_halted}
use Rattle.px_meaning.specs.Program.{ProgramMeaning}
use Rattle.px_meaning.specs.Step.{State, step}
use Rattle.px_superstep.specs.Lines.{gs_of, gs_of_line, last_of, AreLinesOf}
use Rattle.px_superstep.specs.Reached.{after_step, reached, reached_of_text}
use Rattle.px_superstep.specs.declared.line.Line.{Line}
use Rattle.px_superstep.proofs.Runs.{Loaded}

-- to keep the last of those that were kept and one more is to keep the last of all
last_more : {X : Type 0} (xs : List X) (y : X) → last_of (last_of xs ++ y ∷ []) ≡ last_of (xs ++ y ∷ [])
last_more {X} xs y =
    let n = length xs - 64 in
    let low : n ≤ length xs = omega arith in
    let all = xs ++ y ∷ [] in
    let same : drop n xs ++ y ∷ [] ≡ drop n all = sym (drop-append-le n xs (y ∷ []) low) in
    let size : length all ≡ length xs + 1 = length-append xs (y ∷ []) in
    let count : n + (length (drop n all) - 64) ≡ length all - 64 = omega (arith, size, length-drop n all) in
    ap (λ (l : List X). last_of l) same ∙ drop-drop (length (drop n all) - 64) n all ∙ ap (λ (k : ℕ). drop k all) count

last_mapped : {X Y : Type 0} (f : X → Y) (xs : List X) → map f (last_of xs) ≡ last_of (map f xs)
last_mapped f xs = sym (drop-map f (length xs - 64) xs) ∙ ap (λ (k : ℕ). drop (k - 64) (map f xs)) (sym (length-map xs f))

-- the numbers of a state are one record
pub gs_is : (gs : Gs) (s : State) → IsGs gs s → gs ≡ gs_of s
gs_is gs s h = grind (arith, h.superstep, h.aggregate, h.live, h.count, h.in_flight)

module _ (p : ProgramMeaning) (room : ℕ) where
  reached_halted : (n : ℕ) (s : State) → is_halted s ≡ true → reached p room n s ≡ []
  reached_halted zero s h = refl
  reached_halted (suc n) s h = ap (λ (b : Bool). after_step b (step p room s) (λ t. reached p room n t)) h

  reached_more : (most taken : ℕ) (s t : State) → taken < most → is_halted s ≡ false → step p room s ≡ Some t → reached p room (most - taken) s ≡ t ∷ reached p room (most - (taken + 1)) t
  reached_more most taken s t low awake is =
      let m = most - (taken + 1) in
      let more : most - taken ≡ suc m = omega (arith, low) in
      ap (λ (n : ℕ). reached p room n s) more ∙ ap (λ (b : Bool). after_step b (step p room s) (λ u. reached p room m u)) awake ∙ ap (λ o. after_step false o (λ u. reached p room m u)) is

-- the lines are the last of those of the states so far, behind which the others come
pub record HasNoted (p : ProgramMeaning) (room most taken : ℕ) (s : State) (lines : List Line) (now : State) : Type 0 where
  pub done : List State
  pub rest : reached p room most s ≡ done ++ reached p room (most - taken) now
  pub noted : map gs_of_line lines ≡ last_of (map gs_of done)

pub noted_first : (p : ProgramMeaning) (room most : ℕ) (s : State) (lines : List Line) → lines ≡ [] → HasNoted p room most 0 s lines s
noted_first p room most s lines none =
    let all : most ≡ most - 0 = omega arith in
    record { done = []; rest = ap (λ (n : ℕ). reached p room n s) all; noted = ap (map gs_of_line) none }

pub noted_next : (p : ProgramMeaning) (room most taken : ℕ) (s : State) (lines : List Line) (now : State) → HasNoted p room most taken s lines now → taken < most → is_halted now ≡ false
    → (t : State) → step p room now ≡ Some t → (l : Line) (more : List Line) → more ≡ last_of (lines ++ l ∷ []) → gs_of_line l ≡ gs_of t → HasNoted p room most (taken + 1) s more t
noted_next p room most taken s lines now h low awake t is l more kept same =
    let later = reached p room (most - (taken + 1)) t in record {
      done = h.done ++ t ∷ [];
      rest = h.rest ∙ ap (λ (x : List State). h.done ++ x) (reached_more p room most taken now t low awake is) ∙ sym (append_assoc h.done (t ∷ []) later);
      noted = ap (map gs_of_line) kept ∙ last_mapped gs_of_line (lines ++ l ∷ []) ∙ ap (λ (x : List Gs). last_of x) (map-append gs_of_line lines (l ∷ []))
          ∙ ap₂ (λ (x : List Gs) (y : Gs). last_of (x ++ y ∷ [])) h.noted same ∙ last_more (map gs_of h.done) (gs_of t)
          ∙ ap (λ (x : List Gs). last_of x) (sym (map-append gs_of h.done (t ∷ [])));
    }

-- the run is over
pub noted_last : (p : ProgramMeaning) (room most taken : ℕ) (s : State) (lines : List Line) (now : State) → HasNoted p room most taken s lines now → is_halted now ≡ true → AreLinesOf (last_of (reached p room most s)) lines
noted_last p room most taken s lines now h halted =
    let whole : reached p room most s ≡ h.done = h.rest ∙ ap (λ (x : List State). h.done ++ x) (reached_halted p room (most - taken) now halted) ∙ append-nil h.done in
    h.noted ∙ sym (last_mapped gs_of h.done) ∙ ap (λ (x : List State). map gs_of (last_of x)) (sym whole)

-- of a program and a room that have other names
pub lines_moved : (p q : ProgramMeaning) (room k most : ℕ) (m : TextMeaning) (lines : List Line) → q ≡ p → k ≡ room → AreLinesOf (last_of (reached_of_text q k most m)) lines → AreLinesOf (last_of (reached_of_text p room most m)) lines
lines_moved p q room k most m lines same len h = subst (λ (x : ProgramMeaning). AreLinesOf (last_of (reached_of_text x room most m)) lines) same (subst (λ (n : ℕ). AreLinesOf (last_of (reached_of_text q n most m)) lines) len h)

-- the lines of a run from a text that was loaded
pub lines_of_text : (q : ProgramMeaning) (k most : ℕ) (m : TextMeaning) (lines : List Line) (Stands : State → Type 0) → ((s : State) → Stands s → AreLinesOf (last_of (reached q k most s)) lines)
    → Loaded q m Stands → AreLinesOf (last_of (reached_of_text q k most m)) lines
lines_of_text q k most m lines Stands noted loaded =
    subst (λ (x : TextMeaning). AreLinesOf (last_of (reached_of_text q k most x)) lines) (sym loaded.good) (noted (first_state q loaded.graph) loaded.stands)
