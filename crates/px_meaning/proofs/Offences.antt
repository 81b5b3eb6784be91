-- A line is refused at its first offence, and there alone.
use Rattle.std.proofs.Common.{◌≡◌, ℕ, suc, ◌+◌, ◌<◌, ◌≤◌, List, [], ◌∷◌, ◌++◌, length, take, drop, Option, Some, None, sym, ◌∙◌, ap, refl, subst, arith, inl, inr, append_assoc, append-nil, take-append-drop, length-take-le, take-take}
use Rattle.std.proofs.lemmas.Bool.{cases_order}
use Rattle.std.proofs.lemmas.List.{take_all}
use Rattle.px_meaning.specs.Line.{Kind, Edges, Spot, Start, On, Off, move, later, Reading, Nothing, Spelled, Refused, reading, reading_from}
use Rattle.px_meaning.specs.GoodLine.{IsGoodLine, IsGood, BeginsGoodLine, IsFirstOffence, reading_of, RefusedAtFirstOffence, FirstOffenceIsRefused}
use Rattle.px_meaning.proofs.Readings.{Tells, reading_tells}
use Rattle.px_meaning.proofs.GoodLines.{good_is_read}

good_not_refused : (place : ℕ) (kind : Kind) (x : Option (ℕ × Edges)) → reading_of x ≡ Refused place kind → ⊥
good_not_refused place kind None e = cc
good_not_refused place kind (Some x) e = cc

-- a byte that is refused is refused whatever follows

pub later_refused : (r : Reading) (place : ℕ) (kind : Kind) → later r ≡ Refused place kind → (at : ℕ) × (place ≡ suc at) × (r ≡ Refused at kind)
later_refused Nothing place kind e = absurd cc
later_refused (Spelled v es) place kind e = absurd cc
later_refused (Refused at other) place kind e = (at, cc, cc)

refused_alike : (room : ℕ) (spot : Spot) (front xs ys : List ℕ) (place : ℕ) (kind : Kind) → place < length front → reading_from room spot (front ++ xs) ≡ Refused place kind → reading_from room spot (front ++ ys) ≡ Refused place kind
refused_alike room spot [] xs ys place kind lt e = absurd (omega arith)
refused_alike room spot (b ∷ front) xs ys place kind lt e =
    (elim (move room spot b) as (λ m.
    elim m [ On next ↦ later (reading_from room next (front ++ xs)) | Off k ↦ Refused 0 k ] ≡ Refused place kind →
    elim m [ On next ↦ later (reading_from room next (front ++ ys)) | Off k ↦ Refused 0 k ] ≡ Refused place kind) [
      | On next ↦ λ h. (let found = later_refused (reading_from room next (front ++ xs)) place kind h in
          let is : place ≡ suc found.0 = found.1 in
          subst (λ p. later (reading_from room next (front ++ ys)) ≡ Refused p kind) (sym is) (ap later (refused_alike room next front xs ys found.0 kind (omega arith) found.2)))
      | Off k ↦ λ h. h
    ]) e

pub refused_is_first_offence : RefusedAtFirstOffence
refused_is_first_offence room line place kind e =
    let told : Tells room (Refused place kind) [] line = subst (λ r. Tells room r [] line) e (reading_tells room line) in
    record {
      within = told.0;
      before = told.1;
      at_byte = λ lt good.
          let front = take (place + 1) line in
          let whole : front ++ drop (place + 1) line ≡ line = take-append-drop (place + 1) line in
          let long : length front ≡ place + 1 = length-take-le (place + 1) line (omega arith) in
          good_not_refused place kind good.1.0
          (sym (good_is_read room (front ++ good.0) good.1.0 good.1.1) ∙ refused_alike room Start front (drop (place + 1) line) good.0 place kind (omega arith) (subst (λ l. reading room l ≡ Refused place kind) (sym whole) e));
      at_end = λ _ good. good_not_refused place kind good.0 (sym (good_is_read room line good.0 good.1) ∙ e);
    }

-- what begins so begins also with less
begins_less : (room place : ℕ) (line : List ℕ) (more : ℕ) → place ≤ more → BeginsGoodLine room (take more line) → BeginsGoodLine room (take place line)
begins_less room place line more le good =
    let between = drop place (take more line) in
    let whole : take place line ++ between ≡ take more line = ap (λ l. l ++ between) (sym (take-take place more line le)) ∙ take-append-drop place (take more line) in
    (between ++ good.0, (good.1.0, subst (λ l. IsGoodLine room l good.1.0) (ap (λ l. l ++ good.0) (sym whole) ∙ append_assoc (take place line) between good.0) good.1.1))

offences_alike : (room : ℕ) (line : List ℕ) (p q : ℕ) → IsFirstOffence room line p → IsFirstOffence room line q → p < q → ⊥
offences_alike room line p q hp hq lt = hp.at_byte (omega (arith, hq.within)) (begins_less room (p + 1) line q (omega arith) hq.before)

not_good : (room : ℕ) (line : List ℕ) (place : ℕ) → IsFirstOffence room line place → IsGood room line → ⊥
not_good room line place h good =
    elim (cases_order place (length line)) [
      | inl same ↦ h.at_end same good
      | inr (inl lt) ↦ h.at_byte lt (begins_less room (place + 1) line (length line) (omega arith) (subst (BeginsGoodLine room) (sym (take_all (length line) line (omega arith))) ([], (good.0, subst (λ l. IsGoodLine room l good.0) (sym (append-nil line)) good.1))))
      | inr (inr gt) ↦ absurd (omega (arith, h.within))
    ]

pub first_offence_refuses : FirstOffenceIsRefused
first_offence_refuses room line place h = read_as (reading room line) refl where
  read_as : (r : Reading) → reading room line ≡ r → (kind : Kind) × (reading room line ≡ Refused place kind)
  read_as Nothing e = absurd (not_good room line place h (None, subst (λ r. Tells room r [] line) e (reading_tells room line)))
  read_as (Spelled v es) e = absurd (not_good room line place h (Some (v, es), subst (λ r. Tells room r [] line) e (reading_tells room line)))
  read_as (Refused at kind) e =
      let other = refused_is_first_offence room line at kind e in (
        kind,
        elim (cases_order at place) [
          | inl same ↦ subst (λ p. reading room line ≡ Refused p kind) same e
          | inr (inl lt) ↦ absurd (offences_alike room line at place other h lt)
          | inr (inr gt) ↦ absurd (offences_alike room line place at h other gt)
        ],
      )
