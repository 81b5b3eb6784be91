-- A number in decimal digits, digit by digit.
use Rattle.std.proofs.Common.{◌≡◌, ℕ, suc, ◌<◌, ◌≤◌, Bool, true, false, ◌&&◌, if◌then◌else◌, nat_le, List, ◌∷◌, length, drop, get_or, Option, Some, None, refl, arith, drop-cons}
use Rattle.std.specs.Prelude.{fold}
use Rattle.std.specs.List.{list_all}
use Rattle.std.proofs.lemmas.Bool.Decides.{nat_tests}
use Rattle.px_meaning.specs.Line.{is_digit, with_digit}
use Rattle.px_meaning.proofs.GoodLines.{fold_grows}
use Rattle.px_words.specs.Words.{number_of}

-- the number that digits make after the number so far
abbrev pub number_after : ℕ → ℕ → List ℕ → Option ℕ
number_after greatest n text = if list_all is_digit text && nat_le (fold with_digit n text) greatest then Some (fold with_digit n text) else None

pub number_after_start : (greatest : ℕ) (text : List ℕ) → 0 < length text → length text ≤ 20 → number_of greatest text ≡ number_after greatest 0 text
number_after_start greatest text h k = grind (arith, nat_tests)

above : (greatest : ℕ) (digits : Bool) (m : ℕ) → greatest < m → (if digits && nat_le m greatest then Some m else None) ≡ None
above greatest false m h = refl
above greatest true m h = grind (arith, nat_tests)

-- a digit with which the number passes its greatest value
pub number_after_above : (greatest n : ℕ) (text : List ℕ) (i : ℕ) → i < length text → greatest < with_digit n (get_or text i 0) → number_after greatest n (drop i text) ≡ None
number_after_above greatest n text i h k =
    let b = get_or text i 0 in
    let bs = drop (suc i) text in
    rw (drop-cons text i 0) (above greatest (list_all is_digit (b ∷ bs)) (fold with_digit (with_digit n b) bs) (omega (arith, fold_grows (with_digit n b) bs)))
