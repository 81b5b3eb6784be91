-- Numbers and their bytes, and the laws of the two rules that merge numbers.
use Rattle.std.proofs.Common.{◌≡◌, ℕ, zero, suc, ◌^◌, ◌<◌, Bool, true, ◌&&◌, ◌==◌, nat_lt, IsTrue, List, [], ◌∷◌, length, slice_index, Some, refl, sym, ap, ◌∙◌, arith, min}
use Rattle.std.specs.List.{list_all}
use Rattle.std.specs.Int.{byte_at, bytes_high_first}
use Rattle.std.proofs.lemmas.Bool.Decides.{nat_tests}
use Rattle.std.proofs.lemmas.List.{append-nil}
use Rattle.byteorder.specs.Endian.{big_number}
use Rattle.byteorder.specs.Numbers.{big_from-lt, big_number-reads_back}
use Rattle.px_meaning.specs.Merge.{MergeLaws}
use Rattle.px_record.specs.Body.{AreBytes}
use Rattle.px_program.specs.Saturating.{saturating_sum}
use Rattle.px_program.specs.Numbers.{num, number, number_in, is_num, number_rule, lesser_rule, sum_rule}

-- what the test says
record IsNum (bytes : List ℕ) : Type 0 where
  pub len : length bytes ≡ 8
  pub small : AreBytes bytes

both : (a b : Bool) → (a && b) ≡ true → (a ≡ true) × (b ≡ true)
both a b h = grind arith

small_bytes : (bytes : List ℕ) → list_all (λ b. nat_lt b 256) bytes ≡ true → (i : ℕ) → slice_index bytes i < 256
small_bytes [] h i = omega arith
small_bytes (b ∷ bs) h zero =
    let first : nat_lt b 256 ≡ true = (both (nat_lt b 256) (list_all (λ c. nat_lt c 256) bs) h).0 in
    grind (arith, nat_tests)
small_bytes (b ∷ bs) h (suc i) = small_bytes bs (both (nat_lt b 256) (list_all (λ c. nat_lt c 256) bs) h).1 i

IsNum-from_test : (bytes : List ℕ) → IsTrue (is_num bytes) → IsNum bytes
unfolding is_num
IsNum-from_test bytes h =
    let parts = both (length bytes == 8) _ h in
    record { len = let first = parts.0 in grind (arith, nat_tests); small = small_bytes bytes parts.1 }

byte_at-lt : (i n : ℕ) → byte_at i n < 256
byte_at-lt zero n = omega arith
byte_at-lt (suc i) n = omega arith

all_small : (k n : ℕ) → list_all (λ b. nat_lt b 256) (bytes_high_first k n) ≡ true
all_small zero n = refl
all_small (suc k) n =
    let first : nat_lt (byte_at k n) 256 ≡ true = let lt = byte_at-lt k n in grind (arith, nat_tests) in
    rw first (all_small k n)

pub length_of_num : (n : ℕ) → length (num n) ≡ 8
unfolding num
length_of_num n = refl

-- the bytes of a number are valid
pub num_is_valid : (n : ℕ) → IsTrue (is_num (num n))
unfolding num is_num
num_is_valid n = all_small 8 n

-- a number is read back
pub number_of_num : (n : ℕ) → n < 2 ^ 64 → number (num n) ≡ n
unfolding num number
number_of_num n h = ap (big_number 8) (sym (append-nil (bytes_high_first 8 n))) ∙ big_number-reads_back 8 n [] h

pub number_fits : (bytes : List ℕ) → IsTrue (is_num bytes) → number bytes < 2 ^ 64
unfolding number
number_fits bytes h = big_from-lt 0 8 bytes (IsNum-from_test bytes h).small

pub length_of_valid : (bytes : List ℕ) → IsTrue (is_num bytes) → length bytes ≡ 8
length_of_valid bytes h = (IsNum-from_test bytes h).len

-- the merge of three numbers, in either grouping
grouped : (join : ℕ → ℕ → ℕ) → ((a b : ℕ) → a < 2 ^ 64 → b < 2 ^ 64 → join a b < 2 ^ 64)
    → ((a b c : ℕ) → join a (join b c) ≡ join (join a b) c) → (x y z : ℕ) → x < 2 ^ 64 → y < 2 ^ 64 → z < 2 ^ 64
    → num (join x (number (num (join y z)))) ≡ num (join (number (num (join x y))) z)
grouped join fits associates x y z hx hy hz =
    ap (λ (n : ℕ). num (join x n)) (number_of_num (join y z) (fits y z hy hz))
    ∙ ap num (associates x y z)
    ∙ sym (ap (λ (n : ℕ). num (join n z)) (number_of_num (join x y) (fits x y hx hy)))

number_laws : (join : ℕ → ℕ → ℕ) → ((a b : ℕ) → a < 2 ^ 64 → b < 2 ^ 64 → join a b < 2 ^ 64)
    → ((a b : ℕ) → join a b ≡ join b a) → ((a b c : ℕ) → join a (join b c) ≡ join (join a b) c) → MergeLaws (number_rule join)
number_laws join fits commutes associates = record {
  closed = λ a b ha hb. num_is_valid (join (number a) (number b));
  commutes = λ a b ha hb. ap num (commutes (number a) (number b));
  associates = λ a b c ha hb hc. grouped join fits associates (number a) (number b) (number c) (number_fits a ha) (number_fits b hb) (number_fits c hc);
  no_shorter = λ a b ha hb. omega (arith, length_of_valid a ha, length_of_num (join (number a) (number b)));
}

pub lesser_laws : MergeLaws lesser_rule
lesser_laws = number_laws min (λ a b ha hb. omega arith) (λ a b. omega arith) (λ a b c. omega arith)

pub sum_laws : MergeLaws sum_rule
sum_laws = number_laws saturating_sum (λ a b ha hb. omega arith) (λ a b. omega arith) (λ a b c. omega arith)

pub valid_is_number : (bytes : List ℕ) → IsTrue (is_num bytes) → number_in bytes ≡ Some (number bytes)
valid_is_number bytes h = let len = length_of_valid bytes h in grind (arith, nat_tests)
