-- Words as the command's lexer opens them.
use Rattle.std.proofs.Common.{◌≡◌, ℕ, suc, ◌+◌, Bool, true, false, not, ◌&&◌, ◌||◌, cond, if◌then◌else◌, nat_lt, List, [], ◌∷◌, length, take, drop, Option, Some, None, position, bytes_eq, refl, sym, ◌∙◌, ap, true≢false, arith}
use Rattle.std.specs.Prelude.{◌==◌}
use Rattle.std.specs.List.{list_any, position_or_len, before_first, after_first}
use Rattle.std.proofs.lemmas.List.{take_all}
use Rattle.std.proofs.lemmas.Bool.{ltb-false}
use Rattle.std.proofs.lemmas.Bool.Decides.{nat_tests}
use Rattle.std.proofs.lemmas.Slice.Eq.{bytes_eq-Decides}
use Rattle.clap.specs.Lexer.{long_of, short_of, name_and_value, has_byte}
use Rattle.px_words.specs.Words.{Item, Opened, Neither, Whole, Name, is_dash, begins_with_dash, cut, opened, names, is_known}

pub bytes_same : (a : List ℕ) → bytes_eq a a ≡ true
bytes_same a = (bytes_eq-Decides a a).1 refl

pub bytes_equal : (a b : List ℕ) → bytes_eq a b ≡ true → a ≡ b
bytes_equal a b is = (bytes_eq-Decides a b).0 is

-- equality of bytes goes both ways
pub bytes_turn : (a b : List ℕ) → bytes_eq a b ≡ bytes_eq b a
bytes_turn a b = go (bytes_eq a b) (bytes_eq b a) refl refl
  where
    go : (x y : Bool) → bytes_eq a b ≡ x → bytes_eq b a ≡ y → x ≡ y
    go true true p q = refl
    go false false p q = refl
    go true false p q = absurd (true≢false (sym ((bytes_eq-Decides b a).1 (sym (bytes_equal a b p))) ∙ q))
    go false true p q = absurd (true≢false (sym ((bytes_eq-Decides a b).1 (sym (bytes_equal b a q))) ∙ p))

module _ {X : Type 0} (p : X → Bool) where
  past_first : (b : Bool) (x : X) (xs : List X) → nat_lt (position_or_len p xs) (length xs) ≡ list_any p xs → nat_lt (cond (not b) (1 + position_or_len p xs) 0) (length (x ∷ xs)) ≡ (b || list_any p xs)
  past_first true x xs is = grind (arith, nat_tests)
  past_first false x xs is = grind (arith, nat_tests)

  position_inside : (xs : List X) → nat_lt (position_or_len p xs) (length xs) ≡ list_any p xs
  position_inside [] = refl
  position_inside (x ∷ xs) = past_first (p x) x xs (position_inside xs)

-- a word that was opened, as a name and perhaps a value
abbrev pub as_pair : Opened → Option (List ℕ × Option (List ℕ))
as_pair Neither = None
as_pair (Whole item) = Some (item.0, Some item.1)
as_pair (Name name) = Some (name, None)

pair_of_cut : (text : List ℕ) → as_pair (cut text) ≡ Some (name_and_value text)
pair_of_cut text = go (nat_lt at (length text)) refl
  where
    at : ℕ
    at = position_or_len (λ b. b == 61) text

    go : (inside : Bool) → nat_lt at (length text) ≡ inside
        → as_pair (elim (cond inside (Some at) None) [ Some i ↦ Whole (take i text, drop (i + 1) text) | None ↦ Name text ]) ≡ Some (name_and_value text)
    go true is = let has : has_byte 61 text ≡ true = sym (position_inside (λ b. b == 61) text) ∙ is in rw has refl
    go false is =
        let has : has_byte 61 text ≡ false = sym (position_inside (λ b. b == 61) text) ∙ is in
        rw (has, take_all at text (ltb-false at (length text) is)) refl

no_empty_name : is_known [] ≡ false
unfolding names
no_empty_name = refl

-- a word `--NAME` or `--NAME=VALUE`
pub record IsLong (word name : List ℕ) (value : Option (List ℕ)) : Type 0 where
  pub dashes : bytes_eq word (45 ∷ 45 ∷ []) ≡ false
  pub long : long_of word ≡ Some (name, value)

-- a word that begins with no dash
pub record IsPlain (word : List ℕ) : Type 0 where
  pub neither : opened word ≡ Neither
  pub dashes : bytes_eq word (45 ∷ 45 ∷ []) ≡ false
  pub long : long_of word ≡ None
  pub short : short_of word ≡ None

pub plain_word : (word : List ℕ) → begins_with_dash word ≡ false → IsPlain word
plain_word [] is = record { neither = refl; dashes = refl; long = refl; short = refl }
plain_word (a ∷ []) is = record { neither = refl; dashes = rw is refl; long = rw is refl; short = rw is refl }
plain_word (a ∷ b ∷ text) is = record { neither = rw is refl; dashes = rw is refl; long = rw is refl; short = rw is refl }

abbrev name_in : Option (List ℕ × Option (List ℕ)) → List ℕ
name_in None = []
name_in (Some pair) = pair.0

module _ (name : List ℕ) (value : Option (List ℕ)) (known : is_known name ≡ true) where
  behind_dashes : (a b : ℕ) (text : List ℕ) → is_dash a ≡ true → is_dash b ≡ true → as_pair (cut text) ≡ Some (name, value) → IsLong (a ∷ b ∷ text) name value
  behind_dashes a b [] first second is =
      let empty : [] ≡ name = ap name_in is in
      absurd (true≢false (sym known ∙ ap is_known (sym empty) ∙ no_empty_name))
  behind_dashes a b (x ∷ xs) first second is = record {
    dashes = rw (first, second) refl;
    long = rw (first, second) (sym (pair_of_cut (x ∷ xs)) ∙ is);
  }

  pub long_word : (word : List ℕ) → as_pair (opened word) ≡ Some (name, value) → IsLong word name value
  long_word [] is = absurd (cc)
  long_word (a ∷ []) is = absurd (cc)
  long_word (a ∷ b ∷ text) is = go (is_dash a) (is_dash b) refl refl is
    where
      go : (x y : Bool) → is_dash a ≡ x → is_dash b ≡ y → as_pair (if x && y then cut text else Neither) ≡ Some (name, value) → IsLong (a ∷ b ∷ text) name value
      go true true first second is = behind_dashes a b text first second is
      go true false first second is = absurd (cc)
      go false y first second is = absurd (cc)
