-- Of two byte lists the longer, and of equal lengths the greater in byte order.
use Rattle.std.specs.Prelude.{◌≡◌, ◌≤◌, ◌<◌, ℕ, Bool, true, false, if◌then◌else◌, List, [], ◌∷◌, length}
use Rattle.std.specs.declared.cmp.Ordering.{Ordering}
use Rattle.std.specs.declared.cmp.Ordering.TheVariants.{Less, Equal, Greater}
use Rattle.std.specs.Ordering.{MatchOrdering, nat_cmp, on, then_cmp, ordering_then, ordering_reverse, is_eq, is_gt}
use Rattle.std.specs.Cmp.{IsTotalOrder}
use Rattle.std.specs.Cmp.Lexicographic.{slice_cmp, same_text, texts_ties}
use Rattle.std.proofs.Common.{refl, sym, ap, subst, ◌∙◌}
use Rattle.std.proofs.Math.Nat.{le_refl, le_of_suc-le, not-suc-le-zero}
use Rattle.std.proofs.lemmas.Bool.{false≢true}
use Rattle.std.proofs.lemmas.Cmp.{on_total, then_total, nat_cmp_total, nat_list_cmp_total, ranked, upto}

-- which is greater: the lengths decide, and else the bytes do
abbrev pub by_length : List ℕ → List ℕ → Ordering
by_length = then_cmp (on length nat_cmp) (slice_cmp nat_cmp)

-- the first is longer, or as long and greater
abbrev pub is_longer : List ℕ → List ℕ → Bool
is_longer a b = is_gt (by_length a b)

abbrev pub longest : List ℕ → List ℕ → List ℕ
longest a b = if is_longer b a then b else a

by_length_total : IsTotalOrder by_length
by_length_total = then_total (on_total length nat_cmp_total) nat_list_cmp_total

-- lists that the order does not tell apart are one
bytes_equal : (a b : List ℕ) (r : Ordering) → ordering_then r (slice_cmp nat_cmp a b) ≡ Equal → a ≡ b
bytes_equal a b Less h = absurd (false≢true (ap is_eq h))
bytes_equal a b Equal h = same_text a b (sym (texts_ties a b ∙ ap is_eq h))
bytes_equal a b Greater h = absurd (false≢true (ap is_eq h))

same : (a b : List ℕ) → by_length a b ≡ Equal → a ≡ b
same a b h = bytes_equal a b (nat_cmp (length a) (length b)) h

greater : (r : Ordering) → is_gt r ≡ true → r ≡ Greater
greater Less h = absurd (false≢true h)
greater Equal h = absurd (false≢true h)
greater Greater h = refl

-- which of the two it is
second_if : (a b : List ℕ) → is_longer b a ≡ true → longest a b ≡ b
second_if a b h = ap (λ (t : Bool). if t then b else a) h

first_if : (a b : List ℕ) → is_longer b a ≡ false → longest a b ≡ a
first_if a b h = ap (λ (t : Bool). if t then b else a) h

turned : (a b : List ℕ) (r : Ordering) → by_length b a ≡ r → is_longer a b ≡ is_gt (ordering_reverse r)
turned a b r h = ap is_gt (by_length_total.antisymm a b ∙ ap ordering_reverse h)

commutes_by : (a b : List ℕ) (r : Ordering) → by_length b a ≡ r → longest a b ≡ longest b a
commutes_by a b Less h = first_if a b (ap is_gt h) ∙ sym (second_if b a (turned a b Less h))
commutes_by a b Equal h = let is : b ≡ a = same b a h in λ i. longest (sym is i) (is i)
commutes_by a b Greater h = second_if a b (ap is_gt h) ∙ sym (first_if b a (turned a b Greater h))

pub longest_commutes : (a b : List ℕ) → longest a b ≡ longest b a
longest_commutes a b = commutes_by a b (by_length b a) refl

shorter : (a b : List ℕ) → is_longer b a ≡ true → by_length a b ≡ Less
shorter a b h = by_length_total.antisymm a b ∙ ap ordering_reverse (greater (by_length b a) h)

-- a chain of longer lists
chain : (a b c : List ℕ) → is_longer c b ≡ true → is_longer b a ≡ true → is_longer c a ≡ true
chain a b c h k =
    turned c a Less (by_length_total.trans a b c (shorter a b k) (shorter b c h))

associates_by : (a b c : List ℕ) (s t : Bool) → is_longer c b ≡ s → is_longer b a ≡ t → longest a (longest b c) ≡ longest (longest a b) c
associates_by a b c true true h k =
    ap (longest a) (second_if b c h) ∙ second_if a c (chain a b c h k) ∙ sym (ap (λ (x : List ℕ). longest x c) (second_if a b k) ∙ second_if b c h)
associates_by a b c true false h k = ap (longest a) (second_if b c h) ∙ sym (ap (λ (x : List ℕ). longest x c) (first_if a b k))
associates_by a b c false true h k =
    ap (longest a) (first_if b c h) ∙ second_if a b k ∙ sym (ap (λ (x : List ℕ). longest x c) (second_if a b k) ∙ first_if b c h)
associates_by a b c false false h k =
    ap (longest a) (first_if b c h) ∙ first_if a b k ∙ sym (ap (λ (x : List ℕ). longest x c) (first_if a b k) ∙ first_if a c (upto by_length_total c b a h k))

pub longest_associates : (a b c : List ℕ) → longest a (longest b c) ≡ longest (longest a b) c
longest_associates a b c = associates_by a b c (is_longer c b) (is_longer b a) refl refl

-- what holds of both lists holds of the longer
pub longest_has : (P : List ℕ → Type 0) (a b : List ℕ) → P a → P b → P (longest a b)
longest_has P a b p q = by (is_longer b a)
  where
    by : (t : Bool) → P (if t then b else a)
    by true = q
    by false = p

below : (n : ℕ) (r : Ordering) → MatchOrdering r (0 < n) (0 ≡ n) (n < 0) → is_gt (ordering_then r Less) ≡ false
below n Less m = refl
below n Equal m = refl
below n Greater m = absurd (not-suc-le-zero m)

-- beside an empty list the other is the longer
pub longest_empty : (a : List ℕ) → longest a [] ≡ a
longest_empty [] = refl
longest_empty (x ∷ a) =
    let r = nat_cmp 0 (length (x ∷ a)) in
    first_if (x ∷ a) [] (below (length (x ∷ a)) r (ranked 0 (length (x ∷ a)) r refl))

pub longest_itself : (a : List ℕ) → longest a a ≡ a
longest_itself a = longest_has (λ (x : List ℕ). x ≡ a) a a refl refl

-- it is as long as either
as_long : (a b : List ℕ) (r : Ordering) → MatchOrdering r (length b < length a) (length b ≡ length a) (length a < length b) → (t : Bool) → is_gt (ordering_then r (slice_cmp nat_cmp b a)) ≡ t → length a ≤ length (if t then b else a)
as_long a b r m false h = le_refl (length a)
as_long a b Less m true h = absurd (false≢true h)
as_long a b Equal m true h = subst (λ (n : ℕ). length a ≤ n) (sym m) (le_refl (length a))
as_long a b Greater m true h = le_of_suc-le m

pub longest_no_shorter : (a b : List ℕ) → length a ≤ length (longest a b)
longest_no_shorter a b =
    let r = nat_cmp (length b) (length a) in
    as_long a b r (ranked (length b) (length a) r refl) (is_longer b a) refl
