-- Entries at places of bytes.
use Rattle.std.proofs.Common.{◌≡◌, inl, inr, ◌≤◌, ◌<◌, ℕ, zero, suc, ◌+◌, ◌-◌, ◌*◌, Bool, true, false, not, IsTrue, List, ◌∷◌, ◌++◌, take, drop, refl, sym, ap, subst, ◌∙◌, arith}
use Rattle.std.specs.Cmp.{first_so, second_so}
use Rattle.std.specs.Cmp.Derive.{both_true}
use Rattle.std.specs.List.{concat, list_all}
use Rattle.std.proofs.lemmas.Bool.{false≢true, not-true}
use Rattle.std.proofs.Math.Nat.{eq-or-lt_of_le}
use Rattle.std.proofs.Math.Seq.{take-add}
use Rattle.std.proofs.lemmas.List.{drop-drop, drop-take, take-take}
use Rattle.px_programs.specs.Entries.{entries_in}
use Rattle.px_programs.specs.InOrder.{is_after, is_before_all, is_ordered, upto_upto}
use Rattle.px_programs.specs.Weaving.{entry_at, IsSpan}

-- an entry as the slice that code takes
pub sliced_entry : (i : ℕ) (bytes : List ℕ) → take (12 * (i + 1) - 12 * i) (drop (12 * i) bytes) ≡ entry_at i bytes
sliced_entry i bytes = let count : 12 * (i + 1) - 12 * i ≡ 12 = omega arith in ap (λ (k : ℕ). take k (drop (12 * i) bytes)) count

-- the entry behind the first of the rest
next_place : (i : ℕ) (bytes : List ℕ) → entry_at i (drop 12 bytes) ≡ entry_at (suc i) bytes
next_place i bytes =
    let count : 12 + 12 * i ≡ 12 * suc i = omega arith in
    ap (take 12) (drop-drop (12 * i) 12 bytes ∙ ap (λ (k : ℕ). drop k bytes) count)

-- the entry behind so many of the rest
pub place_behind : (n i : ℕ) (bytes : List ℕ) → entry_at i (drop (12 * n) bytes) ≡ entry_at (n + i) bytes
place_behind n i bytes =
    let count : 12 * n + 12 * i ≡ 12 * (n + i) = omega arith in
    ap (take 12) (drop-drop (12 * i) (12 * n) bytes ∙ ap (λ (k : ℕ). drop k bytes) count)

-- what is before all is before each
before_each : (n j : ℕ) (e bytes : List ℕ) → IsTrue (is_before_all e (entries_in n bytes)) → j < n → is_after e (entry_at j bytes) ≡ false
before_each zero j e bytes all below = absurd (omega arith)
before_each (suc n) zero e bytes all below = not-true (is_after e (take 12 bytes)) (first_so (not (is_after e (take 12 bytes))) _ all)
before_each (suc n) (suc j) e bytes all below =
    subst (λ (x : List ℕ). is_after e x ≡ false) (next_place j bytes)
    (before_each n j e (drop 12 bytes) (second_so (not (is_after e (take 12 bytes))) _ all) (omega arith))

-- an entry comes after no later one
pub ordered_at : (n i j : ℕ) (bytes : List ℕ) → IsTrue (is_ordered (entries_in n bytes)) → i < j → j < n → is_after (entry_at i bytes) (entry_at j bytes) ≡ false
ordered_at zero i j bytes all order below = absurd (omega arith)
ordered_at (suc n) i zero bytes all order below = absurd (omega arith)
ordered_at (suc n) zero (suc j) bytes all order below =
    subst (λ (x : List ℕ). is_after (take 12 bytes) x ≡ false) (next_place j bytes)
    (before_each n j (take 12 bytes) (drop 12 bytes) (first_so (is_before_all (take 12 bytes) (entries_in n (drop 12 bytes))) _ all) (omega arith))
ordered_at (suc n) (suc i) (suc j) bytes all order below =
    subst (λ (x : List ℕ). is_after x (entry_at (suc j) bytes) ≡ false) (next_place i bytes)
    (subst (λ (x : List ℕ). is_after (entry_at i (drop 12 bytes)) x ≡ false) (next_place j bytes)
    (ordered_at n i j (drop 12 bytes) (second_so (is_before_all (take 12 bytes) (entries_in n (drop 12 bytes))) _ all) (omega arith) (omega arith)))

-- what a later one is not after, an earlier one is not after
upto_before : (n i j : ℕ) (e bytes : List ℕ) → IsTrue (is_ordered (entries_in n bytes)) → i ≤ j → j < n → is_after (entry_at j bytes) e ≡ false → is_after (entry_at i bytes) e ≡ false
upto_before n i j e bytes all order below h =
    elim (eq-or-lt_of_le order) [
      | inl is ↦ subst (λ (k : ℕ). is_after (entry_at k bytes) e ≡ false) (sym is) h
      | inr lt ↦ upto_upto (entry_at i bytes) (entry_at j bytes) e (ordered_at n i j bytes all lt below) h
    ]

after_by : (n i j : ℕ) (e bytes : List ℕ) (t : Bool) → is_after (entry_at j bytes) e ≡ t → IsTrue (is_ordered (entries_in n bytes)) → i ≤ j → j < n → is_after (entry_at i bytes) e ≡ true
    → is_after (entry_at j bytes) e ≡ true
after_by n i j e bytes true t all order below h = t
after_by n i j e bytes false t all order below h = absurd (false≢true (sym (upto_before n i j e bytes all order below t) ∙ h))

-- spans

pub span_whole : (n : ℕ) (e bytes : List ℕ) → IsSpan n bytes e 0 n
span_whole n e bytes = record { upto = λ i below. absurd (omega arith); after = λ i from below. absurd (omega arith) }

pub span_low : (n low high middle next : ℕ) (e bytes : List ℕ) → IsTrue (is_ordered (entries_in n bytes)) → IsSpan n bytes e low high → middle < n → next ≡ middle + 1 → is_after (entry_at middle bytes) e ≡ false
    → IsSpan n bytes e next high
span_low n low high middle next e bytes all span below is h = record {
  upto = λ i before. upto_before n i middle e bytes all (omega arith) below h;
  after = span.after;
}

pub span_high : (n low high middle : ℕ) (e bytes : List ℕ) → IsTrue (is_ordered (entries_in n bytes)) → IsSpan n bytes e low high → is_after (entry_at middle bytes) e ≡ true → IsSpan n bytes e low middle
span_high n low high middle e bytes all span h = record {
  upto = span.upto;
  after = λ i from below. after_by n middle i e bytes (is_after (entry_at i bytes) e) refl all from below h;
}

-- entries as parts

pub entries_in-add : (n k : ℕ) (bytes : List ℕ) → entries_in (n + k) bytes ≡ entries_in n bytes ++ entries_in k (drop (12 * n) bytes)
entries_in-add zero k bytes = let none : 0 + k ≡ k = omega arith in ap (λ (m : ℕ). entries_in m bytes) none
entries_in-add (suc n) k bytes =
    let count : 12 + 12 * n ≡ 12 * suc n = omega arith in
    let sum : suc n + k ≡ suc (n + k) = omega arith in
    ap (λ (m : ℕ). entries_in m bytes) sum
    ∙ ap (λ (l : List (List ℕ)). take 12 bytes ∷ l) (entries_in-add n k (drop 12 bytes) ∙ ap (λ (l : List ℕ). entries_in n (drop 12 bytes) ++ entries_in k l) (drop-drop (12 * n) 12 bytes ∙ ap (λ (m : ℕ). drop m bytes) count))

entries_in-take : (n : ℕ) (bytes : List ℕ) → entries_in n (take (12 * n) bytes) ≡ entries_in n bytes
entries_in-take zero bytes = refl
entries_in-take (suc n) bytes =
    let count : 12 * suc n ≡ 12 + 12 * n = omega arith in
    let first : take 12 (take (12 * suc n) bytes) ≡ take 12 bytes = take-take 12 (12 * suc n) bytes (omega arith) in
    let rest : drop 12 (take (12 * suc n) bytes) ≡ take (12 * n) (drop 12 bytes) = ap (λ (k : ℕ). drop 12 (take k bytes)) count ∙ drop-take 12 (12 * n) bytes in
    ap (λ (e : List ℕ). e ∷ entries_in n (drop 12 (take (12 * suc n) bytes))) first
    ∙ ap (λ (l : List (List ℕ)). take 12 bytes ∷ l) (ap (entries_in n) rest ∙ entries_in-take n (drop 12 bytes))

-- the same bytes are the same entries
pub entries_in-same : (n : ℕ) (xs ys : List ℕ) → take (12 * n) xs ≡ take (12 * n) ys → entries_in n xs ≡ entries_in n ys
entries_in-same n xs ys same = sym (entries_in-take n xs) ∙ ap (entries_in n) same ∙ entries_in-take n ys

-- entries have the bytes that they stand for
pub concat-entries_in : (n : ℕ) (bytes : List ℕ) → concat (entries_in n bytes) ≡ take (12 * n) bytes
concat-entries_in zero bytes = refl
concat-entries_in (suc n) bytes =
    let count : 12 + 12 * n ≡ 12 * suc n = omega arith in
    ap (λ (l : List ℕ). take 12 bytes ++ l) (concat-entries_in n (drop 12 bytes)) ∙ sym (take-add 12 (12 * n) bytes) ∙ ap (λ (k : ℕ). take k bytes) count

-- what each entry has, all have
pub all_in : (P : List ℕ → Bool) (n : ℕ) (bytes : List ℕ) → ((i : ℕ) → i < n → P (entry_at i bytes) ≡ true) → IsTrue (list_all P (entries_in n bytes))
all_in P zero bytes each = refl
all_in P (suc n) bytes each =
    both_true (each 0 (omega arith)) (all_in P n (drop 12 bytes) (λ i below. subst (λ (x : List ℕ). P x ≡ true) (sym (next_place i bytes)) (each (suc i) (omega arith))))
