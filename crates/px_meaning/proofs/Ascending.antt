-- Ascending lists of numbers: what `place` and `ascending` leave, and that the members decide such a list.
use Rattle.std.proofs.Common.{◌≡◌, ℕ, suc, ◌+◌, ◌<◌, List, [], ◌∷◌, ◌++◌, filter, Bool, true, false, ◌||◌, ◌==◌, nat_lt, Contains, IsPermutation, sym, ◌∙◌, ap, refl, arith, inl, inr}
use Rattle.std.specs.List.{list_any, list_all}
use Rattle.std.proofs.lemmas.Bool.{and_from, or_cases, or_left, or_right, lt-ltb, le-ltb, eqb-true, eq-eqb, ne_eqb, cond-true, cond-false, cond_both, cases_order, cases_eq, false≢true, true≢false}
use Rattle.std.proofs.lemmas.List.Folds.{list_any-append}
use Rattle.std.proofs.lemmas.List.Sorted.{list_any-IsPermutation}
use Rattle.px_meaning.specs.Graph.{place, ascending, AllAbove, IsAscending}

-- whether a number stands in a list
abbrev pub has : ℕ → List ℕ → Bool
has k ns = list_any (λ n. k == n) ns

-- every number is below the bound
abbrev pub AllBelow : ℕ → List ℕ → Type 0
AllBelow bound [] = Unit {0}
AllBelow bound (n ∷ ns) = (n < bound) × AllBelow bound ns

-- `place` below the first number
pub place_below : (k n : ℕ) (ns : List ℕ) → k < n → place k (n ∷ ns) ≡ k ∷ n ∷ ns
place_below k n ns h = cond-true _ _ _ (lt-ltb k n h)

-- where the number stands already
pub place_here : (k n : ℕ) (ns : List ℕ) → k ≡ n → place k (n ∷ ns) ≡ n ∷ ns
place_here k n ns e = cond-false _ _ _ (le-ltb k n (omega arith)) ∙ cond-true _ _ _ (eq-eqb k n e)

-- and where it goes further on
pub place_past : (k n : ℕ) (ns : List ℕ) → n < k → place k (n ∷ ns) ≡ n ∷ place k ns
place_past k n ns h = cond-false _ _ _ (le-ltb k n (omega arith)) ∙ cond-false _ _ _ (ne_eqb k n (λ e. omega arith))

-- a higher bound from a lower one
pub AllAbove-lower : (m n : ℕ) (ns : List ℕ) → m < n → AllAbove n ns → AllAbove m ns
AllAbove-lower m n [] h a = tt
AllAbove-lower m n (k ∷ ns) h a = (omega arith, AllAbove-lower m n ns h a.1)

AllAbove-place : (m k : ℕ) (ns : List ℕ) → m < k → AllAbove m ns → AllAbove m (place k ns)
AllAbove-place m k [] h a = (h, tt)
AllAbove-place m k (n ∷ ns) h a =
    elim (cases_order k n) [
      | inl e ↦ rw (place_here k n ns e) a
      | inr d ↦ elim d [
        | inl below ↦ rw (place_below k n ns below) (h, a)
        | inr above ↦ rw (place_past k n ns above) (a.0, AllAbove-place m k ns h a.1)
      ]
    ]

-- one more number among ascending ones leaves them ascending
pub IsAscending-place : (k : ℕ) (ns : List ℕ) → IsAscending ns → IsAscending (place k ns)
IsAscending-place k [] a = (tt, tt)
IsAscending-place k (n ∷ ns) a =
    elim (cases_order k n) [
      | inl e ↦ rw (place_here k n ns e) a
      | inr d ↦ elim d [
        | inl below ↦ rw (place_below k n ns below) ((below, AllAbove-lower k n ns below a.0), a)
        | inr above ↦ rw (place_past k n ns above) (AllAbove-place n k ns above a.0, IsAscending-place k ns a.1)
      ]
    ]

-- `ascending` makes ascending lists
pub IsAscending-ascending : (ns : List ℕ) → IsAscending (ascending ns)
IsAscending-ascending [] = tt
IsAscending-ascending (n ∷ ns) = IsAscending-place n (ascending ns) (IsAscending-ascending ns)

pub place_first : (n : ℕ) (ns : List ℕ) → AllAbove n ns → place n ns ≡ n ∷ ns
place_first n [] a = refl
place_first n (m ∷ ns) a = place_below n m ns a.0

-- an ascending list is left as it is
pub ascending_same : (ns : List ℕ) → IsAscending ns → ascending ns ≡ ns
ascending_same [] a = refl
ascending_same (n ∷ ns) a = ap (place n) (ascending_same ns a.1) ∙ place_first n ns a.0

AllAbove-filter : (m : ℕ) (p : ℕ → Bool) (ns : List ℕ) → AllAbove m ns → AllAbove m (filter p ns)
AllAbove-filter m p [] a = tt
AllAbove-filter m p (n ∷ ns) a = cond_both (p n) _ _ (AllAbove m) (λ _. (a.0, AllAbove-filter m p ns a.1)) (λ _. AllAbove-filter m p ns a.1)

-- a filter leaves ascending numbers ascending
pub IsAscending-filter : (p : ℕ → Bool) (ns : List ℕ) → IsAscending ns → IsAscending (filter p ns)
IsAscending-filter p [] a = tt
IsAscending-filter p (n ∷ ns) a =
    cond_both (p n) _ _ IsAscending (λ _. (AllAbove-filter n p ns a.0, IsAscending-filter p ns a.1)) (λ _. IsAscending-filter p ns a.1)

AllAbove-front : (m : ℕ) (xs ys : List ℕ) → AllAbove m (xs ++ ys) → AllAbove m xs
AllAbove-front m [] ys a = tt
AllAbove-front m (x ∷ xs) ys a = (a.0, AllAbove-front m xs ys a.1)

-- the first part of an ascending list is ascending
pub IsAscending-front : (xs ys : List ℕ) → IsAscending (xs ++ ys) → IsAscending xs
IsAscending-front [] ys a = tt
IsAscending-front (x ∷ xs) ys a = (AllAbove-front x xs ys a.0, IsAscending-front xs ys a.1)

-- and so is the second part
pub IsAscending-back : (xs ys : List ℕ) → IsAscending (xs ++ ys) → IsAscending ys
IsAscending-back [] ys a = a
IsAscending-back (x ∷ xs) ys a = IsAscending-back xs ys a.1

AllAbove-middle : (m k : ℕ) (xs ys : List ℕ) → AllAbove m (xs ++ k ∷ ys) → m < k
AllAbove-middle m k [] ys a = a.0
AllAbove-middle m k (x ∷ xs) ys a = AllAbove-middle m k xs ys a.1

-- what stands before a number of an ascending list is below it
pub AllBelow-from_ascending : (k : ℕ) (xs ys : List ℕ) → IsAscending (xs ++ k ∷ ys) → AllBelow k xs
AllBelow-from_ascending k [] ys a = tt
AllBelow-from_ascending k (x ∷ xs) ys a = (AllAbove-middle x k xs ys a.0, AllBelow-from_ascending k xs ys a.1)

AllAbove-push : (m k : ℕ) (ns : List ℕ) → m < k → AllAbove m ns → AllAbove m (ns ++ k ∷ [])
AllAbove-push m k [] h a = (h, tt)
AllAbove-push m k (n ∷ ns) h a = (a.0, AllAbove-push m k ns h a.1)

-- a number above all may follow
pub IsAscending-push : (k : ℕ) (ns : List ℕ) → IsAscending ns → AllBelow k ns → IsAscending (ns ++ k ∷ [])
IsAscending-push k [] a b = (tt, tt)
IsAscending-push k (n ∷ ns) a b = (AllAbove-push n k ns b.0 a.0, IsAscending-push k ns a.1 b.1)

-- members

or_swap : (a b c : Bool) → (a || (b || c)) ≡ (b || (a || c))
or_swap true true c = refl
or_swap true false c = refl
or_swap false true c = refl
or_swap false false c = refl

or_twice : (a c : Bool) → (a || c) ≡ (a || (a || c))
or_twice true c = refl
or_twice false c = refl

-- ascending order keeps the answer of a test for some number
pub any_place : (p : ℕ → Bool) (n : ℕ) (ns : List ℕ) → list_any p (place n ns) ≡ (p n || list_any p ns)
any_place p n [] = refl
any_place p n (m ∷ ms) =
    cond_both (nat_lt n m) _ _ (λ l. list_any p l ≡ (p n || (p m || list_any p ms))) (λ _. refl) (λ _.
    cond_both (n == m) _ _ (λ l. list_any p l ≡ (p n || (p m || list_any p ms)))
    (λ e. or_twice (p m) (list_any p ms) ∙ ap (λ k. p k || (p m || list_any p ms)) (sym (eqb-true n m e)))
    (λ _. ap (λ b. p m || b) (any_place p n ms) ∙ or_swap (p m) (p n) (list_any p ms)))

-- and so does making a list ascending
pub any_ascending : (p : ℕ → Bool) (ns : List ℕ) → list_any p (ascending ns) ≡ list_any p ns
any_ascending p [] = refl
any_ascending p (n ∷ ns) = any_place p n (ascending ns) ∙ ap (λ b. p n || b) (any_ascending p ns)

-- an ascending list has the members of the list that it was made from
pub has-ascending : (k : ℕ) (ns : List ℕ) → has k (ascending ns) ≡ has k ns
has-ascending k ns = any_ascending (λ m. k == m) ns

-- two lists joined have the members of both
pub has-append : (k : ℕ) (xs ys : List ℕ) → has k (xs ++ ys) ≡ (has k xs || has k ys)
has-append k xs ys = list_any-append (λ m. k == m) xs ys

-- what is at or below a bound does not stand above it
pub has-above : (k n : ℕ) (ns : List ℕ) → k < n + 1 → AllAbove n ns → has k ns ≡ false
has-above k n [] h a = refl
has-above k n (m ∷ ns) h a = rw (ne_eqb k m (λ e. omega arith)) (has-above k n ns h a.1)

-- the first of a list stands in it
pub has-first : (n : ℕ) (ns : List ℕ) → has n (n ∷ ns) ≡ true
has-first n ns = or_left _ _ (eq-eqb n n refl)

-- another number stands in the rest alone
pub has-rest : (k n : ℕ) (ns : List ℕ) → (k ≡ n → ⊥) → has k (n ∷ ns) ≡ has k ns
has-rest k n ns d = rw (ne_eqb k n d)

rest_members : (x y : ℕ) (xs ys : List ℕ) → AllAbove x xs → AllAbove y ys → ((k : ℕ) → has k (x ∷ xs) ≡ has k (y ∷ ys)) → x ≡ y → (k : ℕ) → has k xs ≡ has k ys
rest_members x y xs ys a b h e k =
    elim (cases_eq k x) [
      | inl same ↦ has-above k x xs (omega arith) a ∙ sym (has-above k y ys (omega arith) b)
      | inr other ↦ sym (has-rest k x xs other) ∙ h k ∙ has-rest k y ys (λ s. other (s ∙ sym e))
    ]

-- the first numbers of two such lists are equal
pub first_members : (x y : ℕ) (xs ys : List ℕ) → AllAbove x xs → AllAbove y ys → ((k : ℕ) → has k (x ∷ xs) ≡ has k (y ∷ ys)) → x ≡ y
first_members x y xs ys a b h =
    elim (cases_order x y) [
      | inl e ↦ e
      | inr d ↦ elim d [
        | inl below ↦ absurd (true≢false (sym (has-first x xs) ∙ h x ∙ has-rest x y ys (λ e. omega arith) ∙ has-above x y ys (omega arith) b))
        | inr above ↦ absurd (true≢false (sym (has-first y ys) ∙ sym (h y) ∙ has-rest y x xs (λ e. omega arith) ∙ has-above y x xs (omega arith) a))
      ]
    ]

-- ascending lists with the same members are equal
pub ascending_from_members : (xs ys : List ℕ) → IsAscending xs → IsAscending ys → ((k : ℕ) → has k xs ≡ has k ys) → xs ≡ ys
ascending_from_members [] [] a b h = refl
ascending_from_members [] (y ∷ ys) a b h = absurd (false≢true (h y ∙ has-first y ys))
ascending_from_members (x ∷ xs) [] a b h = absurd (true≢false (sym (has-first x xs) ∙ h x))
ascending_from_members (x ∷ xs) (y ∷ ys) a b h =
    let e = first_members x y xs ys a.0 b.0 h in
    ap (λ n. n ∷ xs) e ∙ ap (λ (l : List ℕ). y ∷ l) (ascending_from_members xs ys a.1 b.1 (rest_members x y xs ys a.0 b.0 h e))

-- `ascending` depends on the members alone
pub ascending_of_members : (xs ys : List ℕ) → ((k : ℕ) → has k xs ≡ has k ys) → ascending xs ≡ ascending ys
ascending_of_members xs ys h =
    ascending_from_members (ascending xs) (ascending ys) (IsAscending-ascending xs) (IsAscending-ascending ys) (λ k. has-ascending k xs ∙ h k ∙ sym (has-ascending k ys))

-- an ascending list with the members of another is that one's `ascending`
pub ascending_is : (xs ys : List ℕ) → IsAscending ys → ((k : ℕ) → has k xs ≡ has k ys) → ascending xs ≡ ys
ascending_is xs ys a h = ascending_of_members xs ys h ∙ ascending_same ys a

-- a rearrangement has the same ascending list
pub ascending-IsPermutation : (xs ys : List ℕ) → IsPermutation xs ys → ascending xs ≡ ascending ys
ascending-IsPermutation xs ys p = ascending_of_members xs ys (λ k. list_any-IsPermutation (λ n. k == n) xs ys p)

or_comm : (a b : Bool) → (a || b) ≡ (b || a)
or_comm true true = refl
or_comm true false = refl
or_comm false true = refl
or_comm false false = refl

-- so may the second part
pub ascending-append_right : (xs ys : List ℕ) → ascending (xs ++ ascending ys) ≡ ascending (xs ++ ys)
ascending-append_right xs ys =
    ascending_of_members (xs ++ ascending ys) (xs ++ ys) (λ k. has-append k xs (ascending ys) ∙ ap (λ b. has k xs || b) (has-ascending k ys) ∙ sym (has-append k xs ys))

-- a test that each member passes
pub all_from_members : (p : ℕ → Bool) (ns : List ℕ) → ((k : ℕ) → has k ns ≡ true → p k ≡ true) → list_all p ns ≡ true
all_from_members p [] h = refl
all_from_members p (n ∷ ns) h = and_from (p n) _ (h n (has-first n ns)) (all_from_members p ns (λ k m. h k (or_right _ _ m)))

-- what the test says is a member by std's word
pub Contains-from_has : (k : ℕ) (ns : List ℕ) → has k ns ≡ true → Contains ns k
Contains-from_has k [] h = absurd (false≢true h)
Contains-from_has k (n ∷ ns) h =
    elim (or_cases (k == n) (has k ns) h) [
      | inl e ↦ (0, omega arith, sym (eqb-true k n e))
      | inr later ↦ let c = Contains-from_has k ns later in (suc c.0, omega arith, c.2)
    ]
