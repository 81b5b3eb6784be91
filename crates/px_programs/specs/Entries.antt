-- Entries: edges turned round, each the bytes of an edge, in byte order.
use Rattle.std.specs.Prelude.{◌≡◌, ◌≤◌, ℕ, zero, suc, ◌+◌, ◌-◌, ◌*◌, ◌/◌, ◌%◌, Bool, ◌&&◌, ◌==◌, nat_lt, IsTrue, List, [], ◌∷◌, ◌++◌, length, take, drop}
use Rattle.std.specs.Cmp.{first_so, second_so}
use Rattle.std.specs.Cmp.Derive.{both_true}
use Rattle.std.specs.List.{concat, list_all}
use Rattle.std.proofs.Common.{refl, sym, ap, subst, ◌∙◌, lit≤}
use Rattle.std.proofs.Math.Nat.{mul-suc, mul-add, add_comm, mul-div_cancel_left, mul-mod_right, add-sub_cancel, le-add_left, le-add_right, le_trans}
use Rattle.std.proofs.lemmas.Bool.{eqb-true, eq-eqb, ltb-true, lt-ltb}
use Rattle.std.proofs.lemmas.List.{length-append, length-drop, length-take-le, take_at, drop_at}
use Rattle.std.proofs.lemmas.List.Folds.{list_all-append}
use Rattle.px_meaning.specs.Merge.{MergeRule, MergeLaws}
use Rattle.px_record.specs.Body.{edge_bytes}
use Rattle.px_programs.specs.InOrder.{in_order, is_ordered, in_order_commutes, in_order_associates, in_order_ordered, in_order_all, length-in_order}

-- so many entries at the front of the bytes
abbrev pub entries_in : ℕ → List ℕ → List (List ℕ)
entries_in zero bytes = []
entries_in (suc n) bytes = take 12 bytes ∷ entries_in n (drop 12 bytes)

-- how many entries the bytes have
abbrev pub count : List ℕ → ℕ
count bytes = length bytes / 12

abbrev pub entries_of : List ℕ → List (List ℕ)
entries_of bytes = entries_in (count bytes) bytes

-- one entry or more, in order
unfoldable pub is_entries : List ℕ → Bool
is_entries bytes = length bytes == 12 * count bytes && nat_lt zero (count bytes) && is_ordered (entries_of bytes)

-- all entries of both, in order
unfoldable pub merged_entries : List ℕ → List ℕ → List ℕ
merged_entries a b = concat (in_order (entries_of a ++ entries_of b))

abbrev pub entries_rule : MergeRule
entries_rule = record { valid = is_entries; merge = merged_entries }

-- each has twelve bytes
abbrev pub are_whole : List (List ℕ) → Bool
are_whole es = list_all (λ e. length e == 12) es

-- entries are read back

length-entries_in : (n : ℕ) (bytes : List ℕ) → length (entries_in n bytes) ≡ n
length-entries_in zero bytes = refl
length-entries_in (suc n) bytes = ap suc (length-entries_in n (drop 12 bytes))

-- the bytes of one entry more
one_more : (n : ℕ) (bytes : List ℕ) → length bytes ≡ 12 * suc n → length bytes ≡ 12 * n + 12
one_more n bytes h = h ∙ mul-suc 12 n

whole_in : (n : ℕ) (bytes : List ℕ) → length bytes ≡ 12 * n → IsTrue (are_whole (entries_in n bytes))
whole_in zero bytes h = refl
whole_in (suc n) bytes h =
    let more = one_more n bytes h in
    let first = length-take-le 12 bytes (subst (λ (k : ℕ). 12 ≤ k) (sym more) (le-add_left 12 (12 * n))) in
    let rest = length-drop 12 bytes ∙ ap (λ (k : ℕ). k - 12) more ∙ add-sub_cancel (12 * n) 12 in
    both_true (eq-eqb _ 12 first) (whole_in n (drop 12 bytes) rest)

length_joined : (es : List (List ℕ)) → IsTrue (are_whole es) → length (concat es) ≡ 12 * length es
length_joined [] all = refl
length_joined (e ∷ es) all =
    let first = eqb-true (length e) 12 (first_so (length e == 12) _ all) in
    length-append e (concat es) ∙ ap (λ (k : ℕ). k + length (concat es)) first ∙ ap (λ (k : ℕ). 12 + k) (length_joined es (second_so (length e == 12) _ all))
    ∙ add_comm 12 (12 * length es) ∙ sym (mul-suc 12 (length es))

count_joined : (es : List (List ℕ)) → IsTrue (are_whole es) → count (concat es) ≡ length es
count_joined es all = ap (λ (k : ℕ). k / 12) (length_joined es all) ∙ mul-div_cancel_left (length es) (lit≤ tt)

in_joined : (es : List (List ℕ)) → IsTrue (are_whole es) → entries_in (length es) (concat es) ≡ es
in_joined [] all = refl
in_joined (e ∷ es) all =
    let first = eqb-true (length e) 12 (first_so (length e == 12) _ all) in
    let tail : List (List ℕ) = entries_in (length es) (drop 12 (concat (e ∷ es))) in
    ap (λ (x : List ℕ). x ∷ tail) (take_at e (concat es) 12 first)
    ∙ ap (λ (x : List (List ℕ)). e ∷ x) (ap (entries_in (length es)) (drop_at e (concat es) 12 first) ∙ in_joined es (second_so (length e == 12) _ all))

pub entries_of_joined : (es : List (List ℕ)) → IsTrue (are_whole es) → entries_of (concat es) ≡ es
entries_of_joined es all = ap (λ (n : ℕ). entries_in n (concat es)) (count_joined es all) ∙ in_joined es all

-- what the test says
pub record AreEntries (bytes : List ℕ) : Type 0 where
  pub len : length bytes ≡ 12 * count bytes
  pub some : IsTrue (nat_lt zero (count bytes))
  pub ordered : IsTrue (is_ordered (entries_of bytes))
  pub whole : IsTrue (are_whole (entries_of bytes))

pub AreEntries-from_test : (bytes : List ℕ) → IsTrue (is_entries bytes) → AreEntries bytes
unfolding is_entries
AreEntries-from_test bytes h =
    let front = first_so (length bytes == 12 * count bytes && nat_lt zero (count bytes)) _ h in
    let len = eqb-true (length bytes) (12 * count bytes) (first_so (length bytes == 12 * count bytes) _ front) in
    record {
      len = len;
      some = second_so (length bytes == 12 * count bytes) _ front;
      ordered = second_so (length bytes == 12 * count bytes && nat_lt zero (count bytes)) _ h;
      whole = whole_in (count bytes) bytes len;
    }

pub entries_whole : (bytes : List ℕ) → IsTrue (is_entries bytes) → length bytes % 12 ≡ 0
entries_whole bytes h = ap (λ (n : ℕ). n % 12) (AreEntries-from_test bytes h).len ∙ mul-mod_right 12 (count bytes)

-- whole entries in order are such bytes
test_joined : (es : List (List ℕ)) → IsTrue (are_whole es) → IsTrue (nat_lt zero (length es)) → IsTrue (is_ordered es) → IsTrue (is_entries (concat es))
unfolding is_entries
test_joined es all some ordered =
    let count_is = count_joined es all in
    let len = length_joined es all ∙ ap (λ (k : ℕ). 12 * k) (sym count_is) in
    both_true (both_true (eq-eqb _ (12 * count (concat es)) len) (ap (nat_lt zero) count_is ∙ some)) (ap is_ordered (entries_of_joined es all) ∙ ordered)

-- the bytes of one edge are one entry
pub entry_valid : (edge : ℕ × ℕ) → IsTrue (is_entries (edge_bytes edge))
unfolding is_entries
entry_valid edge = refl

-- the laws

both_whole : (a b : List ℕ) → IsTrue (is_entries a) → IsTrue (is_entries b) → IsTrue (are_whole (in_order (entries_of a ++ entries_of b)))
both_whole a b ha hb =
    in_order_all (λ e. length e == 12) (entries_of a ++ entries_of b)
    (list_all-append (λ e. length e == 12) (entries_of a) (entries_of b) ∙ both_true (AreEntries-from_test a ha).whole (AreEntries-from_test b hb).whole)

count_both : (a b : List ℕ) → length (in_order (entries_of a ++ entries_of b)) ≡ count a + count b
count_both a b =
    length-in_order (entries_of a ++ entries_of b) ∙ length-append (entries_of a) (entries_of b)
    ∙ (λ i. length-entries_in (count a) a i + length-entries_in (count b) b i)

pub entries_of_merged : (a b : List ℕ) → IsTrue (is_entries a) → IsTrue (is_entries b) → entries_of (merged_entries a b) ≡ in_order (entries_of a ++ entries_of b)
unfolding merged_entries
entries_of_merged a b ha hb = entries_of_joined (in_order (entries_of a ++ entries_of b)) (both_whole a b ha hb)

-- the merge has the bytes of both
pub length-merged_entries : (a b : List ℕ) → IsTrue (is_entries a) → IsTrue (is_entries b) → length (merged_entries a b) ≡ length a + length b
unfolding merged_entries
length-merged_entries a b ha hb =
    length_joined (in_order (entries_of a ++ entries_of b)) (both_whole a b ha hb) ∙ ap (λ (k : ℕ). 12 * k) (count_both a b) ∙ mul-add 12 (count a) (count b)
    ∙ sym (λ i. (AreEntries-from_test a ha).len i + (AreEntries-from_test b hb).len i)

some_more : (n m : ℕ) → IsTrue (nat_lt zero n) → IsTrue (nat_lt zero (n + m))
some_more n m h = lt-ltb zero (n + m) (le_trans (ltb-true zero n h) (le-add_right n m))

closed : (a b : List ℕ) → IsTrue (is_entries a) → IsTrue (is_entries b) → IsTrue (is_entries (merged_entries a b))
unfolding merged_entries
closed a b ha hb =
    let es = in_order (entries_of a ++ entries_of b) in
    test_joined es (both_whole a b ha hb) (ap (nat_lt zero) (count_both a b) ∙ some_more (count a) (count b) (AreEntries-from_test a ha).some) (in_order_ordered (entries_of a ++ entries_of b))

commutes : (a b : List ℕ) → merged_entries a b ≡ merged_entries b a
unfolding merged_entries
commutes a b = ap concat (in_order_commutes (entries_of a) (entries_of b))

associates : (a b c : List ℕ) → IsTrue (is_entries a) → IsTrue (is_entries b) → IsTrue (is_entries c) → merged_entries a (merged_entries b c) ≡ merged_entries (merged_entries a b) c
unfolding merged_entries
associates a b c ha hb hc =
    ap (λ (es : List (List ℕ)). concat (in_order (entries_of a ++ es))) (entries_of_merged b c hb hc)
    ∙ ap concat (in_order_associates (entries_of a) (entries_of b) (entries_of c))
    ∙ sym (ap (λ (es : List (List ℕ)). concat (in_order (es ++ entries_of c))) (entries_of_merged a b ha hb))

pub entries_laws : MergeLaws entries_rule
entries_laws = record {
  closed = closed;
  commutes = λ a b ha hb. commutes a b;
  associates = associates;
  no_shorter = λ a b ha hb. subst (λ (n : ℕ). length a ≤ n) (sym (length-merged_entries a b ha hb)) (le-add_right (length a) (length b));
}
