-- What is woven is the merge.
use Rattle.std.proofs.Common.{◌≡◌, ℕ, ◌+◌, ◌*◌, IsTrue, List, [], ◌++◌, length, drop, ap, ◌∙◌, arith}
use Rattle.std.specs.List.{concat}
use Rattle.std.proofs.lemmas.List.{append-nil, take-append-le, drop_all, length-append}
use Rattle.px_programs.specs.Entries.{entries_in, entries_of, count, is_entries, merged_entries, AreEntries-from_test}
use Rattle.px_programs.specs.InOrder.{in_order, is_ordered}
use Rattle.px_programs.specs.Weaving.{woven}
use Rattle.px_programs.proofs.EntryPlaces.{entries_in-same}

-- what stands behind entries makes no others of them
front_entries : (a b : List ℕ) → IsTrue (is_entries a) → entries_in (count a) (a ++ b) ≡ entries_of a
front_entries a b ha =
    let len = (AreEntries-from_test a ha).len in
    entries_in-same (count a) (a ++ b) a (take-append-le (12 * count a) a b (omega arith))

-- what `weave` says is the merge, where two lists of entries stand one behind the other
pub woven_is_merged : (held : ℕ) (a b lent now : List ℕ) → IsTrue (is_entries a) → IsTrue (is_entries b) → held ≡ count a → lent ≡ a ++ b
    → (IsTrue (is_ordered (entries_in held lent)) → IsTrue (is_ordered (entries_of b)) → now ≡ woven held (count b) lent b) → now ≡ merged_entries a b
unfolding merged_entries
woven_is_merged held a b lent now ha hb count_is is woven_is =
    let first = AreEntries-from_test a ha in
    let second = AreEntries-from_test b hb in
    let entries : entries_in held lent ≡ entries_of a = (λ i. entries_in (count_is i) (is i)) ∙ front_entries a b ha in
    let nothing : drop (12 * (held + count b)) lent ≡ [] =
    drop_all (12 * (held + count b)) lent (omega (arith, first.len, second.len, count_is, ap length is, length-append a b)) in
    woven_is (ap is_ordered entries ∙ first.ordered) second.ordered
    ∙ (λ i. concat (in_order (entries i ++ entries_of b)) ++ nothing i)
    ∙ append-nil (concat (in_order (entries_of a ++ entries_of b)))
