-- The rows of a partition are those of all that are in it, and what they compute is what all compute of it.
use Rattle.std.proofs.Common.{◌≡◌, ℕ, List, [], ◌∷◌, ◌++◌, map, filter, Bool, true, sym, ◌∙◌, ap, refl, inl, inr}
use Rattle.std.specs.Prelude.{◌==◌, ◌||◌}
use Rattle.std.proofs.lemmas.List.Elements.{filter-append}
use Rattle.std.proofs.lemmas.Bool.{cases_eq, cases_Bool, cond-true, cond-false, cond_both}
use Rattle.px_core.specs.Parts.{to_part}
use Rattle.px_core.specs.Partition.{partition_of}
use Rattle.px_meaning.specs.Graph.{Graph, lookup, vids, ascending}
use Rattle.px_meaning.specs.Merge.{Pairs, grouped}
use Rattle.px_meaning.specs.Program.{ProgramMeaning, Moment, Row}
use Rattle.px_meaning.specs.Step.{State, is_active, row_at, rows, computed}
use Rattle.px_meaning.proofs.Ascending.{ascending_is, has, has-rest, has-ascending, IsAscending-ascending, IsAscending-filter, ascending-append_right}
use Rattle.px_meaning.proofs.Rows.{has-filter_no}
use Rattle.px_meaning.proofs.MapParts.{vids-filter, lookup-filter_on}
use Rattle.px_meaning.proofs.Grouping.{lookup-grouped, vids-grouped}
use Rattle.px_store.specs.Joins.{rows_in}
use Rattle.px_superstep.specs.Partial.{graph_at, messages_at, rows_at}

has-filter_same : (k : ℕ) (q : ℕ → Bool) (ns : List ℕ) → q k ≡ true → has k (filter q ns) ≡ has k ns
has-filter_same k q [] on = refl
has-filter_same k q (n ∷ ns) on =
    let rest = has-filter_same k q ns on in
    elim (cases_eq k n) [
      | inl e ↦ ap (has k) (cond-true (q n) (n ∷ filter q ns) (filter q ns) (ap q (sym e) ∙ on)) ∙ ap (λ b. (k == n) || b) rest
      | inr other ↦ cond_both (q n) _ _ (λ l. has k l ≡ has k (n ∷ ns)) (λ _. ap (λ b. (k == n) || b) rest) (λ _. rest ∙ sym (has-rest k n ns other))
    ]

pub ascending-filter : (q : ℕ → Bool) (xs : List ℕ) → ascending (filter q xs) ≡ filter q (ascending xs)
ascending-filter q xs =
    ascending_is (filter q xs) (filter q (ascending xs)) (IsAscending-filter q (ascending xs) (IsAscending-ascending xs)) (λ k. elim (cases_Bool (q k)) [
      | inl on ↦ has-filter_same k q xs on ∙ sym (has-ascending k xs) ∙ sym (has-filter_same k q (ascending xs) on)
      | inr off ↦ has-filter_no k q xs off ∙ sym (has-filter_no k q (ascending xs) off)
    ])

-- the row of a vid in a graph and messages
abbrev row_of : Graph → Pairs → ℕ → Row
row_of g m v = record { vid = v; vertex = lookup v g; message = lookup v m }

module _ (p : ProgramMeaning) (parts : ℕ) (s : State) (q : ℕ) where
  abbrev is_in : ℕ → Bool
  is_in v = partition_of v parts == q

  row_same : (v : ℕ) → is_in v ≡ true → row_of (graph_at parts s q) (messages_at p parts s q) v ≡ row_at p s v
  row_same v on =
      ap (λ o. record { vid = v; vertex = o; message = lookup v (messages_at p parts s q) }) (lookup-filter_on is_in v s.graph on)
      ∙ ap (λ o. record { vid = v; vertex = lookup v s.graph; message = o }) (lookup-filter_on is_in v (grouped p.message s.sends) on ∙ lookup-grouped p.message s.sends v)

  part_rows : (ns : List ℕ) → filter is_active (map (row_of (graph_at parts s q) (messages_at p parts s q)) (filter is_in ns)) ≡ rows_at parts q (filter is_active (map (row_at p s) ns))
  part_rows [] = refl
  part_rows (n ∷ ns) =
      let f = row_of (graph_at parts s q) (messages_at p parts s q) in
      let rest = part_rows ns in
      let after : List Row = filter is_active (map (row_at p s) ns) in
      elim (cases_Bool (is_in n)) [
        | inl on ↦
            ap (λ l. filter is_active (map f l)) (cond-true (is_in n) (n ∷ filter is_in ns) (filter is_in ns) on)
            ∙ ap (λ r. filter is_active (r ∷ map f (filter is_in ns))) (row_same n on)
            ∙ cond_both (is_active (row_at p s n)) (row_at p s n ∷ filter is_active (map f (filter is_in ns))) (filter is_active (map f (filter is_in ns)))
            (λ l. l ≡ rows_at parts q (filter is_active (map (row_at p s) (n ∷ ns))))
            (λ active. sym (ap (rows_at parts q) (cond-true (is_active (row_at p s n)) (row_at p s n ∷ after) after active) ∙ cond-true (is_in n) (row_at p s n ∷ rows_at parts q after) (rows_at parts q after) on ∙ ap (λ (l : List Row). row_at p s n ∷ l) (sym rest)))
            (λ idle. rest ∙ sym (ap (rows_at parts q) (cond-false (is_active (row_at p s n)) (row_at p s n ∷ after) after idle)))
        | inr off ↦
            ap (λ l. filter is_active (map f l)) (cond-false (is_in n) (n ∷ filter is_in ns) (filter is_in ns) off)
            ∙ rest
            ∙ cond_both (is_active (row_at p s n)) (row_at p s n ∷ after) after (λ l. rows_at parts q after ≡ rows_at parts q l)
            (λ active. sym (cond-false (is_in n) (row_at p s n ∷ rows_at parts q after) (rows_at parts q after) off)) (λ idle. refl)
      ]

  vids_at : vids (graph_at parts s q) ++ vids (messages_at p parts s q) ≡ filter is_in (vids s.graph ++ vids (grouped p.message s.sends))
  vids_at =
      ap (λ l. l ++ vids (messages_at p parts s q)) (vids-filter is_in s.graph) ∙ ap (λ l. filter is_in (vids s.graph) ++ l) (vids-filter is_in (grouped p.message s.sends))
      ∙ sym (filter-append is_in (vids s.graph) (vids (grouped p.message s.sends)))

  pub rows_of_part : rows_in (graph_at parts s q) (messages_at p parts s q) ≡ rows_at parts q (rows p s)
  rows_of_part =
      ap (λ l. filter is_active (map (row_of (graph_at parts s q) (messages_at p parts s q)) l))
      (ap ascending vids_at ∙ ascending-filter is_in (vids s.graph ++ vids (grouped p.message s.sends))
      ∙ ap (filter is_in) (ap (λ l. ascending (vids s.graph ++ l)) (vids-grouped p.message s.sends) ∙ ascending-append_right (vids s.graph) (vids s.sends)))
      ∙ part_rows (ascending (vids s.graph ++ vids s.sends))

-- what the rows of a partition compute

module _ (p : ProgramMeaning) (at : Moment) (parts q : ℕ) where
  pub changes_of_part : (rs : List Row) → (computed p at (rows_at parts q rs)).changes ≡ to_part parts q (computed p at rs).changes
  changes_of_part [] = refl
  changes_of_part (r ∷ rs) =
      cond_both (partition_of r.vid parts == q) (r ∷ rows_at parts q rs) (rows_at parts q rs) (λ (l : List Row). (computed p at l).changes ≡ to_part parts q (computed p at (r ∷ rs)).changes)
      (λ on. ap (λ (l : Graph). (r.vid, (p.out_of at r).vertex) ∷ l) (changes_of_part rs) ∙ sym (cond-true (partition_of r.vid parts == q) _ _ on))
      (λ off. changes_of_part rs ∙ sym (cond-false (partition_of r.vid parts == q) _ _ off))
