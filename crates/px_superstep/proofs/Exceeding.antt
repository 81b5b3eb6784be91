-- What is beyond the limits in one partition is so in the step.
use Rattle.std.proofs.Common.{◌≡◌, ◌<◌, ◌≤◌, ◌+◌, ◌^◌, ℕ, zero, suc, List, [], ◌∷◌, ◌++◌, length, filter, Bool, true, IsPermutation, sym, ◌∙◌, ap, subst, refl, inl, inr, arith}
use Rattle.std.specs.Prelude.{◌==◌, ◌||◌, flat_map, nat_lt, None}
use Rattle.std.specs.List.{list_any}
use Rattle.std.specs.Option.{option_or}
use Rattle.std.proofs.lemmas.Bool.{cases_Bool, cases_eq, cond-true, cond_both, or_cases, or_left, or_right, ltb-true, lt-ltb, false≢true}
use Rattle.std.proofs.lemmas.Grind.{flat_map-append}
use Rattle.std.proofs.lemmas.List.{append-nil, append_assoc}
use Rattle.std.proofs.lemmas.List.Sorted.{length_permutation, IsPermutation-sym, IsPermutation-trans, IsPermutation-append_left, IsPermutation-append_comm}
use Rattle.px_core.specs.Parts.{to_part, all_of, upto}
use Rattle.px_core.specs.Partition.{partition_of}
use Rattle.px_meaning.specs.Graph.{Graph, Vertex, IsMap, lookup, pair_size}
use Rattle.px_meaning.specs.Merge.{MergeRule, MergeLaws, Pairs, AllValid, grouped}
use Rattle.px_meaning.specs.Phase.{computed_from}
use Rattle.px_meaning.specs.Program.{ProgramMeaning, ProgramLaws}
use Rattle.px_meaning.specs.Step.{State, moment, rows, is_wide, has_wide_vertex, has_wide_fold, has_many_pairs, has_many_vertices, are_beyond, put_all, step}
use Rattle.px_meaning.proofs.Inbox.{AllValid-parts}
use Rattle.px_meaning.proofs.Limits.{beyond_with_more, fits_at_lookup, fits_from_lookups}
use Rattle.px_meaning.proofs.Rearranged.{grouped-IsPermutation, grouped-filter, AllValid-IsPermutation}
use Rattle.px_meaning.proofs.Rows.{rows_ascend, IsMap-changes}
use Rattle.px_meaning.proofs.Settling.{lookup-put_all}
use Rattle.px_meaning.proofs.StepParts.{wide_request, wide_is_beyond, sends_are_beyond, requests_are_beyond, many_is_beyond}
use Rattle.px_meaning.proofs.Steps.{graph_before, graph_after, steps_beyond}
use Rattle.px_program.specs.Posted.{asks_too_much}
use Rattle.px_mutations.specs.Applying.{is_settling_beyond}
use Rattle.px_superstep.specs.Parting.{times}
use Rattle.px_superstep.specs.Partial.{computed_at, after_at}
use Rattle.px_superstep.proofs.Composing.{upto_once, all_valid, part_valid, sends_all, requests_all, changes_at, delivered, settled_part}

-- what passes a test among those that are kept does so among all
any_kept : {X : Type 0} (test keep : X → Bool) (xs : List X) → list_any test (filter keep xs) ≡ true → list_any test xs ≡ true
any_kept test keep [] h = h
any_kept test keep (x ∷ xs) h =
    cond_both (keep x) (x ∷ filter keep xs) (filter keep xs) (λ l. list_any test l ≡ true → list_any test (x ∷ xs) ≡ true)
    (λ _ here. elim (or_cases (test x) (list_any test (filter keep xs)) here) [
      | inl first ↦ or_left (test x) (list_any test xs) first
      | inr later ↦ or_right (test x) (list_any test xs) (any_kept test keep xs later)
    ])
    (λ _ later. or_right (test x) (list_any test xs) (any_kept test keep xs later)) h

fewer_kept : {X : Type 0} (keep : X → Bool) (xs : List X) → length (filter keep xs) ≤ length xs
fewer_kept keep [] = omega arith
fewer_kept keep (x ∷ xs) =
    let rest = fewer_kept keep xs in
    cond_both (keep x) (x ∷ filter keep xs) (filter keep xs) (λ l. length l ≤ length (x ∷ xs)) (λ _. omega (arith, rest)) (λ _. omega (arith, rest))

-- what one partition has stands first, in some order
pub first_of_all : {Y : Type 0} (f : ℕ → List Y) (n q : ℕ) → q < n → (rest : List Y) × IsPermutation (f q ++ rest) (all_of n f)
first_of_all f zero q lt = absurd (omega (arith, lt))
first_of_all f (suc n) q lt =
    let split : all_of (suc n) f ≡ all_of n f ++ f n = flat_map-append f (upto n) (n ∷ []) ∙ ap (λ l. all_of n f ++ l) (append-nil (f n)) in
    elim (cases_eq q n) [
      | inl e ↦ (all_of n f, subst (λ l. IsPermutation (f q ++ all_of n f) l) (sym split) (subst (λ (k : ℕ). IsPermutation (f q ++ all_of n f) (all_of n f ++ f k)) e (IsPermutation-append_comm (f q) (all_of n f))))
      | inr other ↦
          let before = first_of_all f n q (omega (arith, lt, other)) in
          (before.0 ++ f n, subst (λ l. IsPermutation (f q ++ (before.0 ++ f n)) l) (sym split) (subst (λ l. IsPermutation l (all_of n f ++ f n)) (append_assoc (f q) before.0 (f n)) (IsPermutation-append_left (f n) (f q ++ before.0) (all_of n f) before.1)))
    ]

-- pairs in another order are beyond alike
beyond_moved : (rule : MergeRule) → MergeLaws rule → (room : ℕ) (a b : Pairs) → IsPermutation a b → AllValid rule a → are_beyond rule room a ≡ true → are_beyond rule room b ≡ true
beyond_moved rule laws room a b perm valid h = elim (or_cases (has_wide_fold rule room a) (has_many_pairs a) h) [
  | inl wide ↦ or_left (has_wide_fold rule room b) (has_many_pairs b) (ap (list_any (λ (e : ℕ × List ℕ). nat_lt room (pair_size e.1))) (sym (grouped-IsPermutation rule laws a b perm valid)) ∙ wide)
  | inr many ↦ or_right (has_wide_fold rule room b) (has_many_pairs b) (ap (nat_lt (2 ^ 40)) (length_permutation a b perm) ∙ many)
]

-- what one partition has is beyond, so is all
beyond_in_all : (rule : MergeRule) → MergeLaws rule → (room n q : ℕ) → q < n → (f : ℕ → Pairs) (whole : Pairs) → AllValid rule whole → IsPermutation (all_of n f) whole → are_beyond rule room (f q) ≡ true → are_beyond rule room whole ≡ true
beyond_in_all rule laws room n q lt f whole valid perm h =
    let first = first_of_all f n q lt in
    let moved = IsPermutation-trans (f q ++ first.0) (all_of n f) whole first.1 perm in
    let valid_first : AllValid rule (f q ++ first.0) = AllValid-IsPermutation rule laws whole (f q ++ first.0) (IsPermutation-sym (f q ++ first.0) whole moved) valid in
    let both = AllValid-parts rule (f q) first.0 valid_first in
    beyond_moved rule laws room (f q ++ first.0) whole moved valid_first (beyond_with_more rule laws room (f q) first.0 both.0 both.1 h)

-- so is a request that is too wide by itself
asked_beyond : (rule : MergeRule) → MergeLaws rule → (room : ℕ) (pairs : Pairs) → AllValid rule pairs → asks_too_much room pairs ≡ true → are_beyond rule room pairs ≡ true
asked_beyond rule laws room pairs valid h = elim (or_cases (list_any (λ (e : ℕ × List ℕ). nat_lt room (pair_size e.1)) pairs) (has_many_pairs pairs) h) [
  | inl wide ↦ wide_request rule laws room [] pairs refl valid wide
  | inr many ↦ or_right (has_wide_fold rule room pairs) (has_many_pairs pairs) many
]

-- new vertices above room are in the graph
wide_put : (room : ℕ) (g c : Graph) → IsMap c → has_wide_vertex room c ≡ true → has_wide_vertex room (put_all g c) ≡ true
wide_put room g c m wide = elim (cases_Bool (has_wide_vertex room (put_all g c))) [
  | inl on ↦ on
  | inr off ↦ absurd (false≢true (sym (fits_from_lookups room c m (λ v x at. fits_at_lookup room v x (put_all g c) off (lookup-put_all v g c m ∙ ap (λ o. option_or o (lookup v g)) at))) ∙ wide))
]

module _ (p : ProgramMeaning) (laws : ProgramLaws p) (room n : ℕ) (some : 0 < n) (s : State) (m : IsMap s.graph) (valid : AllValid p.message s.sends) where
  -- a step beyond the limits by a vertex after the requests
  wide_after : has_wide_vertex room (graph_after p s) ≡ true → step p room s ≡ None
  wide_after h =
      let a = has_wide_vertex room (graph_before p s) in
      let b = has_wide_vertex room (graph_after p s) in
      let c = are_beyond p.message room (computed_from p s).sends in
      let d = are_beyond p.verdict room (computed_from p s).requests in
      cond-true (steps_beyond p room s) _ _ (or_left (a || b || c || d) (has_many_vertices (graph_after p s)) (or_left (a || b || c) d (or_left (a || b) c (or_right a b h))))

  -- what one partition computes is beyond the limits
  pub part_beyond : (q : ℕ) → q < n → (has_wide_vertex room (computed_at p n s q).changes || (are_beyond p.message room (computed_at p n s q).sends || asks_too_much room (computed_at p n s q).requests)) ≡ true → step p room s ≡ None
  part_beyond q lt h =
      let c = computed_at p n s q in
      let all = all_valid p laws n some s valid in
      let own = part_valid p laws n some s valid q in
      let once = λ (k : ℕ) (low : k < n). upto_once n k low in
      elim (or_cases (has_wide_vertex room c.changes) (are_beyond p.message room c.sends || asks_too_much room c.requests) h) [
        | inl wide ↦ wide_is_beyond p room s (wide_put room s.graph (computed_from p s).changes (IsMap-changes p (moment s) (rows p s) (rows_ascend p s))
            (any_kept (λ (e : ℕ × Vertex). is_wide room e.1) (λ e. partition_of e.0 n == q) (computed_from p s).changes (ap (has_wide_vertex room) (sym (changes_at p laws n some s q)) ∙ wide)))
        | inr pairs ↦ elim (or_cases (are_beyond p.message room c.sends) (asks_too_much room c.requests) pairs) [
          | inl sends ↦ sends_are_beyond p room s (beyond_in_all p.message laws.messages room n q lt (λ k. (computed_at p n s k).sends) (computed_from p s).sends all.0 (sends_all p laws n some s (upto n) once) sends)
          | inr asked ↦ requests_are_beyond p room s (beyond_in_all p.verdict laws.verdicts room n q lt (λ k. (computed_at p n s k).requests) (computed_from p s).requests all.1 (requests_all p laws n some s (upto n) once)
              (asked_beyond p.verdict laws.verdicts room c.requests own.1 asked))
        ]
      ]

  -- all partitions send too much, or request too much
  pub many_sends : (done : List ℕ) → ((k : ℕ) → k < n → times k done ≡ 1) → 2 ^ 40 < length (flat_map (λ q. (computed_at p n s q).sends) done) → step p room s ≡ None
  many_sends done once many =
      let same = length_permutation _ _ (sends_all p laws n some s done once) in
      sends_are_beyond p room s (or_right (has_wide_fold p.message room (computed_from p s).sends) _ (lt-ltb (2 ^ 40) (length (computed_from p s).sends) (omega (arith, same, many))))

  pub many_requests : (done : List ℕ) → ((k : ℕ) → k < n → times k done ≡ 1) → 2 ^ 40 < length (flat_map (λ q. (computed_at p n s q).requests) done) → step p room s ≡ None
  many_requests done once many =
      let same = length_permutation _ _ (requests_all p laws n some s done once) in
      requests_are_beyond p room s (or_right (has_wide_fold p.verdict room (computed_from p s).requests) _ (lt-ltb (2 ^ 40) (length (computed_from p s).requests) (omega (arith, same, many))))

  -- what is delivered to one of them is
  pub fold_beyond : (pieces : ℕ → Pairs) → ((q : ℕ) → q < n → AllValid p.message (pieces q) × (grouped p.message (pieces q) ≡ grouped p.message (computed_at p n s q).sends))
      → (q : ℕ) → has_wide_fold p.message room (to_part n q (all_of n pieces)) ≡ true → step p room s ≡ None
  fold_beyond pieces are q wide =
      let test : ℕ × List ℕ → Bool = λ e. nat_lt room (pair_size e.1) in
      sends_are_beyond p room s (or_left (has_wide_fold p.message room (computed_from p s).sends) _
      (any_kept test (λ e. partition_of e.0 n == q) (grouped p.message (computed_from p s).sends) (ap (list_any test) (sym (delivered p laws n some s pieces valid are q)) ∙ wide)))

  -- what is settled in one of them is
  pub settling_beyond : (done : List ℕ) → ((k : ℕ) → k < n → times k done ≡ 1) → (q : ℕ)
      → is_settling_beyond p room (after_at p n s (flat_map (λ k. (computed_at p n s k).requests) done) q) (to_part n q (flat_map (λ k. (computed_at p n s k).requests) done)) ≡ true → step p room s ≡ None
  settling_beyond done once q h =
      let asked = flat_map (λ k. (computed_at p n s k).requests) done in
      let requests = (computed_from p s).requests in
      let perm = requests_all p laws n some s done once in
      let asked_valid = AllValid-IsPermutation p.verdict laws.verdicts requests asked (IsPermutation-sym asked requests perm) (all_valid p laws n some s valid).1 in
      let is = settled_part p laws n some s q asked m asked_valid perm in
      let after = after_at p n s asked q in
      let keep : ℕ × Vertex → Bool = λ e. partition_of e.0 n == q in
      let test : ℕ × List ℕ → Bool = λ e. nat_lt room (pair_size e.1) in
      elim (or_cases (has_wide_vertex room after || has_wide_fold p.verdict room (to_part n q asked)) (has_many_vertices after) h) [
        | inl wide ↦ elim (or_cases (has_wide_vertex room after) (has_wide_fold p.verdict room (to_part n q asked)) wide) [
          | inl vertex ↦ wide_after (any_kept (λ (e : ℕ × Vertex). is_wide room e.1) keep (graph_after p s) (ap (has_wide_vertex room) (sym is) ∙ vertex))
          | inr fold ↦ requests_are_beyond p room s (or_left (has_wide_fold p.verdict room requests) _
              (ap (list_any test) (sym (grouped-IsPermutation p.verdict laws.verdicts asked requests perm asked_valid))
              ∙ any_kept test (λ e. partition_of e.0 n == q) (grouped p.verdict asked) (ap (list_any test) (sym (grouped-filter p.verdict (λ v. partition_of v n == q) asked)) ∙ fold)))
        ]
        | inr many ↦ many_is_beyond p room s (lt-ltb (2 ^ 32) (length (graph_after p s)) (let here = ltb-true (2 ^ 32) (length after) many in let same = ap length is in let fewer = fewer_kept keep (graph_after p s) in omega (arith, here, same, fewer)))
      ]

  -- all of them together leave too many vertices
  pub many_vertices : 2 ^ 32 < length (graph_after p s) → step p room s ≡ None
  many_vertices many = many_is_beyond p room s (lt-ltb (2 ^ 32) (length (graph_after p s)) many)
