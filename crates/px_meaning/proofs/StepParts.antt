-- A step by its parts: by which it is beyond the limits, and what it gives within them.
use Rattle.std.proofs.Common.{◌≡◌, ℕ, List, [], ◌∷◌, ◌++◌, get_or, nat_lt, Bool, true, false, ◌||◌, Some, None, IsTrue, sym, ◌∙◌, ap, refl, subst, append_assoc, inl, inr}
use Rattle.std.specs.List.{AllByRecursion, list_any, list_all}
use Rattle.std.specs.Option.{option_or}
use Rattle.std.proofs.lemmas.Bool.{and_parts, and_from, ltb-true, cases_Bool, cond-true, or_cases, or_left, or_right, or_from, false≢true}
use Rattle.std.proofs.lemmas.List.Elements.{recursion_from_All}
use Rattle.px_meaning.specs.Graph.{lookup, pair_size}
use Rattle.px_meaning.specs.Merge.{MergeRule, MergeLaws, Pairs, AllValid}
use Rattle.px_meaning.specs.Phase.{computed_from, has_wide_answer}
use Rattle.px_meaning.specs.Program.{ProgramMeaning, Row}
use Rattle.px_meaning.specs.Step.{State, moment, is_active, row_at, rows, is_wide, has_wide_vertex, has_many_vertices, are_beyond, step}
use Rattle.px_meaning.proofs.Inbox.{AllValid-append}
use Rattle.px_meaning.proofs.Limits.{fits_at_lookup, wide_pair_among}
use Rattle.px_meaning.proofs.Rows.{rows_are, rows_active, rows_ascend, IsMap-changes, lookup-changes}
use Rattle.px_meaning.proofs.Settling.{lookup-put_all}
use Rattle.px_meaning.proofs.Steps.{steps_beyond, graph_before, graph_after}

-- a request above room makes its vid's fold so
pub wide_request : (rule : MergeRule) → MergeLaws rule → (room : ℕ) (front pairs : Pairs) → AllValid rule front → AllValid rule pairs → IsTrue (list_any (λ e. nat_lt room (pair_size e.1)) pairs) → IsTrue (are_beyond rule room (front ++ pairs))
wide_request rule laws room front [] hf hp h = absurd (false≢true h)
wide_request rule laws room front (e ∷ es) hf hp h =
    let parts = and_parts (rule.valid e.1) (list_all (λ (d : ℕ × List ℕ). rule.valid d.1) es) hp in
    elim (or_cases (nat_lt room (pair_size e.1)) (list_any (λ (d : ℕ × List ℕ). nat_lt room (pair_size d.1)) es) h) [
      | inl wide ↦ wide_pair_among rule laws room front es e.0 e.1 hf parts.1 parts.0 (ltb-true room (pair_size e.1) wide)
      | inr more ↦ subst (λ (l : Pairs). IsTrue (are_beyond rule room l)) (append_assoc front (e ∷ []) es)
          (wide_request rule laws room (front ++ e ∷ []) es (AllValid-append rule front (e ∷ []) hf (and_from (rule.valid e.1) true parts.0 refl)) parts.1 more)
    ]

-- of five tests one is true

first_of_five : (a b c d e : Bool) → a ≡ true → (a || b || c || d || e) ≡ true
first_of_five a b c d e h = or_left (a || b || c || d) e (or_left (a || b || c) d (or_left (a || b) c (or_left a b h)))

third_of_five : (a b c d e : Bool) → c ≡ true → (a || b || c || d || e) ≡ true
third_of_five a b c d e h = or_left (a || b || c || d) e (or_left (a || b || c) d (or_right (a || b) c h))

fourth_of_five : (a b c d e : Bool) → d ≡ true → (a || b || c || d || e) ≡ true
fourth_of_five a b c d e h = or_left (a || b || c || d) e (or_right (a || b || c) d h)

module _ (p : ProgramMeaning) (room : ℕ) (s : State) where
  -- a step beyond the limits is none
  step_beyond : steps_beyond p room s ≡ true → step p room s ≡ None
  step_beyond h = cond-true (steps_beyond p room s) _ _ h

  -- by a vertex before the requests
  pub wide_is_beyond : has_wide_vertex room (graph_before p s) ≡ true → step p room s ≡ None
  wide_is_beyond h =
      step_beyond (first_of_five (has_wide_vertex room (graph_before p s)) (has_wide_vertex room (graph_after p s)) (are_beyond p.message room (computed_from p s).sends) (are_beyond p.verdict room (computed_from p s).requests) (has_many_vertices (graph_after p s)) h)

  -- by the sends
  pub sends_are_beyond : are_beyond p.message room (computed_from p s).sends ≡ true → step p room s ≡ None
  sends_are_beyond h =
      step_beyond (third_of_five (has_wide_vertex room (graph_before p s)) (has_wide_vertex room (graph_after p s)) (are_beyond p.message room (computed_from p s).sends) (are_beyond p.verdict room (computed_from p s).requests) (has_many_vertices (graph_after p s)) h)

  -- by the requests
  pub requests_are_beyond : are_beyond p.verdict room (computed_from p s).requests ≡ true → step p room s ≡ None
  requests_are_beyond h =
      step_beyond (fourth_of_five (has_wide_vertex room (graph_before p s)) (has_wide_vertex room (graph_after p s)) (are_beyond p.message room (computed_from p s).sends) (are_beyond p.verdict room (computed_from p s).requests) (has_many_vertices (graph_after p s)) h)

  -- by the number of vertices
  pub many_is_beyond : has_many_vertices (graph_after p s) ≡ true → step p room s ≡ None
  many_is_beyond h =
      step_beyond (or_right (has_wide_vertex room (graph_before p s) || has_wide_vertex room (graph_after p s) || are_beyond p.message room (computed_from p s).sends || are_beyond p.verdict room (computed_from p s).requests) (has_many_vertices (graph_after p s)) h)

  none_wide : (rs : List Row) → AllByRecursion (λ r. is_wide room (p.out_of (moment s) r).vertex ≡ false) rs → has_wide_answer p room (moment s) rs ≡ false
  none_wide [] h = refl
  none_wide (r ∷ rs) h = or_from (is_wide room (p.out_of (moment s) r).vertex) _ h.0 (none_wide rs h.1)

  -- an answer above room is a vertex above room
  pub wide_answer : IsTrue (has_wide_answer p room (moment s) (rows p s)) → has_wide_vertex room (graph_before p s) ≡ true
  wide_answer here =
      elim (cases_Bool (has_wide_vertex room (graph_before p s))) [
        | inl on ↦ on
        | inr off ↦ absurd (false≢true (sym (none_wide (rows p s) (recursion_from_All (λ r. is_wide room (p.out_of (moment s) r).vertex ≡ false) (rows p s)
            (λ k d low. (let r = get_or (rows p s) k d in
            let is = rows_are p s k d low in
            let on : is_active (row_at p s r.vid) ≡ true = sym (ap is_active is) ∙ rows_active p s k d low in
            let found : lookup r.vid (graph_before p s) ≡ Some (p.out_of (moment s) (row_at p s r.vid)).vertex =
            lookup-put_all r.vid s.graph (computed_from p s).changes (IsMap-changes p (moment s) (rows p s) (rows_ascend p s)) ∙ ap (λ o. option_or o (lookup r.vid s.graph)) (lookup-changes p s r.vid on) in
            ap (λ (q : Row). is_wide room (p.out_of (moment s) q).vertex) is ∙ fits_at_lookup room r.vid _ (graph_before p s) off found)))) ∙ here))
      ]
