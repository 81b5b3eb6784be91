-- The rows of all vids that a state names: when none is active, and what they are after the compute phase.
use Rattle.std.proofs.Common.{◌≡◌, ℕ, List, [], ◌∷◌, ◌++◌, map, filter, Bool, true, false, not, Option, Some, None, is_some, sym, ◌∙◌, ap, refl, subst, inl, inr}
use Rattle.std.specs.List.{list_all}
use Rattle.std.specs.Option.{option_or}
use Rattle.std.proofs.lemmas.Bool.{cases_Bool, cond-true, cond-false, or_cases, or_parts, and_from, and_parts, false≢true}
use Rattle.px_meaning.specs.Attached.{plain, plain_row}
use Rattle.px_meaning.specs.Graph.{Vertex, lookup, vids, ascending, vertex_or_fresh, IsAscending, IsMap}
use Rattle.px_meaning.specs.Meaning.{is_halted}
use Rattle.px_meaning.specs.Phase.{computed_from, computed_row}
use Rattle.px_meaning.specs.Program.{ProgramMeaning, Row}
use Rattle.px_meaning.specs.Step.{State, moment, is_awake, is_active, row_at, rows, put_all}
use Rattle.px_meaning.proofs.Ascending.{has, has-append, has-ascending, IsAscending-ascending}
use Rattle.px_meaning.proofs.Each.{vids_of_each, lookup_of_each, map_agree, map_map}
use Rattle.px_meaning.proofs.Inbox.{is_some-inbox}
use Rattle.px_meaning.proofs.Maps.{lookup_none, maps_equal, is_some-lookup}
use Rattle.px_meaning.proofs.Rows.{active_is_named, rows_ascend, IsMap-changes, lookup-changes, lookup-changes_idle}
use Rattle.px_meaning.proofs.Settling.{IsMap-put_all, lookup-put_all}
use Rattle.px_meaning.proofs.Steps.{halted_iff}

none_active : (rs : List Row) → filter is_active rs ≡ [] → list_all (λ r. not (is_active r)) rs ≡ true
none_active [] h = refl
none_active (r ∷ rs) h =
    elim (cases_Bool (is_active r)) [
      | inl on ↦ absurd (cc (sym (cond-true (is_active r) (r ∷ filter is_active rs) (filter is_active rs) on) ∙ h))
      | inr off ↦ and_from (not (is_active r)) _ (ap not off) (none_active rs (sym (cond-false (is_active r) (r ∷ filter is_active rs) (filter is_active rs) off) ∙ h))
    ]

no_active : (rs : List Row) → list_all (λ r. not (is_active r)) rs ≡ true → filter is_active rs ≡ []
no_active [] h = refl
no_active (r ∷ rs) h =
    let parts = and_parts (not (is_active r)) _ h in
    elim (cases_Bool (is_active r)) [
      | inl on ↦ absurd (false≢true (ap not (sym on) ∙ parts.0))
      | inr off ↦ cond-false (is_active r) (r ∷ filter is_active rs) (filter is_active rs) off ∙ no_active rs parts.1
    ]

same_tests : (a b : Bool) → (a ≡ true → b ≡ true) → (b ≡ true → a ≡ true) → a ≡ b
same_tests true b h k = sym (h refl)
same_tests false true h k = k refl
same_tests false false h k = refl

-- where no row that the state names is active the state is halted
pub halted_by_rows : (p : ProgramMeaning) (s : State) → IsMap s.graph → (rs : List Row) → filter is_active rs ≡ rows p s → list_all (λ r. not (is_active r)) rs ≡ is_halted s
halted_by_rows p s m rs are =
    let iff = halted_iff p s m in
    same_tests (list_all (λ r. not (is_active r)) rs) (is_halted s) (λ idle. iff.1 (sym are ∙ no_active rs idle)) (λ halted. none_active rs (are ∙ iff.0 halted))

some_there : {X : Type 0} (o : Option X) → is_some o ≡ true → (x : X) × (o ≡ Some x)
some_there None h = absurd (false≢true h)
some_there (Some x) h = (x, refl)

module _ (p : ProgramMeaning) (s : State) where
  -- the vertex that a vid has after the compute phase
  abbrev vertex_after : ℕ → Option Vertex
  vertex_after v = (computed_row p (moment s) (row_at p s v)).vertex

  -- a vid of the graph or the sends has one
  vertex_there : (v : ℕ) → has v (ascending (vids s.graph ++ vids s.sends)) ≡ true → is_some (vertex_after v) ≡ true
  vertex_there v h =
      elim (cases_Bool (is_active (row_at p s v))) [
        | inl on ↦ ap is_some (cond-true (is_active (row_at p s v)) _ _ on)
        | inr off ↦
            let parts = or_parts (is_awake (lookup v s.graph)) _ off in
            ap is_some (cond-false (is_active (row_at p s v)) _ _ off)
            ∙ (elim (or_cases (has v (vids s.graph)) (has v (vids s.sends)) (sym (has-append v (vids s.graph) (vids s.sends)) ∙ sym (has-ascending v (vids s.graph ++ vids s.sends)) ∙ h)) [
              | inl vertex ↦ is_some-lookup v s.graph ∙ vertex
              | inr message ↦ absurd (false≢true (sym parts.1 ∙ is_some-inbox p.message s.sends v ∙ message))
            ])
      ]

  -- it is what the graph has with the new vertices in it
  vertex_is : (v : ℕ) → lookup v (put_all s.graph (computed_from p s).changes) ≡ vertex_after v
  vertex_is v =
      lookup-put_all v s.graph (computed_from p s).changes (IsMap-changes p (moment s) (rows p s) (rows_ascend p s))
      ∙ (elim (cases_Bool (is_active (row_at p s v))) [
        | inl on ↦ ap (λ o. option_or o (lookup v s.graph)) (lookup-changes p s v on) ∙ sym (cond-true (is_active (row_at p s v)) _ _ on)
        | inr off ↦ ap (λ o. option_or o (lookup v s.graph)) (lookup-changes_idle p s v off) ∙ sym (cond-false (is_active (row_at p s v)) _ _ off)
      ])

  not_named : (v : ℕ) → has v (ascending (vids s.graph ++ vids s.sends)) ≡ false → vertex_after v ≡ None
  not_named v h =
      let parts = or_parts (has v (vids s.graph)) (has v (vids s.sends)) (sym (has-append v (vids s.graph) (vids s.sends)) ∙ sym (has-ascending v (vids s.graph ++ vids s.sends)) ∙ h) in
      elim (cases_Bool (is_active (row_at p s v))) [
        | inl on ↦ absurd (false≢true (sym h ∙ active_is_named p s v on))
        | inr off ↦ cond-false (is_active (row_at p s v)) _ _ off ∙ lookup_none v s.graph parts.0
      ]

  -- each vid with its vertex
  graph_is : IsMap s.graph → map (λ v. (v, vertex_or_fresh (vertex_after v))) (ascending (vids s.graph ++ vids s.sends)) ≡ put_all s.graph (computed_from p s).changes
  graph_is m =
      let vs = ascending (vids s.graph ++ vids s.sends) in
      let f : ℕ → Vertex = λ v. vertex_or_fresh (vertex_after v) in
      maps_equal (map (λ v. (v, f v)) vs) (put_all s.graph (computed_from p s).changes) (subst IsAscending (sym (vids_of_each f vs)) (IsAscending-ascending (vids s.graph ++ vids s.sends)))
      (IsMap-put_all s.graph (computed_from p s).changes m) (λ k. elim (cases_Bool (has k vs)) [
        | inl on ↦ (let there = some_there (vertex_after k) (vertex_there k on) in
            lookup_of_each f k vs on ∙ ap (λ o. Some (vertex_or_fresh o)) there.1 ∙ sym there.1 ∙ sym (vertex_is k))
        | inr off ↦ lookup_none k (map (λ v. (v, f v)) vs) (ap (has k) (vids_of_each f vs) ∙ off) ∙ sym (not_named k off) ∙ sym (vertex_is k)
      ])

  -- the rows of the vids that are named are, after the compute phase, the plain rows of the next graph
  pub computed_rows : IsMap s.graph → map (computed_row p (moment s)) (map (row_at p s) (ascending (vids s.graph ++ vids s.sends))) ≡ plain (put_all s.graph (computed_from p s).changes)
  computed_rows m =
      let vs = ascending (vids s.graph ++ vids s.sends) in
      let h : ℕ → ℕ × Vertex = λ v. (v, vertex_or_fresh (vertex_after v)) in
      map_map (computed_row p (moment s)) (row_at p s) vs
      ∙ map_agree (λ v. computed_row p (moment s) (row_at p s v)) (λ v. plain_row (h v)) vs (λ v named. (let there = some_there (vertex_after v) (vertex_there v named) in
      ap (λ (o : Option Vertex). record { vid = v; vertex = o; message = None }) (there.1 ∙ ap (λ o. Some (vertex_or_fresh o)) (sym there.1))))
      ∙ sym (map_map plain_row h vs) ∙ ap plain (graph_is m)
