-- The rows of a superstep: which vids are active, and what each changes.
use Rattle.std.proofs.Common.{◌≡◌, ℕ, zero, suc, ◌==◌, List, [], ◌∷◌, ◌++◌, map, filter, All, Contains, Bool, true, false, Option, Some, None, is_some, sym, ◌∙◌, ap, refl, subst, arith, inl, inr}
use Rattle.std.proofs.lemmas.Bool.{or_cases, or_left, or_right, cond-true, cond-false, cond_both, cases_eq, eq-eqb, cases_Bool, true≢false, false≢true}
use Rattle.std.proofs.lemmas.List.Elements.{All-filter, All-map, filter_passes}
use Rattle.px_meaning.specs.Graph.{Vertex, lookup, vids, ascending, IsAscending, IsMap}
use Rattle.px_meaning.specs.Program.{ProgramMeaning, Moment, Row}
use Rattle.px_meaning.specs.Step.{State, moment, is_awake, is_active, row_at, rows, outs, computed}
use Rattle.px_meaning.proofs.Ascending.{has, has-append, has-ascending, has-rest, IsAscending-ascending, IsAscending-filter}
use Rattle.px_meaning.proofs.Maps.{lookup_none, is_some-lookup, lookup-from_Contains}
use Rattle.px_meaning.proofs.Inbox.{is_some-inbox}

vids_of_filtered : (p : ProgramMeaning) (s : State) (ns : List ℕ) → map (λ (row : Row). row.vid) (filter is_active (map (row_at p s) ns)) ≡ filter (λ v. is_active (row_at p s v)) ns
vids_of_filtered p s [] = refl
vids_of_filtered p s (n ∷ ns) =
    elim (cases_Bool (is_active (row_at p s n))) [
      | inl on ↦ ap (map (λ (row : Row). row.vid)) (cond-true (is_active (row_at p s n)) _ _ on) ∙ ap (λ (l : List ℕ). n ∷ l) (vids_of_filtered p s ns) ∙ sym (cond-true (is_active (row_at p s n)) _ _ on)
      | inr off ↦ ap (map (λ (row : Row). row.vid)) (cond-false (is_active (row_at p s n)) _ _ off) ∙ vids_of_filtered p s ns ∙ sym (cond-false (is_active (row_at p s n)) _ _ off)
    ]

-- the rows' vids are those that are active
pub vids_of_rows : (p : ProgramMeaning) (s : State) → map (λ (row : Row). row.vid) (rows p s) ≡ filter (λ v. is_active (row_at p s v)) (ascending (vids s.graph ++ vids s.sends))
vids_of_rows p s = vids_of_filtered p s (ascending (vids s.graph ++ vids s.sends))

-- they ascend, each once
pub rows_ascend : (p : ProgramMeaning) (s : State) → IsAscending (map (λ (row : Row). row.vid) (rows p s))
rows_ascend p s = subst IsAscending (sym (vids_of_rows p s)) (IsAscending-filter (λ v. is_active (row_at p s v)) _ (IsAscending-ascending (vids s.graph ++ vids s.sends)))

-- every row is active
pub rows_active : (p : ProgramMeaning) (s : State) → All (λ row. is_active row ≡ true) (rows p s)
rows_active p s = filter_passes is_active (map (row_at p s) (ascending (vids s.graph ++ vids s.sends)))

-- and it is the row of its vid
pub rows_are : (p : ProgramMeaning) (s : State) → All (λ row. row ≡ row_at p s row.vid) (rows p s)
rows_are p s =
    All-filter is_active (λ row. row ≡ row_at p s row.vid) (map (row_at p s) (ascending (vids s.graph ++ vids s.sends)))
    (All-map (λ row. row ≡ row_at p s row.vid) (row_at p s) (ascending (vids s.graph ++ vids s.sends)) (λ k d h. refl))

awake_is_there : (o : Option Vertex) → is_awake o ≡ true → is_some o ≡ true
awake_is_there None h = absurd (false≢true h)
awake_is_there (Some x) h = refl

-- an active vid is one of the graph or of the sends
pub active_is_named : (p : ProgramMeaning) (s : State) (v : ℕ) → is_active (row_at p s v) ≡ true → has v (ascending (vids s.graph ++ vids s.sends)) ≡ true
active_is_named p s v h =
    has-ascending v (vids s.graph ++ vids s.sends) ∙ has-append v (vids s.graph) (vids s.sends) ∙ (elim (or_cases _ _ h) [
      | inl awake ↦ or_left _ _ (sym (is_some-lookup v s.graph) ∙ awake_is_there (lookup v s.graph) awake)
      | inr told ↦ or_right _ _ (sym (is_some-inbox p.message s.sends v) ∙ told)
    ])

has-filter : (v : ℕ) (q : ℕ → Bool) (ns : List ℕ) → q v ≡ true → has v ns ≡ true → has v (filter q ns) ≡ true
has-filter v q [] h m = m
has-filter v q (n ∷ ns) h m =
    elim (cases_eq v n) [
      | inl s ↦ ap (has v) (cond-true (q n) _ _ (ap q (sym s) ∙ h)) ∙ or_left (v == n) (has v (filter q ns)) (eq-eqb v n s)
      | inr d ↦
          let later = has-filter v q ns h (sym (has-rest v n ns d) ∙ m) in
          cond_both (q n) _ _ (λ l. has v l ≡ true) (λ _. or_right (v == n) (has v (filter q ns)) later) (λ _. later)
    ]

-- what fails a test is not among what a filter keeps
pub has-filter_no : (v : ℕ) (q : ℕ → Bool) (ns : List ℕ) → q v ≡ false → has v (filter q ns) ≡ false
has-filter_no v q [] h = refl
has-filter_no v q (n ∷ ns) h =
    elim (cases_eq v n) [
      | inl s ↦ ap (has v) (cond-false (q n) _ _ (ap q (sym s) ∙ h)) ∙ has-filter_no v q ns h
      | inr d ↦ cond_both (q n) _ _ (λ l. has v l ≡ false) (λ _. has-rest v n (filter q ns) d ∙ has-filter_no v q ns h) (λ _. has-filter_no v q ns h)
    ]

contains_filtered : (p : ProgramMeaning) (s : State) (v : ℕ) (ns : List ℕ) → is_active (row_at p s v) ≡ true → has v ns ≡ true → Contains (filter is_active (map (row_at p s) ns)) (row_at p s v)
contains_filtered p s v [] h m = absurd (false≢true m)
contains_filtered p s v (n ∷ ns) h m =
    elim (cases_eq v n) [
      | inl e ↦ cond_both (is_active (row_at p s n)) _ _ (λ l. Contains l (row_at p s v)) (λ _. (0, omega arith, ap (row_at p s) (sym e))) (λ no. absurd (true≢false (sym h ∙ ap (λ w. is_active (row_at p s w)) e ∙ no)))
      | inr d ↦
          let later = contains_filtered p s v ns h (sym (has-rest v n ns d) ∙ m) in
          cond_both (is_active (row_at p s n)) _ _ (λ l. Contains l (row_at p s v)) (λ _. (suc later.0, omega arith, later.2)) (λ _. later)
    ]

-- an active vid is the vid of a row
pub active_has_row : (p : ProgramMeaning) (s : State) (v : ℕ) → is_active (row_at p s v) ≡ true → has v (map (λ (row : Row). row.vid) (rows p s)) ≡ true
active_has_row p s v h = ap (has v) (vids_of_rows p s) ∙ has-filter v (λ w. is_active (row_at p s w)) (ascending (vids s.graph ++ vids s.sends)) h (active_is_named p s v h)

-- and its row stands among the rows
pub active_row : (p : ProgramMeaning) (s : State) (v : ℕ) → is_active (row_at p s v) ≡ true → Contains (rows p s) (row_at p s v)
active_row p s v h = contains_filtered p s v (ascending (vids s.graph ++ vids s.sends)) h (active_is_named p s v h)

-- what a superstep answers

-- the answers stand in the order of the rows
pub vids-outs : (p : ProgramMeaning) (at : Moment) (rs : List Row) → vids (outs p at rs) ≡ map (λ (row : Row). row.vid) rs
vids-outs p at [] = refl
vids-outs p at (r ∷ rs) = ap (λ (l : List ℕ). r.vid ∷ l) (vids-outs p at rs)

-- and so do the new vertices
pub vids-changes : (p : ProgramMeaning) (at : Moment) (rs : List Row) → vids (computed p at rs).changes ≡ map (λ (row : Row). row.vid) rs
vids-changes p at [] = refl
vids-changes p at (r ∷ rs) = ap (λ (l : List ℕ). r.vid ∷ l) (vids-changes p at rs)

-- the new vertices of rows that ascend are a map
pub IsMap-changes : (p : ProgramMeaning) (at : Moment) (rs : List Row) → IsAscending (map (λ (row : Row). row.vid) rs) → IsMap (computed p at rs).changes
IsMap-changes p at rs a = subst IsAscending (sym (vids-changes p at rs)) a

contains_change : (p : ProgramMeaning) (at : Moment) (rs : List Row) (r : Row) → Contains rs r → Contains (computed p at rs).changes (r.vid, (p.out_of at r).vertex)
contains_change p at [] r c = absurd (omega arith)
contains_change p at (q ∷ rs) r (zero, low, is) = (0, omega arith, ap (λ (w : Row). (w.vid, (p.out_of at w).vertex)) is)
contains_change p at (q ∷ rs) r (suc i, low, is) = let c = contains_change p at rs r (i, omega arith, is) in (suc c.0, omega arith, c.2)

-- what an active vid's new vertex is
pub lookup-changes : (p : ProgramMeaning) (s : State) (v : ℕ) → is_active (row_at p s v) ≡ true → lookup v (computed p (moment s) (rows p s)).changes ≡ Some (p.out_of (moment s) (row_at p s v)).vertex
lookup-changes p s v h =
    lookup-from_Contains v (p.out_of (moment s) (row_at p s v)).vertex (computed p (moment s) (rows p s)).changes (IsMap-changes p (moment s) (rows p s) (rows_ascend p s)) (contains_change p (moment s) (rows p s) (row_at p s v) (active_row p s v h))

-- and a vid that isn't active has none
pub lookup-changes_idle : (p : ProgramMeaning) (s : State) (v : ℕ) → is_active (row_at p s v) ≡ false → lookup v (computed p (moment s) (rows p s)).changes ≡ None
lookup-changes_idle p s v h =
    lookup_none v (computed p (moment s) (rows p s)).changes (ap (has v) (vids-changes p (moment s) (rows p s) ∙ vids_of_rows p s) ∙ has-filter_no v (λ w. is_active (row_at p s w)) (ascending (vids s.graph ++ vids s.sends)) h)
