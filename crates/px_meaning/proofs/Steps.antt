-- One superstep: what a step gives, that the next graph is a map, and when a state is halted.
use Rattle.std.proofs.Common.{◌≡◌, ◌↔◌, ℕ, suc, if◌then◌else◌, List, [], ◌∷◌, ◌++◌, map, fold, Contains, Bool, true, false, not, Some, None, is_some, sym, ◌∙◌, ap, refl, subst, arith, inl, inr}
use Rattle.std.specs.List.{list_all}
use Rattle.std.proofs.lemmas.Bool.{and_parts, and_from, or_from, not-false, false_from_ne_true, or_parts, cases_eq, true≢false, false≢true}
use Rattle.px_meaning.specs.Graph.{Graph, lookup, vids, ascending, IsMap}
use Rattle.px_meaning.specs.Merge.{MergeRule, Pairs, inbox}
use Rattle.px_meaning.specs.Program.{ProgramMeaning, Row}
use Rattle.px_meaning.specs.Step.{State, is_awake, is_active, row_at, rows, put_all, settled, step, is_beyond}
use Rattle.px_meaning.specs.Meaning.{has_no_pairs, is_halted}
use Rattle.px_meaning.specs.Phase.{computed_from}
use Rattle.px_meaning.proofs.Ascending.{has, has-first}
use Rattle.px_meaning.proofs.Maps.{lookup_here, lookup_past, lookup_below, some_same}
use Rattle.px_meaning.proofs.Inbox.{is_some-inbox}
use Rattle.px_meaning.proofs.Rows.{has-filter_no, vids_of_rows, active_row}
use Rattle.px_meaning.proofs.Settling.{IsMap-put_all, IsMap-settled}

-- the graph with the new vertices in it
abbrev pub graph_before : ProgramMeaning → State → Graph
graph_before p s = put_all s.graph (computed_from p s).changes

-- and with the requests settled
abbrev pub graph_after : ProgramMeaning → State → Graph
graph_after p s = settled p (graph_before p s) (computed_from p s).requests

-- the state that a step within the limits gives
abbrev pub next_state : ProgramMeaning → State → State
next_state p s = record { superstep = suc s.superstep; graph = graph_after p s; sends = (computed_from p s).sends; aggregate = fold p.join p.unit (computed_from p s).contributions }

-- whether the step is beyond the limits
abbrev pub steps_beyond : ProgramMeaning → ℕ → State → Bool
steps_beyond p room s = is_beyond p room (graph_before p s) (graph_after p s) (computed_from p s).sends (computed_from p s).requests

some_of_choice : {X : Type 0} (b : Bool) (x y : X) → (if b then None else Some x) ≡ Some y → (b ≡ false) × (x ≡ y)
some_of_choice true x y h = absurd (true≢false (ap is_some (sym h)))
some_of_choice false x y h = (refl, some_same x y h)

-- a step that gives a state is within the limits, and gives this one
pub step_some : (p : ProgramMeaning) (room : ℕ) (s t : State) → step p room s ≡ Some t → (steps_beyond p room s ≡ false) × (next_state p s ≡ t)
step_some p room s t is = some_of_choice (steps_beyond p room s) (next_state p s) t is

-- the next graph is a map
pub IsMap-next : (p : ProgramMeaning) (room : ℕ) (s t : State) → step p room s ≡ Some t → IsMap s.graph → IsMap t.graph
IsMap-next p room s t is m =
    subst (λ (u : State). IsMap u.graph) (step_some p room s t is).1 (IsMap-settled p (graph_before p s) (computed_from p s).requests (IsMap-put_all s.graph (computed_from p s).changes m))

halts : (v : ℕ) (g : Graph) → list_all (λ e. e.1.halt) g ≡ true → is_awake (lookup v g) ≡ false
halts v [] h = refl
halts v (e ∷ es) h =
    let parts = and_parts e.1.halt _ h in
    elim (cases_eq v e.0) [
      | inl s ↦ ap is_awake (lookup_here v e es s) ∙ ap not parts.0
      | inr d ↦ ap is_awake (lookup_past v e es d) ∙ halts v es parts.1
    ]

all_halt : (g : Graph) → IsMap g → ((v : ℕ) → is_awake (lookup v g) ≡ false) → list_all (λ e. e.1.halt) g ≡ true
all_halt [] m h = refl
all_halt (e ∷ es) m h =
    and_from e.1.halt _ (not-false e.1.halt (ap is_awake (sym (lookup_here e.0 e es refl)) ∙ h e.0)) (all_halt es m.1 (λ v. elim (cases_eq v e.0) [
      | inl s ↦ ap is_awake (lookup_below v e.0 es (omega arith) m.0)
      | inr d ↦ ap is_awake (sym (lookup_past v e es d)) ∙ h v
    ]))

no_pairs_none : (rule : MergeRule) (pairs : Pairs) (v : ℕ) → has_no_pairs pairs ≡ true → is_some (inbox rule pairs v) ≡ false
no_pairs_none rule [] v h = refl
no_pairs_none rule (e ∷ es) v h = absurd (false≢true h)

none_no_pairs : (rule : MergeRule) (pairs : Pairs) → ((v : ℕ) → is_some (inbox rule pairs v) ≡ false) → has_no_pairs pairs ≡ true
none_no_pairs rule [] h = refl
none_no_pairs rule (e ∷ es) h = absurd (true≢false (sym (is_some-inbox rule (e ∷ es) e.0 ∙ has-first e.0 (vids es)) ∙ h e.0))

-- in a halted state no vid is active
pub halted_is_idle : (p : ProgramMeaning) (s : State) (v : ℕ) → is_halted s ≡ true → is_active (row_at p s v) ≡ false
halted_is_idle p s v h =
    let parts = and_parts (list_all (λ e. e.1.halt) s.graph) _ h in
    or_from _ _ (halts v s.graph parts.0) (no_pairs_none p.message s.sends v parts.1)

-- and where none is, the state is halted
pub idle_is_halted : (p : ProgramMeaning) (s : State) → IsMap s.graph → ((v : ℕ) → is_active (row_at p s v) ≡ false) → is_halted s ≡ true
idle_is_halted p s m h =
    and_from _ _ (all_halt s.graph m (λ v. (or_parts (is_awake (lookup v s.graph)) _ (h v)).0)) (none_no_pairs p.message s.sends (λ v. (or_parts (is_awake (lookup v s.graph)) _ (h v)).1))

no_members : {X : Type 0} (xs : List X) (x : X) → xs ≡ [] → Contains xs x → ⊥
no_members [] x e c = absurd (omega arith)
no_members (y ∷ ys) x e c = absurd (cc)

nil_from_no_members : (ns : List ℕ) → ((v : ℕ) → has v ns ≡ false) → ns ≡ []
nil_from_no_members [] h = refl
nil_from_no_members (n ∷ ns) h = absurd (true≢false (sym (has-first n ns) ∙ h n))

nil_from_map : {X Y : Type 0} (f : X → Y) (xs : List X) → map f xs ≡ [] → xs ≡ []
nil_from_map f [] e = refl
nil_from_map f (x ∷ xs) e = absurd (cc)

no_rows : (p : ProgramMeaning) (s : State) → ((v : ℕ) → is_active (row_at p s v) ≡ false) → rows p s ≡ []
no_rows p s h =
    nil_from_map (λ (row : Row). row.vid) (rows p s) (nil_from_no_members (map (λ (row : Row). row.vid) (rows p s)) (λ v. ap (has v) (vids_of_rows p s) ∙ has-filter_no v (λ w. is_active (row_at p s w)) (ascending (vids s.graph ++ vids s.sends)) (h v)))

-- a state is halted just where a superstep would have no row
pub halted_iff : (p : ProgramMeaning) (s : State) → IsMap s.graph → is_halted s ≡ true ↔ rows p s ≡ []
halted_iff p s m = (λ h. no_rows p s (λ v. halted_is_idle p s v h), λ none. idle_is_halted p s m (λ v. false_from_ne_true (is_active (row_at p s v)) (λ on. no_members (rows p s) (row_at p s v) none (active_row p s v on))))
