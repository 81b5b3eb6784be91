-- The row of the lesser vid is the first of the rows.
use Rattle.std.proofs.Common.{◌≡◌, ℕ, ◌<◌, Bool, true, false, ◌&&◌, ◌||◌, List, [], ◌∷◌, filter, nat_lt, sym, ◌∙◌, ap, refl, subst, inl, inr, arith}
use Rattle.std.proofs.lemmas.Bool.{cases_order, and_parts, lt-ltb, le-ltb, ltb-true, eq-eqb, ne_eqb, not-false, not-true}
use Rattle.std.proofs.Math.Bool.{or-true, and-true}
use Rattle.std.specs.Prelude.{Option, Some, None, not}
use Rattle.px_meaning.specs.Attached.{attached, plain, fresh_row}
use Rattle.px_meaning.specs.Graph.{Graph, Vertex}
use Rattle.px_meaning.specs.Merge.{Pairs}
use Rattle.px_meaning.specs.Program.{Row as MeantRow}
use Rattle.px_meaning.specs.Step.{is_active}
use Rattle.px_record.specs.Held.{HeldVertex}
use Rattle.px_store.specs.declared.join.Row.{Row}
use Rattle.px_outer_join.specs.Due.{row, due_row, first_vid, is_before}
use Rattle.px_outer_join.specs.Outer.{ahead_vid, rows_of, is_due, AreDue, IsFirst}

-- the row of a vertex, with a message or none
abbrev vertex_row : ℕ → Vertex → Option (List ℕ) → MeantRow
vertex_row v x o = record { vid = v; vertex = Some x; message = o }

-- a message below the first vertex is first
message_below : (v : ℕ) (x : Vertex) (g : Graph) (e : ℕ × List ℕ) (m : Pairs) → e.0 < v → attached (plain ((v, x) ∷ g)) (e ∷ m) ≡ fresh_row e ∷ attached (plain ((v, x) ∷ g)) m
message_below v x g e m low = rw (lt-ltb e.0 v low) refl

-- a message to the first vertex goes to it
message_here : (v : ℕ) (x : Vertex) (g : Graph) (e : ℕ × List ℕ) (m : Pairs) → e.0 ≡ v → attached (plain ((v, x) ∷ g)) (e ∷ m) ≡ vertex_row v x (Some e.1) ∷ attached (plain g) m
message_here v x g e m same = rw (le-ltb e.0 v (omega (arith, same)), eq-eqb e.0 v same) refl

-- where the first message is to a later vid, the first vertex gets none
message_above : (v : ℕ) (x : Vertex) (g : Graph) (e : ℕ × List ℕ) (m : Pairs) → v < e.0 → attached (plain ((v, x) ∷ g)) (e ∷ m) ≡ vertex_row v x None ∷ attached (plain g) (e ∷ m)
message_above v x g e m up = rw (le-ltb e.0 v (omega (arith, up)), ne_eqb e.0 v (λ s. omega (arith, s, up))) refl

-- a row among rows
keep_first : (r : MeantRow) (l : List MeantRow) → is_active r ≡ true → filter is_active (r ∷ l) ≡ r ∷ filter is_active l
keep_first r l on = rw on refl

drop_first : (r : MeantRow) (l : List MeantRow) → is_active r ≡ false → filter is_active (r ∷ l) ≡ filter is_active l
drop_first r l off = rw off refl

awake_row : (v : ℕ) (x : Vertex) → x.halt ≡ false → is_active (vertex_row v x None) ≡ true
awake_row v x off = rw off refl

asleep_row : (v : ℕ) (x : Vertex) → x.halt ≡ true → is_active (vertex_row v x None) ≡ false
asleep_row v x on = rw on refl

-- a vertex that has halted, before the first message, has no row
asleep_first : (v : ℕ) (x : Vertex) (g : Graph) (m : Pairs) → (x.halt && is_before v (first_vid m)) ≡ true → filter is_active (attached (plain ((v, x) ∷ g)) m) ≡ filter is_active (attached (plain g) m)
asleep_first v x g [] asleep = drop_first (vertex_row v x None) (attached (plain g) []) (asleep_row v x (and_parts x.halt true asleep).0)
asleep_first v x g (e ∷ m) asleep =
    let parts = and_parts x.halt (nat_lt v e.0) asleep in
    ap (filter is_active) (message_above v x g e m (ltb-true v e.0 parts.1))
    ∙ drop_first (vertex_row v x None) (attached (plain g) (e ∷ m)) (asleep_row v x parts.0)

-- what is held is passed over where it has no row
pub passed : (held : Bool) (v w : HeldVertex) (coming : Graph) (m : Pairs) → is_due held v (first_vid m) ≡ false → rows_of held v coming m ≡ rows_of false w coming m
passed false v w coming m h = refl
passed true v w coming m h = asleep_first v.vid v.vertex coming m (not-false _ h)

-- one message is before the vertex that is held
due_message : (v : HeldVertex) (coming : Graph) (e : ℕ × List ℕ) (m : Pairs) → e.0 < v.vid → IsFirst (row e.0 false true) true v coming (e ∷ m) (rows_of true v coming (e ∷ m))
due_message v coming e m low = record {
  first = fresh_row e;
  rest = rows_of true v coming m;
  is = ap (filter is_active) (message_below v.vid v.vertex coming e m low);
  vid = refl;
  vertex = refl;
  message = refl;
  after = refl;
}

due_both : (v : HeldVertex) (coming : Graph) (e : ℕ × List ℕ) (m : Pairs) → e.0 ≡ v.vid → IsFirst (row v.vid true true) true v coming (e ∷ m) (rows_of true v coming (e ∷ m))
due_both v coming e m same = record {
  first = vertex_row v.vid v.vertex (Some e.1);
  rest = rows_of false v coming m;
  is = ap (filter is_active) (message_here v.vid v.vertex coming e m same) ∙ keep_first (vertex_row v.vid v.vertex (Some e.1)) (attached (plain coming) m) (or-true (not v.vertex.halt));
  vid = refl;
  vertex = refl;
  message = refl;
  after = refl;
}

due_vertex : (v : HeldVertex) (coming : Graph) (e : ℕ × List ℕ) (m : Pairs) → v.vid < e.0 → is_due true v (Some e.0) ≡ true → IsFirst (row v.vid true false) true v coming (e ∷ m) (rows_of true v coming (e ∷ m))
due_vertex v coming e m up due = record {
  first = vertex_row v.vid v.vertex None;
  rest = rows_of false v coming (e ∷ m);
  is = ap (filter is_active) (message_above v.vid v.vertex coming e m up)
      ∙ keep_first (vertex_row v.vid v.vertex None) (attached (plain coming) (e ∷ m))
      (awake_row v.vid v.vertex (sym (and-true v.vertex.halt) ∙ (ap (λ (b : Bool). v.vertex.halt && b) (sym (lt-ltb v.vid e.0 up)) ∙ not-true _ due)));
  vid = refl;
  vertex = refl;
  message = refl;
  after = refl;
}

due_alone : (v : HeldVertex) (coming : Graph) → is_due true v None ≡ true → IsFirst (row v.vid true false) true v coming [] (rows_of true v coming [])
due_alone v coming due = record {
  first = vertex_row v.vid v.vertex None;
  rest = rows_of false v coming [];
  is = keep_first (vertex_row v.vid v.vertex None) (attached (plain coming) []) (awake_row v.vid v.vertex (sym (and-true v.vertex.halt) ∙ (not-true _ due)));
  vid = refl;
  vertex = refl;
  message = refl;
  after = refl;
}

-- where both are there
row_here : (v k : ℕ) → v ≡ k → due_row (Some v) (Some k) ≡ Some (row v true true)
row_here v k same = rw (le-ltb v k (omega (arith, same)), le-ltb k v (omega (arith, same))) refl

row_up : (v k : ℕ) → v < k → due_row (Some v) (Some k) ≡ Some (row v true false)
row_up v k up = rw (lt-ltb v k up) refl

row_low : (v k : ℕ) → k < v → due_row (Some v) (Some k) ≡ Some (row k false true)
row_low v k low = rw (le-ltb v k (omega (arith, low)), lt-ltb k v low) refl

due_by : (o p : Option Row) (v : HeldVertex) (coming : Graph) (m : Pairs) → o ≡ p → AreDue p true v coming m (rows_of true v coming m) → AreDue o true v coming m (rows_of true v coming m)
due_by o p v coming m is due = subst (λ (q : Option Row). AreDue q true v coming m (rows_of true v coming m)) (sym is) due

due_held : (v : HeldVertex) (coming : Graph) (m : Pairs) → is_due true v (first_vid m) ≡ true → AreDue (due_row (Some v.vid) (first_vid m)) true v coming m (rows_of true v coming m)
due_held v coming [] due = due_alone v coming due
due_held v coming (e ∷ m) due = elim (cases_order v.vid e.0) [
  | inl same ↦ due_by _ (Some (row v.vid true true)) v coming (e ∷ m) (row_here v.vid e.0 same) (due_both v coming e m (sym same))
  | inr other ↦ elim other [
    | inl up ↦ due_by _ (Some (row v.vid true false)) v coming (e ∷ m) (row_up v.vid e.0 up) (due_vertex v coming e m up due)
    | inr low ↦ due_by _ (Some (row e.0 false true)) v coming (e ∷ m) (row_low v.vid e.0 low) (due_message v coming e m low)
  ]
]

due_left : (v : HeldVertex) (m : Pairs) → AreDue (due_row None (first_vid m)) false v [] m (rows_of false v [] m)
due_left v [] = (refl, refl)
due_left v (e ∷ m) = record { first = fresh_row e; rest = rows_of false v [] m; is = refl; vid = refl; vertex = refl; message = refl; after = refl }

-- the row that is due is the first
pub due_first : (held : Bool) (v : HeldVertex) (coming : Graph) (m : Pairs) → (held ≡ false → coming ≡ []) → (held ≡ true → is_due held v (first_vid m) ≡ true) → AreDue (due_row (ahead_vid held v) (first_vid m)) held v coming m (rows_of held v coming m)
due_first true v coming m last due = due_held v coming m (due refl)
due_first false v coming m last due = subst (λ (c : Graph). AreDue (due_row None (first_vid m)) false v c m (rows_of false v c m)) (sym (last refl)) (due_left v m)
