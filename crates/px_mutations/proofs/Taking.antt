-- Whose turn is next, and what is read for it.
use Rattle.std.proofs.Common.{◌≡◌, ◌≢◌, ◌≤◌, ◌<◌, ◌+◌, ℕ, List, [], ◌∷◌, ◌++◌, length, drop, Bool, true, false, ◌||◌, Option, Some, None, sym, ◌∙◌, ap, subst, refl, arith, inl, inr}
use Rattle.std.specs.Prelude.{IfSome, IfNone, OnSome, ⊤}
use Rattle.std.specs.List.{AllByRecursion}
use Rattle.std.proofs.lemmas.Bool.{cases_order, lt-ltb, le-ltb, true≢false, false≢true}
use Rattle.px_core.specs.Shown.{Shown}
use Rattle.px_meaning.specs.Graph.{Graph, Vertex, IsMap, vids, room_of}
use Rattle.px_meaning.specs.Merge.{Pairs}
use Rattle.px_meaning.proofs.Ascending.{AllAbove-lower}
use Rattle.px_pages.specs.Entry.{Entry}
use Rattle.px_record.specs.Body.{IsVertex, body_of, vertex_of, is_vertex_body}
use Rattle.px_record.proofs.Laws.{vertex_of-body_of, is_vertex_body-body_of}
use Rattle.px_stream.specs.Stream.{ToGive, Leads, tuple, first_body}
use Rattle.px_stream.specs.Views.{ReaderView}
use Rattle.px_stream.specs.declared.reader.Head.{Head}
use Rattle.px_store.specs.Joins.{vertex_tuples}
use Rattle.px_mutations.specs.declared.turns.Turn.{Turn}
use Rattle.px_mutations.specs.Turns.{turn, due_turn, key_in, first_vid, Comes, IsTurn, given_if, Takes}

-- the turn that is due is that of the least vid

due_same : (v k : ℕ) → v ≡ k → due_turn (Some v) (Some k) ≡ Some (turn v true true)
due_same v k same = rw (le-ltb v k (omega (arith, same)), le-ltb k v (omega (arith, same))) refl

due_low : (v k : ℕ) → v < k → due_turn (Some v) (Some k) ≡ Some (turn v true false)
due_low v k low = rw (lt-ltb v k low) refl

due_high : (v k : ℕ) → k < v → due_turn (Some v) (Some k) ≡ Some (turn k false true)
due_high v k high = rw (le-ltb v k (omega (arith, high)), lt-ltb k v high) refl

due_first : (cs : Graph) (fs : Pairs) → IsMap cs → IsMap fs → IsTurn (due_turn (first_vid cs) (first_vid fs)) cs fs
due_first [] [] mc mf = (refl, refl)
due_first [] (f ∷ fs) mc mf = (tt, refl)
due_first (c ∷ cs) [] mc mf = (refl, tt)
due_first (c ∷ cs) (f ∷ fs) mc mf = elim (cases_order c.0 f.0) [
  | inl same ↦ subst (λ (o : Option Turn). IsTurn o (c ∷ cs) (f ∷ fs)) (sym (due_same c.0 f.0 same)) (refl, ap (λ (n : ℕ). Some n) (sym same))
  | inr d ↦ elim d [
    | inl low ↦ subst (λ (o : Option Turn). IsTurn o (c ∷ cs) (f ∷ fs)) (sym (due_low c.0 f.0 low)) (refl, (low, AllAbove-lower c.0 f.0 (vids fs) low mf.0))
    | inr high ↦ subst (λ (o : Option Turn). IsTurn o (c ∷ cs) (f ∷ fs)) (sym (due_high c.0 f.0 high)) ((high, AllAbove-lower f.0 c.0 (vids cs) high mc.0), refl)
  ]
]

pub due_is_turn : (o : Option Turn) (a b : Option ℕ) (cs : Graph) (fs : Pairs) → o ≡ due_turn a b → first_vid cs ≡ a → first_vid fs ≡ b → IsMap cs → IsMap fs → IsTurn o cs fs
due_is_turn o a b cs fs is ha hb mc mf =
    subst (λ (x : Option Turn). IsTurn x cs fs) (sym (is ∙ ap (λ (x : Option ℕ). due_turn x b) (sym ha) ∙ ap (due_turn (first_vid cs)) (sym hb))) (due_first cs fs mc mf)

-- what is known of it
pub record IsDue (a b : Option ℕ) (t : Turn) : Type 0 where
  pub some : (t.has_update || t.has_verdict) ≡ true
  pub update : t.has_update ≡ true → a ≡ Some t.vid
  pub verdict : t.has_verdict ≡ true → b ≡ Some t.vid

pub due_facts : (a b : Option ℕ) → IfSome (due_turn a b) (IsDue a b)
due_facts None None = tt
due_facts None (Some k) = record { some = refl; update = λ on. absurd (false≢true on); verdict = λ on. refl }
due_facts (Some v) None = record { some = refl; update = λ on. refl; verdict = λ on. absurd (false≢true on) }
due_facts (Some v) (Some k) = elim (cases_order v k) [
  | inl same ↦ subst (λ (o : Option Turn). IfSome o (IsDue (Some v) (Some k))) (sym (due_same v k same)) (record { some = refl; update = λ on. refl; verdict = λ on. ap (λ (n : ℕ). Some n) (sym same) })
  | inr d ↦ elim d [
    | inl low ↦ subst (λ (o : Option Turn). IfSome o (IsDue (Some v) (Some k))) (sym (due_low v k low)) (record { some = refl; update = λ on. refl; verdict = λ on. absurd (false≢true on) })
    | inr high ↦ subst (λ (o : Option Turn). IfSome o (IsDue (Some v) (Some k))) (sym (due_high v k high)) (record { some = refl; update = λ on. absurd (false≢true on); verdict = λ on. refl })
  ]
]

pub due_some : (P : Turn → Type 0) (o : Option Turn) (a b : Option ℕ) → o ≡ due_turn a b → ((t : Turn) → IsDue a b t → P t) → IfSome o P
due_some P o a b is on = subst (λ (x : Option Turn). IfSome x P) (sym is) (by (due_turn a b) (due_facts a b))
  where
    by : (x : Option Turn) → IfSome x (IsDue a b) → IfSome x P
    by None h = tt
    by (Some t) h = on t h

on_some : (P : Type 0) (o : Option ℕ) (v : ℕ) → OnSome o P → o ≡ Some v → P
on_some P None v h is = absurd (cc is)
on_some P (Some w) v h is = h

-- where the turn has an update, a tuple is at hand
pub due_here : (P : Type 0) (o : Option Turn) (a b : Option ℕ) → o ≡ due_turn a b → OnSome a P → IfSome o (λ t. t.has_update ≡ true → P)
due_here P o a b is here = due_some (λ t. t.has_update ≡ true → P) o a b is (λ t due on. on_some P a t.vid here (due.update on))

-- the head of the next tuple is that of the next update

abbrev key_or : List Entry → ℕ
key_or [] = 0
key_or (e ∷ l) = e.key

pub vid_is : (o : Option Head) (body : List ℕ) (G : List Entry → Type 0) (cs : Graph) → IfNone o ((l : List Entry) → G l → l ≡ []) → IfSome o (λ h. (l : List Entry) → G l → Leads (tuple h body) l (λ _. ⊤))
    → G (vertex_tuples cs) → first_vid cs ≡ key_in o
vid_is None body G [] none some g = refl
vid_is None body G (e ∷ cs) none some g = absurd (cc (none _ g))
vid_is (Some h) body G [] none some g = (let lead = some _ g in absurd (cc lead.is))
vid_is (Some h) body G (e ∷ cs) none some g = (let lead = some _ g in ap (λ (k : ℕ). Some k) (ap key_or lead.is))

-- the next update

first_of : (es rest : List Entry) → (es ≡ [] → ⊥) → first_body (es ++ rest) ≡ first_body es
first_of [] rest some = absurd (some refl)
first_of (e ∷ es) rest some = refl

pub record IsNext (s : Shown) (v : ℕ) (body : List ℕ) (cs : Graph) : Type 0 where
  pub vertex : Vertex
  pub rest : Graph
  pub is : cs ≡ (v, vertex) ∷ rest
  pub body_is : body ≡ body_of vertex
  pub spells : is_vertex_body body ≡ true
  pub means : vertex_of body ≡ vertex
  pub size : 13 + length body ≤ room_of s.page_len

pub next_is : (s : Shown) (r : ReaderView) (v : ℕ) (cs : Graph) → (r.here ≡ [] → ⊥) → AllByRecursion (λ (e : ℕ × Vertex). IsVertex e.1) cs → ToGive s r (vertex_tuples cs) → first_vid cs ≡ Some v → IsNext s v (first_body r.here) cs
next_is s r v [] here stored g first = absurd (cc first)
next_is s r v (e ∷ cs) here stored g first =
    let body : first_body r.here ≡ body_of e.1 = sym (first_of r.here _ here) ∙ sym (ap first_body g.tuples) in
    let key : e.0 ≡ v = cc first in
    record {
      vertex = e.1;
      rest = cs;
      is = ap (λ (n : ℕ). (n, e.1) ∷ cs) key;
      body_is = body;
      spells = ap is_vertex_body body ∙ is_vertex_body-body_of e.1 stored.0;
      means = ap vertex_of body ∙ vertex_of-body_of e.1 stored.0;
      size = (let fit = g.fit.0 in let len = ap length body in omega (arith, fit, len));
    }

-- it was taken
pub taken_next : (s : Shown) (v : ℕ) (x : Vertex) (body : List ℕ) (cs : Graph) (Now Later : List Entry → Type 0) → IsNext s v body cs → x ≡ vertex_of body → Now (vertex_tuples cs) → ((l : List Entry) → Now l → Later (drop 1 l))
    → (rest : Graph) × Takes v (Some x) cs rest × Later (vertex_tuples rest)
taken_next s v x body cs Now Later n is now pass = (
  n.rest,
  n.is ∙ ap (λ (y : Vertex). (v, y) ∷ n.rest) (sym (is ∙ n.means)),
  subst Later (ap (λ (l : Graph). drop 1 (vertex_tuples l)) n.is) (pass (vertex_tuples cs) now),
)

-- a turn with an update, and one without
pub turn_taken : (has : Bool) (v : ℕ) (x : Vertex) (cs : Graph) (Later : List Entry → Type 0) → has ≡ true → (rest : Graph) × Takes v (Some x) cs rest × Later (vertex_tuples rest)
    → (rest : Graph) × Takes v (given_if has x) cs rest × Later (vertex_tuples rest)
turn_taken true v x cs Later on h = h
turn_taken false v x cs Later on h = absurd (false≢true on)

pub turn_passed : (has : Bool) (v : ℕ) (x : Vertex) (cs : Graph) (Later : List Entry → Type 0) → has ≡ false → Comes has v cs → Later (vertex_tuples cs)
    → (rest : Graph) × Takes v (given_if has x) cs rest × Later (vertex_tuples rest)
turn_passed true v x cs Later off comes h = absurd (true≢false off)
turn_passed false v x cs Later off comes h = (cs, (refl, comes), h)

pub comes_first : {X : Type 0} (has : Bool) (v : ℕ) (es : List (ℕ × X)) → has ≡ true → Comes has v es → first_vid es ≡ Some v
comes_first true v es on h = h
comes_first false v es on h = absurd (false≢true on)
