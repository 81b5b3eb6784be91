-- One more row of a compute phase.
use Rattle.std.proofs.Common.{◌≡◌, ◌<◌, ◌≤◌, ℕ, ◌^◌, List, [], ◌∷◌, ◌++◌, length, map, Bool, false, IsTrue, sym, ◌∙◌, ap, subst, refl, ◌⊎◌, inl, inr, append_assoc}
use Rattle.std.specs.Prelude.{◌||◌, flat_map}
use Rattle.std.proofs.lemmas.Grind.{flat_map-append}
use Rattle.std.proofs.lemmas.List.{append-nil, map-append}
use Rattle.std.proofs.lemmas.List.Folds.{list_any-append}
use Rattle.std.proofs.lemmas.Bool.{or_from, or_left, or_right, lt-ltb, le-ltb}
use Rattle.px_meaning.specs.Graph.{Vertex, vertex_size}
use Rattle.px_meaning.specs.Merge.{Pairs, IsValidMessage}
use Rattle.px_meaning.specs.Phase.{has_wide_answer}
use Rattle.px_meaning.specs.Program.{ProgramMeaning, ProgramLaws, Moment, Row, Out}
use Rattle.px_meaning.specs.Step.{Computed, computed, outs, is_wide, has_wide_vertex, has_wide_fold}
use Rattle.px_pages.specs.Entry.{Entry, entry}
use Rattle.px_record.specs.Body.{IsVertex, body_of}
use Rattle.px_program.specs.Posted.{Posted, Begins, IsPartOf, IsBeyond, made_for, with_out, nothing}
use Rattle.px_program.specs.Phase.{with_all, IsPartOfAll}
use Rattle.px_program.proofs.Phases.{part_of_rows, wide_among_rows, beyond_by_part}
use Rattle.px_compute_op.specs.Outs.{has_wide_pair}
use Rattle.px_store.specs.Joins.{vertex_tuples}
use Rattle.px_compute_op.specs.Phase.{HaveValidMessages, AreStored, AreComputed, is_part_beyond}

-- the first rows were computed, and the others are still to be given
pub record RowsAt (p : ProgramMeaning) (at : Moment) (room : ℕ) (giving : List Row → Type 0) (updating : List Entry → Type 0) (taking : Posted → Type 0) (rows : List Row) : Type 0 where
  pub done : List Row
  pub rest : List Row
  pub split : rows ≡ done ++ rest
  pub gives : giving rest
  pub valid : HaveValidMessages p.message rows
  pub valid_rest : HaveValidMessages p.message rest
  pub updates : updating (vertex_tuples (computed p at done).changes)
  pub taken : taking (with_all (computed p at done) nothing)
  pub stored : AreStored (computed p at done).changes
  pub fit : has_wide_vertex room (computed p at done).changes ≡ false

module _ (m : ProgramMeaning) (t : Moment) where
  flat_last : {A : Type 0} (f : ℕ × Out → List A) (us : List Row) (r : Row) → flat_map f (outs m t (us ++ r ∷ [])) ≡ flat_map f (outs m t us) ++ f (r.vid, m.out_of t r)
  flat_last f us r = ap (flat_map f) (map-append (λ (w : Row). (w.vid, m.out_of t w)) us (r ∷ [])) ∙ flat_map-append f (outs m t us) (outs m t (r ∷ [])) ∙ ap (λ l. flat_map f (outs m t us) ++ l) (append-nil (f (r.vid, m.out_of t r)))

  -- what one more row posts
  posted_last : (us : List Row) (r : Row) (p : Posted) → with_out (m.out_of t r) (with_all (computed m t us) p) ≡ with_all (computed m t (us ++ r ∷ [])) p
  posted_last us r p =
      let a = append_assoc p.sends (computed m t us).sends (m.out_of t r).sends ∙ ap (λ (l : Pairs). p.sends ++ l) (sym (flat_last (λ (o : ℕ × Out). o.1.sends) us r)) in
      let b = append_assoc p.requests (computed m t us).requests (m.out_of t r).requests ∙ ap (λ (l : Pairs). p.requests ++ l) (sym (flat_last (λ (o : ℕ × Out). o.1.requests) us r)) in
      let c = append_assoc p.contributions (computed m t us).contributions (m.out_of t r).contributions ∙ ap (λ (l : List ℕ). p.contributions ++ l) (sym (flat_last (λ (o : ℕ × Out). o.1.contributions) us r)) in
      λ i. record { sends = a i; requests = b i; contributions = c i }

  changes_last : (us : List Row) (r : Row) → (computed m t (us ++ r ∷ [])).changes ≡ (computed m t us).changes ++ (r.vid, (m.out_of t r).vertex) ∷ []
  changes_last us r = ap (map (λ (o : ℕ × Out). (o.0, o.1.vertex))) (map-append (λ (w : Row). (w.vid, m.out_of t w)) us (r ∷ [])) ∙ map-append (λ (o : ℕ × Out). (o.0, o.1.vertex)) (outs m t us) (outs m t (r ∷ []))

  -- an answer above room is a new vertex above room
  wide_changes : (room : ℕ) (rows : List Row) → has_wide_answer m room t rows ≡ has_wide_vertex room (computed m t rows).changes
  wide_changes room [] = refl
  wide_changes room (r ∷ rs) = ap (λ (b : Bool). is_wide room (m.out_of t r).vertex || b) (wide_changes room rs)

  begins_alone : {A : Type 0} (old now more : List A) → Begins old now more → Begins old now (more ++ [])
  begins_alone old now more part = subst (Begins old now) (sym (append-nil more)) part

  -- a row alone
  part_of_row : (r : Row) (p made : Posted) → IsPartOf (m.out_of t r) p made → IsPartOfAll (computed m t (r ∷ [])) p made
  part_of_row r p made part = record {
    sends = begins_alone p.sends made.sends _ part.sends;
    requests = begins_alone p.requests made.requests _ part.requests;
    contributions = begins_alone p.contributions made.contributions _ part.contributions;
  }

  -- where a row makes too much, all rows do
  pub beyond_at : ProgramLaws m → (room : ℕ) (rows done rest : List Row) (r : Row) → rows ≡ done ++ (r ∷ rest) → HaveValidMessages m.message rows
      → (room < vertex_size (m.out_of t r).vertex) ⊎ ((made : Posted) × IsPartOf (m.out_of t r) (with_all (computed m t done) nothing) made × IsBeyond (made_for m room) made)
      → IsTrue (is_part_beyond m room (computed m t rows))
  beyond_at laws room rows done rest r is valid (inl wide) =
      let here : IsTrue (has_wide_answer m room t (r ∷ [])) = or_left _ false (lt-ltb room (vertex_size (m.out_of t r).vertex) wide) in
      let all : IsTrue (has_wide_answer m room t rows) = subst (λ (l : List Row). IsTrue (has_wide_answer m room t l)) (sym is) (wide_among_rows m t room done (r ∷ []) rest here) in
      or_left _ _ (subst IsTrue (wide_changes room rows) all)
  beyond_at laws room rows done rest r is valid (inr some) =
      let part = part_of_rows m t done (r ∷ []) rest nothing some.0 (part_of_row r (with_all (computed m t done) nothing) some.0 some.1) in
      or_right _ _ (beyond_by_part m laws t (made_for m room) refl refl rows valid nothing some.0 (refl, refl) (subst (λ (l : List Row). IsPartOfAll (computed m t l) nothing some.0) (sym is) part) some.2)

-- no row was computed yet
pub rows_first : (m : ProgramMeaning) (at : Moment) (room : ℕ) (giving : List Row → Type 0) (updating : List Entry → Type 0) (taking : Posted → Type 0) (rows : List Row)
    → giving rows → HaveValidMessages m.message rows → updating [] → taking nothing → RowsAt m at room giving updating taking rows
rows_first m at room giving updating taking rows gives valid updates taken = record {
  done = [];
  rest = rows;
  split = refl;
  gives = gives;
  valid = valid;
  valid_rest = valid;
  updates = updates;
  taken = taken;
  stored = tt;
  fit = refl;
}

-- nothing is beyond the limits
pub within_limits : (p : ProgramMeaning) (room : ℕ) (c : Computed) → has_wide_vertex room c.changes ≡ false → has_wide_fold p.message room c.sends ≡ false → length c.sends ≤ 2 ^ 40
    → has_wide_pair room c.requests ≡ false → length c.requests ≤ 2 ^ 40 → is_part_beyond p room c ≡ false
within_limits p room c vertices folds sends requests asked =
    or_from _ _ vertices (or_from _ _ (or_from _ _ folds (le-ltb (2 ^ 40) (length c.sends) sends)) (or_from _ _ requests (le-ltb (2 ^ 40) (length c.requests) asked)))

-- one more was held
stored_last : (l : List (ℕ × Vertex)) (e : ℕ × Vertex) → AreStored l → IsVertex e.1 → AreStored (l ++ e ∷ [])
stored_last [] e all is = (is, tt)
stored_last (x ∷ l) e all is = (all.0, stored_last l e all.1 is)

module _ (m : ProgramMeaning) (at : Moment) (room : ℕ) (giving giving' : List Row → Type 0) (updating updating' : List Entry → Type 0) (taking taking' : Posted → Type 0) where
  -- one more row was computed
  pub rows_after : (rows : List Row) (was : RowsAt m at room giving updating taking rows) (r : Row) (rest : List Row) → was.rest ≡ r ∷ rest → giving' rest
      → (IsValidMessage m.message r.message → (p : Posted) → taking p → taking' (with_out (m.out_of at r) p))
      → (IsValidMessage m.message r.message → (l : List Entry) → updating l → updating' (l ++ entry r.vid 1 (body_of (m.out_of at r).vertex) ∷ []))
      → (IsValidMessage m.message r.message → vertex_size (m.out_of at r).vertex ≤ room)
      → (IsValidMessage m.message r.message → IsVertex (m.out_of at r).vertex)
      → RowsAt m at room giving' updating' taking' rows
  rows_after rows was r rest is gives take update fits held =
      let valid = subst (HaveValidMessages m.message) is was.valid_rest in
      let done = was.done in
      let tuple : ℕ × Vertex → Entry = λ e. entry e.0 1 (body_of e.1) in
      record {
        done = done ++ r ∷ [];
        rest = rest;
        split = was.split ∙ ap (λ l. done ++ l) is ∙ sym (append_assoc done (r ∷ []) rest);
        gives = gives;
        valid = was.valid;
        valid_rest = valid.1;
        updates = subst updating' (sym (ap vertex_tuples (changes_last m at done r) ∙ map-append tuple (computed m at done).changes ((r.vid, (m.out_of at r).vertex) ∷ []))) (update valid.0 (vertex_tuples (computed m at done).changes) was.updates);
        taken = subst taking' (posted_last m at done r nothing) (take valid.0 (with_all (computed m at done) nothing) was.taken);
        stored = subst AreStored (sym (changes_last m at done r)) (stored_last (computed m at done).changes (r.vid, (m.out_of at r).vertex) was.stored (held valid.0));
        fit = ap (has_wide_vertex room) (changes_last m at done r) ∙ list_any-append (λ (e : ℕ × Vertex). is_wide room e.1) (computed m at done).changes ((r.vid, (m.out_of at r).vertex) ∷ [])
            ∙ or_from _ _ was.fit (or_from _ _ (le-ltb room (vertex_size (m.out_of at r).vertex) (fits valid.0)) refl);
      }

-- no row is left
pub rows_over : (m : ProgramMeaning) (at : Moment) (room : ℕ) (giving : List Row → Type 0) (updating updating' : List Entry → Type 0) (taking taking' : Posted → Type 0) (rows : List Row) (was : RowsAt m at room giving updating taking rows) → was.rest ≡ []
    → ((l : List Entry) → updating l → updating' l) → ((p : Posted) → taking p → taking' p) → AreComputed room updating' taking' (computed m at rows)
rows_over m at room giving updating updating' taking taking' rows was over keep stay =
    let all : rows ≡ was.done = was.split ∙ ap (λ l. was.done ++ l) over ∙ append-nil was.done in
    subst (λ (rs : List Row). AreComputed room updating' taking' (computed m at rs)) (sym all) (record { updates = keep _ was.updates; taken = stay _ was.taken; stored = was.stored; fit = was.fit })
