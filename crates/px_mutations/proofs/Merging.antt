-- Changes and folds are merged, one vid at a time.
use Rattle.std.proofs.Common.{◌≡◌, ◌≢◌, ◌≤◌, ◌<◌, ◌+◌, ◌*◌, ℕ, suc, List, [], ◌∷◌, ◌++◌, length, Bool, true, false, ◌||◌, is_some, Option, Some, None, IsTrue, sym, ◌∙◌, ap, subst, refl, arith, inl, inr}
use Rattle.std.specs.Bool.{OnTrue}
use Rattle.std.specs.List.{AllByRecursion}
use Rattle.std.proofs.lemmas.Bool.{OnTrue_at, OnTrue_from, and_parts, or_left, or_right, or_cases, true≢false, false≢true}
use Rattle.px_meaning.specs.Graph.{Graph, Vertex, IsMap, vids, ascending}
use Rattle.px_meaning.specs.Merge.{Pairs, AllValid}
use Rattle.px_meaning.specs.Program.{ProgramMeaning}
use Rattle.px_meaning.specs.Step.{put_all, settled}
use Rattle.px_meaning.proofs.Ascending.{has, has-first, has-append, has-ascending}
use Rattle.px_meaning.proofs.Settling.{IsMap-put_all, IsMap-settled}
use Rattle.px_pages.specs.Entry.{Entry}
use Rattle.px_record.specs.Body.{IsVertex}
use Rattle.px_store.specs.Joins.{vertex_tuples}
use Rattle.px_mutations.specs.declared.turns.Turn.{Turn}
use Rattle.px_mutations.specs.declared.effects.Effect.{Effect}
use Rattle.px_mutations.specs.declared.effects.Counts.{Counts}
use Rattle.px_mutations.specs.Turns.{first_vid, Comes, IsTurn, given_if, Takes, Waits, with_vid, vids_as_tuples}
use Rattle.px_mutations.specs.Effects.{left_at, turned, IsEffect, IsCounted, IsTooWide}
use Rattle.px_mutations.specs.Applying.{touched, is_settling_beyond, IsMerging, IsMerged}
use Rattle.px_mutations.proofs.Steps.{SettledTo, settled_first, settled_next, touched_next, wide_is_beyond, settled_whole, written_whole, fit_whole, counts_whole}

-- what was merged so far: the store holds a graph that leads to the one after all, and these changes and folds are still to come
pub record MergingAt (p : ProgramMeaning) (room : ℕ) (fits : Type 0) (counted : Bool) (reads leaves reads0 leaves0 : ℕ) (holding : Graph → Type 0) (updating : List Entry → Type 0) (giving : Pairs → Type 0) (writing : List Entry → Type 0)
    (asked : Option ℕ) (bytes : List ℕ) (c : Counts) (l changes : Graph) (folds : Pairs) : Type 0 where
  pub graph : Graph
  pub coming : Graph
  pub waiting : Pairs
  pub ws : List ℕ
  pub bound : ℕ
  pub state : SettledTo p room l (settled p (put_all l changes) folds) graph coming waiting ws bound c
  pub stored : AllByRecursion (λ (e : ℕ × Vertex). IsVertex e.1) coming
  pub valid : AllValid p.verdict waiting
  pub map_after : IsMap (settled p (put_all l changes) folds)
  pub held : holding graph
  pub updates : updating (vertex_tuples coming)
  pub waits : Waits asked bytes fits giving waiting
  pub vids_are : writing (vids_as_tuples ws)
  pub few_reads : OnTrue counted (reads + 192 * touched coming waiting ≤ reads0 + 192 * touched changes folds)
  pub few_leaves : OnTrue counted (leaves + touched coming waiting ≤ leaves0 + touched changes folds)

pub merging_first : (p : ProgramMeaning) (room : ℕ) (fits : Type 0) (counted : Bool) (reads leaves : ℕ) (holding : Graph → Type 0) (updating updating' : List Entry → Type 0) (giving giving' : Pairs → Type 0) (writing writing' : List Entry → Type 0)
    (asked : Option ℕ) (bytes : List ℕ) (c : Counts) (l changes : Graph) (folds : Pairs) → IsMap l → c ≡ record { added = 0; removed = 0; live = 0 }
    → ((es : List Entry) → updating es → updating' es) → ((es : List Entry) → writing es → writing' es) → ((fs : Pairs) → giving fs → Waits asked bytes fits giving' fs)
    → IsMerging p room holding updating giving writing l changes folds → MergingAt p room fits counted reads leaves reads leaves holding updating' giving' writing' asked bytes c l changes folds
merging_first p room fits counted reads leaves holding updating updating' giving giving' writing writing' asked bytes c l changes folds map none keep stay waits m = record {
  graph = l;
  coming = changes;
  waiting = folds;
  ws = [];
  bound = 0;
  state = settled_first p room l changes folds c map m.map_changes m.map_folds m.fit m.awake none;
  stored = m.stored;
  valid = m.valid;
  map_after = IsMap-settled p (put_all l changes) folds (IsMap-put_all l changes map);
  held = m.held;
  updates = keep (vertex_tuples changes) m.updates;
  waits = waits folds m.gives;
  vids_are = stay [] m.vids_are;
  few_reads = OnTrue_from counted _ (λ on. omega arith);
  few_leaves = OnTrue_from counted _ (λ on. omega arith);
}

-- a held fold is the first
pub waits_first : (asked : Option ℕ) (bytes : List ℕ) (fits : Type 0) (giving : Pairs → Type 0) (fs : Pairs) → Waits asked bytes fits giving fs → first_vid fs ≡ asked
waits_first None bytes fits giving fs w = ap first_vid w.0
waits_first (Some v) bytes fits giving fs w = ap first_vid w.is

-- what waits may be stated anew
pub waits_map : (asked : Option ℕ) (bytes : List ℕ) (fits : Type 0) (giving giving' : Pairs → Type 0) (fs : Pairs) → ((k : Pairs) → giving k → giving' k) → Waits asked bytes fits giving fs → Waits asked bytes fits giving' fs
waits_map None bytes fits giving giving' fs keep w = w
waits_map (Some v) bytes fits giving giving' fs keep w = record { rest = w.rest; is = w.is; after = keep w.rest w.after }

pub waits_over : (asked : Option ℕ) (bytes : List ℕ) (fits : Type 0) (giving : Pairs → Type 0) (fs : Pairs) → Waits asked bytes fits giving fs → fs ≡ [] → fits
waits_over None bytes fits giving fs w is = w.1
waits_over (Some v) bytes fits giving fs w is = absurd (cc (sym w.is ∙ is))

-- a group still gives while a fold waits
pub waits_gives : (asked : Option ℕ) (bytes : List ℕ) (fits : Type 0) (giving : Pairs → Type 0) (fs : Pairs) (v : ℕ) → asked ≡ Some v → Waits asked bytes fits giving fs → (rest : Pairs) × giving rest × (fs ≡ (v, bytes) ∷ rest)
waits_gives None bytes fits giving fs v is w = absurd (cc is)
waits_gives (Some u) bytes fits giving fs v is w = (let same : u ≡ v = cc is in (w.rest, w.after, w.is ∙ ap (λ (n : ℕ). (n, bytes) ∷ w.rest) same))

-- parts of what is still to come

stored_rest : (v : ℕ) (o : Option Vertex) (es rest : Graph) → Takes v o es rest → AllByRecursion (λ (e : ℕ × Vertex). IsVertex e.1) es → AllByRecursion (λ (e : ℕ × Vertex). IsVertex e.1) rest
stored_rest v None es rest t h = subst (AllByRecursion (λ (e : ℕ × Vertex). IsVertex e.1)) t.0 h
stored_rest v (Some x) es rest t h = (subst (AllByRecursion (λ (e : ℕ × Vertex). IsVertex e.1)) t h).1

valid_rest : (p : ProgramMeaning) (v : ℕ) (o : Option (List ℕ)) (es rest : Pairs) → Takes v o es rest → AllValid p.verdict es → AllValid p.verdict rest
valid_rest p v None es rest t h = subst (AllValid p.verdict) t.0 h
valid_rest p v (Some x) es rest t h = (and_parts (p.verdict.valid x) _ (subst (AllValid p.verdict) t h)).1

valid_first : (p : ProgramMeaning) (v : ℕ) (bytes : List ℕ) (es rest : Pairs) → Takes v (Some bytes) es rest → AllValid p.verdict es → IsTrue (p.verdict.valid bytes)
valid_first p v bytes es rest t h = (and_parts (p.verdict.valid bytes) _ (subst (AllValid p.verdict) t h)).0

-- the fold of a turn is valid
pub valid_waiting : (p : ProgramMeaning) (asked : Option ℕ) (bytes : List ℕ) (fits : Type 0) (giving : Pairs → Type 0) (fs : Pairs) (v : ℕ) → asked ≡ Some v → AllValid p.verdict fs → Waits asked bytes fits giving fs → IsTrue (p.verdict.valid bytes)
valid_waiting p asked bytes fits giving fs v is h w = (let g = waits_gives asked bytes fits giving fs v is w in valid_first p v bytes fs g.0 g.2 h)

-- a turn takes its fold from what waits
pub turn_takes : (has : Bool) (v : ℕ) (asked : Option ℕ) (bytes : List ℕ) (fits : Type 0) (giving : Pairs → Type 0) (fs : Pairs) → (has ≡ true → asked ≡ Some v) → Waits asked bytes fits giving fs → Comes has v fs → (rest : Pairs) × Takes v (given_if has bytes) fs rest
turn_takes true v asked bytes fits giving fs is w comes = (let gives = waits_gives asked bytes fits giving fs v (is refl) w in (gives.0, gives.2))
turn_takes false v asked bytes fits giving fs is w comes = (fs, (refl, comes))

some_given : {X Y : Type 0} (a b : Bool) (x : X) (y : Y) → (a || b) ≡ true → (is_some (given_if a x) || is_some (given_if b y)) ≡ true
some_given true b x y h = refl
some_given false true x y h = refl
some_given false false x y h = absurd (false≢true h)

has_comes : {X : Type 0} (b : Bool) (v : ℕ) (es : List (ℕ × X)) → b ≡ true → Comes b v es → has v (vids es) ≡ true
has_comes false v es on h = absurd (false≢true on)
has_comes true v [] on h = absurd (cc h)
has_comes true v (e ∷ es) on h = (let same : e.0 ≡ v = cc h in subst (λ (n : ℕ). has n (e.0 ∷ vids es) ≡ true) same (has-first e.0 (vids es)))

one_of : (v : ℕ) (ns : List ℕ) → has v ns ≡ true → 1 ≤ length ns
one_of v [] h = absurd (false≢true h)
one_of v (n ∷ ns) h = omega arith

-- where a turn is due, a vid is touched
touched_some : (t : Turn) (cs : Graph) (fs : Pairs) → (t.has_update || t.has_verdict) ≡ true → Comes t.has_update t.vid cs → Comes t.has_verdict t.vid fs → 1 ≤ touched cs fs
touched_some t cs fs some a b = one_of t.vid (ascending (vids cs ++ vids fs)) (has-ascending t.vid (vids cs ++ vids fs) ∙ has-append t.vid (vids cs) (vids fs) ∙ (elim (or_cases t.has_update t.has_verdict some) [
  | inl on ↦ or_left (has t.vid (vids cs)) _ (has_comes t.has_update t.vid cs on a)
  | inr on ↦ or_right (has t.vid (vids cs)) _ (has_comes t.has_verdict t.vid fs on b)
]))

module _ (p : ProgramMeaning) (room : ℕ) (fits : Type 0) (counted : Bool) (reads leaves reads0 leaves0 : ℕ) (holding : Graph → Type 0) (updating : List Entry → Type 0) (giving : Pairs → Type 0) (writing : List Entry → Type 0)
    (asked : Option ℕ) (bytes : List ℕ) (c : Counts) (l changes : Graph) (folds : Pairs) (m : MergingAt p room fits counted reads leaves reads0 leaves0 holding updating giving writing asked bytes c l changes folds) where
  -- a call that read no more than so far
  pub reads_so_far : (now : ℕ) → OnTrue counted (now ≤ reads) → OnTrue counted (now ≤ reads0 + 192 * touched changes folds)
  reads_so_far now le = OnTrue_from counted _ (λ on. omega (arith, OnTrue_at on m.few_reads, OnTrue_at on le))

  pub leaves_so_far : (now : ℕ) → OnTrue counted (now ≤ leaves) → OnTrue counted (now ≤ leaves0 + touched changes folds)
  leaves_so_far now le = OnTrue_from counted _ (λ on. omega (arith, OnTrue_at on m.few_leaves, OnTrue_at on le))

  -- nothing is left
  pub merging_end : (holding' : Graph → Type 0) (writing' : List Entry → Type 0) → ((g : Graph) → holding g → holding' g) → ((es : List Entry) → writing es → writing' es)
      → ((cs : Graph) (fs : Pairs) → IsMap cs → IsMap fs → updating (vertex_tuples cs) → first_vid fs ≡ asked → IsTurn None cs fs)
      → IsMerged room fits holding' writing' l (settled p (put_all l changes) folds) c
  merging_end holding' writing' keep stay none =
      let over = none m.coming m.waiting m.state.map_cs m.state.map_fs m.updates (waits_first asked bytes fits giving m.waiting m.waits) in
      let after = settled p (put_all l changes) folds in
      let whole = settled_whole p room l after m.graph m.coming m.waiting m.ws m.bound c m.state m.map_after over.0 over.1 in
      let written = written_whole p room l after m.graph m.coming m.waiting m.ws m.bound c m.state m.map_after over.0 over.1 in
      record {
        held = subst holding' whole (keep m.graph m.held);
        vids_are = subst (λ (ns : List ℕ). writing' (vids_as_tuples ns)) written (stay (vids_as_tuples m.ws) m.vids_are);
        counted = counts_whole p room l after m.graph m.coming m.waiting m.ws m.bound c m.state m.map_after over.0 over.1;
        fit = fit_whole p room l after m.graph m.coming m.waiting m.ws m.bound c m.state m.map_after over.0 over.1;
        folds_fit = waits_over asked bytes fits giving m.waiting m.waits over.1;
      }

  module _ (t : Turn) (due : (cs : Graph) (fs : Pairs) → IsMap cs → IsMap fs → updating (vertex_tuples cs) → first_vid fs ≡ asked → IsTurn (Some t) cs fs) (some : (t.has_update || t.has_verdict) ≡ true) (is_asked : t.has_verdict ≡ true → asked ≡ Some t.vid) where
    comes : Comes t.has_update t.vid m.coming × Comes t.has_verdict t.vid m.waiting
    comes = due m.coming m.waiting m.state.map_cs m.state.map_fs m.updates (waits_first asked bytes fits giving m.waiting m.waits)

    -- one vid more was looked at, and a call failed
    pub reads_within : (now : ℕ) → OnTrue counted (now ≤ reads + 192) → OnTrue counted (now ≤ reads0 + 192 * touched changes folds)
    reads_within now le = OnTrue_from counted _ (λ on. omega (arith, OnTrue_at on m.few_reads, OnTrue_at on le, touched_some t m.coming m.waiting some comes.0 comes.1))

    pub leaves_within : (now : ℕ) → OnTrue counted (now ≤ leaves + 1) → OnTrue counted (now ≤ leaves0 + touched changes folds)
    leaves_within now le = OnTrue_from counted _ (λ on. omega (arith, OnTrue_at on m.few_leaves, OnTrue_at on le, touched_some t m.coming m.waiting some comes.0 comes.1))

    valid_fold : t.has_verdict ≡ true → IsTrue (p.verdict.valid bytes)
    valid_fold on = valid_waiting p asked bytes fits giving m.waiting t.vid (is_asked on) m.valid m.waits

    module _ (updating' : List Entry → Type 0) (x : Vertex) (take : (cs : Graph) → AllByRecursion (λ (e : ℕ × Vertex). IsVertex e.1) cs → updating (vertex_tuples cs) → Comes t.has_update t.vid cs → (rest : Graph) × Takes t.vid (given_if t.has_update x) cs rest × updating' (vertex_tuples rest)) where
      -- the vertex that is left is too wide
      pub merging_wide : (all : Pairs) → ((t.has_verdict ≡ true → IsTrue (p.verdict.valid bytes)) → (g : Graph) → holding g → IsTooWide room (left_at p t.vid (given_if t.has_update x) (given_if t.has_verdict bytes) g))
          → ((fs : Pairs) → Waits asked bytes fits giving fs → Comes t.has_verdict t.vid fs → (rest : Pairs) × Takes t.vid (given_if t.has_verdict bytes) fs rest)
          → IsTrue (is_settling_beyond p room (settled p (put_all l changes) folds) all)
      merging_wide all wide ask =
          let cs = take m.coming m.stored m.updates comes.0 in
          let fs = ask m.waiting m.waits comes.1 in
          or_left _ _ (or_left _ _ (wide_is_beyond p room l (settled p (put_all l changes) folds) m.graph m.coming cs.0 m.waiting fs.0 m.ws m.bound c c m.state t.vid (given_if t.has_update x) (given_if t.has_verdict bytes) cs.1 fs.1
          (some_given t.has_update t.has_verdict x bytes some) (wide valid_fold m.graph m.held)))

      pub merging_next : (reads' leaves' : ℕ) (holding' : Graph → Type 0) (giving' : Pairs → Type 0) (writing' : List Entry → Type 0) (asked' : Option ℕ) (bytes' : List ℕ) (c' : Counts) (e : Effect) (updating'' : List Entry → Type 0)
          → ((es : List Entry) → updating' es → updating'' es)
          → ((t.has_verdict ≡ true → IsTrue (p.verdict.valid bytes)) → (g : Graph) → holding g → holding' (turned p t x bytes g))
          → ((t.has_verdict ≡ true → IsTrue (p.verdict.valid bytes)) → (g : Graph) → holding g → IsEffect e t.vid room g (turned p t x bytes g))
          → IsCounted e c c'
          → ((vs : List ℕ) → writing (vids_as_tuples vs) → writing' (vids_as_tuples (with_vid e.live t.vid vs)))
          → ((fs : Pairs) → Waits asked bytes fits giving fs → Comes t.has_verdict t.vid fs → (rest : Pairs) × Takes t.vid (given_if t.has_verdict bytes) fs rest × Waits asked' bytes' fits giving' rest)
          → OnTrue counted (reads' ≤ reads + 192) → OnTrue counted (leaves' ≤ leaves + 1)
          → MergingAt p room fits counted reads' leaves' reads0 leaves0 holding' updating'' giving' writing' asked' bytes' c' l changes folds
      merging_next reads' leaves' holding' giving' writing' asked' bytes' c' e updating'' keep hold effect count write ask few_reads few_leaves =
          let after = settled p (put_all l changes) folds in
          let cs = take m.coming m.stored m.updates comes.0 in
          let fs = ask m.waiting m.waits comes.1 in
          let given = some_given t.has_update t.has_verdict x bytes some in
          let o = given_if t.has_update x in
          let f = given_if t.has_verdict bytes in
          let less : touched m.coming m.waiting ≡ suc (touched cs.0 fs.0) = touched_next p room l after m.graph m.coming cs.0 m.waiting fs.0 m.ws m.bound c c' m.state t.vid o f cs.1 fs.1 given in
          record {
            graph = turned p t x bytes m.graph;
            coming = cs.0;
            waiting = fs.0;
            ws = with_vid e.live t.vid m.ws;
            bound = t.vid + 1;
            state = settled_next p room l after m.graph m.coming cs.0 m.waiting fs.0 m.ws m.bound c c' m.state t.vid o f cs.1 fs.1 given e (effect valid_fold m.graph m.held) count;
            stored = stored_rest t.vid o m.coming cs.0 cs.1 m.stored;
            valid = valid_rest p t.vid f m.waiting fs.0 fs.1 m.valid;
            map_after = m.map_after;
            held = hold valid_fold m.graph m.held;
            updates = keep (vertex_tuples cs.0) cs.2;
            waits = fs.2;
            vids_are = write m.ws m.vids_are;
            few_reads = OnTrue_from counted _ (λ on. omega (arith, OnTrue_at on m.few_reads, OnTrue_at on few_reads, less));
            few_leaves = OnTrue_from counted _ (λ on. omega (arith, OnTrue_at on m.few_leaves, OnTrue_at on few_leaves, less));
          }
