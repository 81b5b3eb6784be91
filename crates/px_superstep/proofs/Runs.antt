-- How the phases of a run end it.
use Rattle.std.proofs.Common.{◌≡◌, ◌↔◌, ◌<◌, ◌+◌, ◌-◌, Some, None, arith, ℕ, suc, ◌&&◌, ◌++◌, List, [], ◌∷◌, Bool, true, false, not, length, IsTrue, if◌then◌else◌, refl, sym, ◌∙◌, ap, ap₂, subst, filter}
use Rattle.std.specs.List.{list_all}
use Rattle.std.proofs.lemmas.Bool.{and_parts, cond-false}
use Rattle.std.proofs.lemmas.List.{append-nil}
use Rattle.px_core.specs.Shown.{Shown, Started, told_if}
use Rattle.px_global_state.specs.States.{awake_in}
use Rattle.px_load.specs.Dumping.{SomeOf, dumped}
use Rattle.px_load.specs.Dumping as dumping
use Rattle.px_load.specs.Stops.{Counts, HasGoodLines, IsLineRefusal, IsRefusal}
use Rattle.px_load.specs.Stops as loading
use Rattle.px_load.specs.declared.stops.DumpStop.{DumpStop}
use Rattle.px_load.specs.declared.stops.DumpStop.TheVariants as dumps
use Rattle.px_load.specs.declared.stops.LoadStop.{LoadStop}
use Rattle.px_load.specs.declared.stops.LoadStop.TheVariants as loads
use Rattle.px_meaning.specs.Due.{DueText, due_of_text, due_of_outcome}
use Rattle.px_meaning.specs.Graph as vertices
use Rattle.px_meaning.specs.GraphText as text
use Rattle.px_meaning.specs.GraphText.{TextMeaning}
use Rattle.px_meaning.specs.Meaning as outcomes
use Rattle.px_meaning.specs.Meaning.{first_state, has_no_pairs, is_halted, meaning, run}
use Rattle.px_meaning.specs.Merge.{Pairs}
use Rattle.px_meaning.specs.OutputText.{text_of}
use Rattle.px_meaning.specs.Program.{ProgramMeaning}
use Rattle.px_meaning.specs.Runs.{HasHalted, HasRun}
use Rattle.px_meaning.specs.Step.{State, step}
use Rattle.px_meaning.proofs.Running.{run_beyond, run_more}
use Rattle.px_superstep.specs.Ends.{end_of_load, end_of_dump, is_source, is_sink, is_graph, is_scratch, text_due, text_of_outcome, IsDiskEnd, IsStepEnd, IsRunEnd, HaltsFor, RunEnds, FaultsAt}
use Rattle.px_superstep.specs.Files.{msg_file}
use Rattle.px_superstep.specs.Jobs.{AreNoMessages}
use Rattle.px_superstep.specs.declared.plan.End.{End}
use Rattle.px_superstep.specs.declared.plan.End.TheVariants.{Done, Short, Memory, Bad, Twice, Beyond, Limit, Graph, Scratch, Source, Sink}

-- no vertex is awake exactly where all have voted to halt
zero_at : (b : Bool) (e : ℕ × vertices.Vertex) (l : vertices.Graph) (x : Bool) → (length l ≡ 0 → x ≡ true) → length (if not b then e ∷ l else l) ≡ 0 → (b && x) ≡ true
zero_at true e l x f h = f h
zero_at false e l x f h = absurd (cc h)

all_at : (b : Bool) (e : ℕ × vertices.Vertex) (l : vertices.Graph) (x : Bool) → (x ≡ true → length l ≡ 0) → (b && x) ≡ true → length (if not b then e ∷ l else l) ≡ 0
all_at true e l x f h = f h
all_at false e l x f h = absurd (cc h)

none_awake : (g : vertices.Graph) → awake_in g ≡ 0 → list_all (λ e. e.1.halt) g ≡ true
none_awake [] h = refl
none_awake (e ∷ es) h = zero_at e.1.halt e (filter (λ e. not e.1.halt) es) (list_all (λ e. e.1.halt) es) (none_awake es) h

all_halt : (g : vertices.Graph) → list_all (λ e. e.1.halt) g ≡ true → awake_in g ≡ 0
all_halt [] h = refl
all_halt (e ∷ es) h = all_at e.1.halt e (filter (λ e. not e.1.halt) es) (list_all (λ e. e.1.halt) es) (all_halt es) h

none_sent : (pairs : Pairs) → length pairs ≡ 0 → has_no_pairs pairs ≡ true
none_sent [] h = refl
none_sent (e ∷ es) h = absurd (cc h)

no_pairs : (pairs : Pairs) → has_no_pairs pairs ≡ true → length pairs ≡ 0
no_pairs [] h = refl
no_pairs (e ∷ es) h = absurd (cc h)

same_truth : (a b : Bool) → (a ≡ true → b ≡ true) → (b ≡ true → a ≡ true) → a ≡ b
same_truth true b f g = sym (f refl)
same_truth false true f g = g refl
same_truth false false f g = refl

-- the numbers of a state tell whether it is halted
pub still_is : (b : Bool) (live sent : ℕ) (s : State) → IsTrue b ↔ ((live ≡ 0) × (sent ≡ 0)) → live ≡ awake_in s.graph → sent ≡ length s.sends → b ≡ is_halted s
still_is b live sent s h awake flying = same_truth b (is_halted s)
    (λ is. (let z = h.0 is in ap₂ (λ (x y : Bool). x && y) (none_awake s.graph (sym awake ∙ z.0)) (none_sent s.sends (sym flying ∙ z.1))))
    (λ is. (let both = and_parts (list_all (λ e. e.1.halt) s.graph) (has_no_pairs s.sends) is in h.1 (awake ∙ all_halt s.graph both.0, flying ∙ no_pairs s.sends both.1)))

-- all steps were taken, from the first state on
pub limit_here : (p : ProgramMeaning) (room most taken : ℕ) (s : State) (Stands : State → Type 0) (has : HasRun p room most taken s Stands) → taken ≡ most → is_halted has.state ≡ false → s.superstep ≡ 0 → run p room most s ≡ outcomes.Limit most
limit_here p room most taken s Stands has over awake first =
    let none : most - taken ≡ 0 = omega (arith, over) in
    let last : has.state.superstep ≡ most = omega (arith, over, first, has.superstep_is) in
    has.same ∙ ap (λ k. run p room k has.state) none ∙ cond-false (is_halted has.state) (outcomes.Halted has.state) (outcomes.Limit has.state.superstep) awake ∙ ap outcomes.Limit last

-- a superstep that was not taken ends the run
pub run_stopped : (IsStep IsBeyond IsLimit : ℕ → Type 0) (e : End) → ((n : ℕ) → IsStep n → IsBeyond n) → IsStepEnd IsStep e → IsRunEnd IsBeyond IsLimit e
run_stopped IsStep IsBeyond IsLimit (Beyond n) why h = why n h
run_stopped IsStep IsBeyond IsLimit Graph why h = tt
run_stopped IsStep IsBeyond IsLimit Scratch why h = tt
run_stopped IsStep IsBeyond IsLimit Done why h = absurd h
run_stopped IsStep IsBeyond IsLimit (Short need have) why h = absurd h
run_stopped IsStep IsBeyond IsLimit Memory why h = absurd h
run_stopped IsStep IsBeyond IsLimit (Bad line kind) why h = absurd h
run_stopped IsStep IsBeyond IsLimit (Twice v) why h = absurd h
run_stopped IsStep IsBeyond IsLimit (Limit n) why h = absurd h
run_stopped IsStep IsBeyond IsLimit Source why h = absurd h
run_stopped IsStep IsBeyond IsLimit Sink why h = absurd h

-- what was counted before the first call without a fault
pub counts_from : (b : Bool) (n m k : ℕ) → m ≡ n → Counts b m k → Counts b n k
counts_from b n m k is h = subst (λ (x : ℕ). Counts b x k) is h

-- which device failed in each phase
pub faults_disk : (r r' w w' g g' s s' : ℕ) (e : End) → IsDiskEnd e → r' ≡ r → w' ≡ w → Counts (is_graph e) g g' → Counts (is_scratch e) s s' → FaultsAt r r' w w' g g' s s' e
faults_disk r r' w w' g g' s s' Graph is source sink graph scratch = record { source = source; sink = sink; graph = graph; scratch = scratch }
faults_disk r r' w w' g g' s s' Scratch is source sink graph scratch = record { source = source; sink = sink; graph = graph; scratch = scratch }
faults_disk r r' w w' g g' s s' Done is source sink graph scratch = absurd is
faults_disk r r' w w' g g' s s' (Short need have) is source sink graph scratch = absurd is
faults_disk r r' w w' g g' s s' Memory is source sink graph scratch = absurd is
faults_disk r r' w w' g g' s s' (Bad line kind) is source sink graph scratch = absurd is
faults_disk r r' w w' g g' s s' (Twice v) is source sink graph scratch = absurd is
faults_disk r r' w w' g g' s s' (Beyond n) is source sink graph scratch = absurd is
faults_disk r r' w w' g g' s s' (Limit n) is source sink graph scratch = absurd is
faults_disk r r' w w' g g' s s' Source is source sink graph scratch = absurd is
faults_disk r r' w w' g g' s s' Sink is source sink graph scratch = absurd is

pub faults_load : (r r' w g g' s s' : ℕ) (x : LoadStop) → Counts (loading.is_source x) r r' → Counts (loading.is_graph x) g g' → Counts (loading.is_scratch x) s s' → FaultsAt r r' w w g g' s s' (end_of_load x)
faults_load r r' w g g' s s' loads.Source source graph scratch = record { source = source; sink = refl; graph = graph; scratch = scratch }
faults_load r r' w g g' s s' (loads.Bad line kind) source graph scratch = record { source = source; sink = refl; graph = graph; scratch = scratch }
faults_load r r' w g g' s s' (loads.Twice v) source graph scratch = record { source = source; sink = refl; graph = graph; scratch = scratch }
faults_load r r' w g g' s s' loads.Graph source graph scratch = record { source = source; sink = refl; graph = graph; scratch = scratch }
faults_load r r' w g g' s s' loads.Scratch source graph scratch = record { source = source; sink = refl; graph = graph; scratch = scratch }

pub faults_run : (IsBeyond IsLimit : ℕ → Type 0) (r r' w g g' s s' : ℕ) (e : End) → IsRunEnd IsBeyond IsLimit e → r' ≡ r → Counts (is_graph e) g g' → Counts (is_scratch e) s s' → FaultsAt r r' w w g g' s s' e
faults_run IsBeyond IsLimit r r' w g g' s s' (Beyond n) is source graph scratch = record { source = source; sink = refl; graph = graph; scratch = scratch }
faults_run IsBeyond IsLimit r r' w g g' s s' (Limit n) is source graph scratch = record { source = source; sink = refl; graph = graph; scratch = scratch }
faults_run IsBeyond IsLimit r r' w g g' s s' Graph is source graph scratch = record { source = source; sink = refl; graph = graph; scratch = scratch }
faults_run IsBeyond IsLimit r r' w g g' s s' Scratch is source graph scratch = record { source = source; sink = refl; graph = graph; scratch = scratch }
faults_run IsBeyond IsLimit r r' w g g' s s' Done is source graph scratch = absurd is
faults_run IsBeyond IsLimit r r' w g g' s s' (Short need have) is source graph scratch = absurd is
faults_run IsBeyond IsLimit r r' w g g' s s' Memory is source graph scratch = absurd is
faults_run IsBeyond IsLimit r r' w g g' s s' (Bad line kind) is source graph scratch = absurd is
faults_run IsBeyond IsLimit r r' w g g' s s' (Twice v) is source graph scratch = absurd is
faults_run IsBeyond IsLimit r r' w g g' s s' Source is source graph scratch = absurd is
faults_run IsBeyond IsLimit r r' w g g' s s' Sink is source graph scratch = absurd is

pub faults_dump : (r r' w w' g g' s s' : ℕ) (x : DumpStop) → r' ≡ r → Counts (dumping.is_sink x) w w' → Counts (dumping.is_graph x) g g' → Counts (dumping.is_scratch x) s s' → FaultsAt r r' w w' g g' s s' (end_of_dump x)
faults_dump r r' w w' g g' s s' dumps.Graph source sink graph scratch = record { source = source; sink = sink; graph = graph; scratch = scratch }
faults_dump r r' w w' g g' s s' dumps.Scratch source sink graph scratch = record { source = source; sink = sink; graph = graph; scratch = scratch }
faults_dump r r' w w' g g' s s' dumps.Sink source sink graph scratch = record { source = source; sink = sink; graph = graph; scratch = scratch }

-- what is owed where the run halts
owes_text : (p : ProgramMeaning) (room most : ℕ) (m : TextMeaning) (g : vertices.Graph) (s : State) → m ≡ text.Good g → meaning p room g most ≡ outcomes.Halted s → due_of_text p room most m ≡ DueText (text_of p s)
owes_text p room most m g s good halted = ap (due_of_text p room most) good ∙ ap (due_of_outcome p) halted

due_is : (summary : Bool) (p : ProgramMeaning) (room most : ℕ) (m : TextMeaning) (g : vertices.Graph) (s : State) → m ≡ text.Good g → meaning p room g most ≡ outcomes.Halted s → text_due summary p room most m ≡ dumped summary p s
due_is summary p room most m g s good halted = ap (text_due summary p room most) good ∙ ap (text_of_outcome summary p) halted

-- nothing is a part of every text
pub nothing_of : (t h : List ℕ) (Holds : List ℕ → Type 0) → Holds h → SomeOf t (λ x. Holds (h ++ x))
nothing_of t h Holds has = record { most = 0; holds = subst Holds (sym (append-nil h)) has }

-- the text was loaded, and this stands for the first state
pub record Loaded (p : ProgramMeaning) (m : TextMeaning) (Stands : State → Type 0) : Type 0 where
  pub graph : vertices.Graph
  pub good : m ≡ text.Good graph
  pub stands : Stands (first_state p graph)

-- a job that stands for what was loaded does so for a room of another name
pub loaded_of : (Stands : ProgramMeaning → ℕ → State → Type 0) (q : ProgramMeaning) (a b room : ℕ) (of_room : ℕ → TextMeaning) → a ≡ b → a ≡ room → (v : vertices.Graph) → of_room a ≡ text.Good v → Stands q a (first_state q v) → Loaded q (of_room room) (Stands q b)
loaded_of Stands q a b room of_room same is v good stands = record { graph = v; good = ap of_room (sym is) ∙ good; stands = subst (λ (n : ℕ). Stands q n (first_state q v)) same stands }

-- it came to a halted state
pub halts_of : (Stands Now : ProgramMeaning → ℕ → State → Type 0) (q q2 : ProgramMeaning) (k k2 most : ℕ) (m : TextMeaning) → q2 ≡ q → k2 ≡ k
    → ((st : State) → Stands q k st → HasHalted q k most st (Now q k)) → Loaded q m (Stands q k) → HaltsFor q2 k2 most m (Now q2 k2)
halts_of Stands Now q q2 k k2 most m same len halted loaded =
    let h = halted (first_state q loaded.graph) loaded.stands in
    subst (λ (x : ProgramMeaning). HaltsFor x k2 most m (Now x k2)) (sym same) (subst (λ (n : ℕ). HaltsFor q n most m (Now q n)) (sym len)
    (record { graph = loaded.graph; good = loaded.good; state = h.state; halted = h.halted; stands = h.stands }))

-- the files of messages are empty after a start
pub no_messages : (len parts : ℕ) (s t : Shown) → Started len s t → s.tells ≡ true → AreNoMessages parts t
no_messages len parts s t h told = λ q low. record { on = h.tells ∙ told; is = h.empty (msg_file 0 q) ∙ ap (λ (b : Bool). told_if b []) (h.tells ∙ told) }

-- a step of a run, over a job whose program and room have other names
module _ (p q : ProgramMeaning) (room k most taken : ℕ) (s : State) (Stands : ProgramMeaning → ℕ → State → Type 0) (same : q ≡ p) (len : k ≡ room) (has : HasRun p room most taken s (Stands p room)) (low : taken < most) (awake : is_halted has.state ≡ false) where
  pub beyond_here : (n : ℕ) → ((st : State) → Stands q k st → (step q k st ≡ None) × (n ≡ suc st.superstep)) → run p room most s ≡ outcomes.Beyond n
  beyond_here n none =
      let is = subst (λ (x : ProgramMeaning). (st : State) → Stands x room st → (step x room st ≡ None) × (n ≡ suc st.superstep)) same (subst (λ (y : ℕ). (st : State) → Stands q y st → (step q y st ≡ None) × (n ≡ suc st.superstep)) len none) has.state has.stands in
      run_beyond p room most taken s (Stands p room) has low awake is.0 ∙ ap outcomes.Beyond (sym is.1)

  pub more_here : (Now : ProgramMeaning → ℕ → State → Type 0) (a b : ℕ) → b ≡ a + 1 → ((st : State) → Stands p room st → a ≡ st.superstep) → ((st : State) → Now p room st → b ≡ st.superstep)
      → ((st : State) → Stands q k st → (t : State) × (step q k st ≡ Some t) × Now q k t) → HasRun p room most (taken + 1) s (Now p room)
  more_here Now a b rose before after next =
      let is = subst (λ (x : ProgramMeaning). (st : State) → Stands x room st → (t : State) × (step x room st ≡ Some t) × Now x room t) same (subst (λ (y : ℕ). (st : State) → Stands q y st → (t : State) × (step q y st ≡ Some t) × Now q y t) len next) has.state has.stands in
      let up : is.0.superstep ≡ has.state.superstep + 1 = omega (arith, rose, before has.state has.stands, after is.0 is.2) in
      run_more p room most taken s (Stands p room) has low awake is.0 (Now p room) is.1 is.2 up

module _ {R W : Type 0} (left : R → List ℕ → Type 0) (holds : W → List ℕ → Type 0) (of_text : List ℕ → TextMeaning) (p : ProgramMeaning) (room most : ℕ) (summary : Bool) (r r' : R) (w : W) (g s : Shown) where
  -- a disk failed
  pub ends_disk : (w' : W) (e : End) → IsDiskEnd e
      → ((bytes h : List ℕ) → left r bytes → g.tells ≡ true → s.tells ≡ true → holds w h → SomeOf (text_due summary p room most (of_text bytes)) (λ t. holds w' (h ++ t)))
      → RunEnds left holds of_text p room most summary r r' w w' g s e
  ends_disk w' Graph is part = record { owed = λ bytes l a b. tt; line = λ bytes l. tt; done = λ is. cc; part = λ cut. part; unwritten = λ u. absurd u; read = λ u. absurd u; started = λ u. u }
  ends_disk w' Scratch is part = record { owed = λ bytes l a b. tt; line = λ bytes l. tt; done = λ is. cc; part = λ cut. part; unwritten = λ u. absurd u; read = λ u. absurd u; started = λ u. u }
  ends_disk w' Done is part = absurd is
  ends_disk w' (Short need have) is part = absurd is
  ends_disk w' Memory is part = absurd is
  ends_disk w' (Bad line kind) is part = absurd is
  ends_disk w' (Twice v) is part = absurd is
  ends_disk w' (Beyond n) is part = absurd is
  ends_disk w' (Limit n) is part = absurd is
  ends_disk w' Source is part = absurd is
  ends_disk w' Sink is part = absurd is

  -- of a program and a room that have other names
  pub ends_moved : (q : ProgramMeaning) (k : ℕ) (w' : W) (e : End) → q ≡ p → k ≡ room → RunEnds left holds of_text q k most summary r r' w w' g s e → RunEnds left holds of_text p room most summary r r' w w' g s e
  ends_moved q k w' e same len h = subst (λ (x : ProgramMeaning). RunEnds left holds of_text x room most summary r r' w w' g s e) same (subst (λ (n : ℕ). RunEnds left holds of_text q n most summary r r' w w' g s e) len h)

  none : (bytes h : List ℕ) → left r bytes → g.tells ≡ true → s.tells ≡ true → holds w h → SomeOf (text_due summary p room most (of_text bytes)) (λ t. holds w (h ++ t))
  none bytes h l a b has = nothing_of (text_due summary p room most (of_text bytes)) h (holds w) has

  -- before anything was written
  pub ends_early : (e : End) → IsDiskEnd e → RunEnds left holds of_text p room most summary r r' w w g s e
  ends_early e is = ends_disk w e is none

  -- the text was not loaded
  pub ends_load : (x : LoadStop)
      → ((bytes : List ℕ) → left r bytes → IsLineRefusal (of_text bytes) x)
      → ((bytes : List ℕ) → left r bytes → g.tells ≡ true → s.tells ≡ true → IsRefusal (of_text bytes) x)
      → (loading.IsAfterText x → (bytes : List ℕ) → left r bytes → left r' [])
      → RunEnds left holds of_text p room most summary r r' w w g s (end_of_load x)
  ends_load loads.Source line refused read = record { owed = λ bytes l a b. tt; line = λ bytes l. tt; done = λ is. cc; part = λ u. absurd u; unwritten = λ u. refl; read = λ u. absurd u; started = λ u. u }
  ends_load (loads.Bad n kind) line refused read = record {
    owed = λ bytes l a b. ap (due_of_text p room most) (refused bytes l a b);
    line = line;
    done = λ is. cc;
    part = λ u. absurd u;
    unwritten = λ u. refl;
    read = λ u. absurd u;
    started = λ u. u;
  }
  ends_load (loads.Twice v) line refused read = record {
    owed = λ bytes l a b. ap (due_of_text p room most) (refused bytes l a b);
    line = line;
    done = λ is. cc;
    part = λ u. absurd u;
    unwritten = λ u. refl;
    read = λ u. read tt;
    started = λ u. u;
  }
  ends_load loads.Graph line refused read = ends_early Graph tt
  ends_load loads.Scratch line refused read = ends_early Scratch tt

  -- the run did not halt
  pub ends_run : (Stands : State → Type 0) (e : End)
      → ((bytes : List ℕ) → left r bytes → HasGoodLines (of_text bytes))
      → ((bytes : List ℕ) → left r bytes → g.tells ≡ true → s.tells ≡ true → Loaded p (of_text bytes) Stands)
      → ((bytes : List ℕ) → left r bytes → left r' [])
      → IsRunEnd (λ n. (st : State) → Stands st → run p room most st ≡ outcomes.Beyond n) (λ n. (st : State) → Stands st → run p room most st ≡ outcomes.Limit n) e
      → RunEnds left holds of_text p room most summary r r' w w g s e
  ends_run Stands (Beyond n) line loaded read is = record {
    owed = λ bytes l a b. (let m = loaded bytes l a b in ap (due_of_text p room most) m.good ∙ ap (due_of_outcome p) (is (first_state p m.graph) m.stands));
    line = line;
    done = λ is. cc;
    part = λ u. absurd u;
    unwritten = λ u. refl;
    read = λ u. read;
    started = λ u. u;
  }
  ends_run Stands (Limit n) line loaded read is = record {
    owed = λ bytes l a b. (let m = loaded bytes l a b in ap (due_of_text p room most) m.good ∙ ap (due_of_outcome p) (is (first_state p m.graph) m.stands));
    line = line;
    done = λ is. cc;
    part = λ u. absurd u;
    unwritten = λ u. refl;
    read = λ u. read;
    started = λ u. u;
  }
  ends_run Stands Graph line loaded read is = ends_early Graph tt
  ends_run Stands Scratch line loaded read is = ends_early Scratch tt
  ends_run Stands Done line loaded read is = absurd is
  ends_run Stands (Short need have) line loaded read is = absurd is
  ends_run Stands Memory line loaded read is = absurd is
  ends_run Stands (Bad n kind) line loaded read is = absurd is
  ends_run Stands (Twice v) line loaded read is = absurd is
  ends_run Stands Source line loaded read is = absurd is
  ends_run Stands Sink line loaded read is = absurd is

  module _ (Stands : State → Type 0) (w' : W)
      (line : (bytes : List ℕ) → left r bytes → HasGoodLines (of_text bytes))
      (read : (bytes : List ℕ) → left r bytes → left r' [])
      (halts : (bytes : List ℕ) → left r bytes → g.tells ≡ true → s.tells ≡ true → HaltsFor p room most (of_text bytes) Stands) where
    owes : (bytes : List ℕ) → left r bytes → g.tells ≡ true → s.tells ≡ true → (t : List ℕ) × (due_of_text p room most (of_text bytes) ≡ DueText t)
    owes bytes l a b = (let m = halts bytes l a b in (text_of p m.state, owes_text p room most (of_text bytes) m.graph m.state m.good m.halted))

    -- a part of the text was written
    some : (s.tells ≡ true → (st : State) (h : List ℕ) → Stands st → holds w h → SomeOf (dumped summary p st) (λ t. holds w' (h ++ t)))
        → (bytes h : List ℕ) → left r bytes → g.tells ≡ true → s.tells ≡ true → holds w h → SomeOf (text_due summary p room most (of_text bytes)) (λ t. holds w' (h ++ t))
    some part bytes h l a b has =
        (let m = halts bytes l a b in
        subst (λ (x : List ℕ). SomeOf x (λ t. holds w' (h ++ t))) (sym (due_is summary p room most (of_text bytes) m.graph m.state m.good m.halted)) (part b m.state h m.stands has))

    pub ends_dump : (x : DumpStop) → (s.tells ≡ true → (st : State) (h : List ℕ) → Stands st → holds w h → SomeOf (dumped summary p st) (λ t. holds w' (h ++ t)))
        → RunEnds left holds of_text p room most summary r r' w w' g s (end_of_dump x)
    ends_dump dumps.Graph part = ends_disk w' Graph tt (some part)
    ends_dump dumps.Scratch part = ends_disk w' Scratch tt (some part)
    ends_dump dumps.Sink part = record { owed = owes; line = line; done = λ is. cc; part = λ u. some part; unwritten = λ u. absurd u; read = λ u. read; started = λ u. u }

    -- the whole text was
    pub ends_done : (s.tells ≡ true → (st : State) (h : List ℕ) → Stands st → holds w h → holds w' (h ++ dumped summary p st))
        → RunEnds left holds of_text p room most summary r r' w w' g s Done
    ends_done whole = record {
      owed = owes;
      line = line;
      done = λ is bytes h l a b has. (let m = halts bytes l a b in
          subst (λ (x : List ℕ). holds w' (h ++ x)) (sym (due_is summary p room most (of_text bytes) m.graph m.state m.good m.halted)) (whole b m.state h m.stands has));
      part = λ u. absurd u;
      unwritten = λ u. absurd u;
      read = λ u. read;
      started = λ u. u;
    }
