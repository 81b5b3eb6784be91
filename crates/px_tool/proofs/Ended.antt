-- How a job's run ends, from how its dispatch does.
use Rattle.std.proofs.Common.{◌≡◌, ◌≤◌, ◌<◌, ◌^◌, ◌++◌, ◌==◌, ℕ, List, [], take, true, false, not, nat_lt, Option, Some, None, is_some, refl, sym, ◌∙◌, ap, subst, inl, inr}
use Rattle.std.specs.Prelude.{IsTrue}
use Rattle.std.proofs.lemmas.Bool.{cases_lt, cond-true, cond-false, lt-ltb, le-ltb}
use Rattle.px_core.specs.Shown.{Shown}
use Rattle.px_graph_text.specs.Generated.{generated}
use Rattle.px_graph_text.specs.Kinds.{kind_of}
use Rattle.px_graph_text.specs.declared.refusal.Kind.{Kind}
use Rattle.px_graph_text.specs.declared.refusal.Kind.TheVariants.{Form, Number, Wide, Long}
use Rattle.px_load.specs.Dumping.{SomeOf}
use Rattle.px_meaning.specs.Due as owed
use Rattle.px_meaning.specs.Due.{due_of_text}
use Rattle.px_meaning.specs.Graph.{room_of}
use Rattle.px_meaning.specs.GraphText.{graph_of}
use Rattle.px_meaning.specs.Program.{ProgramMeaning}
use Rattle.px_superstep.specs.Ends as ends
use Rattle.px_superstep.specs.Ends.{IsOwed, IsLineOwed, IsAfterText, IsUnread, FaultsAt, text_due}
use Rattle.px_superstep.specs.Plans.{needed}
use Rattle.px_superstep.specs.declared.plan.End.{End}
use Rattle.px_superstep.specs.declared.plan.End.TheVariants.{Done, Short, Memory, Bad, Twice, Beyond, Limit, Graph, Scratch, Source, Sink}
use Rattle.px_superstep.specs.declared.plan.Setup.{Setup}
use Rattle.px_tool.specs.Clauses.{DisksTell, HasEnded, HasFaults, IsAfterInput, IsCut, IsDecided, IsUnasked, IsUnwritten, RestsOnDisks, RestsOnText}
use Rattle.px_tool.specs.Due.{Due, DueShort, DueOf, due_if, due_in_frames, due_of_job, need_of, notes_if, output_if, output_of, program_of, reads_if, setup_of, states_if, states_of, text_for, text_read}
use Rattle.px_tool.specs.Endings.{end_of, ending_of, kind_named, status_of, status_of_end}
use Rattle.px_words.specs.declared.job.Job.{Job}
use Rattle.px_tool.specs.declared.ending.Ending.{Ending}
use Rattle.px_tool.specs.declared.ending.Ending.TheVariants.{Ran}

-- what is known of a dispatch. `left` and `holds` are what source and sink tell, and `was` and `now` the devices before and after
pub record Dispatched {R W G S : Type 0} (left : R → List ℕ → Type 0) (holds : W → List ℕ → Type 0) (g s : Shown) (p : ProgramMeaning) (setup : Setup) (source_was source_now : R) (out_was out_now : W) (graph_was graph_now : G) (scratch_was scratch_now : S) (e : End) : Type 0 where
  pub short : setup.frames < needed setup.plan setup.partitions → e ≡ Short (needed setup.plan setup.partitions) setup.frames
  pub enough : needed setup.plan setup.partitions ≤ setup.frames → (need have : ℕ) → e ≡ Short need have → ⊥
  pub unread : IsUnread e → source_now ≡ source_was
  pub unread_graph : IsUnread e → graph_now ≡ graph_was
  pub unread_scratch : IsUnread e → scratch_now ≡ scratch_was
  pub decided : (bytes : List ℕ) → left source_was bytes → g.tells ≡ true → s.tells ≡ true → IsOwed (due_of_text p (room_of setup.frame_bytes) setup.max (graph_of bytes (room_of setup.frame_bytes) (2 ^ 48))) e
  pub line : (bytes : List ℕ) → left source_was bytes → IsLineOwed (graph_of bytes (room_of setup.frame_bytes) (2 ^ 48)) e
  pub text : e ≡ Done → (bytes h : List ℕ) → left source_was bytes → g.tells ≡ true → s.tells ≡ true → holds out_was h → holds out_now (h ++ text_due setup.summary p (room_of setup.frame_bytes) setup.max (graph_of bytes (room_of setup.frame_bytes) (2 ^ 48)))
  pub part : ends.IsCut e → (bytes h : List ℕ) → left source_was bytes → g.tells ≡ true → s.tells ≡ true → holds out_was h → SomeOf (text_due setup.summary p (room_of setup.frame_bytes) setup.max (graph_of bytes (room_of setup.frame_bytes) (2 ^ 48))) (λ t. holds out_now (h ++ t))
  pub unwritten : ends.IsUnwritten e → out_now ≡ out_was
  pub read : IsAfterText e → (bytes : List ℕ) → left source_was bytes → left source_now []

-- a kind is the one that it is named as
same_kind : (kind : Kind) → kind_named (kind_of kind) ≡ kind
same_kind Form = refl
same_kind Number = refl
same_kind Wide = refl
same_kind Long = refl

-- what a job owes where its frames are too few, and where they are enough
due_short : (job : Job) (l : List ℕ) → job.frames < need_of job → due_of_job job l ≡ DueShort (need_of job) job.frames
due_short job l less = cond-true (nat_lt job.frames (need_of job)) _ _ (lt-ltb job.frames (need_of job) less)

due_enough : (job : Job) (l : List ℕ) → need_of job ≤ job.frames → due_of_job job l ≡ DueOf (due_in_frames job l)
due_enough job l enough = cond-false (nat_lt job.frames (need_of job)) _ _ (le-ltb job.frames (need_of job) enough)

-- a run that did not end for its frames had enough
enough_of : (job : Job) (e : End) → (job.frames < need_of job → e ≡ Short (need_of job) job.frames) → ((need have : ℕ) → e ≡ Short need have → ⊥) → need_of job ≤ job.frames
enough_of job e short other = elim (cases_lt job.frames (need_of job)) [ inl less ↦ absurd (other _ _ (short less)) | inr enough ↦ enough ]

-- one that ended for them had too few
short_of : (job : Job) (l : List ℕ) (e : End) → (job.frames < need_of job → e ≡ Short (need_of job) job.frames) → (need_of job ≤ job.frames → ⊥) → ending_of (due_of_job job l) ≡ Ran e
short_of job l e short few =
    elim (cases_lt job.frames (need_of job)) [
      | inl less ↦ ap ending_of (due_short job l less) ∙ ap Ran (sym (short less))
      | inr enough ↦ absurd (few enough)
    ]

-- in frames enough the ending is the one that the program owes
owed_in_frames : (job : Job) (l : List ℕ) (e : End) → need_of job ≤ job.frames → end_of (due_in_frames job l) ≡ e → ending_of (due_of_job job l) ≡ Ran e
owed_in_frames job l e enough is = ap ending_of (due_enough job l enough) ∙ ap Ran is

-- the end is the one that is owed
owes : {Text Told : Type 0} (job : Job) (l : List ℕ) (e : End) → (job.frames < need_of job → e ≡ Short (need_of job) job.frames) → (need_of job ≤ job.frames → (need have : ℕ) → e ≡ Short need have → ⊥)
    → (Text → IsLineOwed (graph_of l (room_of job.frame_bytes) (2 ^ 48)) e) → (Text → Told → IsOwed (due_in_frames job l) e)
    → IsDecided (status_of_end e) → (RestsOnText (status_of_end e) → Text) → (RestsOnDisks (status_of_end e) → Told) → ending_of (due_of_job job l) ≡ Ran e
owes job l Done short enough line due decided said told =
    let d = due (said refl) (told refl) in
    owed_in_frames job l Done (enough_of job Done short (λ n k is. cc is)) (ap end_of d.1)
owes job l (Short need have) short enough line due decided said told = short_of job l (Short need have) short (λ le. enough le need have refl)
owes job l Memory short enough line due decided said told = absurd (cc decided)
owes job l (Bad n kind) short enough line due decided said told =
    owed_in_frames job l (Bad n kind) (enough_of job (Bad n kind) short (λ n k is. cc is))
    (ap (λ m. end_of (due_of_text (program_of job.chosen) (room_of job.frame_bytes) job.most m)) (line (said refl)) ∙ ap (Bad n) (same_kind kind))
owes job l (Twice v) short enough line due decided said told = owed_in_frames job l (Twice v) (enough_of job (Twice v) short (λ n k is. cc is)) (ap end_of (due (said refl) (told refl)))
owes job l (Beyond n) short enough line due decided said told = owed_in_frames job l (Beyond n) (enough_of job (Beyond n) short (λ n k is. cc is)) (ap end_of (due (said refl) (told refl)))
owes job l (Limit n) short enough line due decided said told = owed_in_frames job l (Limit n) (enough_of job (Limit n) short (λ n k is. cc is)) (ap end_of (due (said refl) (told refl)))
owes job l Graph short enough line due decided said told = absurd (cc decided)
owes job l Scratch short enough line due decided said told = absurd (cc decided)
owes job l Source short enough line due decided said told = absurd (cc decided)
owes job l Sink short enough line due decided said told = absurd (cc decided)

-- no program owes want of frames
never_short : (d : owed.Due) → status_of_end (end_of d) ≡ 11 → ⊥
never_short (owed.DueBad line kind) h = cc h
never_short (owed.DueTwice v) h = cc h
never_short (owed.DueBeyond s) h = cc h
never_short (owed.DueLimit n) h = cc h
never_short (owed.DueText t) h = cc h

short_is : (job : Job) (l : List ℕ) (e : End) → (job.frames < need_of job → e ≡ Short (need_of job) job.frames) → status_of (ending_of (due_of_job job l)) ≡ 11 → status_of_end e ≡ 11
short_is job l e short h =
    elim (cases_lt job.frames (need_of job)) [
      | inl less ↦ ap status_of_end (short less)
      | inr enough ↦ absurd (never_short (due_in_frames job l) (sym (ap (λ d. status_of (ending_of d)) (due_enough job l enough)) ∙ h))
    ]

-- the ends that a status names
done_is : (e : End) → status_of_end e ≡ 0 → e ≡ Done
done_is Done h = refl
done_is (Short need have) h = absurd (cc h)
done_is Memory h = absurd (cc h)
done_is (Bad line kind) h = absurd (cc h)
done_is (Twice v) h = absurd (cc h)
done_is (Beyond s) h = absurd (cc h)
done_is (Limit n) h = absurd (cc h)
done_is Graph h = absurd (cc h)
done_is Scratch h = absurd (cc h)
done_is Source h = absurd (cc h)
done_is Sink h = absurd (cc h)

pub done_of : {e : End} → Ran e ≡ Ran Done → e ≡ Done
done_of {e} h = done_is e (ap status_of h)

sink_is : (e : End) → status_of_end e ≡ 9 → e ≡ Sink
sink_is Done h = absurd (cc h)
sink_is (Short need have) h = absurd (cc h)
sink_is Memory h = absurd (cc h)
sink_is (Bad line kind) h = absurd (cc h)
sink_is (Twice v) h = absurd (cc h)
sink_is (Beyond s) h = absurd (cc h)
sink_is (Limit n) h = absurd (cc h)
sink_is Graph h = absurd (cc h)
sink_is Scratch h = absurd (cc h)
sink_is Source h = absurd (cc h)
sink_is Sink h = refl

cut_is : (e : End) → IsCut (status_of_end e) → ends.IsCut e
cut_is Done h = cc h
cut_is (Short need have) h = cc h
cut_is Memory h = cc h
cut_is (Bad line kind) h = cc h
cut_is (Twice v) h = cc h
cut_is (Beyond s) h = cc h
cut_is (Limit n) h = cc h
cut_is Graph h = tt
cut_is Scratch h = tt
cut_is Source h = cc h
cut_is Sink h = tt

unwritten_is : (e : End) → IsUnwritten (status_of_end e) → ends.IsUnwritten e
unwritten_is Done h = cc h
unwritten_is (Short need have) h = tt
unwritten_is Memory h = tt
unwritten_is (Bad line kind) h = tt
unwritten_is (Twice v) h = tt
unwritten_is (Beyond s) h = tt
unwritten_is (Limit n) h = tt
unwritten_is Graph h = cc h
unwritten_is Scratch h = cc h
unwritten_is Source h = tt
unwritten_is Sink h = cc h

after_is : (e : End) → IsAfterInput (status_of_end e) → IsAfterText e
after_is Done h = tt
after_is (Short need have) h = cc h
after_is Memory h = cc h
after_is (Bad line kind) h = cc h
after_is (Twice v) h = tt
after_is (Beyond s) h = tt
after_is (Limit n) h = tt
after_is Graph h = cc h
after_is Scratch h = cc h
after_is Source h = cc h
after_is Sink h = tt

unasked_is : (e : End) → IsUnasked (status_of_end e) → IsUnread e
unasked_is Done h = cc h
unasked_is (Short need have) h = tt
unasked_is Memory h = tt
unasked_is (Bad line kind) h = cc h
unasked_is (Twice v) h = cc h
unasked_is (Beyond s) h = cc h
unasked_is (Limit n) h = cc h
unasked_is Graph h = cc h
unasked_is Scratch h = cc h
unasked_is Source h = cc h
unasked_is Sink h = cc h

-- an end at which a text is owed
owed_text : (job : Job) (l : List ℕ) → need_of job ≤ job.frames → (t : List ℕ) × (due_in_frames job l ≡ owed.DueText t) → ending_of (due_of_job job l) ≡ Ran Done
owed_text job l enough d = owed_in_frames job l Done enough (ap end_of d.1)

part_of : {W : Type 0} (holds : W → List ℕ → Type 0) (out : W) (h due : List ℕ) → SomeOf due (λ t. holds out (h ++ t)) → (n : ℕ) × holds out (h ++ take n due)
part_of holds out h due some = (some.most, some.holds)

-- the job's run ended on the text of its source
ended_as : {R W G S : Type 0} (left : R → List ℕ → Type 0) (holds : W → List ℕ → Type 0) (g s : Shown) (job : Job) (source_was source_now : R) (out_was out_now : W) (graph_was graph_now : G) (scratch_was scratch_now : S) (e : End)
    → Dispatched left holds g s (program_of job.chosen) (setup_of job) source_was source_now out_was out_now graph_was graph_now scratch_was scratch_now e
    → HasEnded (left source_was) (left source_now []) (source_now ≡ source_was) holds g s (due_of_job job) (output_of job) out_was out_now graph_was graph_now scratch_was scratch_now (Ran e)
ended_as left holds g s job source_was source_now out_was out_now graph_was graph_now scratch_was scratch_now e d =
    record {
      owed = λ decided l said told. owes job l e d.short d.enough (λ x. d.line l x) (λ x (y : DisksTell g s). d.decided l x y.graph_tells y.scratch_tells) decided said told;
      short = λ l h. inl (short_is job l e d.short h);
      sink = λ is l x y.
          (let at : e ≡ Sink = sink_is e is in
          let enough = enough_of job e d.short (λ n k h. cc (sym at ∙ h)) in
          owed_text job l enough (subst (IsOwed (due_in_frames job l)) at (d.decided l x y.graph_tells y.scratch_tells)));
      text = λ is l h x y held. d.text (done_is e is) l h x y.graph_tells y.scratch_tells held;
      part = λ is l h x y held. part_of holds out_now h (output_of job l) (d.part (cut_is e is) l h x y.graph_tells y.scratch_tells held);
      unwritten = λ is. d.unwritten (unwritten_is e is);
      read = λ is l x. d.read (after_is e is) l x;
      source = λ is. d.unread (unasked_is e is);
      graph = λ is. d.unread_graph (unasked_is e is);
      scratch = λ is. d.unread_scratch (unasked_is e is);
    }

pub ended : {R W G S : Type 0} (left : R → List ℕ → Type 0) (holds : W → List ℕ → Type 0) (g s : Shown) (job : Job) (source_was source_now : R) (out_was out_now : W) (graph_was graph_now : G) (scratch_was scratch_now : S) (e : End) (p : ProgramMeaning) (setup : Setup)
    → p ≡ program_of job.chosen → setup ≡ setup_of job
    → Dispatched left holds g s p setup source_was source_now out_was out_now graph_was graph_now scratch_was scratch_now e
    → HasEnded (left source_was) (left source_now []) (source_now ≡ source_was) holds g s (due_of_job job) (output_of job) out_was out_now graph_was graph_now scratch_was scratch_now (Ran e)
ended left holds g s job source_was source_now out_was out_now graph_was graph_now scratch_was scratch_now e p setup means is d =
    ended_as left holds g s job source_was source_now out_was out_now graph_was graph_now scratch_was scratch_now e
    (subst (λ (x : Setup). Dispatched left holds g s (program_of job.chosen) x source_was source_now out_was out_now graph_was graph_now scratch_was scratch_now e) is
    (subst (λ (q : ProgramMeaning). Dispatched left holds g s q setup source_was source_now out_was out_now graph_was graph_now scratch_was scratch_now e) means d))

-- the faults that were counted are those of the status
pub faults_are : (r r' w w' g g' s s' : ℕ) (e : End) → FaultsAt r r' w w' g g' s s' e → HasFaults (status_of (Ran e)) r r' w w' g g' s s'
faults_are r r' w w' g g' s s' Done f = record { source = f.source; sink = f.sink; graph = f.graph; scratch = f.scratch }
faults_are r r' w w' g g' s s' (Short need have) f = record { source = f.source; sink = f.sink; graph = f.graph; scratch = f.scratch }
faults_are r r' w w' g g' s s' Memory f = record { source = f.source; sink = f.sink; graph = f.graph; scratch = f.scratch }
faults_are r r' w w' g g' s s' (Bad line kind) f = record { source = f.source; sink = f.sink; graph = f.graph; scratch = f.scratch }
faults_are r r' w w' g g' s s' (Twice v) f = record { source = f.source; sink = f.sink; graph = f.graph; scratch = f.scratch }
faults_are r r' w w' g g' s s' (Beyond n) f = record { source = f.source; sink = f.sink; graph = f.graph; scratch = f.scratch }
faults_are r r' w w' g g' s s' (Limit n) f = record { source = f.source; sink = f.sink; graph = f.graph; scratch = f.scratch }
faults_are r r' w w' g g' s s' Graph f = record { source = f.source; sink = f.sink; graph = f.graph; scratch = f.scratch }
faults_are r r' w w' g g' s s' Scratch f = record { source = f.source; sink = f.sink; graph = f.graph; scratch = f.scratch }
faults_are r r' w w' g g' s s' Source f = record { source = f.source; sink = f.sink; graph = f.graph; scratch = f.scratch }
faults_are r r' w w' g g' s s' Sink f = record { source = f.source; sink = f.sink; graph = f.graph; scratch = f.scratch }

-- a run that ended on the text that is made of an input ended so for the input
module _ {W G S : Type 0} (Left Left' : List ℕ → Type 0) (Read Read' Untouched Untouched' : Type 0) (holds : W → List ℕ → Type 0) (g s : Shown) (due due' : List ℕ → Due) (output output' : List ℕ → List ℕ) (text : List ℕ → List ℕ) (out_was out_now : W) (graph_was graph_now : G) (scratch_was scratch_now : S) (e : Ending) where
  pub ended_by : ((l : List ℕ) → due' l ≡ due (text l)) → ((l : List ℕ) → output' l ≡ output (text l)) → ((l : List ℕ) → Left' l → Left (text l)) → (Read → Read') → (Untouched → Untouched')
      → HasEnded Left Read Untouched holds g s due output out_was out_now graph_was graph_now scratch_was scratch_now e
      → HasEnded Left' Read' Untouched' holds g s due' output' out_was out_now graph_was graph_now scratch_was scratch_now e
  ended_by dues outputs told read untouched h =
      record {
        owed = λ decided l said disks. ap ending_of (dues l) ∙ h.owed decided (text l) (λ x. told l (said x)) disks;
        short = λ l is. h.short (text l) (sym (ap (λ d. status_of (ending_of d)) (dues l)) ∙ is);
        sink = λ is l x y. ap ending_of (dues l) ∙ h.sink is (text l) (told l x) y;
        text = λ is l b x y held. subst (λ t. holds out_now (b ++ t)) (sym (outputs l)) (h.text is (text l) b (told l x) y held);
        part = λ is l b x y held. subst (λ t. (n : ℕ) × holds out_now (b ++ take n t)) (sym (outputs l)) (h.part is (text l) b (told l x) y held);
        unwritten = h.unwritten;
        read = λ is l x. read (h.read is (text l) (told l x));
        source = λ is. untouched (h.source is);
        graph = h.graph;
        scratch = h.scratch;
      }

-- what the words owe that name a job
due_named : (o : Option Job) (job : Job) → o ≡ Some job → (l : List ℕ) → due_if o l ≡ due_of_job job (text_for job l)
due_named o job is l = ap (λ x. due_if x l) is

output_named : (o : Option Job) (job : Job) → o ≡ Some job → (l : List ℕ) → output_if o l ≡ output_of job (text_for job l)
output_named o job is l = ap (λ x. output_if x l) is

reads_named : (o : Option Job) (job : Job) → o ≡ Some job → reads_if o ≡ not (is_some job.generate)
reads_named o job is = ap reads_if is

-- the run ended whose words name a job whose text is generated, so that its source is not asked
module _ {W G S : Type 0} (Made : List ℕ → Type 0) (Read Untouched : Type 0) (Left : List ℕ → Type 0) (Empty Unasked : Type 0) (holds : W → List ℕ → Type 0) (g s : Shown) (o : Option Job) (job : Job) (n : ℕ) (out_was out_now : W) (graph_was graph_now : G) (scratch_was scratch_now : S) (e : Ending) where
  pub ended_generated : o ≡ Some job → job.generate ≡ Some n → Made (generated job.seed n) → Unasked
      → HasEnded Made Read Untouched holds g s (due_of_job job) (output_of job) out_was out_now graph_was graph_now scratch_was scratch_now e
      → HasEnded (λ l. IsTrue (reads_if o) → Left l) (IsTrue (reads_if o) → Empty) Unasked holds g s (due_if o) (output_if o) out_was out_now graph_was graph_now scratch_was scratch_now e
  ended_generated is some made unasked h =
      let here : (l : List ℕ) → text_for job l ≡ generated job.seed n = λ l. ap (λ (x : Option ℕ). text_read x job.seed l) some in
      let no : reads_if o ≡ false = reads_named o job is ∙ ap (λ (x : Option ℕ). not (is_some x)) some in
      ended_by Made (λ l. IsTrue (reads_if o) → Left l) Read (IsTrue (reads_if o) → Empty) Untouched Unasked holds g s (due_of_job job) (due_if o) (output_of job) (output_if o) (λ l. generated job.seed n) out_was out_now graph_was graph_now scratch_was scratch_now e
      (λ l. due_named o job is l ∙ ap (due_of_job job) (here l)) (λ l. output_named o job is l ∙ ap (output_of job) (here l)) (λ l x. made) (λ x r. absurd (cc (sym no ∙ r))) (λ x. unasked) h

-- the states of words that name a job
pub states_named : (o : Option Job) (job : Job) → o ≡ Some job → (l : List ℕ) → states_if o l ≡ states_of job (text_for job l)
states_named o job is l = ap (λ x. states_if x l) is

-- they ask for statistics where the job does
pub notes_named : (o : Option Job) (job : Job) → o ≡ Some job → notes_if o ≡ job.stats
notes_named o job is = ap notes_if is

pub reads_when : (o : Option Job) (job : Job) → o ≡ Some job → job.generate ≡ None → IsTrue (reads_if o)
reads_when o job is none = reads_named o job is ∙ ap (λ (x : Option ℕ). not (is_some x)) none
