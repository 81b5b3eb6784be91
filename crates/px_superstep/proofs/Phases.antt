-- One more partition's compute phase is over.
use Rattle.std.proofs.Common.{◌≡◌, ◌<◌, ◌≤◌, ◌+◌, ℕ, false, List, [], ◌∷◌, ◌++◌, length, set, filter, sym, ◌∙◌, ap, subst, refl, inl, inr, arith}
use Rattle.std.proofs.lemmas.Bool.{and_parts, and_from, or_parts, cases_eq, cond_both}
use Rattle.std.proofs.lemmas.Grind.{flat_map-append}
use Rattle.std.proofs.lemmas.List.{append-nil}
use Rattle.std.specs.Prelude.{Bool, Some, slice_get, flat_map, ◌==◌, ◌%◌}
use Rattle.px_core.specs.Partition.{partition_of}
use Rattle.px_core.specs.Parts.{to_part}
use Rattle.px_core.specs.Shown.{Shown, Touches}
use Rattle.px_meaning.specs.Graph.{Graph}
use Rattle.px_meaning.specs.Merge.{MergeRule, Pairs, AllValid, grouped}
use Rattle.px_meaning.specs.Program.{ProgramMeaning, ProgramLaws}
use Rattle.px_meaning.specs.Step.{State, has_wide_vertex}
use Rattle.px_meaning.proofs.Grouping.{AllValid-grouped}
use Rattle.px_stream.specs.Stream.{Holds}
use Rattle.px_store.specs.Joins.{vertex_tuples, message_tuples, vid_tuples}
use Rattle.px_global_state.specs.declared.gs.Gs.{Gs}
use Rattle.px_global_state.specs.declared.part.Part.{Part}
use Rattle.px_load.specs.Loading.{HoldGraph}
use Rattle.px_compute_op.specs.Phase.{HasRun, OrInput, AreStored}
use Rattle.px_store.specs.declared.join.Inputs.{Inputs}
use Rattle.px_superstep.specs.Files.{AreInputFiles, IsComputeFile, IsStepFile, msg_file, vid_file, update_file}
use Rattle.px_superstep.specs.Parting.{times}
use Rattle.px_mutations.specs.declared.applying.Tally.{Tally}
use Rattle.px_superstep.specs.Partial.{graph_at, messages_at, computed_at}
use Rattle.px_superstep.specs.Phases.{Each, IsReadyToCompute, PhaseAt}
use Rattle.px_superstep.specs.Steps.{StandsFor}
use Rattle.px_superstep.proofs.Parting.{times-append, times_past}
use Rattle.px_superstep.proofs.Slices.{each_set, below, found, length_set}
use Rattle.px_superstep.proofs.Standing.{holds_kept, messages_map}

-- the files of messages and of vids are not among those of a compute phase
pub not_computed : (q f : ℕ) → 16 ≤ f → f < 128 → IsComputeFile q f → ⊥
not_computed q f low high (inl spare) = (let a = spare.low in absurd (omega (arith, a, low)))
not_computed q f low high (inr (inl asked)) = (let a = asked.low in absurd (omega (arith, a, high)))
not_computed q f low high (inr (inr (inl e))) = absurd (omega (arith, e, high))
not_computed q f low high (inr (inr (inr sender))) = (let a = sender.low in absurd (omega (arith, a, high)))

-- nor are the updates of another partition
not_updated : (q i : ℕ) → i < 16 → (i ≡ q → ⊥) → IsComputeFile q (128 + i) → ⊥
not_updated q i few other (inl spare) = (let a = spare.low in absurd (omega (arith, a)))
not_updated q i few other (inr (inl asked)) = (let a = asked.low in absurd (omega (arith, a, few)))
not_updated q i few other (inr (inr (inl e))) = other (omega (arith, e))
not_updated q i few other (inr (inr (inr sender))) = (let a = sender.low in absurd (omega (arith, a, few)))

-- the stores hold the graph, one of them in another state
pub hold_set : {X : Type 0} (holding holding' : X → Graph → Type 0) (stores : List X) (q : ℕ) (y : X) (g : Graph) → q < length stores
    → holding' y (to_part (length stores) q g)
    → ((i : ℕ) (z : X) (l : Graph) → (i ≡ q → ⊥) → slice_get stores i ≡ Some z → holding z l → holding' z l)
    → HoldGraph holding stores g → HoldGraph holding' (set stores q y) g
hold_set holding holding' stores q y g lt own others hold =
    subst (λ (k : ℕ). Each (set stores q y) (λ i z. holding' z (filter (λ e. partition_of e.0 k == i) g))) (sym (length_set stores q y))
    (each_set (λ i z. holding z (filter (λ e. partition_of e.0 (length stores) == i) g)) (λ i z. holding' z (filter (λ e. partition_of e.0 (length stores) == i) g)) stores q y lt
    own (λ i z other there held. others i z _ other there held) hold)

-- what is over stays so, and one more is
pub phase_after : (p : ProgramMeaning) (room parts : ℕ) (sent sent' : ℕ → Pairs → Type 0) (asking asking' : Pairs → Type 0) (t t' : Shown) (update_pages : List ℕ) (s : State) (done : List ℕ) (q pages : ℕ) (part : Part)
    → q < parts → parts ≤ 16 → length update_pages ≡ 16
    → ((k : ℕ) (l : Pairs) → k < 16 → (k ≡ q → ⊥) → sent k l → sent' k l)
    → Touches (IsComputeFile q) t t'
    → PhaseAt p room parts sent asking t update_pages s done
    → HasRun p room (computed_at p parts s q) (Holds t' (update_file q) pages) (sent' q) asking' (flat_map (λ k. (computed_at p parts s k).requests) done) part
    → PhaseAt p room parts sent' asking' t' (set update_pages q pages) s (done ++ q ∷ [])
phase_after p room parts sent sent' asking asking' t t' update_pages s done q pages part lt most few others touched ph made =
    let past : (i : ℕ) → (i ≡ q → ⊥) → times i (done ++ q ∷ []) ≡ times i done = λ i other. (let a = times-append i done (q ∷ []) in let b = times_past i q [] other in omega (arith, a, b)) in
    record {
      updates = each_set (λ i n. times i done ≡ 1 → Holds t (update_file i) n (vertex_tuples (computed_at p parts s i).changes)) (λ i n. times i (done ++ q ∷ []) ≡ 1 → Holds t' (update_file i) n (vertex_tuples (computed_at p parts s i).changes))
          update_pages q pages (omega (arith, lt, most, few)) (λ once. made.updates)
          (λ i n other at old once. (let i_below = below update_pages i n at in
          holds_kept (IsComputeFile q) t t' (update_file i) n (vertex_tuples (computed_at p parts s i).changes) touched (not_updated q i (omega (arith, i_below, few)) other) (old (sym (past i other) ∙ once)))) ph.updates;
      sends = λ i low once. elim (cases_eq i q) [
        | inl e ↦ subst (λ (k : ℕ). sent' k (grouped p.message (computed_at p parts s k).sends)) (sym e) made.sends
        | inr other ↦ others i (grouped p.message (computed_at p parts s i).sends) (omega (arith, low, most)) other (ph.sends i low (sym (past i other) ∙ once))
      ];
      asked = subst asking' (sym (flat_map-append (λ k. (computed_at p parts s k).requests) done (q ∷ []) ∙ ap (λ l. flat_map (λ k. (computed_at p parts s k).requests) done ++ l) (append-nil (computed_at p parts s q).requests))) made.requests;
      stored = λ i low once. elim (cases_eq i q) [
        | inl e ↦ subst (λ (k : ℕ). AreStored (computed_at p parts s k).changes) (sym e) made.stored
        | inr other ↦ ph.stored i low (sym (past i other) ∙ once)
      ];
      fit = λ i low once. elim (cases_eq i q) [
        | inl e ↦ subst (λ (k : ℕ). has_wide_vertex room (computed_at p parts s k).changes ≡ false) (sym e) (or_parts (has_wide_vertex room (computed_at p parts s q).changes) _ made.fits).0
        | inr other ↦ ph.fit i low (sym (past i other) ∙ once)
      ];
    }

-- what a compute phase changes is of the superstep
pub computed_only : (q : ℕ) → q < 16 → (f : ℕ) → IsComputeFile q f → IsStepFile f
computed_only q few f (inl spare) = (let a = spare.low in record { high = omega (arith, a) })
computed_only q few f (inr (inl asked)) = (let a = asked.high in record { high = omega (arith, a) })
computed_only q few f (inr (inr (inl e))) = record { high = omega (arith, e, few) }
computed_only q few f (inr (inr (inr sender))) = (let a = sender.high in record { high = omega (arith, a, few) })

-- and so are the files that its join reads
pub computed_is_step : (q : ℕ) (ins : Inputs) → q < 16 → AreInputFiles ins → (f : ℕ) → OrInput ins (IsComputeFile q) f → IsStepFile f
computed_is_step q ins few are f (inl own) = computed_only q few f own
computed_is_step q ins few are f (inr (inl e)) = (let a = are.msg.high in record { high = omega (arith, e, a) })
computed_is_step q ins few are f (inr (inr e)) = (let a = are.vid.high in record { high = omega (arith, e, a) })

pub valid_filter : (rule : MergeRule) (test : ℕ × List ℕ → Bool) (l : Pairs) → AllValid rule l → AllValid rule (filter test l)
valid_filter rule test [] h = refl
valid_filter rule test (e ∷ es) h =
    let ends = and_parts (rule.valid e.1) _ h in
    cond_both (test e) (e ∷ filter test es) (filter test es) (AllValid rule) (λ _. and_from _ _ ends.0 (valid_filter rule test es ends.1)) (λ _. valid_filter rule test es ends.1)

-- the messages to a partition are valid
pub messages_valid : (p : ProgramMeaning) → ProgramLaws p → (parts : ℕ) (s : State) (q : ℕ) → AllValid p.message s.sends → AllValid p.message (messages_at p parts s q)
messages_valid p laws parts s q h = valid_filter p.message (λ e. partition_of e.0 parts == q) (grouped p.message s.sends) (AllValid-grouped p.message laws.messages s.sends h)

-- a partition of what a job stands for is ready to be computed
pub ready_to_compute : {X : Type 0} (p : ProgramMeaning) → ProgramLaws p → (room : ℕ) (probing : Bool) (holding : X → Graph → Type 0) (stores : List X) (t : Shown) (msg_pages : List ℕ) (tallies : List Tally) (gs : Gs) (s : State) (asking : Pairs → Type 0) (before : Pairs) (ins : Inputs) (q : ℕ) (x : X)
    → slice_get stores q ≡ Some x → ins.msg_file ≡ msg_file (gs.superstep % 2) q → slice_get msg_pages q ≡ Some ins.msg_pages → ins.vid_file ≡ vid_file (gs.superstep % 2) q → ((tally : Tally) → slice_get tallies q ≡ Some tally → ins.vid_pages ≡ tally.vid_pages) → q < length tallies
    → StandsFor p room probing holding stores t msg_pages tallies gs s → asking before
    → IsReadyToCompute p.message probing (holding x) t ins asking (graph_at (length stores) s q) (messages_at p (length stores) s q) before
ready_to_compute p laws room probing holding stores t msg_pages tallies gs s asking before ins q x at msg_file_is msg_at vid_file_is vid_at low st asked =
    let n = length stores in
    let parity = ap (λ (k : ℕ). k % 2) st.numbers.superstep in
    let tally = found tallies q low in
    record {
      held = st.hold q x at;
      inputs = record {
        messages = subst (λ (f : ℕ). Holds t f ins.msg_pages (message_tuples (messages_at p n s q))) (sym (msg_file_is ∙ ap (λ (k : ℕ). msg_file k q) parity)) (st.messages q ins.msg_pages msg_at);
        ascend = messages_map p n s q;
        awake = λ on. subst (λ (f : ℕ). Holds t f ins.vid_pages (vid_tuples (graph_at n s q))) (sym (vid_file_is ∙ ap (λ (k : ℕ). vid_file k q) parity))
            (subst (λ (j : ℕ). Holds t (vid_file (s.superstep % 2) q) j (vid_tuples (graph_at n s q))) (sym (vid_at tally.0 tally.1)) (st.vids on q tally.0 tally.1));
      };
      valid = messages_valid p laws n s q st.valid;
      asked = asked;
    }
