-- What all partitions left stands for the next state.
use Rattle.std.proofs.Common.{◌≡◌, ◌<◌, ◌≤◌, ◌+◌, ◌^◌, ℕ, suc, List, [], ◌∷◌, ◌++◌, length, filter, fold, Bool, true, false, not, sym, ◌∙◌, ap, subst, inl, inr, arith}
use Rattle.std.specs.Prelude.{◌==◌, ◌%◌, flat_map, is_some, nat_lt}
use Rattle.std.specs.List.{list_any}
use Rattle.std.proofs.lemmas.Bool.{or_from, or_parts, or_left, le-ltb, cond-false, cases_Bool, false≢true}
use Rattle.std.proofs.lemmas.List.Sorted.{length_permutation, IsPermutation-sym}
use Rattle.px_core.specs.Parts.{to_part, all_of, upto}
use Rattle.px_core.specs.Shown.{Shown}
use Rattle.px_meaning.specs.Graph.{Graph, IsMap, lookup, pair_size}
use Rattle.px_meaning.specs.Merge.{Pairs, AllValid, grouped}
use Rattle.px_meaning.specs.Program.{ProgramMeaning, ProgramLaws}
use Rattle.px_meaning.specs.Step.{State, has_wide_vertex, has_wide_fold, has_many_vertices, are_beyond}
use Rattle.px_meaning.proofs.Rearranged.{grouped-IsPermutation, AllValid-IsPermutation}
use Rattle.px_meaning.proofs.Rows.{rows_ascend, IsMap-changes}
use Rattle.px_meaning.specs.Step.{moment, rows, is_awake}
use Rattle.px_meaning.proofs.Settling.{IsMap-put_all, IsMap-settled}
use Rattle.px_meaning.specs.Phase.{computed_from}
use Rattle.px_meaning.proofs.Steps.{graph_before, graph_after, next_state, steps_beyond}
use Rattle.px_stream.specs.Stream.{Holds}
use Rattle.px_store.specs.Joins.{message_tuples, vid_tuples}
use Rattle.px_global_state.specs.declared.gs.Gs.{Gs}
use Rattle.px_global_state.specs.declared.part.Part.{Part}
use Rattle.px_mutations.specs.Applying.{is_settling_beyond, IsTally, IsReadyToSettle}
use Rattle.px_mutations.specs.declared.applying.Tally.{Tally}
use Rattle.px_connectors.specs.Asking.{IsRequestFile}
use Rattle.px_compute_op.specs.Phase.{AreStored}
use Rattle.px_connectors.specs.Views.{IsSenderFile}
use Rattle.px_core.specs.Partition.{partition_of}
use Rattle.px_meaning.proofs.MapParts.{IsMap-filter, lookup-filter_on, lookup-filter_off}
use Rattle.px_meaning.proofs.Limits.{fits_at_lookup, fits_from_lookups}
use Rattle.px_meaning.proofs.Rows.{lookup-changes}
use Rattle.px_superstep.proofs.Phases.{valid_filter}
use Rattle.px_superstep.specs.Files.{msg_file, vid_file, IsDeliveryFile, IsSettlingFile}
use Rattle.px_superstep.specs.Phases.{Each, IsTotal}
use Rattle.px_superstep.specs.Parting.{times}
use Rattle.px_superstep.specs.Partial.{graph_at, messages_at, computed_at, after_at}
use Rattle.px_superstep.specs.Steps.{StandsForNext, IsSettled, IsSum}
use Rattle.px_superstep.proofs.Composing.{upto_once, all_valid, sends_all, requests_all, contributions_all, changes_at, pieces_fold, delivered, settled_part}
use Rattle.px_superstep.proofs.Limits.{vertices_fit, folds_fit, put_fits}
use Rattle.px_superstep.proofs.Parting.{flat_agree}
use Rattle.px_superstep.proofs.Slices.{each_more, found}
use Rattle.px_superstep.proofs.Sums.{length_of_parts, tested_in_parts, joined_in_any_order}

module _ (p : ProgramMeaning) (laws : ProgramLaws p) (room n : ℕ) (some : 0 < n) (s : State) (m : IsMap s.graph) (valid : AllValid p.message s.sends) where
  changes_map : IsMap (computed_from p s).changes
  changes_map = IsMap-changes p (moment s) (rows p s) (rows_ascend p s)

  after_map : IsMap (graph_after p s)
  after_map = IsMap-settled p (graph_before p s) (computed_from p s).requests (IsMap-put_all s.graph (computed_from p s).changes m)

  asked_of : List ℕ → Pairs
  asked_of done = flat_map (λ q. (computed_at p n s q).requests) done

  pub asked_valid : (done : List ℕ) → ((k : ℕ) → k < n → times k done ≡ 1) → AllValid p.verdict (flat_map (λ q. (computed_at p n s q).requests) done)
  asked_valid done once = AllValid-IsPermutation p.verdict laws.verdicts (computed_from p s).requests (flat_map (λ q. (computed_at p n s q).requests) done) (IsPermutation-sym _ _ (requests_all p laws n some s done once)) (all_valid p laws n some s valid).1

  pub after_is : (done : List ℕ) → ((k : ℕ) → k < n → times k done ≡ 1) → (q : ℕ) → after_at p n s (flat_map (λ k. (computed_at p n s k).requests) done) q ≡ to_part n q (graph_after p s)
  after_is done once q = settled_part p laws n some s q (flat_map (λ k. (computed_at p n s k).requests) done) m (asked_valid done once) (requests_all p laws n some s done once)

  pub before_fits : has_wide_vertex room s.graph ≡ false → ((q : ℕ) → q < n → has_wide_vertex room (computed_at p n s q).changes ≡ false) → has_wide_vertex room (graph_before p s) ≡ false
  before_fits fit changed =
      put_fits room s.graph (computed_from p s).changes m changes_map fit
      (vertices_fit n some room (computed_from p s).changes changes_map (λ q lt. ap (has_wide_vertex room) (sym (changes_at p laws n some s q)) ∙ changed q lt))

  pub count_after : (done : List ℕ) (sum : Tally) → ((k : ℕ) → k < n → times k done ≡ 1) → IsSum n (after_at p n s (flat_map (λ k. (computed_at p n s k).requests) done)) sum → sum.count ≡ length (graph_after p s)
  count_after done sum once summed =
      summed.count ∙ ap length (flat_agree (after_at p n s (flat_map (λ k. (computed_at p n s k).requests) done)) (λ q. to_part n q (graph_after p s)) (upto n) (after_is done once)) ∙ length_of_parts n some (graph_after p s)

  pub next_stands : {X : Type 0} (probing : Bool) (holding : X → Graph → Type 0) (stores : List X) (t : Shown) (msg_pages : List ℕ) (tallies : List Tally) (done : List ℕ) (pieces : ℕ → Pairs) (total : Part) (sum : Tally) (gs : Gs)
      → has_wide_vertex room s.graph ≡ false
      → ((k : ℕ) → k < n → times k done ≡ 1)
      → ((q : ℕ) → q < n → AllValid p.message (pieces q) × (grouped p.message (pieces q) ≡ grouped p.message (computed_at p n s q).sends))
      → ((q : ℕ) → q < n → has_wide_vertex room (computed_at p n s q).changes ≡ false)
      → IsTotal p n s total done → total.sends ≤ 2 ^ 40 → total.requests ≤ 2 ^ 40
      → ((q : ℕ) → q < n → has_wide_fold p.message room (to_part n q (all_of n pieces)) ≡ false)
      → length stores ≡ n → Each stores (λ q x. holding x (after_at p n s (flat_map (λ k. (computed_at p n s k).requests) done) q))
      → Each msg_pages (λ q k. Holds t (msg_file (suc s.superstep % 2) q) k (message_tuples (grouped p.message (to_part n q (all_of n pieces)))))
      → n ≡ length tallies
      → Each tallies (λ q tally. IsSettled p room t (vid_file (suc s.superstep % 2) q) tally (after_at p n s (flat_map (λ k. (computed_at p n s k).requests) done) q) (to_part n q (flat_map (λ k. (computed_at p n s k).requests) done)))
      → IsSum n (after_at p n s (flat_map (λ k. (computed_at p n s k).requests) done)) sum → sum.count ≤ 2 ^ 32
      → gs ≡ record { superstep = suc s.superstep; aggregate = total.contributed; live = sum.live; count = sum.count; in_flight = total.sends }
      → StandsForNext p room probing holding stores t msg_pages tallies gs s
  next_stands probing holding stores t msg_pages tallies done pieces total sum gs fit once sent changed numbers few_sends few_requests folds len hold msgs same_n settled summed few gs_is =
      let asked = flat_map (λ k. (computed_at p n s k).requests) done in
      let is = after_is done once in
      let perm = requests_all p laws n some s done once in
      let sends = (computed_from p s).sends in
      let requests = (computed_from p s).requests in
      let within : (q : ℕ) → q < n → is_settling_beyond p room (after_at p n s asked q) (to_part n q asked) ≡ false = λ q lt. (let tally = found tallies q (omega arith) in (settled q tally.0 tally.1).within) in
      let fit_before = before_fits fit changed in
      let fit_after : has_wide_vertex room (graph_after p s) ≡ false =
      vertices_fit n some room (graph_after p s) after_map (λ q lt. ap (has_wide_vertex room) (sym (is q)) ∙ (or_parts _ _ (or_parts _ _ (within q lt)).0).0) in
      let fold = pieces_fold p laws n some s pieces valid sent n (omega arith) in
      let folds_are : grouped p.message (all_of n pieces) ≡ grouped p.message sends =
      fold.1.1 ∙ grouped-IsPermutation p.message laws.messages (all_of n (λ q. (computed_at p n s q).sends)) sends (sends_all p laws n some s (upto n) (λ k lt. upto_once n k lt)) fold.1.0 in
      let wide_of : Pairs → Bool = λ l. list_any (λ (e : ℕ × List ℕ). nat_lt room (pair_size e.1)) l in
      let fit_sends : are_beyond p.message room sends ≡ false =
      or_from _ _ (ap wide_of (sym folds_are) ∙ folds_fit n some p.message room (all_of n pieces) folds)
      (le-ltb (2 ^ 40) (length sends) (let a = length_permutation _ _ (sends_all p laws n some s done once) in let b = numbers.sends in omega (arith, a, b, few_sends))) in
      let fit_requests : are_beyond p.verdict room requests ≡ false =
      or_from _ _ (ap wide_of (sym (grouped-IsPermutation p.verdict laws.verdicts asked requests perm (asked_valid done once))) ∙ folds_fit n some p.verdict room asked (λ q lt. (or_parts _ _ (or_parts _ _ (within q lt)).0).1))
      (le-ltb (2 ^ 40) (length requests) (let a = length_permutation _ _ perm in let b = numbers.requests in omega (arith, a, b, few_requests))) in
      let count_is = count_after done sum once summed in
      let live_is : sum.live ≡ length (filter (λ e. not e.1.halt) (graph_after p s)) =
      summed.live ∙ ap length (flat_agree (λ q. filter (λ e. not e.1.halt) (after_at p n s asked q)) (λ q. filter (λ e. not e.1.halt) (to_part n q (graph_after p s))) (upto n) (λ q. ap (filter (λ e. not e.1.halt)) (is q)))
      ∙ tested_in_parts n some (λ e. not e.1.halt) (graph_after p s) in
      let few_vertices : has_many_vertices (graph_after p s) ≡ false = le-ltb (2 ^ 32) (length (graph_after p s)) (omega (arith, count_is, few)) in
      record {
        next = next_state p s;
        is = cond-false (steps_beyond p room s) _ _ (or_from _ _ (or_from _ _ (or_from _ _ (or_from _ _ fit_before fit_after) fit_sends) fit_requests) few_vertices);
        stands = record {
          is_map = after_map;
          valid = (all_valid p laws n some s valid).0;
          fit = fit_after;
          numbers = record {
            superstep = ap (λ (k : Gs). k.superstep) gs_is;
            aggregate = ap (λ (k : Gs). k.aggregate) gs_is ∙ numbers.contributed ∙ sym (joined_in_any_order p laws p.unit _ _ (contributions_all p laws n some s done once));
            live = ap (λ (k : Gs). k.live) gs_is ∙ live_is;
            count = ap (λ (k : Gs). k.count) gs_is ∙ count_is;
            in_flight = ap (λ (k : Gs). k.in_flight) gs_is ∙ numbers.sends ∙ sym (length_permutation _ _ (sends_all p laws n some s done once));
          };
          hold = subst (λ (k : ℕ). Each stores (λ q x. holding x (to_part k q (graph_after p s)))) (sym len)
              (each_more (λ q x. holding x (after_at p n s asked q)) (λ q x. holding x (to_part n q (graph_after p s))) stores (λ q x at held. subst (holding x) (is q) held) hold);
          messages = subst (λ (j : ℕ). Each msg_pages (λ q k. Holds t (msg_file (suc s.superstep % 2) q) k (message_tuples (messages_at p j (next_state p s) q)))) (sym len)
              (each_more (λ q k. Holds t (msg_file (suc s.superstep % 2) q) k (message_tuples (grouped p.message (to_part n q (all_of n pieces))))) (λ q k. Holds t (msg_file (suc s.superstep % 2) q) k (message_tuples (messages_at p n (next_state p s) q))) msg_pages
              (λ q k at held. subst (λ (l : Pairs). Holds t (msg_file (suc s.superstep % 2) q) k (message_tuples l)) (delivered p laws n some s pieces valid sent q) held) msgs);
          counted = subst (λ (j : ℕ). Each tallies (λ q tally. IsTally tally (to_part j q (graph_after p s)))) (sym len)
              (each_more (λ q tally. IsSettled p room t (vid_file (suc s.superstep % 2) q) tally (after_at p n s asked q) (to_part n q asked)) (λ q tally. IsTally tally (to_part n q (graph_after p s))) tallies (λ q tally at done_. subst (IsTally tally) (is q) done_.counted) settled);
          vids = λ on. subst (λ (j : ℕ). Each tallies (λ q tally. Holds t (vid_file (suc s.superstep % 2) q) tally.vid_pages (vid_tuples (to_part j q (graph_after p s))))) (sym len)
              (each_more (λ q tally. IsSettled p room t (vid_file (suc s.superstep % 2) q) tally (after_at p n s asked q) (to_part n q asked)) (λ q tally. Holds t (vid_file (suc s.superstep % 2) q) tally.vid_pages (vid_tuples (to_part n q (graph_after p s)))) tallies
              (λ q tally at done_. subst (λ (l : Graph). Holds t (vid_file (suc s.superstep % 2) q) tally.vid_pages (vid_tuples l)) (is q) done_.vids) settled);
        };
      }

  -- a partition that computed is ready to be settled
  pub part_fits : has_wide_vertex room s.graph ≡ false → (q : ℕ) → has_wide_vertex room (graph_at n s q) ≡ false
  part_fits fit q = fits_from_lookups room (graph_at n s q) (IsMap-filter (λ v. partition_of v n == q) s.graph m) (λ v x is. elim (cases_Bool (partition_of v n == q)) [
    | inl on ↦ fits_at_lookup room v x s.graph fit (sym (lookup-filter_on (λ w. partition_of w n == q) v s.graph on) ∙ is)
    | inr off ↦ absurd (cc (sym (lookup-filter_off (λ w. partition_of w n == q) v s.graph off) ∙ is))
  ])

  pub changes_of_map : (q : ℕ) → IsMap (computed_at p n s q).changes
  changes_of_map q = subst IsMap (sym (changes_at p laws n some s q)) (IsMap-filter (λ v. partition_of v n == q) (computed_from p s).changes changes_map)

  awake_found : (v : ℕ) → is_awake (lookup v s.graph) ≡ true → is_some (lookup v (computed_from p s).changes) ≡ true
  awake_found v awake = ap is_some (lookup-changes p s v (or_left _ _ awake))

  pub awake_changes : (q v : ℕ) → is_awake (lookup v (graph_at n s q)) ≡ true → is_some (lookup v (computed_at p n s q).changes) ≡ true
  awake_changes q v awake = elim (cases_Bool (partition_of v n == q)) [
    | inl on ↦ ap (λ l. is_some (lookup v l)) (changes_at p laws n some s q) ∙ ap is_some (lookup-filter_on (λ w. partition_of w n == q) v (computed_from p s).changes on)
        ∙ awake_found v (sym (ap is_awake (lookup-filter_on (λ w. partition_of w n == q) v s.graph on)) ∙ awake)
    | inr off ↦ absurd (false≢true (sym (ap is_awake (lookup-filter_off (λ w. partition_of w n == q) v s.graph off)) ∙ awake))
  ]

  pub settling : (q : ℕ) (tally : Tally) (done : List ℕ) → IsTally tally (graph_at n s q) → has_wide_vertex room s.graph ≡ false → ((k : ℕ) → k < n → times k done ≡ 1) → AreStored (computed_at p n s q).changes → has_wide_vertex room (computed_at p n s q).changes ≡ false
      → IsReadyToSettle p room tally (graph_at n s q) (computed_at p n s q).changes (to_part n q (flat_map (λ k. (computed_at p n s k).requests) done))
  settling q tally done counted fit once stored changed = record {
    counted = counted;
    is_map = changes_of_map q;
    stored = stored;
    fit = put_fits room (graph_at n s q) (computed_at p n s q).changes (IsMap-filter (λ v. partition_of v n == q) s.graph m) (changes_of_map q) (part_fits fit q) changed;
    valid = valid_filter p.verdict (λ e. partition_of e.0 n == q) (flat_map (λ k. (computed_at p n s k).requests) done) (asked_valid done once);
    awake = λ v. awake_changes q v;
  }

pub requests_high : (f : ℕ) → 16 ≤ f → f < 128 → IsRequestFile f → ⊥
requests_high f low high r = (let a = r.low in absurd (omega (arith, a, high)))

pub sender_apart : (k f : ℕ) → IsSenderFile k f → IsRequestFile f → ⊥
sender_apart k f sender r = (let a = sender.low in let b = r.high in absurd (omega (arith, a, b)))

pub updates_apart : (q : ℕ) → q < 16 → IsRequestFile (128 + q) → ⊥
updates_apart q few r = (let a = r.low in absurd (omega (arith, a, few)))

pub past_delivery : (f : ℕ) → 64 ≤ f → IsDeliveryFile f → ⊥
past_delivery f low d = (let a = d.low in absurd (omega (arith, a, low)))

pub msgs_apart : (f : ℕ) → 16 ≤ f → f < 64 → IsSettlingFile f → ⊥
msgs_apart f low high (inl spare) = (let a = spare.low in absurd (omega (arith, a, low)))
msgs_apart f low high (inr vid) = (let a = vid.low in absurd (omega (arith, a, high)))
