-- The parts of a superstep lead from a state to the next, or to none.
use Rattle.std.proofs.Common.{◌≡◌, ◌<◌, ◌≤◌, ◌+◌, ◌^◌, ℕ, suc, true, false, List, [], length, sym, ◌∙◌, ap, subst, refl, arith, ◌⊎◌, inl, inr}
use Rattle.std.specs.Prelude.{◌%◌, Bool, None, flat_map}
use Rattle.px_core.specs.Parts.{to_part, all_of}
use Rattle.px_core.specs.Shown.{Shown, Touches}
use Rattle.px_connectors.specs.Asking.{IsRequestFile, requests}
use Rattle.px_meaning.specs.Graph.{Graph, IsMap, room_of}
use Rattle.px_meaning.specs.Merge.{Pairs, AllValid, grouped}
use Rattle.px_meaning.specs.Program.{ProgramMeaning, ProgramLaws}
use Rattle.px_meaning.specs.Step.{State, has_wide_fold, has_wide_vertex, step}
use Rattle.px_meaning.proofs.Grouping.{AllValid-grouped, grouped-grouped}
use Rattle.px_stream.specs.Stream.{Holds}
use Rattle.px_store.specs.Joins.{message_tuples, vertex_tuples}
use Rattle.px_global_state.specs.declared.gs.Gs.{Gs}
use Rattle.px_global_state.specs.declared.part.Part.{Part}
use Rattle.px_mutations.specs.Applying.{IsTally}
use Rattle.px_mutations.specs.declared.applying.Tally.{Tally}
use Rattle.px_superstep.specs.Files.{msg_file, vid_file, update_file, IsDeliveryFile, IsSettlingFile}
use Rattle.px_superstep.specs.Parting.{times}
use Rattle.px_superstep.specs.Partial.{graph_at, computed_at, after_at}
use Rattle.px_superstep.specs.Phases.{Each, PhaseAt, IsTotal, HasComputed}
use Rattle.px_superstep.specs.Steps.{StandsFor, StandsMidway, StandsForNext, SettledBelow, IsSettled, IsSum, IsFoldBeyond, IsSettlingBeyond}
use Rattle.px_superstep.proofs.Composing.{part_valid, pieces_fold}
use Rattle.px_superstep.proofs.Exceeding.{many_sends, many_requests, fold_beyond, settling_beyond, many_vertices}
use Rattle.px_superstep.proofs.Nexting.{next_stands, count_after, settling, requests_high, updates_apart, past_delivery, msgs_apart}
use Rattle.px_superstep.proofs.Slices.{each_more, below}
use Rattle.px_superstep.proofs.Standing.{holds_kept, stands_moved, stands_told}

-- what the senders put, and what is requested
abbrev pub sent_at : ProgramMeaning → ℕ → State → ℕ → Pairs
sent_at p n s q = grouped p.message (computed_at p n s q).sends

abbrev pub asked_in : ProgramMeaning → ℕ → State → List ℕ → Pairs
asked_in p n s done = flat_map (λ q. (computed_at p n s q).requests) done

module _ (p : ProgramMeaning) (laws : ProgramLaws p) (room n : ℕ) (some : 0 < n) (most : n ≤ 16) (s : State) (m : IsMap s.graph) (valid : AllValid p.message s.sends) (fit : has_wide_vertex room s.graph ≡ false) where
  sent_folds : (q : ℕ) → q < n → AllValid p.message (sent_at p n s q) × (grouped p.message (sent_at p n s q) ≡ sent_at p n s q)
  sent_folds q low = (AllValid-grouped p.message laws.messages (computed_at p n s q).sends (part_valid p laws n some s valid q).0, grouped-grouped p.message (computed_at p n s q).sends)

  pub sent_valid : AllValid p.message (all_of n (sent_at p n s))
  sent_valid = (pieces_fold p laws n some s (sent_at p n s) valid sent_folds n (omega arith)).0

  -- what is delivered is beyond the limits
  pub delivery_beyond : IsFoldBeyond p.message room n (all_of n (sent_at p n s)) → step p room s ≡ None
  delivery_beyond h = fold_beyond p laws room n some s m valid (sent_at p n s) sent_folds h.q h.wide

  -- there are too many pairs
  pub pairs_beyond : (total : Part) (done : List ℕ) → ((k : ℕ) → k < n → times k done ≡ 1) → IsTotal p n s total done → 2 ^ 40 < total.sends ⊎ 2 ^ 40 < total.requests → step p room s ≡ None
  pairs_beyond total done once numbers (inl sends) = many_sends p laws room n some s m valid done once (let a = numbers.sends in omega (arith, a, sends))
  pairs_beyond total done once numbers (inr asked) = many_requests p laws room n some s m valid done once (let a = numbers.requests in omega (arith, a, asked))

  -- the settling of some partition is
  pub settled_beyond : (done : List ℕ) → ((k : ℕ) → k < n → times k done ≡ 1) → IsSettlingBeyond p room (λ q. after_at p n s (asked_in p n s done) q) (λ q. to_part n q (asked_in p n s done)) → step p room s ≡ None
  settled_beyond done once h = settling_beyond p laws room n some s m valid done once h.q h.beyond

  -- too many vertices are left
  pub vertices_beyond : (done : List ℕ) (sum : Tally) → ((k : ℕ) → k < n → times k done ≡ 1) → IsSum n (λ q. after_at p n s (asked_in p n s done) q) sum → 2 ^ 32 < sum.count → step p room s ≡ None
  vertices_beyond done sum once summed many = many_vertices p laws room n some s m valid (let a = count_after p laws room n some s m valid done sum once summed in omega (arith, a, many))

  -- all partitions may be settled, once their requests are finished and what was sent is delivered
  pub all_ready : {X : Type 0} (holding : X → Graph → Type 0) (stores : List X) (t2 t3 t4 : Shown) (tallies : List Tally) (update_pages : List ℕ) (sent : ℕ → Pairs → Type 0) (asking : Pairs → Type 0) (request_pages : ℕ → ℕ) (parity : ℕ) (done : List ℕ)
      → length stores ≡ n → length tallies ≡ n → length update_pages ≡ 16 → Each stores (λ q x. holding x (graph_at n s q)) → Each tallies (λ q tally. IsTally tally (graph_at n s q))
      → Touches IsRequestFile t2 t3 → Touches IsDeliveryFile t3 t4
      → ((q : ℕ) → q < n → Holds t3 (160 + q) (request_pages q) (requests (to_part n q (asked_in p n s done))))
      → ((k : ℕ) → k < n → times k done ≡ 1) → PhaseAt p room n sent asking t2 update_pages s done
      → SettledBelow p room parity holding stores t4 tallies update_pages request_pages (graph_at n s) (λ q. (computed_at p n s q).changes) (λ q. to_part n q (asked_in p n s done)) 0
  all_ready holding stores t2 t3 t4 tallies update_pages sent asking request_pages parity done same_n same_tallies pages hold counted finished delivering asked once ph = record {
    held_before = λ q x at low. hold q x at;
    held_after = λ q x at low. absurd (omega (arith, low));
    ready = λ q tally at low. (let lt : q < n = (let b = below tallies q tally at in omega (arith, b, same_tallies)) in
        settling p laws room n some s m valid q tally done (counted q tally at) fit once (ph.stored q lt (once q lt)) (ph.fit q lt (once q lt)));
    settled = λ q tally at low. absurd (omega (arith, low));
    updates = λ q j at low. (let lt : q < n = omega (arith, low, same_n) in
        holds_kept IsDeliveryFile t3 t4 (update_file q) j (vertex_tuples (computed_at p n s q).changes) delivering (past_delivery (update_file q) (omega arith))
        (holds_kept IsRequestFile t2 t3 (update_file q) j (vertex_tuples (computed_at p n s q).changes) finished (updates_apart q (omega (arith, lt, most))) (ph.updates q j at (once q lt))));
    requested = λ q low. holds_kept IsDeliveryFile t3 t4 (160 + q) (request_pages q) (requests (to_part n q (asked_in p n s done))) delivering (past_delivery (160 + q) (omega arith)) (asked q (omega (arith, low, same_n)));
  }

  -- and once all are settled, what they left stands for the next state
  pub composed : {X : Type 0} (probing : Bool) (holding : X → Graph → Type 0) (stores : List X) (t4 t5 : Shown) (msg_pages : List ℕ) (tallies : List Tally) (update_pages : List ℕ) (request_pages : ℕ → ℕ) (sent : ℕ → Pairs → Type 0) (asking : Pairs → Type 0) (t2 : Shown) (updated : List ℕ) (par : ℕ) (done : List ℕ) (total : Part) (sum : Tally) (gs : Gs)
      → par < 2 → par ≡ suc s.superstep % 2 → length stores ≡ n → length tallies ≡ n → length msg_pages ≡ n → ((k : ℕ) → k < n → times k done ≡ 1) → PhaseAt p room n sent asking t2 updated s done → IsTotal p n s total done → total.sends ≤ 2 ^ 40 → total.requests ≤ 2 ^ 40
      → Each msg_pages (λ q j. Holds t4 (msg_file par q) j (message_tuples (grouped p.message (to_part n q (all_of n (sent_at p n s))))))
      → ((q : ℕ) → q < n → has_wide_fold p.message room (to_part n q (all_of n (sent_at p n s))) ≡ false)
      → Touches IsSettlingFile t4 t5
      → SettledBelow p room par holding stores t5 tallies update_pages request_pages (graph_at n s) (λ q. (computed_at p n s q).changes) (λ q. to_part n q (asked_in p n s done)) n
      → IsSum n (λ q. after_at p n s (asked_in p n s done) q) sum → sum.count ≤ 2 ^ 32
      → gs ≡ record { superstep = suc s.superstep; aggregate = total.contributed; live = sum.live; count = sum.count; in_flight = total.sends }
      → StandsForNext p room probing holding stores t5 msg_pages tallies gs s
  composed probing holding stores t4 t5 msg_pages tallies update_pages request_pages sent asking t2 updated par done total sum gs small par_is same_n same_tallies same_msgs once ph numbers few_sends few_requests msgs folds settling_ all summed few gs_is =
      next_stands p laws room n some s m valid probing holding stores t5 msg_pages tallies done (sent_at p n s) total sum gs fit once sent_folds (λ q low. ph.fit q low (once q low)) numbers few_sends few_requests folds same_n
      (λ q x at. all.held_after q x at (let b = below stores q x at in omega (arith, b, same_n)))
      (each_more (λ q j. Holds t4 (msg_file par q) j (message_tuples (grouped p.message (to_part n q (all_of n (sent_at p n s)))))) (λ q j. Holds t5 (msg_file (suc s.superstep % 2) q) j (message_tuples (grouped p.message (to_part n q (all_of n (sent_at p n s)))))) msg_pages
      (λ q j at held. (let b = below msg_pages q j at in
      subst (λ (k : ℕ). Holds t5 (msg_file k q) j (message_tuples (grouped p.message (to_part n q (all_of n (sent_at p n s)))))) par_is
      (holds_kept IsSettlingFile t4 t5 (msg_file par q) j (message_tuples (grouped p.message (to_part n q (all_of n (sent_at p n s))))) settling_ (msgs_apart (msg_file par q) (omega arith) (omega (arith, b, same_msgs, most, small))) held))) msgs)
      (sym same_tallies)
      (λ q tally at. subst (λ (k : ℕ). IsSettled p room t5 (vid_file k q) tally (after_at p n s (asked_in p n s done) q) (to_part n q (asked_in p n s done))) par_is (all.settled q tally at (let b = below tallies q tally at in omega (arith, b, same_tallies))))
      summed few gs_is

-- all phases are over, of what stands for the state before the requests were started
pub computed_whole : {X : Type 0} (p : ProgramMeaning) (room n : ℕ) (probing : Bool) (holding holding' : X → Graph → Type 0) (stores stores' : List X) (t0 t1 t2 : Shown) (msg_pages : List ℕ) (tallies : List Tally) (gs : Gs) (Started : Type 0) (sent : ℕ → Pairs → Type 0) (asking : Pairs → Type 0) (update_pages : List ℕ) (total : Part) (s : State)
    → n ≡ length stores → length msg_pages ≡ n → length tallies ≡ n → 0 < n → n ≤ 16 → Touches IsRequestFile t0 t1 → (t0.tells ≡ true → Started)
    → (StandsFor p (room_of t1.page_len) probing holding stores t1 msg_pages tallies gs s → Started → HasComputed p n s (StandsMidway p (room_of t1.page_len) probing holding' stores' t2 msg_pages tallies gs sent asking update_pages s) total)
    → room ≡ room_of t0.page_len
    → StandsFor p room probing holding stores t0 msg_pages tallies gs s → HasComputed p n s (StandsMidway p room probing holding' stores' t2 msg_pages tallies gs sent asking update_pages s) total
computed_whole p room n probing holding holding' stores stores' t0 t1 t2 msg_pages tallies gs Started sent asking update_pages total s same_n same_msgs same_tallies some most touched starts comp room_is st =
    let same_room : room ≡ room_of t1.page_len = room_is ∙ sym (ap room_of touched.page_len) in
    subst (λ (r : ℕ). HasComputed p n s (StandsMidway p r probing holding' stores' t2 msg_pages tallies gs sent asking update_pages s) total) (sym same_room)
    (comp (subst (λ (r : ℕ). StandsFor p r probing holding stores t1 msg_pages tallies gs s) same_room
    (stands_moved p room probing holding holding stores stores IsRequestFile t0 t1 msg_pages tallies gs s refl st.hold (omega (arith, same_msgs, most)) (omega (arith, same_tallies, most)) requests_high touched st))
    (starts (stands_told p room probing holding stores t0 msg_pages tallies gs s (omega (arith, same_msgs, some)) st)))
