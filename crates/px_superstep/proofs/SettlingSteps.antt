-- One more partition is settled.
use Rattle.std.proofs.Common.{◌≡◌, ◌<◌, ◌≤◌, ◌+◌, ℕ, suc, List, [], ◌∷◌, ◌++◌, length, length-append, filter, set, not, sym, ◌∙◌, ap, subst, arith}
use Rattle.std.proofs.lemmas.Grind.{flat_map-append}
use Rattle.std.proofs.lemmas.List.{append-nil, length-map}
use Rattle.std.specs.Prelude.{slice_get, Some}
use Rattle.px_core.specs.Parts.{all_of, upto}
use Rattle.px_core.specs.Shown.{Shown, Touches}
use Rattle.px_meaning.specs.Graph.{Graph}
use Rattle.px_meaning.specs.Merge.{Pairs}
use Rattle.px_meaning.specs.Program.{ProgramMeaning}
use Rattle.px_connectors.specs.Asking.{requests}
use Rattle.px_store.specs.Joins.{vertex_tuples, vid_tuples}
use Rattle.px_global_state.specs.States.{awake_in}
use Rattle.px_mutations.specs.Applying.{settled_after, live_vids, IsTally, IsReadyToSettle}
use Rattle.px_mutations.specs.declared.applying.Tally.{Tally}
use Rattle.px_superstep.specs.Files.{vid_file, update_file, IsResultFile}
use Rattle.px_superstep.specs.Steps.{CanSettle, SettledBelow, IsSettled, IsSum}
use Rattle.px_superstep.proofs.Delivering.{other_vid, past_vids}
use Rattle.px_superstep.proofs.Slices.{each_set, below, length_set}
use Rattle.px_superstep.proofs.Standing.{holds_kept}

-- the partition at hand may be settled
pub can_settle : {X : Type 0} (p : ProgramMeaning) (room parity : ℕ) (holding : X → Graph → Type 0) (stores : List X) (t : Shown) (tallies : List Tally) (update_pages : List ℕ) (request_pages : ℕ → ℕ) (before changes : ℕ → Graph) (asked : ℕ → Pairs) (q : ℕ) (x : X) (tally : Tally) (pages : ℕ)
    → slice_get stores q ≡ Some x → slice_get tallies q ≡ Some tally → slice_get update_pages q ≡ Some pages
    → SettledBelow p room parity holding stores t tallies update_pages request_pages before changes asked q
    → IsReadyToSettle p room tally (before q) (changes q) (asked q) × CanSettle (holding x) t q pages (request_pages q) (before q) (changes q) (asked q)
can_settle p room parity holding stores t tallies update_pages request_pages before changes asked q x tally pages at tally_at pages_at h = (
  h.ready q tally tally_at (omega arith),
  record { held = h.held_before q x at (omega arith); updates = h.updates q pages pages_at (below stores q x at); requested = h.requested q (below stores q x at) },
)

pub settled_next : {X : Type 0} (p : ProgramMeaning) (room parity : ℕ) (holding holding' : X → Graph → Type 0) (stores : List X) (t t' : Shown) (tallies : List Tally) (update_pages : List ℕ) (request_pages : ℕ → ℕ) (before changes : ℕ → Graph) (asked : ℕ → Pairs) (q : ℕ) (y : X) (tally : Tally)
    → parity < 2 → length stores ≤ 16 → q < length stores → length tallies ≡ length stores → Touches (IsResultFile (vid_file parity q)) t t'
    → ((i : ℕ) (x : X) (l : Graph) → (i ≡ q → ⊥) → slice_get stores i ≡ Some x → holding x l → holding' x l)
    → holding' y (settled_after p (before q) (changes q) (asked q))
    → IsSettled p room t' (vid_file parity q) tally (settled_after p (before q) (changes q) (asked q)) (asked q)
    → SettledBelow p room parity holding stores t tallies update_pages request_pages before changes asked q
    → SettledBelow p room parity holding' (set stores q y) t' (set tallies q tally) update_pages request_pages before changes asked (q + 1)
settled_next p room parity holding holding' stores t t' tallies update_pages request_pages before changes asked q y tally small most lt same touched others own done h =
    let len = length_set stores q y in
    let after : ℕ → Graph = λ i. settled_after p (before i) (changes i) (asked i) in
    let few : q < 16 = omega (arith, lt, most) in
    record {
      held_before = each_set (λ i x. q ≤ i → holding x (before i)) (λ i x. q + 1 ≤ i → holding' x (before i)) stores q y lt (λ low. absurd (omega (arith, low)))
          (λ i x other at held low. others i x (before i) other at (held (omega (arith, low)))) h.held_before;
      held_after = each_set (λ i x. i < q → holding x (after i)) (λ i x. i < q + 1 → holding' x (after i)) stores q y lt (λ _. own)
          (λ i x other at held low. others i x (after i) other at (held (omega (arith, low, other)))) h.held_after;
      ready = each_set (λ i k. q ≤ i → IsReadyToSettle p room k (before i) (changes i) (asked i)) (λ i k. q + 1 ≤ i → IsReadyToSettle p room k (before i) (changes i) (asked i)) tallies q tally (omega (arith, lt, same)) (λ low. absurd (omega (arith, low)))
          (λ i k other at held low. held (omega (arith, low))) h.ready;
      settled = each_set (λ i k. i < q → IsSettled p room t (vid_file parity i) k (after i) (asked i)) (λ i k. i < q + 1 → IsSettled p room t' (vid_file parity i) k (after i) (asked i)) tallies q tally (omega (arith, lt, same)) (λ _. done)
          (λ i k other at held low. (let was = held (omega (arith, low, other)) in record {
            counted = was.counted;
            vids = holds_kept (IsResultFile (vid_file parity q)) t t' (vid_file parity i) k.vid_pages (vid_tuples (after i)) touched (other_vid parity q i other) was.vids;
            within = was.within;
          })) h.settled;
      updates = λ i n at low. holds_kept (IsResultFile (vid_file parity q)) t t' (update_file i) n (vertex_tuples (changes i)) touched (past_vids parity q (update_file i) small few (omega arith)) (h.updates i n at (omega (arith, low, len)));
      requested = λ i low. holds_kept (IsResultFile (vid_file parity q)) t t' (160 + i) (request_pages i) (requests (asked i)) touched (past_vids parity q (160 + i) small few (omega arith)) (h.requested i (omega (arith, low, len)));
    }

-- as many vids are awake as vertices
live_vids_are : (l : Graph) → length (live_vids l) ≡ awake_in l
live_vids_are l = length-map (filter (λ e. not e.1.halt) l) (λ e. e.0)

-- the numbers with those of one more partition
pub sum_next : (after : ℕ → Graph) (q : ℕ) (sum tally : Tally) → IsSum q after sum → IsTally tally (after q) → IsSum (q + 1) after (record sum { count = sum.count + tally.count; live = sum.live + tally.live })
sum_next after q sum tally s t =
    let awake : ℕ → Graph = λ i. filter (λ e. not e.1.halt) (after i) in
    let split : (f : ℕ → Graph) → all_of (suc q) f ≡ all_of q f ++ f q = λ f. flat_map-append f (upto q) (q ∷ []) ∙ ap (λ l. all_of q f ++ l) (append-nil (f q)) in
    let next : q + 1 ≡ suc q = omega arith in
    record {
      count = subst (λ (k : ℕ). sum.count + tally.count ≡ length (all_of k after)) (sym next) (let a = ap length (split after) in let b = length-append (all_of q after) (after q) in let c = s.count in let d = t.count in omega (arith, a, b, c, d));
      live = subst (λ (k : ℕ). sum.live + tally.live ≡ length (all_of k awake)) (sym next) (let a = ap length (split awake) in let b = length-append (all_of q awake) (awake q) in let c = s.live in let d = t.live ∙ live_vids_are (after q) in omega (arith, a, b, c, d));
    }
