-- What a job stands for outlives what changes none of its files.
use Rattle.std.proofs.Common.{◌≡◌, ◌<◌, ◌≤◌, ◌+◌, ℕ, List, length, true, sym, ◌∙◌, ap, subst, arith}
use Rattle.std.specs.Prelude.{◌%◌, ◌==◌, Bool}
use Rattle.px_core.specs.Shown.{Shown, Touches, Only}
use Rattle.px_core.proofs.Keeping.{same_by_touches}
use Rattle.px_meaning.specs.Graph.{Graph, IsMap}
use Rattle.px_meaning.specs.Merge.{grouped}
use Rattle.px_meaning.specs.Program.{ProgramMeaning}
use Rattle.px_meaning.specs.Step.{State, moment}
use Rattle.px_meaning.proofs.Grouping.{IsMap-grouped}
use Rattle.px_meaning.proofs.MapParts.{IsMap-filter}
use Rattle.px_core.specs.Partition.{partition_of}
use Rattle.px_pages.specs.Entry.{Entry}
use Rattle.px_stream.specs.Stream.{Holds}
use Rattle.px_stream.proofs.Kept.{has_same}
use Rattle.px_store.specs.Joins.{message_tuples, vid_tuples}
use Rattle.px_global_state.specs.States.{IsGs, moment_of}
use Rattle.px_global_state.specs.declared.gs.Gs.{Gs}
use Rattle.px_load.specs.Loading.{HoldGraph}
use Rattle.px_mutations.specs.Applying.{IsTally}
use Rattle.px_mutations.specs.declared.applying.Tally.{Tally}
use Rattle.px_superstep.specs.Files.{msg_file, vid_file}
use Rattle.px_superstep.specs.Partial.{graph_at, messages_at}
use Rattle.px_superstep.specs.Phases.{Each}
use Rattle.px_superstep.specs.Steps.{StandsFor}
use Rattle.px_superstep.proofs.Slices.{each_more, below, found}

-- a file stays that is none of those that a call changes
pub holds_kept : (theirs : ℕ → Type 0) (a b : Shown) (f n : ℕ) (l : List Entry) → Touches theirs a b → (theirs f → ⊥) → Holds a f n l → Holds b f n l
holds_kept theirs a b f n l touched apart held = has_same a b f 0 n l (same_by_touches (Only f) theirs a b (λ g is mine. apart (subst theirs is mine)) touched) held

parity_small : (n : ℕ) → n % 2 < 2
parity_small n = omega arith

-- stores of the same number that hold the graph, and files of which none changed
pub stands_moved : {X : Type 0} (p : ProgramMeaning) (room : ℕ) (probing : Bool) (holding holding' : X → Graph → Type 0) (stores stores' : List X) (theirs : ℕ → Type 0) (t t' : Shown) (msg_pages : List ℕ) (tallies : List Tally) (gs : Gs) (s : State)
    → length stores' ≡ length stores → HoldGraph holding' stores' s.graph → length msg_pages ≤ 16 → length tallies ≤ 16 → ((f : ℕ) → 16 ≤ f → f < 128 → theirs f → ⊥) → Touches theirs t t'
    → StandsFor p room probing holding stores t msg_pages tallies gs s → StandsFor p room probing holding' stores' t' msg_pages tallies gs s
stands_moved p room probing holding holding' stores stores' theirs t t' msg_pages tallies gs s len hold few_msgs few_tallies apart touched st =
    let small = parity_small s.superstep in
    let n = length stores in
    record {
      is_map = st.is_map;
      valid = st.valid;
      fit = st.fit;
      numbers = st.numbers;
      hold = hold;
      messages = subst (λ (k : ℕ). Each msg_pages (λ q j. Holds t' (msg_file (s.superstep % 2) q) j (message_tuples (messages_at p k s q)))) (sym len)
          (each_more (λ q j. Holds t (msg_file (s.superstep % 2) q) j (message_tuples (messages_at p n s q))) (λ q j. Holds t' (msg_file (s.superstep % 2) q) j (message_tuples (messages_at p n s q))) msg_pages
          (λ q j at held. (let q_below = below msg_pages q j at in
          holds_kept theirs t t' (msg_file (s.superstep % 2) q) j (message_tuples (messages_at p n s q)) touched (apart (msg_file (s.superstep % 2) q) (omega (arith, small)) (omega (arith, small, q_below, few_msgs))) held)) st.messages);
      counted = subst (λ (k : ℕ). Each tallies (λ q tally. IsTally tally (graph_at k s q))) (sym len) st.counted;
      vids = λ on. subst (λ (k : ℕ). Each tallies (λ q tally. Holds t' (vid_file (s.superstep % 2) q) tally.vid_pages (vid_tuples (graph_at k s q)))) (sym len)
          (each_more (λ q (tally : Tally). Holds t (vid_file (s.superstep % 2) q) tally.vid_pages (vid_tuples (graph_at n s q))) (λ q (tally : Tally). Holds t' (vid_file (s.superstep % 2) q) tally.vid_pages (vid_tuples (graph_at n s q))) tallies
          (λ q tally at held. (let q_below = below tallies q tally at in
          holds_kept theirs t t' (vid_file (s.superstep % 2) q) tally.vid_pages (vid_tuples (graph_at n s q)) touched (apart (vid_file (s.superstep % 2) q) (omega (arith, small)) (omega (arith, small, q_below, few_tallies))) held)) (st.vids on));
    }

-- what stands for a state lies on a disk that tells
pub stands_told : {X : Type 0} (p : ProgramMeaning) (room : ℕ) (probing : Bool) (holding : X → Graph → Type 0) (stores : List X) (t : Shown) (msg_pages : List ℕ) (tallies : List Tally) (gs : Gs) (s : State) → 1 ≤ length msg_pages → StandsFor p room probing holding stores t msg_pages tallies gs s → t.tells ≡ true
stands_told p room probing holding stores t msg_pages tallies gs s some st = (let first = found msg_pages 0 some in (st.messages 0 first.0 first.1).tells.on)

-- the messages to a partition are a map
pub messages_map : (p : ProgramMeaning) (parts : ℕ) (s : State) (q : ℕ) → IsMap (messages_at p parts s q)
messages_map p parts s q = IsMap-filter (λ v. partition_of v parts == q) (grouped p.message s.sends) (IsMap-grouped p.message s.sends)

-- what the vertices are told
pub told : (gs : Gs) (s : State) → IsGs gs s → moment_of gs ≡ moment s
told gs s is =
    ap (λ (n : ℕ). record { superstep = n; aggregate = gs.aggregate; count = gs.count }) is.superstep
    ∙ ap (λ (n : ℕ). record { superstep = s.superstep; aggregate = n; count = gs.count }) is.aggregate
    ∙ ap (λ (n : ℕ). record { superstep = s.superstep; aggregate = s.aggregate; count = n }) is.count
