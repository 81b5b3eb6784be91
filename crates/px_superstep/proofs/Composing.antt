-- What all partitions compute and settle is what the superstep does.
use Rattle.std.proofs.Common.{◌≡◌, ◌<◌, ◌≤◌, ◌+◌, ℕ, zero, suc, List, [], ◌∷◌, ◌++◌, map, filter, Bool, IsPermutation, sym, ◌∙◌, ap, subst, refl, inl, inr, arith}
use Rattle.std.specs.Prelude.{flat_map, ◌==◌, None}
use Rattle.std.specs.List.{AllByRecursion}
use Rattle.std.specs.Option.{option_or}
use Rattle.std.proofs.lemmas.Bool.{cases_Bool, cases_eq, cond_both}
use Rattle.std.proofs.lemmas.Grind.{flat_map-append}
use Rattle.std.proofs.lemmas.List.{append-nil}
use Rattle.std.proofs.lemmas.List.Folds.{flat_map-map}
use Rattle.px_core.specs.Parts.{to_part, upto, all_of}
use Rattle.px_core.specs.Partition.{partition_of}
use Rattle.px_core.proofs.Partition.{partition_of-lt}
use Rattle.px_meaning.specs.Graph.{IsMap, lookup}
use Rattle.px_meaning.specs.Merge.{Pairs, AllValid, IsValidMessage, inbox, grouped}
use Rattle.px_meaning.specs.Program.{ProgramMeaning, ProgramLaws, Row, Out}
use Rattle.px_meaning.specs.Step.{State, moment, is_active, row_at, rows, outs, computed, put_all, settled}
use Rattle.px_meaning.proofs.Maps.{maps_equal}
use Rattle.px_meaning.proofs.MapParts.{IsMap-filter, lookup-filter_on, lookup-filter_off}
use Rattle.px_meaning.proofs.Inbox.{AllValid-append, inbox_valid}
use Rattle.px_meaning.proofs.Grouping.{lookup-grouped}
use Rattle.px_meaning.proofs.Rearranged.{inbox-filter_on, inbox-IsPermutation, grouped-IsPermutation, grouped_in_parts, grouped-filter}
use Rattle.px_meaning.proofs.Rows.{rows_ascend, IsMap-changes}
use Rattle.px_meaning.proofs.Settling.{IsMap-put_all, IsMap-settled, lookup-put_all, lookup-settled, settled_at as settled_vid}
use Rattle.px_meaning.specs.Phase.{computed_from}
use Rattle.px_meaning.proofs.Steps.{graph_before, graph_after}
use Rattle.px_store.specs.Joins.{rows_in}
use Rattle.px_superstep.specs.Parting.{times}
use Rattle.px_superstep.specs.Partial.{graph_at, messages_at, computed_at, rows_at}
use Rattle.px_superstep.proofs.Parting.{by_parts, flat_agree, times-append, times_here, times_past}
use Rattle.px_superstep.proofs.PartRows.{rows_of_part, changes_of_part}

-- every number below the bound stands once among those up to it
pub upto_none : (n k : ℕ) → n ≤ k → times k (upto n) ≡ 0
upto_none zero k low = refl
upto_none (suc n) k low = (let a = upto_none n k (omega arith) in let b = times-append k (upto n) (n ∷ []) in let e = times_past k n [] (λ is. absurd (omega arith)) in omega arith)

pub upto_once : (n k : ℕ) → k < n → times k (upto n) ≡ 1
upto_once zero k lt = absurd (omega arith)
upto_once (suc n) k lt = (let b = times-append k (upto n) (n ∷ []) in elim (cases_eq k n) [
  | inl e ↦ (let a = upto_none n k (omega arith) in let f = times_here k n [] e in omega arith)
  | inr other ↦ (let a = upto_once n k (omega arith) in let f = times_past k n [] other in omega arith)
])

all_filtered : {X : Type 0} (P : X → Type 0) (test : X → Bool) (xs : List X) → AllByRecursion P xs → AllByRecursion P (filter test xs)
all_filtered P test [] h = tt
all_filtered P test (x ∷ xs) h = cond_both (test x) (x ∷ filter test xs) (filter test xs) (AllByRecursion P) (λ _. (h.0, all_filtered P test xs h.1)) (λ _. all_filtered P test xs h.1)

module _ (p : ProgramMeaning) (laws : ProgramLaws p) (parts : ℕ) (some : 0 < parts) (s : State) where
  abbrev told_valid : Row → Type 0
  told_valid r = IsValidMessage p.message r.message

  computed_valid : (rs : List Row) → AllByRecursion told_valid rs → AllValid p.message (computed p (moment s) rs).sends × AllValid p.verdict (computed p (moment s) rs).requests
  computed_valid [] h = (refl, refl)
  computed_valid (r ∷ rs) h =
      let rest = computed_valid rs h.1 in
      (AllValid-append p.message _ _ (laws.sends_valid (moment s) r h.0) rest.0, AllValid-append p.verdict _ _ (laws.requests_valid (moment s) r h.0) rest.1)

  rows_valid : (ns : List ℕ) → AllValid p.message s.sends → AllByRecursion told_valid (filter is_active (map (row_at p s) ns))
  rows_valid [] h = tt
  rows_valid (n ∷ ns) h =
      cond_both (is_active (row_at p s n)) (row_at p s n ∷ filter is_active (map (row_at p s) ns)) (filter is_active (map (row_at p s) ns)) (AllByRecursion told_valid)
      (λ _. (inbox_valid p.message laws.messages s.sends n h, rows_valid ns h)) (λ _. rows_valid ns h)

  pub all_valid : AllValid p.message s.sends → AllValid p.message (computed_from p s).sends × AllValid p.verdict (computed_from p s).requests
  all_valid h = computed_valid (rows p s) (rows_valid _ h)

  pub part_valid : AllValid p.message s.sends → (q : ℕ) → AllValid p.message (computed_at p parts s q).sends × AllValid p.verdict (computed_at p parts s q).requests
  part_valid h q =
      subst (λ (rs : List Row). AllValid p.message (computed p (moment s) rs).sends × AllValid p.verdict (computed p (moment s) rs).requests) (sym (rows_of_part p parts s q))
      (computed_valid (rows_at parts q (rows p s)) (all_filtered told_valid (λ r. partition_of r.vid parts == q) (rows p s) (rows_valid _ h)))

  all_perm : {A : Type 0} (answer : Out → List A) (done : List ℕ) → ((k : ℕ) → k < parts → times k done ≡ 1)
      → IsPermutation (flat_map (λ q. flat_map (λ (o : ℕ × Out). answer o.1) (outs p (moment s) (rows_in (graph_at parts s q) (messages_at p parts s q)))) done) (flat_map (λ (o : ℕ × Out). answer o.1) (outs p (moment s) (rows p s)))
  all_perm answer done once =
      let f : Row → List _ = λ r. answer (p.out_of (moment s) r) in
      let one : (rs : List Row) → flat_map (λ (o : ℕ × Out). answer o.1) (outs p (moment s) rs) ≡ flat_map f rs = λ rs. flat_map-map (λ (o : ℕ × Out). answer o.1) (λ r. (r.vid, p.out_of (moment s) r)) rs in
      subst (λ l. IsPermutation l (flat_map (λ (o : ℕ × Out). answer o.1) (outs p (moment s) (rows p s))))
      (sym (flat_agree (λ q. flat_map (λ (o : ℕ × Out). answer o.1) (outs p (moment s) (rows_in (graph_at parts s q) (messages_at p parts s q)))) (λ q. flat_map f (rows_at parts q (rows p s))) done
      (λ q. ap (λ rs. flat_map (λ (o : ℕ × Out). answer o.1) (outs p (moment s) rs)) (rows_of_part p parts s q) ∙ one (rows_at parts q (rows p s)))))
      (subst (IsPermutation (flat_map (λ q. flat_map f (rows_at parts q (rows p s))) done)) (sym (one (rows p s)))
      (by_parts (λ r. partition_of r.vid parts) f (rows p s) done (λ r. once (partition_of r.vid parts) (partition_of-lt r.vid parts some))))

  -- all partitions send, request and contribute what the superstep does, in another order
  pub sends_all : (done : List ℕ) → ((k : ℕ) → k < parts → times k done ≡ 1) → IsPermutation (flat_map (λ q. (computed_at p parts s q).sends) done) (computed_from p s).sends
  sends_all done once = all_perm (λ o. o.sends) done once

  pub requests_all : (done : List ℕ) → ((k : ℕ) → k < parts → times k done ≡ 1) → IsPermutation (flat_map (λ q. (computed_at p parts s q).requests) done) (computed_from p s).requests
  requests_all done once = all_perm (λ o. o.requests) done once

  pub contributions_all : (done : List ℕ) → ((k : ℕ) → k < parts → times k done ≡ 1) → IsPermutation (flat_map (λ q. (computed_at p parts s q).contributions) done) (computed_from p s).contributions
  contributions_all done once = all_perm (λ o. o.contributions) done once

  pub changes_at : (q : ℕ) → (computed_at p parts s q).changes ≡ to_part parts q (computed_from p s).changes
  changes_at q = ap (λ rs. (computed p (moment s) rs).changes) (rows_of_part p parts s q) ∙ changes_of_part p (moment s) parts q (rows p s)

  -- what the senders put folds to what is sent
  abbrev sends_at : ℕ → Pairs
  sends_at q = (computed_at p parts s q).sends

  pub pieces_fold : (pieces : ℕ → Pairs) → AllValid p.message s.sends → ((q : ℕ) → q < parts → AllValid p.message (pieces q) × (grouped p.message (pieces q) ≡ grouped p.message (sends_at q)))
      → (n : ℕ) → n ≤ parts → AllValid p.message (all_of n pieces) × (AllValid p.message (all_of n sends_at) × (grouped p.message (all_of n pieces) ≡ grouped p.message (all_of n sends_at)))
  pieces_fold pieces h are zero low = (refl, (refl, refl))
  pieces_fold pieces h are (suc n) low =
      let before = pieces_fold pieces h are n (omega arith) in
      let here = are n (omega arith) in
      let valid = (part_valid h n).0 in
      let split : (f : ℕ → Pairs) → all_of (suc n) f ≡ all_of n f ++ f n = λ f. flat_map-append f (upto n) (n ∷ []) ∙ ap (λ l. all_of n f ++ l) (append-nil (f n)) in (
        subst (AllValid p.message) (sym (split pieces)) (AllValid-append p.message (all_of n pieces) (pieces n) before.0 here.0),
        (
          subst (AllValid p.message) (sym (split sends_at)) (AllValid-append p.message (all_of n sends_at) (sends_at n) before.1.0 valid),
          ap (grouped p.message) (split pieces)
              ∙ sym (grouped_in_parts p.message laws.messages (all_of n pieces) (pieces n) before.0 here.0)
              ∙ ap (λ l. grouped p.message (l ++ grouped p.message (pieces n))) before.1.1 ∙ ap (λ l. grouped p.message (grouped p.message (all_of n sends_at) ++ l)) here.1
              ∙ grouped_in_parts p.message laws.messages (all_of n sends_at) (sends_at n) before.1.0 valid
              ∙ ap (grouped p.message) (sym (split sends_at)),
        ),
      )

  -- each receiver's folds are those of its partition in the next state
  pub delivered : (pieces : ℕ → Pairs) → AllValid p.message s.sends → ((q : ℕ) → q < parts → AllValid p.message (pieces q) × (grouped p.message (pieces q) ≡ grouped p.message (sends_at q)))
      → (q : ℕ) → grouped p.message (to_part parts q (all_of parts pieces)) ≡ to_part parts q (grouped p.message (computed_from p s).sends)
  delivered pieces h are q =
      let fold = pieces_fold pieces h are parts (omega arith) in
      grouped-filter p.message (λ v. partition_of v parts == q) (all_of parts pieces)
      ∙ ap (to_part parts q) (fold.1.1 ∙ grouped-IsPermutation p.message laws.messages (all_of parts sends_at) (computed_from p s).sends (sends_all (upto parts) (λ k lt. upto_once parts k lt)) fold.1.0)

  -- and each partition's graph is that of the next state
  pub settled_part : (q : ℕ) (asked : Pairs) → IsMap s.graph → AllValid p.verdict asked → IsPermutation asked (computed_from p s).requests
      → settled p (put_all (graph_at parts s q) (computed_at p parts s q).changes) (to_part parts q asked) ≡ to_part parts q (graph_after p s)
  settled_part q asked m h perm =
      let is_in : ℕ → Bool = λ v. partition_of v parts == q in
      let c = (computed_from p s).changes in
      let c_map : IsMap c = IsMap-changes p (moment s) (rows p s) (rows_ascend p s) in
      let vq = graph_at parts s q in
      let cq = to_part parts q c in
      let aq = to_part parts q asked in
      let before = put_all vq cq in
      ap (λ l. settled p (put_all vq l) aq) (changes_at q)
      ∙ maps_equal (settled p before aq) (to_part parts q (graph_after p s)) (IsMap-settled p before aq (IsMap-put_all vq cq (IsMap-filter is_in s.graph m)))
      (IsMap-filter is_in (graph_after p s) (IsMap-settled p (graph_before p s) (computed_from p s).requests (IsMap-put_all s.graph c m)))
      (λ v. elim (cases_Bool (is_in v)) [
        | inl on ↦
            lookup-settled p v before aq
            ∙ ap (λ o. settled_vid p v o (inbox p.verdict aq v)) (lookup-put_all v vq cq (IsMap-filter is_in c c_map) ∙ ap (λ o. option_or o (lookup v vq)) (lookup-filter_on is_in v c on) ∙ ap (option_or (lookup v c)) (lookup-filter_on is_in v s.graph on) ∙ sym (lookup-put_all v s.graph c c_map))
            ∙ ap (settled_vid p v (lookup v (graph_before p s))) (inbox-filter_on p.verdict is_in asked v on ∙ inbox-IsPermutation p.verdict laws.verdicts asked (computed_from p s).requests v perm h)
            ∙ sym (lookup-settled p v (graph_before p s) (computed_from p s).requests) ∙ sym (lookup-filter_on is_in v (graph_after p s) on)
        | inr off ↦
            lookup-settled p v before aq
            ∙ ap (λ o. settled_vid p v o (inbox p.verdict aq v)) (lookup-put_all v vq cq (IsMap-filter is_in c c_map) ∙ ap (λ o. option_or o (lookup v vq)) (lookup-filter_off is_in v c off) ∙ ap (option_or None) (lookup-filter_off is_in v s.graph off))
            ∙ ap (settled_vid p v None) (sym (lookup-grouped p.verdict aq v) ∙ ap (lookup v) (grouped-filter p.verdict is_in asked) ∙ lookup-filter_off is_in v (grouped p.verdict asked) off)
            ∙ sym (lookup-filter_off is_in v (graph_after p s) off)
      ])
