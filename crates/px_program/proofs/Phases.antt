-- The compute phase over rows: what more rows post, and when what they post is beyond the limits.
use Rattle.std.proofs.Common.{◌≡◌, ℕ, ◌+◌, ◌^◌, length-append, List, [], ◌∷◌, ◌++◌, length, map, take, drop, Bool, None, IsTrue, ◌⊎◌, sym, ◌∙◌, ap, subst, refl, inl, inr, append_assoc, arith}
use Rattle.std.specs.Prelude.{flat_map}
use Rattle.std.specs.List.{AllByRecursion, list_any}
use Rattle.std.proofs.lemmas.Grind.{flat_map-append}
use Rattle.std.proofs.lemmas.List.{map-append, take-append-drop}
use Rattle.std.proofs.lemmas.List.Folds.{list_any-append}
use Rattle.std.proofs.lemmas.Bool.{or_left, or_right, or_cases, lt-ltb, ltb-true}
use Rattle.std.proofs.Math.Seq.{take-append_seam, take-append-add}
use Rattle.px_meaning.specs.Merge.{MergeRule, MergeLaws, Pairs, AllValid, IsValidMessage}
use Rattle.px_meaning.specs.Phase.{computed_from, has_wide_answer}
use Rattle.px_meaning.specs.Program.{ProgramMeaning, ProgramLaws, Moment, Row, Out}
use Rattle.px_meaning.specs.Step.{State, moment, rows, computed, is_wide, are_beyond, step}
use Rattle.px_meaning.proofs.Inbox.{AllValid-append, AllValid-parts}
use Rattle.px_meaning.proofs.Limits.{beyond_with_more}
use Rattle.px_meaning.proofs.StepParts.{wide_request, wide_is_beyond, sends_are_beyond, requests_are_beyond, wide_answer}
use Rattle.px_program.specs.Phase.{with_all, IsPartOfAll, ArePosted}
use Rattle.px_program.specs.Posted.{Posted, MadeFor, Begins, IsBeyond, asks_too_much, made_for, nothing}

-- a prefix of the middle is a prefix of all
pub begins_later : {A : Type 0} (old a b c now : List A) → Begins (old ++ a) now b → Begins old now (a ++ (b ++ c))
begins_later old a b c now part =
    let m = take part.0 b in
    let split = sym (ap (λ l. l ++ c) (take-append-drop part.0 b)) ∙ append_assoc m (drop part.0 b) c in (
      length a + length m,
      part.1 ∙ append_assoc old a m ∙ ap (λ l. old ++ l) (sym (take-append-add a (b ++ c) (length m) ∙ ap (λ l. a ++ l) (ap (take (length m)) split ∙ take-append_seam m (drop part.0 b ++ c)))),
    )

flat-append : {X Y A : Type 0} (f : Y → List A) (g : X → Y) (us vs : List X) → flat_map f (map g (us ++ vs)) ≡ flat_map f (map g us) ++ flat_map f (map g vs)
flat-append f g us vs = ap (flat_map f) (map-append g us vs) ∙ flat_map-append f (map g us) (map g vs)

module _ (m : ProgramMeaning) (t : Moment) where
  sends-append : (us vs : List Row) → (computed m t (us ++ vs)).sends ≡ (computed m t us).sends ++ (computed m t vs).sends
  sends-append us vs = flat-append (λ (o : ℕ × Out). o.1.sends) (λ (r : Row). (r.vid, m.out_of t r)) us vs

  requests-append : (us vs : List Row) → (computed m t (us ++ vs)).requests ≡ (computed m t us).requests ++ (computed m t vs).requests
  requests-append us vs = flat-append (λ (o : ℕ × Out). o.1.requests) (λ (r : Row). (r.vid, m.out_of t r)) us vs

  contributions-append : (us vs : List Row) → (computed m t (us ++ vs)).contributions ≡ (computed m t us).contributions ++ (computed m t vs).contributions
  contributions-append us vs = flat-append (λ (o : ℕ × Out). o.1.contributions) (λ (r : Row). (r.vid, m.out_of t r)) us vs

  -- what more rows add
  pub with_rows : (us vs : List Row) (p : Posted) → with_all (computed m t vs) (with_all (computed m t us) p) ≡ with_all (computed m t (us ++ vs)) p
  with_rows us vs p =
      let a = append_assoc p.sends _ _ ∙ ap (λ (l : Pairs). p.sends ++ l) (sym (sends-append us vs)) in
      let b = append_assoc p.requests _ _ ∙ ap (λ (l : Pairs). p.requests ++ l) (sym (requests-append us vs)) in
      let c = append_assoc p.contributions _ _ ∙ ap (λ (l : List ℕ). p.contributions ++ l) (sym (contributions-append us vs)) in
      λ i. record { sends = a i; requests = b i; contributions = c i }

  -- a part of what some rows make, after the rows before them, is a part of all
  pub part_of_rows : (a b c : List Row) (p made : Posted) → IsPartOfAll (computed m t b) (with_all (computed m t a) p) made → IsPartOfAll (computed m t (a ++ (b ++ c))) p made
  part_of_rows a b c p made part = record {
    sends = subst (Begins p.sends made.sends) (sym (sends-append a (b ++ c) ∙ ap (λ (l : Pairs). (computed m t a).sends ++ l) (sends-append b c))) (begins_later p.sends _ _ _ made.sends part.sends);
    requests = subst (Begins p.requests made.requests) (sym (requests-append a (b ++ c) ∙ ap (λ (l : Pairs). (computed m t a).requests ++ l) (requests-append b c))) (begins_later p.requests _ _ _ made.requests part.requests);
    contributions = subst (Begins p.contributions made.contributions) (sym (contributions-append a (b ++ c) ∙ ap (λ (l : List ℕ). (computed m t a).contributions ++ l) (contributions-append b c))) (begins_later p.contributions _ _ _ made.contributions part.contributions);
  }

  -- an answer above room is one of all
  pub wide_among_rows : (room : ℕ) (a b c : List Row) → IsTrue (has_wide_answer m room t b) → IsTrue (has_wide_answer m room t (a ++ (b ++ c)))
  wide_among_rows room a b c h =
      let p : Row → Bool = λ row. is_wide room (m.out_of t row).vertex in
      list_any-append p a (b ++ c) ∙ or_right (list_any p a) _ (list_any-append p b c ∙ or_left (list_any p b) _ h)

-- what is computed of valid rows is valid
pub computed_valid : (m : ProgramMeaning) → ProgramLaws m → (t : Moment) (rows : List Row) → AllByRecursion (λ (r : Row). IsValidMessage m.message r.message) rows → AllValid m.message (computed m t rows).sends × AllValid m.verdict (computed m t rows).requests
computed_valid m laws t [] h = (refl, refl)
computed_valid m laws t (r ∷ rs) h =
    let rest = computed_valid m laws t rs h.1 in
    (AllValid-append m.message _ _ (laws.sends_valid t r h.0) rest.0, AllValid-append m.verdict _ _ (laws.requests_valid t r h.0) rest.1)

-- what is beyond with a part is beyond with all
pub beyond_part : (rule : MergeRule) → MergeLaws rule → (room : ℕ) (old made more : Pairs) → AllValid rule old → AllValid rule more → Begins old made more → IsTrue (are_beyond rule room made) → IsTrue (are_beyond rule room (old ++ more))
beyond_part rule laws room old made more ho hm part h =
    let parts = AllValid-parts rule (take part.0 more) (drop part.0 more) (subst (AllValid rule) (sym (take-append-drop part.0 more)) hm) in
    let whole = append_assoc old (take part.0 more) (drop part.0 more) ∙ ap (λ (l : Pairs). old ++ l) (take-append-drop part.0 more) in
    subst (λ (l : Pairs). IsTrue (are_beyond rule room l)) whole
    (beyond_with_more rule laws room (old ++ take part.0 more) (drop part.0 more) (AllValid-append rule old (take part.0 more) ho parts.0) parts.1 (subst (λ (l : Pairs). IsTrue (are_beyond rule room l)) part.1 h))

-- what asks too much still does with more
asks_more : (room : ℕ) (xs ys : Pairs) → IsTrue (asks_too_much room xs) → IsTrue (asks_too_much room (xs ++ ys))
asks_more room xs ys h =
    elim (or_cases _ _ h) [
      | inl wide ↦ or_left _ _ (list_any-append _ xs ys ∙ or_left _ _ wide)
      | inr many ↦ or_right _ _ (lt-ltb (2 ^ 40) (length (xs ++ ys)) (omega (arith, ltb-true (2 ^ 40) (length xs) many, length-append xs ys)))
    ]

pub asks_part : (room : ℕ) (old made more : Pairs) → Begins old made more → IsTrue (asks_too_much room made) → IsTrue (asks_too_much room (old ++ more))
asks_part room old made more part h =
    let whole = append_assoc old (take part.0 more) (drop part.0 more) ∙ ap (λ (l : Pairs). old ++ l) (take-append-drop part.0 more) in
    subst (λ (l : Pairs). IsTrue (asks_too_much room l)) whole (asks_more room (old ++ take part.0 more) (drop part.0 more) (subst (λ (l : Pairs). IsTrue (asks_too_much room l)) part.1 h))

-- where a part of what valid rows make is beyond the limits, all of it is
pub beyond_by_part : (m : ProgramMeaning) → ProgramLaws m → (t : Moment) (f : MadeFor) → f.message ≡ m.message → f.verdict ≡ m.verdict → (rows : List Row) → AllByRecursion (λ (r : Row). IsValidMessage m.message r.message) rows → (p made : Posted) → ArePosted f p → IsPartOfAll (computed m t rows) p made → IsBeyond f made → IsBeyond f (with_all (computed m t rows) p)
beyond_by_part m laws t f is_message is_verdict rows valid p made posted part h =
    let all = computed_valid m laws t rows valid in
    let messages = subst MergeLaws (sym is_message) laws.messages in
    elim (or_cases _ _ h) [
      | inl s ↦ or_left _ _ (beyond_part f.message messages f.room p.sends made.sends _ posted.0 (subst (λ (r : MergeRule). AllValid r (computed m t rows).sends) (sym is_message) all.0) part.sends s)
      | inr q ↦ or_right _ _ (asks_part f.room p.requests made.requests _ part.requests q)
    ]

-- what asks too much is beyond the limits
pub asked_is_beyond : (rule : MergeRule) → MergeLaws rule → (room : ℕ) (pairs : Pairs) → AllValid rule pairs → IsTrue (asks_too_much room pairs) → IsTrue (are_beyond rule room pairs)
asked_is_beyond rule laws room pairs valid h =
    elim (or_cases _ _ h) [
      | inl wide ↦ wide_request rule laws room [] pairs refl valid wide
      | inr many ↦ or_right _ _ many
    ]

-- a compute phase ends beyond the limits only where the step is
pub phase_beyond : (p : ProgramMeaning) → ProgramLaws p → (room : ℕ) (s : State) → AllByRecursion (λ (r : Row). IsValidMessage p.message r.message) (rows p s)
    → IsTrue (has_wide_answer p room (moment s) (rows p s)) ⊎ IsBeyond (made_for p room) (with_all (computed_from p s) nothing) → step p room s ≡ None
phase_beyond p laws room s valid cause =
    elim cause [
      | inl wide ↦ wide_is_beyond p room s (wide_answer p room s wide)
      | inr some ↦ elim (or_cases (are_beyond p.message room (computed_from p s).sends) (asks_too_much room (computed_from p s).requests) some) [
        | inl sends ↦ sends_are_beyond p room s sends
        | inr requests ↦ requests_are_beyond p room s (asked_is_beyond p.verdict laws.verdicts room (computed_from p s).requests (computed_valid p laws (moment s) (rows p s) valid).1 requests)
      ]
    ]
