-- The limits: more sends shorten no fold, so what is beyond stays beyond; and what is wide or fits, by look-ups.
use Rattle.std.proofs.Common.{◌≡◌, ℕ, ◌+◌, ◌<◌, ◌≤◌, ◌^◌, List, [], ◌∷◌, ◌++◌, length, map, fold, Bool, true, false, ◌||◌, Some, sym, ◌∙◌, ap, refl, subst, arith, inl, inr, length-append}
use Rattle.std.specs.Prelude.{nat_lt, IsTrue, unwrap_or}
use Rattle.std.specs.List.{reduce, list_all, list_any}
use Rattle.std.proofs.lemmas.Bool.{and_parts, and_from, or_cases, or_left, or_right, ltb-true, ltb-false, lt-ltb, le-ltb}
use Rattle.std.proofs.lemmas.List.{map-append, append_assoc}
use Rattle.std.proofs.lemmas.List.Folds.{list_any-append}
use Rattle.std.proofs.lemmas.List.Sums.{fold-append}
use Rattle.px_meaning.specs.Graph.{Vertex, Graph, IsMap, vids, lookup, ascending, pair_size}
use Rattle.px_meaning.specs.Merge.{MergeRule, MergeLaws, Pairs, AllValid, payloads, inbox, grouped}
use Rattle.px_meaning.specs.Step.{is_wide, has_wide_vertex, has_wide_fold, are_beyond}
use Rattle.px_meaning.proofs.Ascending.{any_ascending}
use Rattle.px_meaning.proofs.MapTests.{any_from_lookup, none_at_lookup, none_from_lookups}
use Rattle.px_meaning.proofs.Inbox.{fold_valid, payloads_valid, payloads-append, payloads_here, AllValid-append}
use Rattle.px_meaning.proofs.Grouping.{IsMap-grouped, lookup-grouped}

any_map : {X Y : Type 0} (p : Y → Bool) (f : X → Y) (xs : List X) → list_any p (map f xs) ≡ list_any (λ x. p (f x)) xs
any_map p f [] = refl
any_map p f (x ∷ xs) = ap (λ b. p (f x) || b) (any_map p f xs)

-- a test that is true where another is
any_more : {X : Type 0} (p q : X → Bool) → ((x : X) → p x ≡ true → q x ≡ true) → (xs : List X) → list_any p xs ≡ true → list_any q xs ≡ true
any_more p q more [] h = h
any_more p q more (x ∷ xs) h =
    elim (or_cases (p x) (list_any p xs) h) [ inl a ↦ or_left (q x) (list_any q xs) (more x a) | inr b ↦ or_right (q x) (list_any q xs) (any_more p q more xs b) ]

-- how long a vid's fold is, 0 where nothing was sent
abbrev pub inbox_length : MergeRule → Pairs → ℕ → ℕ
inbox_length rule pairs v = length (unwrap_or (inbox rule pairs v) [])

module _ (rule : MergeRule) (laws : MergeLaws rule) where
  fold_no_shorter : (a : List ℕ) (xs : List (List ℕ)) → IsTrue (rule.valid a) → IsTrue (list_all rule.valid xs) → length a ≤ length (fold rule.merge a xs)
  fold_no_shorter a [] ha hs = omega arith
  fold_no_shorter a (x ∷ xs) ha hs =
      let parts = and_parts (rule.valid x) (list_all rule.valid xs) hs in
      omega (arith, laws.no_shorter a x ha parts.0, fold_no_shorter (rule.merge a x) xs (laws.closed a x ha parts.0) parts.1)

  reduce_no_shorter : (us bs : List (List ℕ)) → IsTrue (list_all rule.valid us) → IsTrue (list_all rule.valid bs) → length (unwrap_or (reduce rule.merge us) []) ≤ length (unwrap_or (reduce rule.merge (us ++ bs)) [])
  reduce_no_shorter [] bs ha hb = omega arith
  reduce_no_shorter (a ∷ us) bs ha hb =
      let parts = and_parts (rule.valid a) (list_all rule.valid us) ha in
      rw (fold-append rule.merge a us bs) (fold_no_shorter (fold rule.merge a us) bs (fold_valid rule laws a us parts.0 parts.1) hb)

  -- a payload is no longer than the fold that it went into
  reduce_last : (us : List (List ℕ)) (b : List ℕ) → IsTrue (list_all rule.valid us) → IsTrue (rule.valid b) → length b ≤ length (unwrap_or (reduce rule.merge (us ++ b ∷ [])) [])
  reduce_last [] b hu hb = omega arith
  reduce_last (a ∷ us) b hu hb =
      let parts = and_parts (rule.valid a) (list_all rule.valid us) hu in
      let f = fold rule.merge a us in
      let hf = fold_valid rule laws a us parts.0 parts.1 in
      rw (fold-append rule.merge a us (b ∷ [])) (rw (laws.commutes f b hf hb) (laws.no_shorter b f hb hf))

  -- with more sends no fold is shorter
  pub inbox_no_shorter : (xs ys : Pairs) (v : ℕ) → AllValid rule xs → AllValid rule ys → inbox_length rule xs v ≤ inbox_length rule (xs ++ ys) v
  inbox_no_shorter xs ys v hx hy =
      rw (payloads-append xs ys v) (reduce_no_shorter (payloads xs v) (payloads ys v) (payloads_valid rule xs v hx) (payloads_valid rule ys v hy))

  -- the last payload of a vid is no longer than its fold
  pub inbox_last : (xs : Pairs) (v : ℕ) (b : List ℕ) → AllValid rule xs → IsTrue (rule.valid b) → length b ≤ inbox_length rule (xs ++ (v, b) ∷ []) v
  inbox_last xs v b hx hb =
      rw (payloads-append xs ((v, b) ∷ []) v ∙ ap (λ (l : List (List ℕ)). payloads xs v ++ l) (payloads_here (v, b) [] v refl)) (reduce_last (payloads xs v) b (payloads_valid rule xs v hx) hb)

-- whether a fold is wide, by the vids in the order in which they stand
pub wide_by_vids : (rule : MergeRule) (room : ℕ) (xs : Pairs) → has_wide_fold rule room xs ≡ list_any (λ v. nat_lt room (13 + inbox_length rule xs v)) (vids xs)
wide_by_vids rule room xs = any_map (λ (e : ℕ × List ℕ). nat_lt room (13 + length e.1)) (λ v. (v, unwrap_or (inbox rule xs v) [])) (ascending (vids xs)) ∙ any_ascending _ (vids xs)

-- a wide fold stays wide with more sends
pub wide_with_more : (rule : MergeRule) → MergeLaws rule → (room : ℕ) (xs ys : Pairs) → AllValid rule xs → AllValid rule ys → IsTrue (has_wide_fold rule room xs) → IsTrue (has_wide_fold rule room (xs ++ ys))
wide_with_more rule laws room xs ys hx hy wide =
    wide_by_vids rule room (xs ++ ys) ∙ ap (list_any (λ v. nat_lt room (13 + inbox_length rule (xs ++ ys) v))) (map-append (λ (e : ℕ × List ℕ). e.0) xs ys)
    ∙ list_any-append _ (vids xs) (vids ys)
    ∙ or_left _ _ (any_more (λ v. nat_lt room (13 + inbox_length rule xs v)) (λ v. nat_lt room (13 + inbox_length rule (xs ++ ys) v))
    (λ v t. lt-ltb room (13 + inbox_length rule (xs ++ ys) v) (omega (arith, ltb-true room (13 + inbox_length rule xs v) t, inbox_no_shorter rule laws xs ys v hx hy)))
    (vids xs) (sym (wide_by_vids rule room xs) ∙ wide))

-- what is beyond stays beyond with more sends
pub beyond_with_more : (rule : MergeRule) → MergeLaws rule → (room : ℕ) (xs ys : Pairs) → AllValid rule xs → AllValid rule ys → IsTrue (are_beyond rule room xs) → IsTrue (are_beyond rule room (xs ++ ys))
beyond_with_more rule laws room xs ys hx hy h =
    elim (or_cases _ _ h) [
      | inl wide ↦ or_left _ _ (wide_with_more rule laws room xs ys hx hy wide)
      | inr many ↦ or_right _ _ (lt-ltb (2 ^ 40) (length (xs ++ ys)) (omega (arith, ltb-true (2 ^ 40) (length xs) many, length-append xs ys)))
    ]

-- a pair above room is beyond, whatever was sent before
pub wide_pair : (rule : MergeRule) → MergeLaws rule → (room : ℕ) (xs : Pairs) (v : ℕ) (b : List ℕ) → AllValid rule xs → IsTrue (rule.valid b) → room < pair_size b → IsTrue (are_beyond rule room (xs ++ (v, b) ∷ []))
wide_pair rule laws room xs v b hx hb wide =
    let p : ℕ → Bool = λ w. nat_lt room (13 + inbox_length rule (xs ++ (v, b) ∷ []) w) in
    let here : p v ≡ true = lt-ltb room (13 + inbox_length rule (xs ++ (v, b) ∷ []) v) (omega (arith, inbox_last rule laws xs v b hx hb)) in
    let last : list_any p (v ∷ []) ≡ true = or_left (p v) false here in
    or_left _ _ (wide_by_vids rule room (xs ++ (v, b) ∷ []) ∙ ap (list_any p) (map-append (λ (e : ℕ × List ℕ). e.0) xs ((v, b) ∷ [])) ∙ list_any-append p (vids xs) (v ∷ []) ∙ or_right (list_any p (vids xs)) (list_any p (v ∷ [])) last)

-- and whatever is sent after
pub wide_pair_among : (rule : MergeRule) → MergeLaws rule → (room : ℕ) (xs ys : Pairs) (v : ℕ) (b : List ℕ) → AllValid rule xs → AllValid rule ys → IsTrue (rule.valid b) → room < pair_size b → IsTrue (are_beyond rule room (xs ++ (v, b) ∷ ys))
wide_pair_among rule laws room xs ys v b hx hy hb wide =
    let hxb : AllValid rule (xs ++ (v, b) ∷ []) = AllValid-append rule xs ((v, b) ∷ []) hx (and_from (rule.valid b) true hb refl) in
    subst (λ l. IsTrue (are_beyond rule room l)) (append_assoc xs ((v, b) ∷ []) ys)
    (beyond_with_more rule laws room (xs ++ (v, b) ∷ []) ys hxb hy (wide_pair rule laws room xs v b hx hb wide))

-- where no fold is wide, each inbox fits room
pub inbox_fits : (rule : MergeRule) (room : ℕ) (pairs : Pairs) (v : ℕ) (m : List ℕ) → has_wide_fold rule room pairs ≡ false → inbox rule pairs v ≡ Some m → pair_size m ≤ room
inbox_fits rule room pairs v m none is =
    ltb-false room (pair_size m) (none_at_lookup (λ b. nat_lt room (pair_size b)) v m (grouped rule pairs) none (lookup-grouped rule pairs v ∙ is))

-- where each inbox fits room, no fold is wide
pub fits_from_inboxes : (rule : MergeRule) (room : ℕ) (pairs : Pairs) → ((v : ℕ) (m : List ℕ) → inbox rule pairs v ≡ Some m → pair_size m ≤ room) → has_wide_fold rule room pairs ≡ false
fits_from_inboxes rule room pairs h =
    none_from_lookups (λ b. nat_lt room (pair_size b)) (grouped rule pairs) (IsMap-grouped rule pairs) (λ v m is. le-ltb room (pair_size m) (h v m (sym (lookup-grouped rule pairs v) ∙ is)))

-- a vertex above room that is found at a vid
pub wide_from_lookup : (room v : ℕ) (x : Vertex) (g : Graph) → lookup v g ≡ Some x → is_wide room x ≡ true → has_wide_vertex room g ≡ true
wide_from_lookup room v x g h wide = any_from_lookup (is_wide room) v x g h wide

-- where no vertex is above room, none that is found is
pub fits_at_lookup : (room v : ℕ) (x : Vertex) (g : Graph) → has_wide_vertex room g ≡ false → lookup v g ≡ Some x → is_wide room x ≡ false
fits_at_lookup room v x g none h = none_at_lookup (is_wide room) v x g none h

-- where none that is found is above room, none is
pub fits_from_lookups : (room : ℕ) (g : Graph) → IsMap g → ((v : ℕ) (x : Vertex) → lookup v g ≡ Some x → is_wide room x ≡ false) → has_wide_vertex room g ≡ false
fits_from_lookups room g m h = none_from_lookups (is_wide room) g m h
