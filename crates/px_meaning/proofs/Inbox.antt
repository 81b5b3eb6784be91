-- What was sent to a vid, and its fold: over lists joined, valid, and none just where nothing was sent.
use Rattle.std.proofs.Common.{◌≡◌, ℕ, List, [], ◌∷◌, ◌++◌, map, fold, false, ◌==◌, Option, Some, None, is_some, IsTrue, sym, ◌∙◌, ap, refl, arith, inl, inr}
use Rattle.std.specs.List.{reduce, list_all}
use Rattle.std.proofs.lemmas.Bool.{and_parts, and_from, or_left, eq-eqb, ne_eqb, cond_both, cases_eq}
use Rattle.std.proofs.lemmas.List.{map-append, append-nil}
use Rattle.std.proofs.lemmas.List.Elements.{filter-append}
use Rattle.std.proofs.lemmas.List.Folds.{list_all-append}
use Rattle.std.proofs.lemmas.List.Sums.{fold-append}
use Rattle.px_meaning.specs.Graph.{vids, lookup, IsMap}
use Rattle.px_meaning.specs.Merge.{MergeRule, MergeLaws, Pairs, AllValid, IsValidMessage, payloads, inbox, merged}
use Rattle.px_meaning.proofs.Ascending.{has, has-rest, has-above}
use Rattle.px_meaning.proofs.Maps.{lookup_here, lookup_past, is_some_none}

-- valid lists joined are valid
pub AllValid-append : (rule : MergeRule) (xs ys : Pairs) → AllValid rule xs → AllValid rule ys → AllValid rule (xs ++ ys)
AllValid-append rule xs ys hx hy = list_all-append (λ (e : ℕ × List ℕ). rule.valid e.1) xs ys ∙ and_from _ _ hx hy

-- and so are its parts
pub AllValid-parts : (rule : MergeRule) (xs ys : Pairs) → AllValid rule (xs ++ ys) → AllValid rule xs × AllValid rule ys
AllValid-parts rule xs ys h = and_parts _ _ (sym (list_all-append (λ (e : ℕ × List ℕ). rule.valid e.1) xs ys) ∙ h)

-- a pair of the vid at the head adds its payload
pub payloads_here : (e : ℕ × List ℕ) (es : Pairs) (v : ℕ) → e.0 ≡ v → payloads (e ∷ es) v ≡ e.1 ∷ payloads es v
payloads_here e es v h = rw (eq-eqb e.0 v h)

-- a pair of another vid adds nothing
pub payloads_past : (e : ℕ × List ℕ) (es : Pairs) (v : ℕ) → (e.0 ≡ v → ⊥) → payloads (e ∷ es) v ≡ payloads es v
payloads_past e es v h = rw (ne_eqb e.0 v h)

-- the payloads of two lists joined
pub payloads-append : (xs ys : Pairs) (v : ℕ) → payloads (xs ++ ys) v ≡ payloads xs v ++ payloads ys v
payloads-append xs ys v = ap (map (λ (e : ℕ × List ℕ). e.1)) (filter-append (λ (e : ℕ × List ℕ). e.0 == v) xs ys) ∙ map-append (λ (e : ℕ × List ℕ). e.1) _ _

-- valid pairs have valid payloads
pub payloads_valid : (rule : MergeRule) (pairs : Pairs) (v : ℕ) → AllValid rule pairs → IsTrue (list_all rule.valid (payloads pairs v))
payloads_valid rule [] v h = refl
payloads_valid rule (e ∷ es) v h =
    let parts = and_parts (rule.valid e.1) (list_all (λ x. rule.valid x.1) es) h in
    cond_both (e.0 == v) _ _ (λ l. IsTrue (list_all rule.valid (map (λ x. x.1) l)))
    (λ _. and_from _ _ parts.0 (payloads_valid rule es v parts.1)) (λ _. payloads_valid rule es v parts.1)

-- nothing was sent to a vid that the pairs don't name
pub payloads_none : (pairs : Pairs) (v : ℕ) → has v (vids pairs) ≡ false → payloads pairs v ≡ []
payloads_none [] v h = refl
payloads_none (e ∷ es) v h =
    elim (cases_eq v e.0) [
      | inl s ↦ absurd (cc (h, or_left (v == e.0) (has v (vids es)) (eq-eqb v e.0 s)))
      | inr d ↦ payloads_past e es v (λ t. d (sym t)) ∙ payloads_none es v (sym (has-rest v e.0 (vids es) d) ∙ h)
    ]

-- an inbox is there just where the pairs name the vid
pub is_some-inbox : (rule : MergeRule) (pairs : Pairs) (v : ℕ) → is_some (inbox rule pairs v) ≡ has v (vids pairs)
is_some-inbox rule [] v = refl
is_some-inbox rule (e ∷ es) v =
    elim (cases_eq v e.0) [
      | inl s ↦ ap (λ l. is_some (reduce rule.merge l)) (payloads_here e es v (sym s)) ∙ sym (or_left (v == e.0) _ (eq-eqb v e.0 s))
      | inr d ↦ ap (λ l. is_some (reduce rule.merge l)) (payloads_past e es v (λ t. d (sym t))) ∙ is_some-inbox rule es v ∙ sym (has-rest v e.0 (vids es) d)
    ]

-- a vid that the pairs do not name has none
pub inbox_none : (rule : MergeRule) (pairs : Pairs) (v : ℕ) → has v (vids pairs) ≡ false → inbox rule pairs v ≡ None
inbox_none rule pairs v h = is_some_none (inbox rule pairs v) (is_some-inbox rule pairs v ∙ h)

-- in a map each inbox is the one payload
pub inbox_of_map : (rule : MergeRule) (pairs : Pairs) (v : ℕ) → IsMap pairs → inbox rule pairs v ≡ lookup v pairs
inbox_of_map rule [] v m = refl
inbox_of_map rule (e ∷ es) v m =
    elim (cases_eq v e.0) [
      | inl s ↦ ap (reduce rule.merge) (payloads_here e es v (sym s) ∙ ap (λ l. e.1 ∷ l) (payloads_none es v (has-above v e.0 (vids es) (omega arith) m.0))) ∙ sym (lookup_here v e es s)
      | inr d ↦ ap (reduce rule.merge) (payloads_past e es v (λ t. d (sym t))) ∙ inbox_of_map rule es v m.1 ∙ sym (lookup_past v e es d)
    ]

module _ (rule : MergeRule) (laws : MergeLaws rule) where
  -- a fold of valid lists is valid
  pub fold_valid : (a : List ℕ) (xs : List (List ℕ)) → IsTrue (rule.valid a) → IsTrue (list_all rule.valid xs) → IsTrue (rule.valid (fold rule.merge a xs))
  fold_valid a [] ha hs = ha
  fold_valid a (x ∷ xs) ha hs =
      let parts = and_parts (rule.valid x) (list_all rule.valid xs) hs in
      fold_valid (rule.merge a x) xs (laws.closed a x ha parts.0) parts.1

  -- a fold from a merge is a merge with the fold of the rest
  pub fold_from_merge : (a b : List ℕ) (xs : List (List ℕ)) → IsTrue (rule.valid a) → IsTrue (rule.valid b) → IsTrue (list_all rule.valid xs) → fold rule.merge (rule.merge a b) xs ≡ rule.merge a (fold rule.merge b xs)
  fold_from_merge a b [] ha hb hs = refl
  fold_from_merge a b (x ∷ xs) ha hb hs =
      let parts = and_parts (rule.valid x) (list_all rule.valid xs) hs in
      ap (λ (c : List ℕ). fold rule.merge c xs) (sym (laws.associates a b x ha hb parts.0)) ∙ fold_from_merge a (rule.merge b x) xs ha (laws.closed b x hb parts.0) parts.1

  -- the fold of two lists joined is the merge of their folds
  pub reduce-append : (us ws : List (List ℕ)) → IsTrue (list_all rule.valid us) → IsTrue (list_all rule.valid ws) → reduce rule.merge (us ++ ws) ≡ merged rule (reduce rule.merge us) (reduce rule.merge ws)
  reduce-append [] ws hu hw = refl
  reduce-append (a ∷ us) [] hu hw = ap (λ (l : List (List ℕ)). Some (fold rule.merge a l)) (append-nil us)
  reduce-append (a ∷ us) (b ∷ ws) hu hw =
      let u = and_parts (rule.valid a) (list_all rule.valid us) hu in
      let w = and_parts (rule.valid b) (list_all rule.valid ws) hw in
      ap (λ (l : List ℕ). Some l) (fold-append rule.merge a us (b ∷ ws) ∙ fold_from_merge (fold rule.merge a us) b ws (fold_valid a us u.0 u.1) w.0 w.1)

  reduce_valid : (us : List (List ℕ)) → IsTrue (list_all rule.valid us) → IsValidMessage rule (reduce rule.merge us)
  reduce_valid [] h = tt
  reduce_valid (a ∷ us) h =
      let parts = and_parts (rule.valid a) (list_all rule.valid us) h in
      fold_valid a us parts.0 parts.1

  -- a vid's inbox in two lists joined is the merge of both, or the one that is there
  pub inbox-append : (xs ys : Pairs) (v : ℕ) → AllValid rule xs → AllValid rule ys → inbox rule (xs ++ ys) v ≡ merged rule (inbox rule xs v) (inbox rule ys v)
  inbox-append xs ys v hx hy =
      ap (reduce rule.merge) (payloads-append xs ys v) ∙ reduce-append (payloads xs v) (payloads ys v) (payloads_valid rule xs v hx) (payloads_valid rule ys v hy)

  -- the inbox of valid pairs is valid
  pub inbox_valid : (pairs : Pairs) (v : ℕ) → AllValid rule pairs → IsValidMessage rule (inbox rule pairs v)
  inbox_valid pairs v h = reduce_valid (payloads pairs v) (payloads_valid rule pairs v h)

  -- in either order
  pub merged_commutes : (a b : Option (List ℕ)) → IsValidMessage rule a → IsValidMessage rule b → merged rule a b ≡ merged rule b a
  merged_commutes None None ha hb = refl
  merged_commutes None (Some y) ha hb = refl
  merged_commutes (Some x) None ha hb = refl
  merged_commutes (Some x) (Some y) ha hb = ap (λ (l : List ℕ). Some l) (laws.commutes x y ha hb)

  -- lists of pairs may be joined in either order
  pub inbox-append_comm : (xs ys : Pairs) (v : ℕ) → AllValid rule xs → AllValid rule ys → inbox rule (xs ++ ys) v ≡ inbox rule (ys ++ xs) v
  inbox-append_comm xs ys v hx hy =
      inbox-append xs ys v hx hy ∙ merged_commutes (inbox rule xs v) (inbox rule ys v) (inbox_valid xs v hx) (inbox_valid ys v hy) ∙ sym (inbox-append ys xs v hy hx)
