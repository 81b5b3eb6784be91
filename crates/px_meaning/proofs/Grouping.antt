-- Pairs grouped by vid are a map, whose look-ups are the inboxes.
use Rattle.std.proofs.Common.{◌≡◌, ℕ, List, [], ◌++◌, true, Option, Some, None, is_some, unwrap_or, IsTrue, sym, ◌∙◌, ap, refl, subst, inl, inr}
use Rattle.std.proofs.lemmas.Bool.{true≢false, cases_Bool}
use Rattle.std.proofs.lemmas.List.Folds.{list_all-map}
use Rattle.px_meaning.specs.Graph.{vids, lookup, ascending, IsAscending, IsMap}
use Rattle.px_meaning.specs.Merge.{MergeRule, MergeLaws, Pairs, AllValid, IsValidMessage, inbox, merged, grouped}
use Rattle.px_meaning.proofs.Ascending.{has, has-ascending, IsAscending-ascending, all_from_members}
use Rattle.px_meaning.proofs.Each.{vids_of_each, lookup_of_each}
use Rattle.px_meaning.proofs.Maps.{lookup_none, maps_equal}
use Rattle.px_meaning.proofs.Inbox.{is_some-inbox, inbox_none, inbox_valid, inbox_of_map, inbox-append}

some_or : {X : Type 0} (o : Option X) (d : X) → is_some o ≡ true → Some (unwrap_or o d) ≡ o
some_or None d h = absurd (true≢false (sym h))
some_or (Some x) d h = refl

-- the keys are the vids that the pairs name
pub vids-grouped : (rule : MergeRule) (pairs : Pairs) → vids (grouped rule pairs) ≡ ascending (vids pairs)
vids-grouped rule pairs = vids_of_each (λ v. unwrap_or (inbox rule pairs v) []) (ascending (vids pairs))

-- grouped pairs are a map
pub IsMap-grouped : (rule : MergeRule) (pairs : Pairs) → IsMap (grouped rule pairs)
IsMap-grouped rule pairs = subst IsAscending (sym (vids-grouped rule pairs)) (IsAscending-ascending (vids pairs))

-- what it has at a vid is the vid's inbox
pub lookup-grouped : (rule : MergeRule) (pairs : Pairs) (v : ℕ) → lookup v (grouped rule pairs) ≡ inbox rule pairs v
lookup-grouped rule pairs v =
    elim (cases_Bool (has v (vids pairs))) [
      | inl named ↦ lookup_of_each (λ w. unwrap_or (inbox rule pairs w) []) v (ascending (vids pairs)) (has-ascending v (vids pairs) ∙ named) ∙ some_or (inbox rule pairs v) [] (is_some-inbox rule pairs v ∙ named)
      | inr other ↦ lookup_none v (grouped rule pairs) (ap (has v) (vids-grouped rule pairs) ∙ has-ascending v (vids pairs) ∙ other) ∙ sym (inbox_none rule pairs v other)
    ]

-- a map that has each vid's inbox is the grouped pairs
pub grouped_is : (rule : MergeRule) (pairs es : Pairs) → IsMap es → ((v : ℕ) → inbox rule pairs v ≡ lookup v es) → grouped rule pairs ≡ es
grouped_is rule pairs es m h = maps_equal (grouped rule pairs) es (IsMap-grouped rule pairs) m (λ v. lookup-grouped rule pairs v ∙ h v)

-- pairs with the same inboxes are grouped alike
pub grouped_by_inboxes : (rule : MergeRule) (xs ys : Pairs) → ((v : ℕ) → inbox rule xs v ≡ inbox rule ys v) → grouped rule xs ≡ grouped rule ys
grouped_by_inboxes rule xs ys h = grouped_is rule xs (grouped rule ys) (IsMap-grouped rule ys) (λ v. h v ∙ sym (lookup-grouped rule ys v))

-- pairs that are a map already are left as they are
pub grouped_same : (rule : MergeRule) (pairs : Pairs) → IsMap pairs → grouped rule pairs ≡ pairs
grouped_same rule pairs m = grouped_is rule pairs pairs m (λ v. inbox_of_map rule pairs v m)

-- so are grouped pairs
pub grouped-grouped : (rule : MergeRule) (pairs : Pairs) → grouped rule (grouped rule pairs) ≡ grouped rule pairs
grouped-grouped rule pairs = grouped_same rule (grouped rule pairs) (IsMap-grouped rule pairs)

-- and they have the inboxes that the pairs had
pub inbox-grouped : (rule : MergeRule) (pairs : Pairs) (v : ℕ) → inbox rule (grouped rule pairs) v ≡ inbox rule pairs v
inbox-grouped rule pairs v = inbox_of_map rule (grouped rule pairs) v (IsMap-grouped rule pairs) ∙ lookup-grouped rule pairs v

valid_or : (rule : MergeRule) (o : Option (List ℕ)) → is_some o ≡ true → IsValidMessage rule o → IsTrue (rule.valid (unwrap_or o []))
valid_or rule None h v = absurd (true≢false (sym h))
valid_or rule (Some x) h v = v

module _ (rule : MergeRule) (laws : MergeLaws rule) where
  -- valid pairs are grouped to valid ones
  pub AllValid-grouped : (pairs : Pairs) → AllValid rule pairs → AllValid rule (grouped rule pairs)
  AllValid-grouped pairs h =
      list_all-map (λ (e : ℕ × List ℕ). rule.valid e.1) (λ v. (v, unwrap_or (inbox rule pairs v) [])) (ascending (vids pairs))
      ∙ all_from_members (λ v. rule.valid (unwrap_or (inbox rule pairs v) [])) (ascending (vids pairs))
      (λ v m. valid_or rule (inbox rule pairs v) (is_some-inbox rule pairs v ∙ sym (has-ascending v (vids pairs)) ∙ m) (inbox_valid rule laws pairs v h))

  -- parts of a list of pairs may be grouped before the whole
  pub grouped-append_left : (xs ys : Pairs) → AllValid rule xs → AllValid rule ys → grouped rule (grouped rule xs ++ ys) ≡ grouped rule (xs ++ ys)
  grouped-append_left xs ys hx hy =
      grouped_by_inboxes rule (grouped rule xs ++ ys) (xs ++ ys) (λ v. inbox-append rule laws (grouped rule xs) ys v (AllValid-grouped xs hx) hy
      ∙ ap (λ o. merged rule o (inbox rule ys v)) (inbox-grouped rule xs v) ∙ sym (inbox-append rule laws xs ys v hx hy))

  -- so may the second part
  pub grouped-append_right : (xs ys : Pairs) → AllValid rule xs → AllValid rule ys → grouped rule (xs ++ grouped rule ys) ≡ grouped rule (xs ++ ys)
  grouped-append_right xs ys hx hy =
      grouped_by_inboxes rule (xs ++ grouped rule ys) (xs ++ ys) (λ v. inbox-append rule laws xs (grouped rule ys) v hx (AllValid-grouped ys hy)
      ∙ ap (merged rule (inbox rule xs v)) (inbox-grouped rule ys v) ∙ sym (inbox-append rule laws xs ys v hx hy))
