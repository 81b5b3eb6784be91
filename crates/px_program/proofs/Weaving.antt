-- Lists woven together are a rearrangement of the lists joined.
use Rattle.std.proofs.Common.{◌≡◌, ◌≤◌, ℕ, zero, suc, List, [], ◌∷◌, ◌++◌, length, Some, Contains, unwrap_or, IsPermutation, sym, ◌∙◌, ap, refl, subst}
use Rattle.std.proofs.lemmas.List.{append_assoc}
use Rattle.std.proofs.lemmas.List.Sorted.{IsPermutation-refl, IsPermutation-sym, IsPermutation-trans, IsPermutation-append_left, IsPermutation-append_right, IsPermutation-append_comm}
use Rattle.px_meaning.specs.Merge.{MergeRule, MergeLaws, Pairs, AllValid, grouped}
use Rattle.px_meaning.specs.Graph.{lookup}
use Rattle.px_meaning.proofs.Grouping.{lookup-grouped}
use Rattle.px_meaning.proofs.Inbox.{AllValid-append}
use Rattle.px_meaning.proofs.Rearranged.{grouped-IsPermutation, grouped_in_parts, payload_fits_fold}
use Rattle.px_program.specs.Regrouping.{joined, first_at, without_first, woven, AlikeInTurn}

one_taken : (i : ℕ) (ls : List Pairs) → IsPermutation (first_at i ls ++ joined (without_first i ls)) (joined ls)
one_taken zero [] = IsPermutation-refl []
one_taken (suc i) [] = IsPermutation-refl []
one_taken zero ([] ∷ ls) = IsPermutation-refl (joined ls)
one_taken zero ((e ∷ l) ∷ ls) = IsPermutation-refl (e ∷ (l ++ joined ls))
one_taken (suc i) (l ∷ ls) =
    let f : Pairs = first_at i ls in
    let r : Pairs = joined (without_first i ls) in
    let moved : IsPermutation ((f ++ l) ++ r) ((l ++ f) ++ r) = IsPermutation-append_left r (f ++ l) (l ++ f) (IsPermutation-append_comm f l) in
    let taken : IsPermutation (l ++ (f ++ r)) (l ++ joined ls) = IsPermutation-append_right l (f ++ r) (joined ls) (one_taken i ls) in
    let front : IsPermutation (f ++ (l ++ r)) ((l ++ f) ++ r) = subst (λ (x : Pairs). IsPermutation x ((l ++ f) ++ r)) (append_assoc f l r) moved in
    let both : IsPermutation (f ++ (l ++ r)) (l ++ (f ++ r)) = subst (λ (x : Pairs). IsPermutation (f ++ (l ++ r)) x) (append_assoc l f r) front in
    IsPermutation-trans (f ++ (l ++ r)) (l ++ (f ++ r)) (l ++ joined ls) both taken

pub woven_is : (picks : List ℕ) (ls : List Pairs) → IsPermutation (woven picks ls) (joined ls)
woven_is [] ls = IsPermutation-refl (joined ls)
woven_is (i ∷ picks) ls =
    let f : Pairs = first_at i ls in
    let more : List Pairs = without_first i ls in
    IsPermutation-trans (f ++ woven picks more) (f ++ joined more) (joined ls) (IsPermutation-append_right f (woven picks more) (joined more) (woven_is picks more)) (one_taken i ls)

module _ (rule : MergeRule) (laws : MergeLaws rule) where
  valid_pieces : (ls ms : List Pairs) → AlikeInTurn rule ls ms → AllValid rule (joined ls)
  valid_pieces [] [] h = refl
  valid_pieces [] (m ∷ ms) h = absurd h
  valid_pieces (l ∷ ls) [] h = absurd h
  valid_pieces (l ∷ ls) (m ∷ ms) h = AllValid-append rule l (joined ls) h.1 (valid_pieces ls ms h.3)

  valid_wholes : (ls ms : List Pairs) → AlikeInTurn rule ls ms → AllValid rule (joined ms)
  valid_wholes [] [] h = refl
  valid_wholes [] (m ∷ ms) h = absurd h
  valid_wholes (l ∷ ls) [] h = absurd h
  valid_wholes (l ∷ ls) (m ∷ ms) h = AllValid-append rule m (joined ms) h.2 (valid_wholes ls ms h.3)

  joined_alike : (ls ms : List Pairs) → AlikeInTurn rule ls ms → grouped rule (joined ls) ≡ grouped rule (joined ms)
  joined_alike [] [] h = refl
  joined_alike [] (m ∷ ms) h = absurd h
  joined_alike (l ∷ ls) [] h = absurd h
  joined_alike (l ∷ ls) (m ∷ ms) h =
      sym (grouped_in_parts rule laws l (joined ls) h.1 (valid_pieces ls ms h.3))
      ∙ ap (λ (x : Pairs). grouped rule (x ++ grouped rule (joined ls))) h.0
      ∙ ap (λ (x : Pairs). grouped rule (grouped rule m ++ x)) (joined_alike ls ms h.3)
      ∙ grouped_in_parts rule laws m (joined ms) h.2 (valid_wholes ls ms h.3)

  pub woven_alike : (picks : List ℕ) (ls ms : List Pairs) → AlikeInTurn rule ls ms → grouped rule (woven picks ls) ≡ grouped rule (joined ms)
  woven_alike picks ls ms h =
      sym (grouped-IsPermutation rule laws (joined ls) (woven picks ls) (IsPermutation-sym (woven picks ls) (joined ls) (woven_is picks ls)) (valid_pieces ls ms h)) ∙ joined_alike ls ms h

-- no payload is longer than the fold that is found
pub payload_below_fold : (rule : MergeRule) → MergeLaws rule → (l : Pairs) (v : ℕ) (payload fold : List ℕ) → AllValid rule l → Contains l (v, payload) → lookup v (grouped rule l) ≡ Some fold → length payload ≤ length fold
payload_below_fold rule laws l v payload fold valid c is =
    subst (λ o. length payload ≤ length (unwrap_or o [])) (sym (lookup-grouped rule l v) ∙ is) (payload_fits_fold rule laws l v payload valid c)
