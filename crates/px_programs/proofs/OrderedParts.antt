-- Lists in order from parts in order.
use Rattle.std.proofs.Common.{◌≡◌, ℕ, Bool, true, false, not, IsTrue, List, [], ◌∷◌, ◌++◌, refl, sym, ap, ◌∙◌, append_assoc}
use Rattle.std.specs.Cmp.{first_so, second_so}
use Rattle.std.specs.Cmp.Derive.{both_true}
use Rattle.std.specs.List.{list_all}
use Rattle.std.proofs.lemmas.Bool.{not-true}
use Rattle.std.proofs.lemmas.List.{append-nil}
use Rattle.std.proofs.lemmas.List.Folds.{list_all-append}
use Rattle.px_programs.specs.InOrder.{is_after, place, in_order, is_before_all, is_ordered, after_not_before, after_upto, before_chain, place_after, place_here}

-- none of these comes after it
abbrev pub are_upto : List ℕ → List (List ℕ) → Bool
are_upto e fs = list_all (λ f. not (is_after f e)) fs

-- all of these come after it
abbrev pub are_after : List ℕ → List (List ℕ) → Bool
are_after e fs = list_all (λ f. is_after f e) fs

-- it comes after all of these
abbrev follows_all : List ℕ → List (List ℕ) → Bool
follows_all e fs = list_all (λ f. is_after e f) fs

place_least : (e : List ℕ) (fs : List (List ℕ)) → IsTrue (is_before_all e fs) → place e fs ≡ e ∷ fs
place_least e [] all = refl
place_least e (f ∷ fs) all = place_here e f fs (not-true (is_after e f) (first_so (not (is_after e f)) _ all))

place_behind : (e : List ℕ) (fs gs : List (List ℕ)) → IsTrue (follows_all e fs) → place e (fs ++ gs) ≡ fs ++ place e gs
place_behind e [] gs all = refl
place_behind e (f ∷ fs) gs all =
    place_after e f (fs ++ gs) (first_so (is_after e f) _ all) ∙ ap (λ (l : List (List ℕ)). f ∷ l) (place_behind e fs gs (second_so (is_after e f) _ all))

front_by : (e f : List ℕ) (fs gs : List (List ℕ)) (t : Bool) → is_after e f ≡ t → place e (fs ++ gs) ≡ place e fs ++ gs → place e (f ∷ fs ++ gs) ≡ place e (f ∷ fs) ++ gs
front_by e f fs gs true h rest =
    place_after e f (fs ++ gs) h ∙ ap (λ (l : List (List ℕ)). f ∷ l) rest ∙ ap (λ (l : List (List ℕ)). l ++ gs) (sym (place_after e f fs h))
front_by e f fs gs false h rest = place_here e f (fs ++ gs) h ∙ ap (λ (l : List (List ℕ)). l ++ gs) (sym (place_here e f fs h))

place_front : (e : List ℕ) (fs gs : List (List ℕ)) → IsTrue (is_before_all e gs) → place e (fs ++ gs) ≡ place e fs ++ gs
place_front e [] gs all = place_least e gs all
place_front e (f ∷ fs) gs all = front_by e f fs gs (is_after e f) refl (place_front e fs gs all)

pub in_order_same : (es : List (List ℕ)) → IsTrue (is_ordered es) → in_order es ≡ es
in_order_same [] all = refl
in_order_same (e ∷ es) all =
    ap (place e) (in_order_same es (second_so (is_before_all e es) _ all)) ∙ place_least e es (first_so (is_before_all e es) _ all)

-- what comes after one comes after all that are not after that
follows_upto : (b e : List ℕ) (fs : List (List ℕ)) → is_after b e ≡ true → IsTrue (are_upto e fs) → IsTrue (follows_all b (fs ++ e ∷ []))
follows_upto b e [] h all = both_true h refl
follows_upto b e (f ∷ fs) h all =
    both_true (after_upto b f e h (not-true (is_after f e) (first_so (not (is_after f e)) _ all))) (follows_upto b e fs h (second_so (not (is_after f e)) _ all))

-- those after the last one stay behind it
backs : (e : List ℕ) (fs bs : List (List ℕ)) → IsTrue (is_ordered (fs ++ e ∷ [])) → IsTrue (are_upto e fs) → IsTrue (is_ordered bs) → IsTrue (are_after e bs)
    → in_order (bs ++ (fs ++ e ∷ [])) ≡ (fs ++ e ∷ []) ++ bs
backs e fs [] ordered all bs_ordered after = in_order_same (fs ++ e ∷ []) ordered ∙ sym (append-nil (fs ++ e ∷ []))
backs e fs (b ∷ bs) ordered all bs_ordered after =
    ap (place b) (backs e fs bs ordered all (second_so (is_before_all b bs) _ bs_ordered) (second_so (is_after b e) _ after))
    ∙ place_behind b (fs ++ e ∷ []) bs (follows_upto b e fs (first_so (is_after b e) _ after) all)
    ∙ ap (λ (l : List (List ℕ)). (fs ++ e ∷ []) ++ l) (place_least b bs (first_so (is_before_all b bs) _ bs_ordered))

before_after : (e : List ℕ) (bs : List (List ℕ)) → IsTrue (are_after e bs) → IsTrue (is_before_all e bs)
before_after e [] after = refl
before_after e (b ∷ bs) after =
    both_true (ap not (after_not_before b e (first_so (is_after b e) _ after))) (before_after e bs (second_so (is_after b e) _ after))

-- those that do not come after the last one are put in order without it
fronts : (e : List ℕ) (xs ms fs bs : List (List ℕ)) → in_order ms ≡ in_order fs ++ e ∷ bs → IsTrue (are_upto e xs) → IsTrue (is_before_all e bs)
    → in_order (xs ++ ms) ≡ in_order (xs ++ fs) ++ e ∷ bs
fronts e [] ms fs bs is all before = is
fronts e (x ∷ xs) ms fs bs is all before =
    let first = not-true (is_after x e) (first_so (not (is_after x e)) _ all) in
    ap (place x) (fronts e xs ms fs bs is (second_so (not (is_after x e)) _ all) before)
    ∙ place_front x (in_order (xs ++ fs)) (e ∷ bs) (both_true (ap not first) (before_chain x e bs first before))

-- the last of some in order splits others in order into those that stay before it and those behind it
pub in_order_split : (e : List ℕ) (xs bs fs : List (List ℕ)) → IsTrue (are_upto e xs) → IsTrue (are_after e bs) → IsTrue (is_ordered bs)
    → IsTrue (is_ordered fs) → IsTrue (are_upto e fs) → IsTrue (is_ordered (fs ++ e ∷ []))
    → in_order ((xs ++ bs) ++ (fs ++ e ∷ [])) ≡ in_order (xs ++ fs) ++ e ∷ bs
in_order_split e xs bs fs upto after bs_ordered fs_ordered fs_upto ordered =
    let back = backs e fs bs ordered fs_upto bs_ordered after in
    let is = back ∙ append_assoc fs (e ∷ []) bs ∙ ap (λ (l : List (List ℕ)). l ++ e ∷ bs) (sym (in_order_same fs fs_ordered)) in
    ap in_order (append_assoc xs bs (fs ++ e ∷ [])) ∙ fronts e xs (bs ++ (fs ++ e ∷ [])) fs bs is upto (before_after e bs after)

-- parts of what is in order

pub ordered_front : (es fs : List (List ℕ)) → IsTrue (is_ordered (es ++ fs)) → IsTrue (is_ordered es)
ordered_front [] fs all = refl
ordered_front (e ∷ es) fs all =
    let first = sym (list_all-append (λ f. not (is_after e f)) es fs) ∙ first_so (is_before_all e (es ++ fs)) _ all in
    both_true (first_so (is_before_all e es) _ first) (ordered_front es fs (second_so (is_before_all e (es ++ fs)) _ all))

pub ordered_back : (es fs : List (List ℕ)) → IsTrue (is_ordered (es ++ fs)) → IsTrue (is_ordered fs)
ordered_back [] fs all = all
ordered_back (e ∷ es) fs all = ordered_back es fs (second_so (is_before_all e (es ++ fs)) _ all)

pub ordered_upto : (fs : List (List ℕ)) (e : List ℕ) → IsTrue (is_ordered (fs ++ e ∷ [])) → IsTrue (are_upto e fs)
ordered_upto [] e all = refl
ordered_upto (f ∷ fs) e all =
    let first = sym (list_all-append (λ g. not (is_after f g)) fs (e ∷ [])) ∙ first_so (is_before_all f (fs ++ e ∷ [])) _ all in
    both_true (first_so (not (is_after f e)) true (second_so (is_before_all f fs) _ first)) (ordered_upto fs e (second_so (is_before_all f (fs ++ e ∷ [])) _ all))
