-- Byte strings in byte order. Equal ones stay beside each other.
use Rattle.std.specs.Prelude.{◌≡◌, ℕ, suc, Bool, true, false, not, ◌&&◌, if◌then◌else◌, IsTrue, List, [], ◌∷◌, ◌++◌, length}
use Rattle.std.specs.declared.cmp.Ordering.{Ordering}
use Rattle.std.specs.declared.cmp.Ordering.TheVariants.{Less, Equal, Greater}
use Rattle.std.specs.Ordering.{nat_cmp, ordering_reverse, is_eq, is_gt}
use Rattle.std.specs.Cmp.{first_so, second_so}
use Rattle.std.specs.Cmp.Derive.{both_true}
use Rattle.std.specs.Cmp.Lexicographic.{slice_cmp, same_text, texts_ties}
use Rattle.std.specs.List.{list_all}
use Rattle.std.proofs.Common.{refl, sym, ap, ◌∙◌}
use Rattle.std.proofs.lemmas.Bool.{false≢true, not-true}
use Rattle.std.proofs.lemmas.Cmp.{nat_list_cmp_total, upto}
use Rattle.std.proofs.lemmas.List.{append-nil, append_assoc}

-- the first comes after the second
abbrev pub is_after : List ℕ → List ℕ → Bool
is_after e f = is_gt (slice_cmp nat_cmp e f)

-- one more, before the first that it does not come after
abbrev pub place : List ℕ → List (List ℕ) → List (List ℕ)
place e [] = e ∷ []
place e (f ∷ fs) = if is_after e f then f ∷ place e fs else e ∷ f ∷ fs

-- all of them, in order
abbrev pub in_order : List (List ℕ) → List (List ℕ)
in_order [] = []
in_order (e ∷ es) = place e (in_order es)

-- it comes after none of these
abbrev pub is_before_all : List ℕ → List (List ℕ) → Bool
is_before_all e fs = list_all (λ f. not (is_after e f)) fs

-- none comes after a later one
abbrev pub is_ordered : List (List ℕ) → Bool
is_ordered [] = true
is_ordered (e ∷ es) = is_before_all e es && is_ordered es

-- the order

greater : (r : Ordering) → is_gt r ≡ true → r ≡ Greater
greater Less h = absurd (false≢true h)
greater Equal h = absurd (false≢true h)
greater Greater h = refl

pub after_not_before : (e f : List ℕ) → is_after e f ≡ true → is_after f e ≡ false
after_not_before e f h = ap is_gt (nat_list_cmp_total.antisymm f e ∙ ap ordering_reverse (greater (slice_cmp nat_cmp e f) h))

same_by : (e f : List ℕ) (r : Ordering) → slice_cmp nat_cmp e f ≡ r → is_after e f ≡ false → is_after f e ≡ false → e ≡ f
same_by e f Less r h k = absurd (false≢true (sym k ∙ ap is_gt (nat_list_cmp_total.antisymm f e ∙ ap ordering_reverse r)))
same_by e f Equal r h k = same_text e f (sym (texts_ties e f ∙ ap is_eq r))
same_by e f Greater r h k = absurd (false≢true (sym h ∙ ap is_gt r))

-- what the order does not tell apart is one
neither_after : (e f : List ℕ) → is_after e f ≡ false → is_after f e ≡ false → e ≡ f
neither_after e f h k = same_by e f (slice_cmp nat_cmp e f) refl h k

pub upto_upto : (e f g : List ℕ) → is_after e f ≡ false → is_after f g ≡ false → is_after e g ≡ false
upto_upto e f g h k = upto nat_list_cmp_total e f g h k

after_by : (e f g : List ℕ) (t : Bool) → is_after e f ≡ t → is_after e g ≡ true → is_after f g ≡ false → is_after e f ≡ true
after_by e f g true t h k = t
after_by e f g false t h k = absurd (false≢true (sym (upto_upto e f g t k) ∙ h))

-- what comes after another comes after all before that
pub after_upto : (e f g : List ℕ) → is_after e g ≡ true → is_after f g ≡ false → is_after e f ≡ true
after_upto e f g h k = after_by e f g (is_after e f) refl h k

-- places

pub place_after : (e f : List ℕ) (fs : List (List ℕ)) → is_after e f ≡ true → place e (f ∷ fs) ≡ f ∷ place e fs
place_after e f fs h = ap (λ (t : Bool). if t then f ∷ place e fs else e ∷ f ∷ fs) h

pub place_here : (e f : List ℕ) (fs : List (List ℕ)) → is_after e f ≡ false → place e (f ∷ fs) ≡ e ∷ f ∷ fs
place_here e f fs h = ap (λ (t : Bool). if t then f ∷ place e fs else e ∷ f ∷ fs) h

-- two that are both placed in front
fronts : (e f : List ℕ) (l : List (List ℕ)) (s t : Bool) → is_after e f ≡ s → is_after f e ≡ t → place e l ≡ e ∷ l → place f l ≡ f ∷ l → place e (f ∷ l) ≡ place f (e ∷ l)
fronts e f l true t s h p q = place_after e f l s ∙ ap (λ (x : List (List ℕ)). f ∷ x) p ∙ sym (place_here f e l (after_not_before e f s))
fronts e f l false true s h p q = place_here e f l s ∙ sym (place_after f e l h ∙ ap (λ (x : List (List ℕ)). e ∷ x) q)
fronts e f l false false s h p q = let is = neither_after e f s h in λ i. place (is i) (sym is i ∷ l)

places_by : (e f g : List ℕ) (gs : List (List ℕ)) (s t : Bool) → is_after e g ≡ s → is_after f g ≡ t → place e (place f gs) ≡ place f (place e gs)
    → place e (place f (g ∷ gs)) ≡ place f (place e (g ∷ gs))
places_by e f g gs true true s t rest =
    ap (place e) (place_after f g gs t) ∙ place_after e g (place f gs) s ∙ ap (λ (x : List (List ℕ)). g ∷ x) rest
    ∙ sym (ap (place f) (place_after e g gs s) ∙ place_after f g (place e gs) t)
places_by e f g gs true false s t rest =
    ap (place e) (place_here f g gs t) ∙ place_after e f (g ∷ gs) (after_upto e f g s t) ∙ ap (λ (x : List (List ℕ)). f ∷ x) (place_after e g gs s)
    ∙ sym (ap (place f) (place_after e g gs s) ∙ place_here f g (place e gs) t)
places_by e f g gs false true s t rest =
    ap (place e) (place_after f g gs t) ∙ place_here e g (place f gs) s
    ∙ sym (ap (place f) (place_here e g gs s) ∙ place_after f e (g ∷ gs) (after_upto f e g t s) ∙ ap (λ (x : List (List ℕ)). e ∷ x) (place_after f g gs t))
places_by e f g gs false false s t rest =
    ap (place e) (place_here f g gs t) ∙ fronts e f (g ∷ gs) (is_after e f) (is_after f e) refl refl (place_here e g gs s) (place_here f g gs t)
    ∙ sym (ap (place f) (place_here e g gs s))

places_commute : (e f : List ℕ) (gs : List (List ℕ)) → place e (place f gs) ≡ place f (place e gs)
places_commute e f [] = fronts e f [] (is_after e f) (is_after f e) refl refl refl refl
places_commute e f (g ∷ gs) = places_by e f g gs (is_after e g) (is_after f g) refl refl (places_commute e f gs)

-- one of many may be placed last
in_order_middle : (es : List (List ℕ)) (f : List ℕ) (fs : List (List ℕ)) → in_order (es ++ f ∷ fs) ≡ place f (in_order (es ++ fs))
in_order_middle [] f fs = refl
in_order_middle (e ∷ es) f fs = ap (place e) (in_order_middle es f fs) ∙ places_commute e f (in_order (es ++ fs))

pub in_order_commutes : (es fs : List (List ℕ)) → in_order (es ++ fs) ≡ in_order (fs ++ es)
in_order_commutes [] fs = ap in_order (sym (append-nil fs))
in_order_commutes (e ∷ es) fs = ap (place e) (in_order_commutes es fs) ∙ sym (in_order_middle fs e es)

placed_by : (e f : List ℕ) (es fs : List (List ℕ)) (t : Bool) → is_after e f ≡ t → in_order (place e es ++ fs) ≡ place e (in_order (es ++ fs))
    → in_order (place e (f ∷ es) ++ fs) ≡ place e (in_order (f ∷ es ++ fs))
placed_by e f es fs true h rest =
    ap (λ (l : List (List ℕ)). in_order (l ++ fs)) (place_after e f es h) ∙ ap (place f) rest ∙ places_commute f e (in_order (es ++ fs))
placed_by e f es fs false h rest = ap (λ (l : List (List ℕ)). in_order (l ++ fs)) (place_here e f es h)

in_order_placed : (e : List ℕ) (es fs : List (List ℕ)) → in_order (place e es ++ fs) ≡ place e (in_order (es ++ fs))
in_order_placed e [] fs = refl
in_order_placed e (f ∷ es) fs = placed_by e f es fs (is_after e f) refl (in_order_placed e es fs)

-- a part may be put in order before the whole
in_order_twice : (es fs : List (List ℕ)) → in_order (in_order es ++ fs) ≡ in_order (es ++ fs)
in_order_twice [] fs = refl
in_order_twice (e ∷ es) fs = in_order_placed e (in_order es) fs ∙ ap (place e) (in_order_twice es fs)

pub in_order_associates : (es fs gs : List (List ℕ)) → in_order (es ++ in_order (fs ++ gs)) ≡ in_order (in_order (es ++ fs) ++ gs)
in_order_associates es fs gs =
    in_order_commutes es (in_order (fs ++ gs)) ∙ in_order_twice (fs ++ gs) es ∙ in_order_commutes (fs ++ gs) es
    ∙ ap in_order (sym (append_assoc es fs gs)) ∙ sym (in_order_twice (es ++ fs) gs)

-- what holds of all

placed_all_by : (P : List ℕ → Bool) (e f : List ℕ) (fs : List (List ℕ)) (t : Bool) → is_after e f ≡ t → IsTrue (P e) → IsTrue (P f) → IsTrue (list_all P fs) → IsTrue (list_all P (place e fs))
    → IsTrue (list_all P (if t then f ∷ place e fs else e ∷ f ∷ fs))
placed_all_by P e f fs true h p q all rest = both_true q rest
placed_all_by P e f fs false h p q all rest = both_true p (both_true q all)

placed_all : (P : List ℕ → Bool) (e : List ℕ) (fs : List (List ℕ)) → IsTrue (P e) → IsTrue (list_all P fs) → IsTrue (list_all P (place e fs))
placed_all P e [] p all = both_true p refl
placed_all P e (f ∷ fs) p all =
    placed_all_by P e f fs (is_after e f) refl p (first_so (P f) _ all) (second_so (P f) _ all) (placed_all P e fs p (second_so (P f) _ all))

-- what is before all of what another is before
pub before_chain : (e f : List ℕ) (gs : List (List ℕ)) → is_after e f ≡ false → IsTrue (is_before_all f gs) → IsTrue (is_before_all e gs)
before_chain e f [] h all = refl
before_chain e f (g ∷ gs) h all =
    let first = upto_upto e f g h (not-true (is_after f g) (first_so (not (is_after f g)) _ all)) in
    both_true (ap not first) (before_chain e f gs h (second_so (not (is_after f g)) _ all))

place_ordered_by : (e f : List ℕ) (fs : List (List ℕ)) (t : Bool) → is_after e f ≡ t → IsTrue (is_ordered (f ∷ fs)) → IsTrue (is_ordered (place e fs))
    → IsTrue (is_ordered (if t then f ∷ place e fs else e ∷ f ∷ fs))
place_ordered_by e f fs true h all rest =
    both_true (placed_all (λ g. not (is_after f g)) e fs (ap not (after_not_before e f h)) (first_so (is_before_all f fs) _ all)) rest
place_ordered_by e f fs false h all rest =
    both_true (both_true (ap not h) (before_chain e f fs h (first_so (is_before_all f fs) _ all))) all

place_ordered : (e : List ℕ) (fs : List (List ℕ)) → IsTrue (is_ordered fs) → IsTrue (is_ordered (place e fs))
place_ordered e [] all = refl
place_ordered e (f ∷ fs) all = place_ordered_by e f fs (is_after e f) refl all (place_ordered e fs (second_so (is_before_all f fs) _ all))

pub in_order_ordered : (es : List (List ℕ)) → IsTrue (is_ordered (in_order es))
in_order_ordered [] = refl
in_order_ordered (e ∷ es) = place_ordered e (in_order es) (in_order_ordered es)

pub in_order_all : (P : List ℕ → Bool) (es : List (List ℕ)) → IsTrue (list_all P es) → IsTrue (list_all P (in_order es))
in_order_all P [] all = refl
in_order_all P (e ∷ es) all = placed_all P e (in_order es) (first_so (P e) _ all) (in_order_all P es (second_so (P e) _ all))

-- their number stays

length_if : (t : Bool) (e f : List ℕ) (l fs : List (List ℕ)) → length l ≡ suc (length fs) → length (if t then f ∷ l else e ∷ f ∷ fs) ≡ suc (suc (length fs))
length_if true e f l fs h = ap suc h
length_if false e f l fs h = refl

length-place : (e : List ℕ) (fs : List (List ℕ)) → length (place e fs) ≡ suc (length fs)
length-place e [] = refl
length-place e (f ∷ fs) = length_if (is_after e f) e f (place e fs) fs (length-place e fs)

pub length-in_order : (es : List (List ℕ)) → length (in_order es) ≡ length es
length-in_order [] = refl
length-in_order (e ∷ es) = length-place e (in_order es) ∙ ap suc (length-in_order es)
