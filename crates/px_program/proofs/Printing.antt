-- Steps of a loop that prints a list.
use Rattle.std.proofs.Common.{◌≡◌, ℕ, ◌+◌, List, [], ◌∷◌, ◌++◌, Some, take, drop, refl, sym, ◌∙◌, ap, subst, append_assoc}
use Rattle.std.specs.Prelude.{flat_map, slice_get}
use Rattle.std.proofs.lemmas.Grind.{flat_map-append}
use Rattle.std.proofs.lemmas.List.{append-nil, take_more, flat_map_more, take-append-drop, drop_more}
use Rattle.std.proofs.lemmas.Option.{slice_get_within, get_or_from_slice_get}
use Rattle.px_program.proofs.Phases.{begins_later}

module _ {A : Type 0} (f : A → List ℕ) (es : List A) (i : ℕ) (e : A) (h : slice_get es i ≡ Some e) where
  -- the texts of one thing more
  pub texts_more : (before : List ℕ) → (before ++ flat_map f (take i es)) ++ f e ≡ before ++ flat_map f (take (i + 1) es)
  texts_more before =
      flat_map_more f before (take i es) e
      ∙ ap (λ (x : A). before ++ flat_map f (take i es ++ x ∷ [])) (sym (get_or_from_slice_get es i e e h))
      ∙ ap (λ (l : List A). before ++ flat_map f l) (sym (take_more es i e (slice_get_within es i e h)))

  split_at : es ≡ take i es ++ e ∷ drop (i + 1) es
  split_at =
      sym (take-append-drop i es) ∙ ap (λ (l : List A). take i es ++ l) (drop_more es i e (slice_get_within es i e h) ∙ ap (λ (x : A). x ∷ drop (i + 1) es) (get_or_from_slice_get es i e e h))

  -- a part of one thing's text, behind those before it, is a part of all
  pub texts_part : (now : List ℕ → Type 0) (before : List ℕ) → (n : ℕ) × now ((before ++ flat_map f (take i es)) ++ take n (f e)) → (k : ℕ) × now (before ++ take k (flat_map f es))
  texts_part now before part =
      let front = flat_map f (take i es) in
      let rest = flat_map f (drop (i + 1) es) in
      let later = begins_later before front (f e) rest ((before ++ front) ++ take part.0 (f e)) (part.0, refl) in
      let all : flat_map f es ≡ front ++ (f e ++ rest) = ap (flat_map f) split_at ∙ flat_map-append f (take i es) (e ∷ drop (i + 1) es) in
      (later.0, subst (λ (l : List ℕ). now (before ++ take later.0 l)) (sym all) (subst now later.1 part.1))

-- a part of a text's front is a part of the text
pub in_front : (now : List ℕ → Type 0) (h x y : List ℕ) → (k : ℕ) × now (h ++ take k x) → (j : ℕ) × now (h ++ take j (x ++ y))
in_front now h x y part =
    let later = begins_later h [] x y (h ++ take part.0 x) (part.0, ap (λ (l : List ℕ). l ++ take part.0 x) (sym (append-nil h))) in
    (later.0, subst now later.1 part.1)

-- and so is a part of what comes behind the front
pub behind : (now : List ℕ → Type 0) (h x y : List ℕ) → (k : ℕ) × now ((h ++ x) ++ take k y) → (j : ℕ) × now (h ++ take j (x ++ y))
behind now h x y part =
    let later = begins_later h x y [] ((h ++ x) ++ take part.0 y) (part.0, refl) in
    (later.0, subst (λ (l : List ℕ). now (h ++ take later.0 l)) (ap (λ (l : List ℕ). x ++ l) (append-nil y)) (subst now later.1 part.1))

-- a part of one of the five pieces of a line, behind those before it, is a part of the line
module _ (now : List ℕ → Type 0) (h a b c d e : List ℕ) where
  pub of_first : (k : ℕ) × now (h ++ take k a) → (j : ℕ) × now (h ++ take j (a ++ b ++ c ++ d ++ e))
  of_first part = in_front now h _ e (in_front now h _ d (in_front now h _ c (in_front now h a b part)))

  pub of_second : (k : ℕ) × now ((h ++ a) ++ take k b) → (j : ℕ) × now (h ++ take j (a ++ b ++ c ++ d ++ e))
  of_second part = in_front now h _ e (in_front now h _ d (in_front now h _ c (behind now h a b part)))

  pub of_third : (k : ℕ) × now (((h ++ a) ++ b) ++ take k c) → (j : ℕ) × now (h ++ take j (a ++ b ++ c ++ d ++ e))
  of_third part =
      let here : (k : ℕ) × now ((h ++ (a ++ b)) ++ take k c) = (part.0, subst (λ (l : List ℕ). now (l ++ take part.0 c)) (append_assoc h a b) part.1) in
      in_front now h _ e (in_front now h _ d (behind now h (a ++ b) c here))

  pub of_fourth : (k : ℕ) × now ((((h ++ a) ++ b) ++ c) ++ take k d) → (j : ℕ) × now (h ++ take j (a ++ b ++ c ++ d ++ e))
  of_fourth part =
      let front = ap (λ (l : List ℕ). l ++ c) (append_assoc h a b) ∙ append_assoc h (a ++ b) c in
      in_front now h _ e (behind now h (a ++ b ++ c) d (part.0, subst (λ (l : List ℕ). now (l ++ take part.0 d)) front part.1))

  pub of_fifth : (k : ℕ) × now (((((h ++ a) ++ b) ++ c) ++ d) ++ take k e) → (j : ℕ) × now (h ++ take j (a ++ b ++ c ++ d ++ e))
  of_fifth part =
      let front = ap (λ (l : List ℕ). (l ++ c) ++ d) (append_assoc h a b) ∙ ap (λ (l : List ℕ). l ++ d) (append_assoc h (a ++ b) c) ∙ append_assoc h (a ++ b ++ c) d in
      behind now h (a ++ b ++ c ++ d) e (part.0, subst (λ (l : List ℕ). now (l ++ take part.0 e)) front part.1)
