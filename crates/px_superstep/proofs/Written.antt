-- What was written of lines, one after the other.
use Rattle.std.proofs.Common.{◌≡◌, ℕ, ◌+◌, ◌<◌, List, [], ◌∷◌, ◌++◌, take, drop, length, get_or, refl, sym, ◌∙◌, ap, subst, append_assoc}
use Rattle.std.specs.Prelude.{flat_map}
use Rattle.std.proofs.lemmas.Grind.{flat_map-append}
use Rattle.std.proofs.lemmas.List.{append-nil, take_more, flat_map_more, take-append-drop, drop_more}
use Rattle.px_program.proofs.Phases.{begins_later}

module _ {X : Type 0} (f : X → List ℕ) where
  -- the text of one more
  pub text_more : (before : List ℕ) (xs : List X) (i : ℕ) (d : X) (text : List ℕ) → i < length xs → text ≡ f (get_or xs i d) → (before ++ flat_map f (take i xs)) ++ text ≡ before ++ flat_map f (take (i + 1) xs)
  text_more before xs i d text low is =
      ap (λ (l : List ℕ). (before ++ flat_map f (take i xs)) ++ l) is ∙ flat_map_more f before (take i xs) (get_or xs i d) ∙ ap (λ (l : List X). before ++ flat_map f l) (sym (take_more xs i d low))

  split_at : (xs : List X) (i : ℕ) (d : X) → i < length xs → xs ≡ take i xs ++ get_or xs i d ∷ drop (i + 1) xs
  split_at xs i d low = sym (take-append-drop i xs) ∙ ap (λ (l : List X). take i xs ++ l) (drop_more xs i d low)

  -- a part of one text, behind those before it, is a part of all
  pub text_part : (now : List ℕ → Type 0) (before : List ℕ) (xs : List X) (i : ℕ) (d : X) (text : List ℕ) → i < length xs → text ≡ f (get_or xs i d)
      → (n : ℕ) × now ((before ++ flat_map f (take i xs)) ++ take n text) → (k : ℕ) × now (before ++ take k (flat_map f xs))
  text_part now before xs i d text low is part =
      let front = flat_map f (take i xs) in
      let rest = flat_map f (drop (i + 1) xs) in
      let later = begins_later before front text rest ((before ++ front) ++ take part.0 text) (part.0, refl) in
      let all : flat_map f xs ≡ front ++ (text ++ rest) =
      ap (flat_map f) (split_at xs i d low) ∙ flat_map-append f (take i xs) (get_or xs i d ∷ drop (i + 1) xs) ∙ ap (λ (l : List ℕ). front ++ (l ++ rest)) (sym is) in
      (later.0, subst (λ (l : List ℕ). now (before ++ take later.0 l)) (sym all) (subst now later.1 part.1))

  module _ (xs ys zs : List X) (is : xs ++ ys ≡ zs) where
    both : flat_map f xs ++ flat_map f ys ≡ flat_map f zs
    both = sym (flat_map-append f xs ys) ∙ ap (flat_map f) is

    -- the texts of two parts are the text of all
    pub text_of_both : (h : List ℕ) → (h ++ flat_map f xs) ++ flat_map f ys ≡ h ++ flat_map f zs
    text_of_both h = append_assoc h (flat_map f xs) (flat_map f ys) ∙ ap (λ (l : List ℕ). h ++ l) both

    -- a part of the first is a part of all
    pub part_of_first : (now : List ℕ → Type 0) (h : List ℕ) → (k : ℕ) × now (h ++ take k (flat_map f xs)) → (j : ℕ) × now (h ++ take j (flat_map f zs))
    part_of_first now h part =
        let first = flat_map f xs in
        let later = begins_later h [] first (flat_map f ys) (h ++ take part.0 first) (part.0, ap (λ (l : List ℕ). l ++ take part.0 first) (sym (append-nil h))) in
        (later.0, subst (λ (l : List ℕ). now (h ++ take later.0 l)) both (subst now later.1 part.1))

    -- and so is one of the second, behind the first
    pub part_of_second : (now : List ℕ → Type 0) (h : List ℕ) → (k : ℕ) × now ((h ++ flat_map f xs) ++ take k (flat_map f ys)) → (j : ℕ) × now (h ++ take j (flat_map f zs))
    part_of_second now h part =
        let second = flat_map f ys in
        let later = begins_later h (flat_map f xs) second [] ((h ++ flat_map f xs) ++ take part.0 second) (part.0, refl) in
        (later.0, subst (λ (l : List ℕ). now (h ++ take later.0 l)) (ap (λ (l : List ℕ). flat_map f xs ++ l) (append-nil second) ∙ both) (subst now later.1 part.1))
