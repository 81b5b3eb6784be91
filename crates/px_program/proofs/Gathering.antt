-- Pieces of a payload are gathered one behind the other.
use Rattle.std.proofs.Common.{◌≡◌, inl, inr, ℕ, ◌+◌, ◌<◌, ◌≤◌, Bool, true, false, List, [], ◌++◌, length, Option, Some, None, refl, sym, ◌∙◌, ap, arith, length-append}
use Rattle.std.specs.Prelude.{Result, Ok, Err, OnOk, IsErr, ◌↔◌}
use Rattle.std.specs.Result.{is_err}
use Rattle.std.proofs.lemmas.Bool.{cases_lt, lt-ltb, le-ltb, false≢true}
use Rattle.px_meaning.specs.Graph.{pair_size}
use Rattle.px_program.specs.Posted.{gathered, with_piece, pieces_in}

pub gathered_long : (room : ℕ) (b : List ℕ) → room < pair_size b → gathered room b ≡ None
unfolding gathered
gathered_long room b wide = rw (lt-ltb room (pair_size b) wide) refl

pub gathered_short : (room : ℕ) (b : List ℕ) → pair_size b ≤ room → gathered room b ≡ Some b
unfolding gathered
gathered_short room b fits = rw (le-ltb room (pair_size b) fits) refl

module _ (room : ℕ) (b : List ℕ) where
  -- what is too long stays so
  pub gathered_more : (more : List ℕ) → with_piece room more (gathered room b) ≡ gathered room (b ++ more)
  gathered_more more =
      elim (cases_lt room (pair_size b)) [
        | inl wide ↦
            let longer : room < pair_size (b ++ more) = omega (arith, wide, length-append b more) in
            ap (with_piece room more) (gathered_long room b wide) ∙ sym (gathered_long room (b ++ more) longer)
        | inr fits ↦ ap (with_piece room more) (gathered_short room b fits)
      ]

  pub pieces_more : (more : List ℕ) (before now : Option (List ℕ)) → before ≡ gathered room b → now ≡ with_piece room more before → now ≡ gathered room (b ++ more)
  pieces_more more before now is so = so ∙ ap (with_piece room more) is ∙ gathered_more more

  -- pieces that are not too long are these bytes, and others are above room
  module _ (long : Bool) (c : List ℕ) (is : pieces_in long c ≡ gathered room b) where
    pub pieces_are : long ≡ false → (c ≡ b) × (pair_size b ≤ room)
    pieces_are short =
        let here : Some c ≡ gathered room b = ap (λ (t : Bool). pieces_in t c) (sym short) ∙ is in
        elim (cases_lt room (pair_size b)) [
          | inl wide ↦ absurd (let no = here ∙ gathered_long room b wide in cc)
          | inr fits ↦ (let same = here ∙ gathered_short room b fits in cc, fits)
        ]

    pub pieces_wide : long ≡ true → room < pair_size b
    pieces_wide wide =
        let here : None ≡ gathered room b = ap (λ (t : Bool). pieces_in t c) (sym wide) ∙ is in
        elim (cases_lt room (pair_size b)) [
          | inl above ↦ above
          | inr fits ↦ absurd (let no = here ∙ gathered_short room b fits in cc)
        ]

-- a buffer of which the limit is that of a payload holds no pieces
pub no_pieces : (room limit : ℕ) (long : Bool) (bytes : List ℕ) → 13 + limit ≡ room → long ≡ false → bytes ≡ [] → pieces_in long bytes ≡ gathered room []
no_pieces room limit long bytes fits is none = ap (λ (t : Bool). pieces_in t bytes) is ∙ ap (pieces_in false) none ∙ sym (gathered_short room [] (omega (arith, fits)))

-- one more was put behind them, where it has room
pub one_more : {R E : Type 0} (room limit : ℕ) (long now : Bool) (old new more : List ℕ) (r : Result R E) → 13 + limit ≡ room → long ≡ false → now ≡ is_err r
    → OnOk r (new ≡ old ++ more) → (IsErr r ↔ (limit < length old + length more)) → pieces_in now new ≡ with_piece room more (pieces_in long old)
one_more room limit long now old new more (Ok x) fits is now_is joined wide =
    let short : 13 + length (old ++ more) ≤ room = elim (cases_lt limit (length old + length more)) [
      | inl above ↦ absurd (false≢true (wide.1 above))
      | inr below ↦ omega (arith, fits, below, length-append old more)
    ] in
    ap (λ (t : Bool). pieces_in t new) now_is ∙ ap (pieces_in false) joined ∙ sym (gathered_short room (old ++ more) short) ∙ ap (λ (t : Bool). with_piece room more (pieces_in t old)) (sym is)
one_more room limit long now old new more (Err e) fits is now_is joined wide =
    let above = wide.0 refl in
    ap (λ (t : Bool). pieces_in t new) now_is ∙ sym (gathered_long room (old ++ more) (omega (arith, fits, above, length-append old more))) ∙ ap (λ (t : Bool). with_piece room more (pieces_in t old)) (sym is)
