use Rattle.std.proofs.Common.{◌≡◌, ◌<◌, ◌++◌, ◌∷◌, ◌∙◌, [], List, ℕ, zero, suc, length, take, drop, set, get_or, sym, ap, refl, arith}
use Rattle.px_frames.specs.Shares.{overlaid, with_range}
use Rattle.px_frames.proofs.share.copy_among.Goals as goal

set_back : {X : Type 0} (a b : List X) (i : ℕ) (y : X) → i ≡ length a → set (a ++ b) i y ≡ a ++ set b 0 y
set_back [] b zero y is = refl
set_back [] b (suc i) y is = absurd (cc is)
set_back (x ∷ a) b zero y is = absurd (cc is)
set_back (x ∷ a) b (suc i) y is = ap (λ (l : List _). x ∷ l) (set_back a b i y (omega (arith, is)))

set_front : {X : Type 0} (a b : List X) (i : ℕ) (y : X) → i < length a → set (a ++ b) i y ≡ set a i y ++ b
set_front [] b i y lt = absurd (omega (arith, lt))
set_front (x ∷ a) b zero y lt = refl
set_front (x ∷ a) b (suc i) y lt = ap (λ (l : List _). x ∷ l) (set_front a b i y (omega (arith, lt)))

get_front : {X : Type 0} (a b : List X) (i : ℕ) (d : X) → i < length a → get_or (a ++ b) i d ≡ get_or a i d
get_front [] b i d lt = absurd (omega (arith, lt))
get_front (x ∷ a) b zero d lt = refl
get_front (x ∷ a) b (suc i) d lt = get_front a b i d (omega (arith, lt))

get_back : {X : Type 0} (a b : List X) (i : ℕ) (d : X) → i ≡ length a → get_or (a ++ b) i d ≡ get_or b 0 d
get_back [] b zero d is = refl
get_back [] b (suc i) d is = absurd (cc is)
get_back (x ∷ a) b zero d is = absurd (cc is)
get_back (x ∷ a) b (suc i) d is = get_back a b i d (omega (arith, is))

get_any : {X : Type 0} (xs : List X) (i : ℕ) (d e : X) → i < length xs → get_or xs i d ≡ get_or xs i e
get_any [] i d e lt = absurd (omega (arith, lt))
get_any (x ∷ xs) zero d e lt = refl
get_any (x ∷ xs) (suc i) d e lt = get_any xs i d e (omega (arith, lt))

-- the frame that is read stands before the one that is written
written_back : (xs a b : List (List ℕ)) (from at len to to_at : ℕ) (d e new : List ℕ)
    → xs ≡ a ++ b → length a ≡ to → from < to → from < length xs → to < length xs
    → new ≡ overlaid (get_or b 0 e) to_at (take len (drop at (get_or a from d)))
    → a ++ set b 0 new ≡ with_range xs from at len to to_at
written_back xs a b from at len to to_at d e new whole here before in_from in_to is =
    let read : get_or a from d ≡ get_or xs from [] =
    sym (get_front a b from d (omega (arith, here, before))) ∙ ap (λ (l : List (List ℕ)). get_or l from d) (sym whole) ∙ get_any xs from d [] in_from
    in
    let over : get_or b 0 e ≡ get_or xs to [] =
    sym (get_back a b to e (sym here)) ∙ ap (λ (l : List (List ℕ)). get_or l to e) (sym whole) ∙ get_any xs to e [] in_to
    in
    let all : new ≡ overlaid (get_or xs to []) to_at (take len (drop at (get_or xs from []))) =
    is ∙ ap (λ (l : List ℕ). overlaid l to_at (take len (drop at (get_or a from d)))) over ∙ ap (λ (l : List ℕ). overlaid (get_or xs to []) to_at (take len (drop at l))) read
    in
    ap (λ (l : List ℕ). a ++ set b 0 l) all
    ∙ sym (ap (λ (l : List (List ℕ)). set l to (overlaid (get_or xs to []) to_at (take len (drop at (get_or xs from []))))) whole ∙ set_back a b to _ (sym here))

-- the frame that is read stands behind it
written_front : (xs a b : List (List ℕ)) (from at len to to_at : ℕ) (d e new : List ℕ)
    → xs ≡ a ++ b → length a ≡ from → to < from → from < length xs → to < length xs
    → new ≡ overlaid (get_or a to e) to_at (take len (drop at (get_or b 0 d)))
    → set a to new ++ b ≡ with_range xs from at len to to_at
written_front xs a b from at len to to_at d e new whole here before in_from in_to is =
    let read : get_or b 0 d ≡ get_or xs from [] =
    sym (get_back a b from d (sym here)) ∙ ap (λ (l : List (List ℕ)). get_or l from d) (sym whole) ∙ get_any xs from d [] in_from
    in
    let over : get_or a to e ≡ get_or xs to [] =
    sym (get_front a b to e (omega (arith, here, before))) ∙ ap (λ (l : List (List ℕ)). get_or l to e) (sym whole) ∙ get_any xs to e [] in_to
    in
    let all : new ≡ overlaid (get_or xs to []) to_at (take len (drop at (get_or xs from []))) =
    is ∙ ap (λ (l : List ℕ). overlaid l to_at (take len (drop at (get_or b 0 d)))) over ∙ ap (λ (l : List ℕ). overlaid (get_or xs to []) to_at (take len (drop at l))) read
    in
    ap (λ (l : List ℕ). set a to l ++ b) all
    ∙ sym (ap (λ (l : List (List ℕ)). set l to (overlaid (get_or xs to []) to_at (take len (drop at (get_or xs from []))))) whole ∙ set_front a b to _ (omega (arith, here, before)))

pub returns-then-from-to : goal.returns-then-from-to
returns-then-from-to c =
    let is = c.split_at_mut-front.ensures in
    let part = c.args.part in
    written_back c.args.frames.now c.split_at_mut-front.result.0.now c.split_at_mut-front.result.1.now c.args.from part.at part.len c.args.to part.to_at
    c.index-front-from.result c.index-back-0.result c.copy_over.new.into is.value is.front_len c.if-from-to.true c.requires.from c.requires.to c.copy_over.ensures

pub returns-else-from-to : goal.returns-else-from-to
returns-else-from-to c =
    let is = c.split_at_mut-front-else-from-to.ensures in
    let part = c.args.part in
    let before : c.args.to < c.args.from = grind (arith, c.if-from-to.false, c.requires.apart) in
    written_front c.args.frames.now c.split_at_mut-front-else-from-to.result.0.now c.split_at_mut-front-else-from-to.result.1.now c.args.from part.at part.len c.args.to part.to_at
    c.index-back-0-else-from-to.result c.index-front-to.result c.copy_over-else-from-to.new.into is.value is.front_len before c.requires.from c.requires.to c.copy_over-else-from-to.ensures
