-- Lines that are made one by one.
use Rattle.std.proofs.Common.{◌≡◌, ℕ, zero, suc, ◌+◌, ◌-◌, ◌<◌, ◌≤◌, List, [], ◌∷◌, ◌++◌, length, take, drop, ◌∙◌, ap, refl, sym, subst, arith, append_assoc}
use borrow.Rule.Slice.PartMut.{mid_of, put_mid}
use Rattle.std.proofs.lemmas.List.{take_at, take_all, drop_at, drop_all, drop-drop, append-nil, length-take-le, length-drop}
use Rattle.std.proofs.Math.Seq.{take-add}
use Rattle.rand_pcg.specs.Lcg.{Lcg}
use Rattle.px_meaning.specs.OutputText.{edge_text}
use Rattle.px_graph_text.specs.Generated.{next_edge, after_edge, next_edges, after_edges}

-- one edge is made of those that are left
one_edge : (n : ℕ) (g : Lcg) (k l : ℕ) → k ≡ suc l → next_edges n k g ≡ edge_text (next_edge n g) ++ next_edges n l (after_edge g)
one_edge n g k l e = rw e refl

one_edge_after : (g : Lcg) (k l : ℕ) → k ≡ suc l → after_edges k g ≡ after_edges l (after_edge g)
one_edge_after g k l e = rw e refl

pub edge_made : (n : ℕ) (g : Lcg) (i k : ℕ) (line : List ℕ) → i < k
    → (line ++ edge_text (next_edge n g)) ++ next_edges n (k - (i + 1)) (after_edge g) ≡ line ++ next_edges n (k - i) g
edge_made n g i k line h = rw (one_edge n g (k - i) (k - (i + 1)) (omega arith)) (append_assoc line _ _)

pub edge_made_after : (g : Lcg) (i k : ℕ) → i < k → after_edges (k - (i + 1)) (after_edge g) ≡ after_edges (k - i) g
edge_made_after g i k h = sym (one_edge_after g (k - i) (k - (i + 1)) (omega arith))

-- so many bytes more are given, behind those that were given before
pub given_more : (f n k : ℕ) (l into xs part : List ℕ) → f ≤ length into → f ≤ length l → length xs ≤ f + k
    → xs ≡ take f l ++ drop f into
    → part ≡ take n (drop f l) ++ drop n (mid_of f k xs)
    → put_mid f k xs part ≡ take (f + n) l ++ drop (f + n) into
given_more f n k l into xs part in_into in_l all xs_is part_is =
    let front : length (take f l) ≡ f = length-take-le f l in_l in
    let xs_front : take f xs ≡ take f l = ap (λ (x : List ℕ). take f x) xs_is ∙ take_at (take f l) (drop f into) f front in
    let xs_rest : drop f xs ≡ drop f into = ap (λ (x : List ℕ). drop f x) xs_is ∙ drop_at (take f l) (drop f into) f front in
    let short : length (drop f xs) ≤ k = simp length-drop (omega arith) in
    let middle : mid_of f k xs ≡ drop f into = take_all k (drop f xs) short ∙ xs_rest in
    let after : drop k (drop f xs) ≡ [] = drop_all k (drop f xs) short in
    let part_so : part ≡ take n (drop f l) ++ drop (f + n) into =
    part_is ∙ ap (λ (m : List ℕ). take n (drop f l) ++ drop n m) middle ∙ ap (λ (m : List ℕ). take n (drop f l) ++ m) (drop-drop n f into) in
    ap (λ (p : List ℕ). p ++ (part ++ drop k (drop f xs))) xs_front
    ∙ ap (λ (p : List ℕ). take f l ++ (part ++ p)) after
    ∙ ap (λ (p : List ℕ). take f l ++ p) (append-nil part ∙ part_so)
    ∙ sym (append_assoc (take f l) (take n (drop f l)) (drop (f + n) into))
    ∙ ap (λ (p : List ℕ). p ++ drop (f + n) into) (sym (take-add f n l))
