use Rattle.std.proofs.Common.{Vec, Global, ◌≡◌, ◌<◌, ◌≤◌, ◌+◌, ◌-◌, [], ◌∷◌, List, ◌++◌, ℕ, zero, suc, length, take, drop, sym, ap, ◌∙◌, arith, append_assoc}
use Rattle.std.proofs.Math.Seq.{take-append_seam}
use Rattle.std.proofs.lemmas.List.{append-nil, length-append, length-drop, length-take-le, length-replicate, drop-drop, drop_all, take_all, take-replicate}
use Rattle.std.specs.Prelude.{replicate}
use Rattle.px_filedisk.specs.Block.{put_at}
use Rattle.px_filedisk.proofs.tests.kept.put.Goals as goal
use Rattle.px_filedisk.proofs.tests.kept.put.Goals.{then-len-end+in_ok-resize, else-len-end}

abbrev zeros : ℕ → List ℕ
zeros n = replicate {A = ℕ} n 0

-- the front of a file that is followed by zeros
front : (at n : ℕ) (f : List ℕ) → at ≤ length f + n → take at (f ++ zeros n) ≡ take at f ++ zeros (at - length f)
front at n [] w =
    let all : at ≡ at - length {A = ℕ} [] = omega arith in
    take-replicate at n 0 (omega arith) ∙ ap zeros all ∙ sym (ap (λ (x : List ℕ). x ++ zeros (at - length {A = ℕ} [])) (take_all at [] (omega arith)))
front zero n (x ∷ f) w =
    let none : 0 ≡ 0 - length (x ∷ f) = omega arith in
    ap zeros none
front (suc m) n (x ∷ f) w =
    let same : m - length f ≡ suc m - length (x ∷ f) = omega arith in
    ap (λ (l : List ℕ). x ∷ l) (front m n f (omega arith)) ∙ ap (λ (k : ℕ). take (suc m) (x ∷ f) ++ zeros k) same

-- bytes that are written over a part of a file
over : (at n : ℕ) (now from g f : List ℕ) → now ≡ from → n ≡ length g → at + length from ≤ length g → take at g ++ from ++ drop (at + length from) g ≡ put_at at from f
    → let w = take at g ++ (now ++ drop (length now) (drop at g)) in take n (w ++ drop (length w) g) ≡ put_at at from f
over at n now from g f same len within put =
    let rest = drop (length now) (drop at g) in
    let w = take at g ++ (now ++ rest) in
    let all : length w ≡ n = omega (arith, length-append (take at g) (now ++ rest), length-append now rest, length-take-le at g (omega arith), length-drop (length now) (drop at g), length-drop at g, ap (length {A = ℕ}) same) in
    let front_is : take n (w ++ drop (length w) g) ≡ w = ap (λ (k : ℕ). take k (w ++ drop (length w) g)) (sym all) ∙ take-append_seam w (drop (length w) g) in
    let parts : w ≡ take at g ++ now ++ drop (at + length now) g = sym (append_assoc (take at g) now rest) ∙ ap (λ (x : List ℕ). take at g ++ now ++ x) (drop-drop (length now) at g) in
    front_is ∙ parts ∙ ap (λ (x : List ℕ). take at g ++ x ++ drop (at + length x) g) same ∙ put

-- a file that was filled up
filled : (at len : ℕ) (from g f : List ℕ) → len ≡ length f → len < at + length from → g ≡ take (at + length from) f ++ zeros (at + length from - len) → take at g ++ from ++ drop (at + length from) g ≡ put_at at from f
filled at n from g f same short is =
    let end = at + length from in
    let grown : g ≡ f ++ zeros (end - length f) = is ∙ ap (λ (k : ℕ). take end f ++ zeros (end - k)) same ∙ ap (λ (x : List ℕ). x ++ zeros (end - length f)) (take_all end f (omega arith)) in
    let len : length g ≡ end = ap (length {A = ℕ}) grown ∙ omega (arith, length-append f (zeros (end - length f)), length-replicate {A = ℕ} (end - length f) 0) in
    let before : take at g ≡ take at f ++ zeros (at - length f) = ap (take at) grown ∙ front at (end - length f) f (omega arith) in
    let after : drop end g ≡ drop end f = drop_all end g (omega arith) ∙ sym (drop_all end f (omega arith)) in
    ap (λ (x : List ℕ). x ++ from ++ drop end g) before ∙ ap (λ (x : List ℕ). take at f ++ zeros (at - length f) ++ from ++ x) after

-- a file that is long enough
long : (at : ℕ) (from f : List ℕ) → at + length from ≤ length f → take at f ++ from ++ drop (at + length from) f ≡ put_at at from f
long at from f enough =
    let end = at + length from in
    let none : 0 ≡ at - length f = omega arith in
    ap (λ (x : List ℕ). x ++ from ++ drop end f) (sym (append-nil (take at f))) ∙ ap (λ (k : ℕ). take at f ++ zeros k ++ from ++ drop end f) none

pub returns-clause-bytes : goal.returns-clause-bytes
returns-clause-bytes c =
    let at = c.args.at in
    let from = c.args.from.now in
    let f = c.args.file.now.items in
    let g = c.if-len-end.file.items in
    let vec_same = c.args.file.now.ok.0 in
    let put : take at g ++ from ++ drop (at + length from) g ≡ put_at at from f = elim c.if-len-end.branch [
      | then-len-end+in_ok-resize w ↦ filled at _ from g f vec_same (omega arith) (ap (λ (v : Vec ℕ Global). v.items) w.file-is ∙ w.in_ok-resize.ensures.items)
      | else-len-end w ↦ ap (λ (v : Vec ℕ Global). take at v.items ++ from ++ drop (at + length from) v.items) w.file-is ∙ long at from f (omega arith)
    ] in
    over at _ c.copy_from_slice.new.self from g f c.copy_from_slice.ensures.after c.if-len-end.file.ok.0 (elim c.if-len-end.branch [ then-len-end+in_ok-resize w ↦ omega (arith, w.in_ok-resize.ensures.len, c.if-len-end.file.ok.0, ap (λ (v : Vec ℕ Global). v.len) w.file-is) | else-len-end w ↦ omega (arith, ap (λ (v : Vec ℕ Global). v.len) w.file-is) ]) put
