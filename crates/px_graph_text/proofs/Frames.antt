-- What is ahead in a frame.
use Rattle.std.proofs.Common.{◌≡◌, ◌≤◌, ◌+◌, ◌-◌, ℕ, List, length, take, drop, sym, ap, ◌∙◌, arith}
use Rattle.std.proofs.lemmas.List.{drop-take, drop-drop, length-take}

-- bytes that are gone over
pub skipped : (from to n : ℕ) (frame : List ℕ) → n ≤ length (take (to - from) (drop from frame)) → take (to - (from + n)) (drop (from + n) frame) ≡ drop n (take (to - from) (drop from frame))
skipped from to n frame le =
    let len : n ≤ to - from = omega (arith, length-take (to - from) (drop from frame), le) in
    let e : to - from ≡ n + (to - (from + n)) = omega (arith, len) in
    ap (take (to - (from + n))) (sym (drop-drop n from frame)) ∙ sym (drop-take n (to - (from + n)) (drop from frame)) ∙ ap (λ (k : ℕ). drop n (take k (drop from frame))) (sym e)
