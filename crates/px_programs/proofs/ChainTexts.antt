-- The vids in some bytes, and their text.
use Rattle.std.proofs.Common.{◌≡◌, ℕ, zero, suc, ◌+◌, ◌*◌, ◌/◌, ◌<◌, ◌≤◌, List, ◌++◌, length, drop, Some, refl, ◌∙◌, ap, arith}
use Rattle.std.specs.Prelude.{flat_map, slice_get, decimal}
use Rattle.std.proofs.lemmas.List.{drop-drop, length-drop}
use Rattle.px_program.specs.Numbers.{number}
use Rattle.px_programs.specs.Chains.{vids_in, plus_text, joined_text}

-- each vid has eight bytes
pub slice_get-vids_in : (n i : ℕ) (bytes : List ℕ) → i < n → slice_get (vids_in n bytes) i ≡ Some (number (drop (8 * i) bytes))
slice_get-vids_in zero i bytes below = absurd (omega arith)
slice_get-vids_in (suc n) zero bytes below = refl
slice_get-vids_in (suc n) (suc i) bytes below =
    let count : 8 + 8 * i ≡ 8 * suc i = omega arith in
    slice_get-vids_in n i (drop 8 bytes) (omega arith)
    ∙ ap (λ (l : List ℕ). Some (number l)) (drop-drop (8 * i) 8 bytes ∙ ap (λ (k : ℕ). drop k bytes) count)

pub length-vids_in : (n : ℕ) (bytes : List ℕ) → length (vids_in n bytes) ≡ n
length-vids_in zero bytes = refl
length-vids_in (suc n) bytes = ap suc (length-vids_in n (drop 8 bytes))

-- the first is printed, and then the others
pub text_of_vids : (bytes : List ℕ) → 8 ≤ length bytes
    → joined_text (vids_in (length bytes / 8) bytes) ≡ decimal (number bytes) ++ flat_map plus_text (vids_in (length (drop 8 bytes) / 8) (drop 8 bytes))
text_of_vids bytes long =
    let count : length bytes / 8 ≡ suc (length (drop 8 bytes) / 8) = omega (arith, long, length-drop 8 bytes) in
    ap (λ (n : ℕ). joined_text (vids_in n bytes)) count

pub first_vid : (bytes : List ℕ) (vid : ℕ) → 8 ≤ length bytes → slice_get (vids_in (length bytes / 8) bytes) 0 ≡ Some vid → vid ≡ number bytes
first_vid bytes vid long is =
    let here : slice_get (vids_in (length bytes / 8) bytes) 0 ≡ Some (number bytes) = slice_get-vids_in (length bytes / 8) 0 bytes (omega (arith, long)) in
    cc
