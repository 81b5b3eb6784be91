use Rattle.std.proofs.Common.{◌≡◌, ℕ, List, ◌++◌, ◌/◌, length, take, drop, sym, ◌∙◌, ap, subst}
use Rattle.std.specs.Prelude.{decimal, flat_map}
use Rattle.std.proofs.lemmas.List.{append_assoc}
use Rattle.std.proofs.lemmas.Result.{err_from_is_err_and, on_ok_weaker, on_err_weaker}
use Rattle.px_program.specs.Numbers.{number}
use Rattle.px_program.proofs.Printing.{in_front, behind}
use Rattle.px_programs.specs.Chains.{vids_in, plus_text, joined_text}
use Rattle.px_programs.proofs.ChainTexts.{text_of_vids, first_vid}
use Rattle.px_programs.proofs.chain_text.print_vids.Goals as goal

pub returns-in_err-print_decimal-clause-err : goal.returns-in_err-print_decimal-clause-err
returns-in_err-print_decimal-clause-err g c =
    let v = c.args.vids.now in
    let is = err_from_is_err_and c.from_residual.result c.from_residual.ensures.1 in
    let now = g.W.Sink.holds c.print_decimal.new.sink in
    let first : c.vid_at.result ≡ number v = first_vid v c.vid_at.result c.requires c.vid_at.ensures in
    rw is.1 (λ h holds.
    subst (λ (l : List ℕ). (n : ℕ) × now (h ++ take n l)) (ap (λ (k : ℕ). decimal k ++ flat_map plus_text (vids_in (length (drop 8 v) / 8) (drop 8 v))) first ∙ sym (text_of_vids v c.requires))
    (in_front now h (decimal c.vid_at.result) (flat_map plus_text (vids_in (length (drop 8 v) / 8) (drop 8 v))) (c.in_err-print_decimal.ensures.err h holds)))

pub returns-clause-ok : goal.returns-clause-ok
returns-clause-ok g c =
    let v = c.args.vids.now in
    let now = g.W.Sink.holds c.print_more.new.sink in
    let first : c.vid_at.result ≡ number v = first_vid v c.vid_at.result c.requires c.vid_at.ensures in
    let rest : List ℕ → List ℕ = λ m. flat_map plus_text (vids_in (length m / 8) m) in
    let more : c.split_at.result.1.now ≡ drop 8 v = c.split_at.ensures.back in
    let all : decimal c.vid_at.result ++ rest c.split_at.result.1.now ≡ joined_text (vids_in (length v / 8) v) =
    ap (λ (k : ℕ). decimal k ++ rest c.split_at.result.1.now) first ∙ ap (λ (m : List ℕ). decimal (number v) ++ rest m) more ∙ sym (text_of_vids v c.requires) in
    on_ok_weaker c.print_more.result (λ ok h holds.
    subst (λ (l : List ℕ). now (h ++ l)) all (subst now (append_assoc h (decimal c.vid_at.result) (rest c.split_at.result.1.now)) (ok (h ++ decimal c.vid_at.result) (c.in_ok-print_decimal.ensures.ok h holds)))) c.print_more.ensures.ok

pub returns-clause-err : goal.returns-clause-err
returns-clause-err g c =
    let v = c.args.vids.now in
    let now = g.W.Sink.holds c.print_more.new.sink in
    let first : c.vid_at.result ≡ number v = first_vid v c.vid_at.result c.requires c.vid_at.ensures in
    let rest : List ℕ → List ℕ = λ m. flat_map plus_text (vids_in (length m / 8) m) in
    let more : c.split_at.result.1.now ≡ drop 8 v = c.split_at.ensures.back in
    let all : decimal c.vid_at.result ++ rest c.split_at.result.1.now ≡ joined_text (vids_in (length v / 8) v) =
    ap (λ (k : ℕ). decimal k ++ rest c.split_at.result.1.now) first ∙ ap (λ (m : List ℕ). decimal (number v) ++ rest m) more ∙ sym (text_of_vids v c.requires) in
    on_err_weaker c.print_more.result (λ err h holds.
    subst (λ (l : List ℕ). (n : ℕ) × now (h ++ take n l)) all (behind now h (decimal c.vid_at.result) (rest c.split_at.result.1.now) (err (h ++ decimal c.vid_at.result) (c.in_ok-print_decimal.ensures.ok h holds)))) c.print_more.ensures.err
