-- A page is written after its stamp.
use Rattle.std.proofs.Common.{◌≡◌, ℕ, ◌+◌, ◌-◌, List, ◌++◌, length, take, drop, sym, ◌∙◌, ap, subst, inl, inr, arith, append_assoc}
use Rattle.std.proofs.Math.Seq.{take-append_seam, drop-append_seam}
use Rattle.std.proofs.lemmas.List.{length-append, length-take, length-take-le, length-replicate, drop-append-le, drop-take}
use Rattle.std.specs.Prelude.{Option, Some, None, replicate}
use Rattle.std.specs.Option.{option_map}
use Rattle.px_filedisk.specs.Block.{HasPage, IsPartly, IsPartlyPut, StandsAt, place, put_at, stamp, with_page}

-- one write after the other
pub both_written : (number page at : ℕ) (stamped from : List ℕ) (old mid new : Option (List ℕ)) → at ≡ place page (length from) → stamped ≡ stamp number page
    → mid ≡ option_map (put_at at stamped) old → new ≡ option_map (put_at (at + 16) from) mid → new ≡ option_map (with_page number page from) old
both_written number page at stamped from None mid new here is first second = second ∙ ap (option_map (put_at (at + 16) from)) first
both_written number page at stamped from (Some file) mid new here is first second =
    let made : ℕ → List ℕ → Option (List ℕ) = λ n s. Some (put_at (n + 16) from (put_at n s file)) in
    second ∙ ap (option_map (put_at (at + 16) from)) first ∙ ap (λ (n : ℕ). made n stamped) here ∙ ap (made (place page (length from))) is

-- the stamp was written in part
pub partly_stamped : (number page at : ℕ) (stamped from : List ℕ) (old new : Option (List ℕ)) → at ≡ place page (length from) → stamped ≡ stamp number page
    → IsPartly at stamped old new → IsPartlyPut number page from old new
partly_stamped number page at stamped from old new here is partly =
    inl (subst (λ (s : List ℕ). IsPartly (place page (length from)) s old new) is (subst (λ (n : ℕ). IsPartly n stamped old new) here partly))

-- the page was written in part, after its stamp
pub partly_put : (number page at : ℕ) (stamped from : List ℕ) (old mid new : Option (List ℕ)) → at ≡ place page (length from) → stamped ≡ stamp number page
    → mid ≡ option_map (put_at at stamped) old → IsPartly (at + 16) from mid new → IsPartlyPut number page from old new
partly_put number page at stamped from old mid new here is first partly =
    let After : ℕ → List ℕ → Type 0 = λ n s. IsPartly (n + 16) from (option_map (put_at n s) old) new in
    let after : After at stamped = subst (λ (m : Option (List ℕ)). IsPartly (at + 16) from m new) first partly in
    inr (subst (After (place page (length from))) is (subst (λ (n : ℕ). After n stamped) here after))

-- what was put there stands there
pub stands : (at : ℕ) (bytes file : List ℕ) → StandsAt at bytes (put_at at bytes file)
stands at bytes file =
    let zeros = replicate {A = ℕ} (at - length file) 0 in
    let rest = drop (at + length bytes) file in
    let front = take at file ++ zeros in
    let len : length front ≡ at = omega (arith, length-append (take at file) zeros, length-take at file, length-replicate {A = ℕ} (at - length file) 0) in
    let all : put_at at bytes file ≡ front ++ (bytes ++ rest) = append_assoc front bytes rest in
    let past : drop at (put_at at bytes file) ≡ bytes ++ rest = ap (drop at) all ∙ ap (λ (n : ℕ). drop n (front ++ (bytes ++ rest))) (sym len) ∙ drop-append_seam front (bytes ++ rest) in
    record {
      within = omega (arith, ap (length {A = ℕ}) all, length-append front (bytes ++ rest), length-append bytes rest, len);
      same = sym (ap (take (length bytes)) past ∙ take-append_seam bytes rest);
    }

-- what stands before it stays
pub stands_before : (at : ℕ) (first bytes file : List ℕ) → StandsAt at first file → StandsAt at first (put_at (at + length first) bytes file)
stands_before at first bytes file s =
    let end = at + length first in
    let zeros = replicate {A = ℕ} (end - length file) 0 in
    let rest = drop (end + length bytes) file in
    let front = take end file in
    let after = zeros ++ (bytes ++ rest) in
    let len : length front ≡ end = length-take-le end file s.within in
    let all : put_at end bytes file ≡ front ++ after = append_assoc (front ++ zeros) bytes rest ∙ append_assoc front zeros (bytes ++ rest) in
    let past : drop at (put_at end bytes file) ≡ drop at front ++ after = ap (drop at) all ∙ drop-append-le at front after (omega (arith, len)) in
    let this : drop at front ≡ first = drop-take at (length first) file ∙ sym s.same in
    record {
      within = omega (arith, ap (length {A = ℕ}) all, length-append front after, len);
      same = sym (ap (take (length first)) past ∙ ap (λ (x : List ℕ). take (length first) (x ++ after)) this ∙ take-append_seam first after);
    }

pub page_stands : (number page : ℕ) (bytes file : List ℕ) → HasPage number page bytes (with_page number page bytes file)
page_stands number page bytes file =
    let at = place page (length bytes) in
    let first = stamp number page in
    record {
      stamped = stands_before at first bytes (put_at at first file) (stands at first file);
      here = stands (at + 16) bytes (put_at at first file);
    }
