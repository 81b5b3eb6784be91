-- What a merge keeps.
use Rattle.std.proofs.Common.{◌≡◌, ℕ, ◌+◌, ◌≤◌, Bool, List, [], ◌∷◌, inl, inr, arith, ◌∙◌}
use Rattle.std.proofs.lemmas.Bool.Decides.{leb_tells}
use Rattle.std.proofs.lemmas.List.Sums.{sum_by-append}
use Rattle.std.specs.Prelude.{count_by, cond}
use Rattle.px_pages.specs.Entry.{Entry}
use Rattle.px_stream.specs.Merged.{merged, merged_after}

count-cons : (p : Entry → Bool) (e : Entry) (l : List Entry) → count_by p (e ∷ l) ≡ count_by p (e ∷ []) + count_by p l
count-cons p e l = sum_by-append (λ x. cond (p x) 1 0) (e ∷ []) l

count_after : (p : Entry → Bool) (a : Entry) (la lb : List Entry) → ((l : List Entry) → count_by p (merged la l) ≡ count_by p la + count_by p l)
    → count_by p (merged_after a la (merged la) lb) ≡ count_by p (a ∷ la) + count_by p lb
count_after p a la [] so = omega arith
count_after p a la (b ∷ lb) so = elim (leb_tells a.key b.key) [
  | inl w ↦ rw w.0 (count-cons p a (merged la (b ∷ lb)) ∙ omega (arith, so (b ∷ lb), count-cons p a la))
  | inr w ↦ rw w.0 (count-cons p b (merged_after a la (merged la) lb) ∙ omega (arith, count_after p a la lb so, count-cons p b lb))
]
