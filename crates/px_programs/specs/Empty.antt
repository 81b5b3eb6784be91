-- The empty message: the empty list alone is valid, and merge gives it.
use Rattle.std.specs.Prelude.{◌≤◌, ℕ, Bool, true, false, IsTrue, List, [], ◌∷◌, length, refl}
use Rattle.std.proofs.Common.{lit≤}
use Rattle.std.proofs.lemmas.Bool.{false≢true}
use Rattle.px_meaning.specs.Merge.{MergeRule, MergeLaws}

abbrev pub is_empty : List ℕ → Bool
is_empty [] = true
is_empty (b ∷ bs) = false

abbrev pub empty_rule : MergeRule
empty_rule = record { valid = is_empty; merge = λ a b. [] }

no_shorter : (a : List ℕ) → IsTrue (is_empty a) → length a ≤ 0
no_shorter [] h = lit≤ tt
no_shorter (b ∷ bs) h = absurd (false≢true h)

pub empty_laws : MergeLaws empty_rule
empty_laws = record { closed = λ a b ha hb. refl; commutes = λ a b ha hb. refl; associates = λ a b c ha hb hc. refl; no_shorter = λ a b ha hb. no_shorter a ha }
