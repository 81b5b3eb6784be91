-- What a combiner is, and what it makes of the pairs that were sent.
use Rattle.std.specs.Prelude.{◌≡◌, ◌≤◌, ℕ, Bool, IsTrue, ◌==◌, List, [], map, filter, length, Option, Some, None, unwrap_or, IfSome}
use Rattle.std.specs.List.{reduce, list_all}
use Rattle.px_meaning.specs.Graph.{vids, ascending}

-- a test of byte lists, and a function of two of them
pub record MergeRule : Type 0 where
  pub valid : List ℕ → Bool
  pub merge : List ℕ → List ℕ → List ℕ

-- what a combiner must meet, on valid lists
pub record MergeLaws (rule : MergeRule) : Type 0 where
  pub closed : (a b : List ℕ) → IsTrue (rule.valid a) → IsTrue (rule.valid b) → IsTrue (rule.valid (rule.merge a b))
  pub commutes : (a b : List ℕ) → IsTrue (rule.valid a) → IsTrue (rule.valid b) → rule.merge a b ≡ rule.merge b a
  pub associates : (a b c : List ℕ) → IsTrue (rule.valid a) → IsTrue (rule.valid b) → IsTrue (rule.valid c) → rule.merge a (rule.merge b c) ≡ rule.merge (rule.merge a b) c
  pub no_shorter : (a b : List ℕ) → IsTrue (rule.valid a) → IsTrue (rule.valid b) → length a ≤ length (rule.merge a b)

-- pairs of a vid and bytes, in the order in which they were sent
abbrev pub Pairs : Type 0
Pairs = List (ℕ × List ℕ)

-- each pair's bytes are valid
abbrev pub AllValid : MergeRule → Pairs → Type 0
AllValid rule pairs = IsTrue (list_all (λ e. rule.valid e.1) pairs)

-- a message is valid where there is one
abbrev pub IsValidMessage : MergeRule → Option (List ℕ) → Type 0
IsValidMessage rule message = IfSome message (λ m. IsTrue (rule.valid m))

-- what was sent to a vid, in order
abbrev pub payloads : Pairs → ℕ → List (List ℕ)
payloads pairs v = map (λ e. e.1) (filter (λ e. e.0 == v) pairs)

-- its fold, merged from the left, or none where nothing was sent
abbrev pub inbox : MergeRule → Pairs → ℕ → Option (List ℕ)
inbox rule pairs v = reduce rule.merge (payloads pairs v)

-- two folds as one, where either may be none
abbrev pub merged : MergeRule → Option (List ℕ) → Option (List ℕ) → Option (List ℕ)
merged rule None b = b
merged rule (Some x) None = Some x
merged rule (Some x) (Some y) = Some (rule.merge x y)

-- for each vid that the pairs name, ascending, the fold of its bytes
abbrev pub grouped : MergeRule → Pairs → Pairs
grouped rule pairs = map (λ v. (v, unwrap_or (inbox rule pairs v) [])) (ascending (vids pairs))
