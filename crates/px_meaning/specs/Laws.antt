-- The laws of these definitions that everything above uses, each for all arguments.
use Rattle.std.specs.Prelude.{◌≡◌, ◌≢◌, ℕ, IsTrue, List, ◌++◌, Some, None}
use Rattle.px_meaning.specs.Graph.{lookup, put, delete, IsMap}
use Rattle.px_meaning.specs.Merge.{MergeRule, MergeLaws, Pairs, AllValid, inbox, merged, grouped}
use Rattle.px_meaning.specs.Program.{ProgramMeaning}
use Rattle.px_meaning.specs.Step.{State, step, are_beyond}

-- what was put at a key is found there, and the other keys have what they had
abbrev pub LookupAfterPut : Type 0 → Type 0
LookupAfterPut X =
    (k : ℕ) (x : X) (es : List (ℕ × X)) → (lookup k (put k x es) ≡ Some x) × ((j : ℕ) → j ≢ k → lookup j (put k x es) ≡ lookup j es)

-- nothing is found at a key that was deleted, and the other keys have what they had
abbrev pub LookupAfterDelete : Type 0 → Type 0
LookupAfterDelete X =
    (k : ℕ) (es : List (ℕ × X)) → (lookup k (delete k es) ≡ None) × ((j : ℕ) → j ≢ k → lookup j (delete k es) ≡ lookup j es)

-- maps with the same look-ups are equal
abbrev pub EqualByLookups : Type 0 → Type 0
EqualByLookups X = (es fs : List (ℕ × X)) → IsMap es → IsMap fs → ((k : ℕ) → lookup k es ≡ lookup k fs) → es ≡ fs

-- a vid's inbox in two lists joined is the merge of its inboxes in both, or the one that is there
abbrev pub InboxOfJoined : Type 0
InboxOfJoined =
    (rule : MergeRule) → MergeLaws rule → (xs ys : Pairs) (v : ℕ) → AllValid rule xs → AllValid rule ys → inbox rule (xs ++ ys) v ≡ merged rule (inbox rule xs v) (inbox rule ys v)

-- grouped pairs are a map
abbrev pub GroupedIsMap : Type 0
GroupedIsMap = (rule : MergeRule) (pairs : Pairs) → IsMap (grouped rule pairs)

-- it has each vid's inbox
abbrev pub GroupedHasInboxes : Type 0
GroupedHasInboxes = (rule : MergeRule) (pairs : Pairs) (v : ℕ) → lookup v (grouped rule pairs) ≡ inbox rule pairs v

-- pairs beyond the limits stay so with more pairs
abbrev pub BeyondWithMore : Type 0
BeyondWithMore =
    (rule : MergeRule) → MergeLaws rule → (room : ℕ) (xs ys : Pairs) → AllValid rule xs → AllValid rule ys → IsTrue (are_beyond rule room xs) → IsTrue (are_beyond rule room (xs ++ ys))

-- a step from a graph that is a map leaves a map
abbrev pub NextGraphIsMap : Type 0
NextGraphIsMap = (p : ProgramMeaning) (room : ℕ) (s t : State) → step p room s ≡ Some t → IsMap s.graph → IsMap t.graph
