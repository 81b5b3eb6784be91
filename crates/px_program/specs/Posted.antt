-- What an outbox took in a step.
use Rattle.std.specs.Prelude.{◌≡◌, ◌≢◌, ◌⊎◌, ℕ, Bool, ◌||◌, IsTrue, nat_lt, if◌then◌else◌, List, [], ◌∷◌, ◌++◌, take, Option, Some, None}
use Rattle.std.specs.List.{list_any}
use Rattle.px_core.specs.Counts.{Rose}
use Rattle.px_core.specs.declared.stop.Stop.{Stop}
use Rattle.px_core.specs.declared.stop.Stop.TheVariants.{Graph, Scratch, Beyond}
use Rattle.px_meaning.specs.Graph.{pair_size}
use Rattle.px_meaning.specs.Merge.{MergeRule, Pairs}
use Rattle.px_meaning.specs.Program.{ProgramMeaning, Out}
use Rattle.px_meaning.specs.Step.{are_beyond, has_many_pairs}

-- what an outbox was made for: the rules of merging, the size that a pair may have, and what contributions join to.
-- No call changes it. `lent` is what an outbox chooses to name of that which it borrows, as names and sizes: who lent it knows after calls that it borrows the same
pub record MadeFor : Type 0 where
  pub message : MergeRule
  pub verdict : MergeRule
  pub room : ℕ
  pub unit : ℕ
  pub join : ℕ → ℕ → ℕ
  pub lent : List ℕ

-- for a program, over what it borrows
abbrev pub made_over : ProgramMeaning → ℕ → List ℕ → MadeFor
made_over p room lent = record { message = p.message; verdict = p.verdict; room = room; unit = p.unit; join = p.join; lent = lent }

-- for a program, where nothing is said of what it borrows
abbrev pub made_for : ProgramMeaning → ℕ → MadeFor
made_for p room = made_over p room []

-- what was taken so far in a step, in order
pub record Posted : Type 0 where
  pub sends : Pairs
  pub requests : Pairs
  pub contributions : List ℕ

abbrev pub nothing : Posted
nothing = record { sends = []; requests = []; contributions = [] }

abbrev pub sent : ℕ → List ℕ → Posted → Posted
sent to payload p = record p { sends = p.sends ++ (to, payload) ∷ [] }

abbrev pub requested : ℕ → List ℕ → Posted → Posted
requested vid verdict p = record p { requests = p.requests ++ (vid, verdict) ∷ [] }

abbrev pub contributed : ℕ → Posted → Posted
contributed n p = record p { contributions = p.contributions ++ n ∷ [] }

-- the pieces of a payload, which are these bytes, or none where their pair would be above room
unfoldable pub gathered : ℕ → List ℕ → Option (List ℕ)
gathered room bytes = if nat_lt room (pair_size bytes) then None else Some bytes

-- with these bytes behind them
abbrev pub with_piece : ℕ → List ℕ → Option (List ℕ) → Option (List ℕ)
with_piece room more (Some bytes) = gathered room (bytes ++ more)
with_piece room more None = None

-- the pieces of which a buffer holds these bytes, where they are not too long for it
abbrev pub pieces_in : Bool → List ℕ → Option (List ℕ)
pieces_in long bytes = if long then None else Some bytes

-- with all that a vertex answers
abbrev pub with_out : Out → Posted → Posted
with_out o p = record { sends = p.sends ++ o.sends; requests = p.requests ++ o.requests; contributions = p.contributions ++ o.contributions }

-- old with a prefix of more
abbrev pub Begins : {A : Type 0} → List A → List A → List A → Type 0
Begins old now more = (n : ℕ) × (now ≡ old ++ take n more)

-- what was made since begins what the vertex answers
pub record IsPartOf (o : Out) (old made : Posted) : Type 0 where
  pub sends : Begins old.sends made.sends o.sends
  pub requests : Begins old.requests made.requests o.requests
  pub contributions : Begins old.contributions made.contributions o.contributions

-- some request by itself is above room, or there are too many
abbrev pub asks_too_much : ℕ → Pairs → Bool
asks_too_much room requests = list_any (λ e. nat_lt room (pair_size e.1)) requests || has_many_pairs requests

-- the fold of what was sent to some vid is above room, or some request is, or there are too many pairs
abbrev pub IsBeyond : MadeFor → Posted → Type 0
IsBeyond f p = IsTrue (are_beyond f.message f.room p.sends || asks_too_much f.room p.requests)

-- the outbox takes more, and its disk did not fail
pub record StaysOpen (is_open : Bool) (before after : ℕ) : Type 0 where
  pub open_still : IsTrue is_open
  pub no_fault : after ≡ before

-- a stop is Scratch where the outbox's disk failed, else Beyond
pub record IsCause (before after : ℕ) (e : Stop) : Type 0 where
  pub scratch : e ≡ Scratch → Rose before after
  pub no_fault : e ≢ Scratch → after ≡ before
  pub no_graph : e ≢ Graph

-- a pair was refused: with Beyond it counts as taken. Where the outbox is open still, nothing was taken; of one that is spent nothing is said, since it may have taken a part of the pair
pub record Refuses (valid : Type 0) (was now : Posted → Type 0) (asked : Posted → Posted) (f : MadeFor) (is_open : Bool) (before after : ℕ) (e : Stop) : Type 0 where
  pub same : IsTrue is_open → (p : Posted) → was p → now p
  pub beyond : valid → e ≡ Beyond → (p : Posted) → was p → IsBeyond f (asked p)
  pub cause : IsCause before after e

-- pairs were posted up to a stop: with Beyond those taken and the refused one are such a part. So are those taken, where the outbox is open still
pub record StopsPosting (was now : Posted → Type 0) (Part : Posted → Posted → Type 0) (f : MadeFor) (is_open : Bool) (before after : ℕ) (e : Stop) : Type 0 where
  pub begun : IsTrue is_open → (p : Posted) → was p → (made : Posted) × Part p made × now made
  pub beyond : e ≡ Beyond → (p : Posted) → was p → (made : Posted) × Part p made × IsBeyond f made
  pub cause : IsCause before after e

-- a vertex was computed up to a stop: what was taken begins its answer, where the outbox is open still.
-- With Beyond the new vertex is above room, or what was made so far, the refused pair included, begins its answer and is beyond the limits
pub record StopsComputing (valid wide : Type 0) (was now : Posted → Type 0) (o : Out) (f : MadeFor) (is_open : Bool) (before after : ℕ) (e : Stop) : Type 0 where
  pub begun : valid → IsTrue is_open → (p : Posted) → was p → (made : Posted) × IsPartOf o p made × now made
  pub beyond : valid → e ≡ Beyond → wide ⊎ ((p : Posted) → was p → (made : Posted) × IsPartOf o p made × IsBeyond f made)
  pub cause : IsCause before after e
