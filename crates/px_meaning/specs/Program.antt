-- What a program means: total functions, and the laws that they meet.
use Rattle.std.specs.Prelude.{◌≡◌, ℕ, ◌<◌, ◌^◌, List, Option}
use Rattle.px_meaning.specs.Graph.{Vertex}
use Rattle.px_meaning.specs.Merge.{MergeRule, MergeLaws, Pairs, AllValid, IsValidMessage}

-- what all vertices are told in a superstep
pub record Moment : Type 0 where
  pub superstep : ℕ
  pub aggregate : ℕ
  pub count : ℕ

-- an active vid, with its vertex or none where it is fresh, and with its message or none
pub record Row : Type 0 where
  pub vid : ℕ
  pub vertex : Option Vertex
  pub message : Option (List ℕ)

-- what a vertex answers in a superstep
pub record Out : Type 0 where
  pub vertex : Vertex
  pub sends : Pairs
  pub requests : Pairs
  pub contributions : List ℕ

-- what becomes of a vid that requests name
pub data Settlement : Type 0 where
  Keeps : Settlement
  Sets : Vertex → Settlement
  Removes : Settlement

-- a program: what a row answers, what a vid's folded verdict does, the two rules of merging,
-- the aggregate's unit and its join, and the printed form of a vertex's value
pub record ProgramMeaning : Type 0 where
  pub out_of : Moment → Row → Out
  pub settle_of : ℕ → Option Vertex → List ℕ → Settlement
  pub message : MergeRule
  pub verdict : MergeRule
  pub unit : ℕ
  pub join : ℕ → ℕ → ℕ
  pub value_text : Vertex → List ℕ

-- what a program must meet: valid messages are answered by valid pairs, and contributions join in any order
pub record ProgramLaws (p : ProgramMeaning) : Type 0 where
  pub messages : MergeLaws p.message
  pub verdicts : MergeLaws p.verdict
  pub sends_valid : (at : Moment) (row : Row) → IsValidMessage p.message row.message → AllValid p.message (p.out_of at row).sends
  pub requests_valid : (at : Moment) (row : Row) → IsValidMessage p.message row.message → AllValid p.verdict (p.out_of at row).requests
  pub join_unit : (a : ℕ) → a < 2 ^ 64 → p.join p.unit a ≡ a
  pub join_commutes : (a b : ℕ) → p.join a b ≡ p.join b a
  pub join_associates : (a b c : ℕ) → p.join a (p.join b c) ≡ p.join (p.join a b) c
