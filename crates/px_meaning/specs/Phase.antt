-- The compute phase over rows.
use Rattle.std.specs.Prelude.{ℕ, Bool, if◌then◌else◌, List, Some, None}
use Rattle.std.specs.List.{list_any}
use Rattle.px_meaning.specs.Program.{ProgramMeaning, Moment, Row}
use Rattle.px_meaning.specs.Step.{State, Computed, is_active, is_wide, moment, rows, computed}

-- what a superstep from the state computes
abbrev pub computed_from : ProgramMeaning → State → Computed
computed_from p s = computed p (moment s) (rows p s)

-- a row after the compute phase: an active one has its new vertex, and no message is left
abbrev pub computed_row : ProgramMeaning → Moment → Row → Row
computed_row p at row = record { vid = row.vid; vertex = if is_active row then Some (p.out_of at row).vertex else row.vertex; message = None }

-- some active row answers a vertex above room
abbrev pub has_wide_answer : ProgramMeaning → ℕ → Moment → List Row → Bool
has_wide_answer p room at rows = list_any (λ row. is_wide room (p.out_of at row).vertex) rows
