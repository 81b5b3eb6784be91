-- What the calls of a program are about.
use Rattle.std.specs.Prelude.{◌≡◌, ℕ, Bool, false, if◌then◌else◌, List, Option, Some, None}
use Rattle.px_meaning.specs.Program.{ProgramMeaning, Moment, Row, Out, Settlement, Keeps, Sets, Removes}
use Rattle.px_meaning.specs.Step.{is_wide}
use Rattle.px_record.specs.Held.{HeldVertex}
use Rattle.px_program.specs.declared.program.At.{At}
use Rattle.px_program.specs.declared.program.Settled.{Settled}
use Rattle.px_program.specs.declared.program.Settled.TheVariants.{Keep, Set, Remove}

abbrev pub moment_of : At → Moment
moment_of at = record { superstep = at.superstep; aggregate = at.aggregate; count = at.count }

abbrev pub row_of : At → HeldVertex → Option (List ℕ) → Row
row_of at v message = record { vid = v.vid; vertex = if at.fresh then None else Some v.vertex; message = message }

-- what the program answers for the vertex
abbrev pub answer : ProgramMeaning → At → HeldVertex → Option (List ℕ) → Out
answer p at v message = p.out_of (moment_of at) (row_of at v message)

-- what settle answers and leaves
abbrev pub Applies : Settlement → Settled → HeldVertex → HeldVertex → Type 0
Applies Keeps settled old new = (settled ≡ Keep) × (new ≡ old)
Applies (Sets x) settled old new = (settled ≡ Set) × (new ≡ record old { vertex = x })
Applies Removes settled old new = (settled ≡ Remove) × (new ≡ old)

-- the vertex that it sets is above room
abbrev pub is_too_wide : ℕ → Settlement → Bool
is_too_wide room Keeps = false
is_too_wide room (Sets x) = is_wide room x
is_too_wide room Removes = false
