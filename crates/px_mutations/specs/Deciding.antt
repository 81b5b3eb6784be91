-- A program of the tests, whose verdicts are numbers of eight bytes. The least counts, and its first byte says what becomes of the vid.
use Rattle.std.specs.Prelude.{ℕ, ◌==◌, if◌then◌else◌, Option, [], ◌∷◌, replicate, slice_index, refl}
use Rattle.px_meaning.specs.Graph.{Vertex, vertex_or_fresh}
use Rattle.px_meaning.specs.Program.{ProgramMeaning, ProgramLaws, Settlement, Keeps, Sets, Removes}
use Rattle.px_program.specs.Numbers.{lesser_rule}
use Rattle.px_program.proofs.NumberRules.{lesser_laws}
use Rattle.px_global_state.specs.Least.{least, least_laws}

-- 1 sets a value of one byte, 2 removes, and 3 sets a value for which pages of 256 bytes have no room
abbrev pub decided : Option Vertex → ℕ → Settlement
decided x n =
    if n == 1 then Sets (record (vertex_or_fresh x) { value = replicate 1 9 })
    else if n == 2 then Removes
    else if n == 3 then Sets (record (vertex_or_fresh x) { value = replicate 100 9 })
    else Keeps

abbrev pub deciding : ProgramMeaning
deciding = record {
  out_of = least.out_of;
  settle_of = λ v x verdict. decided x (slice_index verdict 0);
  message = least.message;
  verdict = lesser_rule;
  unit = least.unit;
  join = least.join;
  value_text = least.value_text;
}

pub deciding_laws : ProgramLaws deciding
deciding_laws = record {
  messages = least_laws.messages;
  verdicts = lesser_laws;
  sends_valid = least_laws.sends_valid;
  requests_valid = λ at row h. refl;
  join_unit = least_laws.join_unit;
  join_commutes = least_laws.join_commutes;
  join_associates = least_laws.join_associates;
}
