-- A program of the tests: each vertex votes to halt, and contributions join to the least. The aggregate of none is the greatest number.
use Rattle.std.specs.Prelude.{◌≡◌, ℕ, ◌-◌, ◌^◌, true, [], min, refl}
use Rattle.std.proofs.Math.Nat.{min_comm, min-le_left, min-le_right, le-min, min-eq_right, le_antisymm, le_trans, le_of_suc-le-suc}
use Rattle.px_meaning.specs.Graph.{vertex_or_fresh}
use Rattle.px_meaning.specs.Program.{ProgramMeaning, ProgramLaws, Keeps}
use Rattle.px_verdict.specs.Verdict.{verdict_rule, verdict_laws}

abbrev pub least : ProgramMeaning
least = record {
  out_of = λ at row. record { vertex = record (vertex_or_fresh row.vertex) { halt = true }; sends = []; requests = []; contributions = [] };
  settle_of = λ v x verdict. Keeps;
  message = verdict_rule;
  verdict = verdict_rule;
  unit = 2 ^ 64 - 1;
  join = min;
  value_text = λ x. [];
}

min_associates : (a b c : ℕ) → min a (min b c) ≡ min (min a b) c
min_associates a b c = le_antisymm
    (le-min (le-min (min-le_left a (min b c)) (le_trans (min-le_right a (min b c)) (min-le_left b c))) (le_trans (min-le_right a (min b c)) (min-le_right b c)))
    (le-min (le_trans (min-le_left (min a b) c) (min-le_left a b)) (le-min (le_trans (min-le_left (min a b) c) (min-le_right a b)) (min-le_right (min a b) c)))

pub least_laws : ProgramLaws least
least_laws = record {
  messages = verdict_laws;
  verdicts = verdict_laws;
  sends_valid = λ at row h. refl;
  requests_valid = λ at row h. refl;
  join_unit = λ a lt. min-eq_right (le_of_suc-le-suc lt);
  join_commutes = min_comm;
  join_associates = min_associates;
}
