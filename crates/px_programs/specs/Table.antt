-- What a program of this crate has of its own, and what all of them share: the default verdict, and an aggregate that sums.
use Rattle.std.specs.Prelude.{ℕ, List}
use Rattle.px_meaning.specs.Graph.{Vertex}
use Rattle.px_meaning.specs.Merge.{MergeRule, MergeLaws, AllValid, IsValidMessage}
use Rattle.px_meaning.specs.Program.{ProgramMeaning, ProgramLaws, Moment, Row, Out}
use Rattle.px_program.specs.Saturating.{saturating_sum}
use Rattle.px_program.proofs.SaturatingSums.{saturating_sum_unit, saturating_sum_commutes, saturating_sum_associates}
use Rattle.px_verdict.specs.Verdict.{verdict_rule, verdict_laws, settle_of}

-- what a row answers, the rule of messages, and the printed form of a value
pub record Table : Type 0 where
  pub out_of : Moment → Row → Out
  pub message : MergeRule
  pub value_text : Vertex → List ℕ

abbrev pub plain : Table → ProgramMeaning
plain t = record {
  out_of = t.out_of;
  settle_of = settle_of;
  message = t.message;
  verdict = verdict_rule;
  unit = 0;
  join = saturating_sum;
  value_text = t.value_text;
}

-- all that is sent and requested is valid
pub record IsValidOut (rule : MergeRule) (o : Out) : Type 0 where
  pub sends : AllValid rule o.sends
  pub requests : AllValid verdict_rule o.requests

-- what a table must meet: its rule's laws, and that valid messages are answered by valid pairs
pub plain_laws : (t : Table) → MergeLaws t.message → ((at : Moment) (row : Row) → IsValidMessage t.message row.message → IsValidOut t.message (t.out_of at row)) → ProgramLaws (plain t)
plain_laws t messages valid = record {
  messages = messages;
  verdicts = verdict_laws;
  sends_valid = λ at row h. (valid at row h).sends;
  requests_valid = λ at row h. (valid at row h).requests;
  join_unit = saturating_sum_unit;
  join_commutes = saturating_sum_commutes;
  join_associates = saturating_sum_associates;
}
