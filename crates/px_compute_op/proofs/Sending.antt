-- A pair was given to the group, or refused.
use Rattle.std.proofs.Common.{◌≡◌, ℕ, ◌+◌, List, [], ◌∷◌, ◌++◌, length, Bool, IsTrue, sym, ◌∙◌, subst}
use Rattle.std.specs.Prelude.{Result, Ok, Err, OnOk, IfErr}
use Rattle.std.specs.Result.{is_ok}
use Rattle.std.proofs.lemmas.Bool.{or_left}
use Rattle.px_core.specs.Shown.{Shown}
use Rattle.px_core.specs.declared.stop.Stop.{Stop}
use Rattle.px_meaning.specs.Merge.{MergeRule, Pairs}
use Rattle.px_meaning.specs.Program.{ProgramMeaning}
use Rattle.px_meaning.specs.Step.{are_beyond}
use Rattle.px_program.specs.Groups.{StopsGrouping}
use Rattle.px_program.specs.Posted.{Posted, MadeFor, sent, Refuses}
use Rattle.px_global_state.specs.declared.part.Part.{Part}
use Rattle.px_compute_op.specs.Outs.{HasTaken}
use Rattle.px_compute_op.proofs.Taking.{taken_send}

-- these bytes were given to the group, by a rule that is the program's
module _ {R : Type 0} (to : ℕ) (b c : List ℕ) (same : c ≡ b) (m : ProgramMeaning) (rule : MergeRule) (rule_is : rule ≡ m.message) (n : ℕ) where
  pub given : (room : ℕ) (taking taking' : MergeRule → Pairs → Type 0) (asking asking' before : Pairs → Type 0) (made : Part) (was_open is_open : Bool) → IsTrue was_open → IsTrue (m.message.valid b) → (r : Result R Stop)
      → OnOk r ((l : Pairs) → IsTrue (rule.valid c) → taking rule l → taking' rule (l ++ (to, c) ∷ [])) → OnOk r (n ≡ made.sends + 1) → OnOk r ((l : Pairs) → asking l → asking' l)
      → OnOk r ((p : Posted) → (IsTrue was_open → HasTaken m room (taking m.message) asking before made p) → IsTrue is_open → HasTaken m room (taking' m.message) asking' before (record made { sends = n }) (sent to b p))
  given room taking taking' asking asking' before made was_open is_open opened valid (Err e) took count stay = tt
  given room taking taking' asking asking' before made was_open is_open opened valid (Ok x) took count stay = λ p was still.
      let told : IsTrue (rule.valid c) = subst (λ (k : MergeRule). IsTrue (k.valid c)) (sym rule_is) (subst (λ (y : List ℕ). IsTrue (m.message.valid y)) (sym same) valid) in
      let one : (l : Pairs) → taking m.message l → taking' m.message (l ++ (to, b) ∷ []) = λ l h.
      subst (λ (y : List ℕ). taking' m.message (l ++ (to, y) ∷ [])) same (subst (λ (k : MergeRule). taking' k (l ++ (to, c) ∷ [])) rule_is (took l told (subst (λ (k : MergeRule). taking k l) (sym rule_is) h))) in
      subst (λ (k : ℕ). HasTaken m room (taking' m.message) asking' before (record made { sends = k }) (sent to b p)) (sym count)
      (taken_send m room (taking m.message) (taking' m.message) asking asking' before made p to b one stay (was opened))

  pub refused : (taking : MergeRule → Pairs → Type 0) (mine : ℕ → Type 0) (s t : Shown) (f : MadeFor) (was now : Posted → Type 0) (is_open : Bool) (r : Result R Stop) → f.message ≡ m.message → is_open ≡ is_ok r
      → ((p : Posted) → was p → taking m.message p.sends × (length p.sends ≡ n))
      → IfErr r (StopsGrouping mine ((l : Pairs) → IsTrue (rule.valid c) → taking rule l → length l ≡ n → IsTrue (are_beyond rule f.room (l ++ (to, c) ∷ []))) s t)
      → IfErr r (Refuses (IsTrue (f.message.valid b)) was now (sent to b) f is_open s.faults t.faults)
  refused taking mine s t f was now is_open (Ok x) for_it open_is taken stops = tt
  refused taking mine s t f was now is_open (Err e) for_it open_is taken stops =
      let here : rule ≡ f.message = rule_is ∙ sym for_it in
      record {
        same = λ opened. absurd (let no = open_is in cc);
        beyond = λ valid is p w.
            let t = taken p w in
            let told : IsTrue (rule.valid c) = subst (λ (k : MergeRule). IsTrue (k.valid c)) (sym here) (subst (λ (y : List ℕ). IsTrue (f.message.valid y)) (sym same) valid) in
            let all = stops.beyond is p.sends told (subst (λ (k : MergeRule). taking k p.sends) (sym rule_is) t.0) t.1 in
            or_left _ _ (subst (λ (y : List ℕ). IsTrue (are_beyond f.message f.room (p.sends ++ (to, y) ∷ []))) same (subst (λ (k : MergeRule). IsTrue (are_beyond k f.room (p.sends ++ (to, c) ∷ []))) here all));
        cause = stops.cause;
      }
