-- One more pair is taken, or refused.
use Rattle.std.proofs.Common.{◌≡◌, ℕ, ◌+◌, ◌<◌, ◌≤◌, ◌^◌, List, [], ◌∷◌, ◌++◌, length, IsTrue, false, sym, ◌∙◌, ap, subst, refl, ◌⊎◌, inl, inr, arith, append_assoc, length-append}
use Rattle.std.specs.Prelude.{nat_lt}
use Rattle.std.proofs.lemmas.Bool.{or_left, or_right, or_from, lt-ltb, le-ltb}
use Rattle.std.proofs.lemmas.List.{append-nil}
use Rattle.std.proofs.lemmas.List.Folds.{list_any-append}
use Rattle.px_meaning.specs.Graph.{pair_size}
use Rattle.px_meaning.specs.Merge.{MergeRule, MergeLaws, Pairs, AllValid}
use Rattle.px_meaning.specs.Program.{ProgramMeaning}
use Rattle.px_meaning.specs.Step.{are_beyond}
use Rattle.px_meaning.proofs.Limits.{wide_pair}
use Rattle.px_program.specs.Posted.{Posted, nothing, sent, requested, asks_too_much}
use Rattle.px_global_state.specs.declared.part.Part.{Part}
use Rattle.px_compute_op.specs.Outs.{HasTaken}

one_longer : (l : Pairs) (e : ℕ × List ℕ) → length (l ++ e ∷ []) ≡ length l + 1
one_longer l e = length-append l (e ∷ [])

module _ (m : ProgramMeaning) (room : ℕ) (grouping grouping' asking asking' before : Pairs → Type 0) (made : Part) (p : Posted) where
  pub taken_send : (to : ℕ) (payload : List ℕ) → ((l : Pairs) → grouping l → grouping' (l ++ (to, payload) ∷ [])) → ((l : Pairs) → asking l → asking' l)
      → HasTaken m room grouping asking before made p → HasTaken m room grouping' asking' before (record made { sends = made.sends + 1 }) (sent to payload p)
  taken_send to payload one same t = record {
    group = one p.sends t.group;
    requests = λ l h. same (l ++ p.requests) (t.requests l h);
    sends_are = one_longer p.sends (to, payload) ∙ ap (λ n. n + 1) t.sends_are;
    requests_are = t.requests_are;
    contributed_is = t.contributed_is;
    requests_fit = t.requests_fit;
  }

  pub taken_request : (vid : ℕ) (verdict : List ℕ) → pair_size verdict ≤ room → ((l : Pairs) → asking l → asking' (l ++ (vid, verdict) ∷ [])) → ((l : Pairs) → grouping l → grouping' l)
      → HasTaken m room grouping asking before made p → HasTaken m room grouping' asking' before (record made { requests = made.requests + 1 }) (requested vid verdict p)
  taken_request vid verdict fits one same t = record {
    group = same p.sends t.group;
    requests = λ l h. subst asking' (append_assoc l p.requests ((vid, verdict) ∷ [])) (one (l ++ p.requests) (t.requests l h));
    sends_are = t.sends_are;
    requests_are = one_longer p.requests (vid, verdict) ∙ ap (λ n. n + 1) t.requests_are;
    contributed_is = t.contributed_is;
    requests_fit = list_any-append (λ (e : ℕ × List ℕ). nat_lt room (pair_size e.1)) p.requests ((vid, verdict) ∷ []) ∙ or_from _ _ t.requests_fit (or_from _ _ (le-ltb room (pair_size verdict) fits) refl);
  }

  -- what was taken stays so where the group and the requests are kept
  pub taken_kept : ((l : Pairs) → grouping l → grouping' l) → ((l : Pairs) → asking l → asking' l) → HasTaken m room grouping asking before made p → HasTaken m room grouping' asking' before made p
  taken_kept keep stay t = record {
    group = keep p.sends t.group;
    requests = λ l h. stay (l ++ p.requests) (t.requests l h);
    sends_are = t.sends_are;
    requests_are = t.requests_are;
    contributed_is = t.contributed_is;
    requests_fit = t.requests_fit;
  }

many_with : (l : Pairs) (e : ℕ × List ℕ) (taken : ℕ) → length l ≡ taken → 2 ^ 40 ≤ taken → IsTrue (nat_lt (2 ^ 40) (length (l ++ e ∷ [])))
many_with l e taken is many = lt-ltb (2 ^ 40) (length (l ++ e ∷ [])) (omega (arith, one_longer l e))

-- a send too many, or above room
pub past_is_beyond : (rule : MergeRule) → MergeLaws rule → (room taken : ℕ) (l : Pairs) (v : ℕ) (b : List ℕ) → AllValid rule l → IsTrue (rule.valid b) → length l ≡ taken
    → (2 ^ 40 ≤ taken) ⊎ (room < pair_size b) → IsTrue (are_beyond rule room (l ++ (v, b) ∷ []))
past_is_beyond rule laws room taken l v b hl hb is (inl many) = or_right _ _ (many_with l (v, b) taken is many)
past_is_beyond rule laws room taken l v b hl hb is (inr wide) = wide_pair rule laws room l v b hl hb wide

-- a request too many, or above room
pub past_asks_too_much : (room taken : ℕ) (l : Pairs) (v : ℕ) (b : List ℕ) → length l ≡ taken → (2 ^ 40 ≤ taken) ⊎ (room < pair_size b) → IsTrue (asks_too_much room (l ++ (v, b) ∷ []))
past_asks_too_much room taken l v b is (inl many) = or_right _ _ (many_with l (v, b) taken is many)
past_asks_too_much room taken l v b is (inr wide) =
    or_left _ _ (list_any-append (λ (e : ℕ × List ℕ). nat_lt room (pair_size e.1)) l ((v, b) ∷ []) ∙ or_right _ _ (or_left _ false (lt-ltb room (pair_size b) wide)))

-- nothing is taken yet
pub taken_first : (m : ProgramMeaning) (room : ℕ) (grouping asking before : Pairs → Type 0) (made : Part) → made ≡ record { sends = 0; requests = 0; contributed = m.unit }
    → grouping [] → ((l : Pairs) → before l → asking l) → HasTaken m room grouping asking before made nothing
taken_first m room grouping asking before made is group asked = record {
  group = group;
  requests = λ l h. subst asking (sym (append-nil l)) (asked l h);
  sends_are = sym (ap (λ (k : Part). k.sends) is);
  requests_are = sym (ap (λ (k : Part). k.requests) is);
  contributed_is = sym (ap (λ (k : Part). k.contributed) is);
  requests_fit = refl;
}
