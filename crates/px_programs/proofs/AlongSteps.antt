-- Steps of a loop that sends or requests along edges: `add` adds pairs to either.
use Rattle.std.proofs.Common.{◌≡◌, ℕ, Bool, ◌+◌, List, [], ◌∷◌, ◌++◌, Some, take, sym, ◌∙◌, ap, subst, append_assoc}
use Rattle.std.specs.Prelude.{slice_get, IsTrue}
use Rattle.std.proofs.lemmas.List.{map_more, take-map}
use Rattle.std.proofs.lemmas.Option.{slice_get_within, get_or_from_slice_get}
use Rattle.px_core.specs.Counts.{Rose}
use Rattle.px_core.specs.declared.stop.Stop.{Stop}
use Rattle.px_meaning.specs.Merge.{MergeRule, Pairs}
use Rattle.px_program.specs.Posted.{Posted, MadeFor, IsBeyond, Refuses, StopsPosting}
use Rattle.px_programs.specs.Along.{sent_by, with_sends, with_requests, PairsPart}

by_more : (f : ℕ × ℕ → List ℕ) (es : List (ℕ × ℕ)) (i : ℕ) (e : ℕ × ℕ) → slice_get es i ≡ Some e → sent_by f (take (i + 1) es) ≡ sent_by f (take i es) ++ (e.0, f e) ∷ []
by_more f es i e h =
    map_more (λ (x : ℕ × ℕ). (x.0, f x)) es i e (slice_get_within es i e h) ∙ ap (λ (x : ℕ × ℕ). sent_by f (take i es) ++ (x.0, f x) ∷ []) (get_or_from_slice_get es i e e h)

-- lists that are added in turn are added as one
abbrev pub Adds : (Pairs → Posted → Posted) → Type 0
Adds add = (l m : Pairs) (p : Posted) → add m (add l p) ≡ add (l ++ m) p

pub adds_sends : Adds with_sends
adds_sends l m p = ap (λ (s : Pairs). record p { sends = s }) (append_assoc p.sends l m)

pub adds_requests : Adds with_requests
adds_requests l m p = ap (λ (s : Pairs). record p { requests = s }) (append_assoc p.requests l m)

module _ (add : Pairs → Posted → Posted) (adds : Adds add) (pay : ℕ × ℕ → List ℕ) (es : List (ℕ × ℕ)) (i : ℕ) where
  -- one more pair goes on from those before it
  pub more_along : (old : Posted) (e : ℕ × ℕ) (payload : List ℕ) → payload ≡ pay e → slice_get es i ≡ Some e → add ((e.0, payload) ∷ []) (add (sent_by pay (take i es)) old) ≡ add (sent_by pay (take (i + 1) es)) old
  more_along old e payload is h =
      ap (λ (b : List ℕ). add ((e.0, b) ∷ []) (add (sent_by pay (take i es)) old)) is
      ∙ adds (sent_by pay (take i es)) ((e.0, pay e) ∷ []) old ∙ ap (λ (l : Pairs). add l old) (sym (by_more pay es i e h))

  -- what was added along some of the edges is a part
  pub part_along : (old : Posted) → PairsPart add (sent_by pay es) old (add (sent_by pay (take i es)) old)
  part_along old = (i, ap (λ (l : Pairs). add l old) (sym (take-map (λ (x : ℕ × ℕ). (x.0, pay x)) i es)))

-- a pair along an edge was refused, after those along the edges before it
pub stops_along : (add : Pairs → Posted → Posted) (adds : Adds add) (pay : ℕ × ℕ → List ℕ) (es : List (ℕ × ℕ)) (i : ℕ) (edge : ℕ × ℕ) (payload : List ℕ) (valid : Type 0) (was mid now : Posted → Type 0) (f g : MadeFor) (is_open : Bool) (before between after : ℕ) (e : Stop)
    → ((p : Posted) → was p → mid (add (sent_by pay (take i es)) p)) → slice_get es i ≡ Some edge → payload ≡ pay edge → g ≡ f → between ≡ before → valid
    → Refuses valid mid now (add ((edge.0, payload) ∷ [])) g is_open between after e → StopsPosting was now (PairsPart add (sent_by pay es)) f is_open before after e
stops_along add adds pay es i edge payload valid was mid now f g is_open before between after e so_far at is same none ok k = record {
  begun = λ still p took. (add (sent_by pay (take i es)) p, part_along add adds pay es i p, k.same still _ (so_far p took));
  beyond = λ stop p took.
      let made = add (sent_by pay (take (i + 1) es)) p in
      let whole : add ((edge.0, payload) ∷ []) (add (sent_by pay (take i es)) p) ≡ made = more_along add adds pay es i p edge payload is at in
      (made, part_along add adds pay es (i + 1) p, subst (λ h. IsBeyond h made) same (subst (IsBeyond g) whole (k.beyond ok stop _ (so_far p took))));
  cause = record { scratch = λ stop. subst (λ b. Rose b after) none (k.cause.scratch stop); no_fault = λ not. k.cause.no_fault not ∙ none; no_graph = k.cause.no_graph };
}

-- what is valid by one rule is by the same rule
pub valid_by : (r s : MergeRule) (bytes : List ℕ) → r ≡ s → IsTrue (s.valid bytes) → IsTrue (r.valid bytes)
valid_by r s bytes same valid = subst (λ (t : MergeRule). IsTrue (t.valid bytes)) (sym same) valid
