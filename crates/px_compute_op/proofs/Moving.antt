-- One more fold is moved to a sender.
use Rattle.std.proofs.Common.{◌≡◌, ◌<◌, ℕ, List, [], ◌∷◌, ◌++◌, sym, ◌∙◌, ap, subst, refl, arith, append_assoc}
use Rattle.std.proofs.lemmas.Bool.{and_from, le-leb}
use Rattle.std.proofs.lemmas.List.{append-nil}
use Rattle.px_meaning.specs.Graph.{IsMap, AllAbove, vids}
use Rattle.px_meaning.specs.Merge.{Pairs}
use Rattle.px_program.specs.Groups.{LeadsPair}
use Rattle.px_connectors.specs.Views.{AllUpTo}

above_at : (k : ℕ) (us : Pairs) (v : ℕ) (x : List ℕ) (rest : Pairs) → AllAbove k (vids (us ++ (v, x) ∷ rest)) → k < v
above_at k [] v x rest h = h.0
above_at k (u ∷ us) v x rest h = above_at k us v x rest h.1

up_to : (us : Pairs) (v : ℕ) (x : List ℕ) (rest : Pairs) → IsMap (us ++ (v, x) ∷ rest) → AllUpTo v us
up_to [] v x rest m = refl
up_to (u ∷ us) v x rest m = and_from _ _ (le-leb u.0 v (let a = above_at u.0 us v x rest m.0 in omega (arith, a))) (up_to us v x rest m.1)

-- the first of these pairs were put, and the others are still to be given
pub record Moving (giving sending : Pairs → Type 0) (pairs : Pairs) : Type 0 where
  pub moved : Pairs
  pub rest : Pairs
  pub split : pairs ≡ moved ++ rest
  pub gives : giving rest
  pub sends : sending moved

pub moving_first : (giving sending : Pairs → Type 0) (pairs : Pairs) → giving pairs → sending [] → Moving giving sending pairs
moving_first giving sending pairs g s = record { moved = []; rest = pairs; split = refl; gives = g; sends = s }

pub moving_next : (giving giving' giving'' sending sending' sending'' : Pairs → Type 0) (pairs : Pairs) (v : ℕ) (x : List ℕ) → IsMap pairs
    → ((k : Pairs) → giving k → LeadsPair v x k giving') → ((k : Pairs) → giving' k → giving'' k)
    → ((k : Pairs) → sending k → sending' k) → ((k : Pairs) → AllUpTo v k → sending' k → sending'' (k ++ (v, x) ∷ []))
    → Moving giving sending pairs → Moving giving'' sending'' pairs
moving_next giving giving' giving'' sending sending' sending'' pairs v x map lead stay keep put i =
    let l = lead i.rest i.gives in
    let split : pairs ≡ i.moved ++ (v, x) ∷ l.rest = i.split ∙ ap (λ (k : Pairs). i.moved ++ k) l.is in
    record {
      moved = i.moved ++ (v, x) ∷ [];
      rest = l.rest;
      split = split ∙ sym (append_assoc i.moved ((v, x) ∷ []) l.rest);
      gives = stay l.rest l.after;
      sends = put i.moved (up_to i.moved v x l.rest (subst IsMap split map)) (keep i.moved i.sends);
    }

pub moving_end : (giving sending sending' : Pairs → Type 0) (pairs : Pairs) → ((k : Pairs) → giving k → k ≡ []) → ((k : Pairs) → sending k → sending' k) → Moving giving sending pairs → sending' pairs
moving_end giving sending sending' pairs none keep i =
    subst sending' (sym (i.split ∙ ap (λ (k : Pairs). i.moved ++ k) (none i.rest i.gives) ∙ append-nil i.moved)) (keep i.moved i.sends)
