-- What a program that posts has made where it stops.
use Rattle.std.proofs.Common.{◌≡◌, ◌⊎◌, ℕ, Bool, List, [], ◌∷◌, ◌++◌, sym, ◌∙◌, ap, subst, refl, inl, inr}
use Rattle.std.proofs.lemmas.List.{append-nil}
use Rattle.px_core.specs.Counts.{Rose}
use Rattle.px_core.specs.declared.stop.Stop.{Stop}
use Rattle.px_meaning.specs.Graph.{Vertex}
use Rattle.px_meaning.specs.Merge.{Pairs}
use Rattle.px_meaning.specs.Program.{Out}
use Rattle.px_program.specs.Posted.{Posted, MadeFor, contributed, with_out, Begins, IsPartOf, IsBeyond, Refuses, StopsPosting, StopsComputing}
use Rattle.px_programs.specs.Along.{with_sends, SendsPart, RequestsPart}
use Rattle.px_programs.specs.Answers.{posts, spreads, asks}

-- none of what may follow
pub begins_none : {A : Type 0} (l more : List A) → Begins l l more
begins_none l more = (0, sym (append-nil l))

-- what was made is this part of this answer
pub is_part : (o answer : Out) (old new made : Posted) → o ≡ answer → new ≡ made → IsPartOf answer old made → IsPartOf o old new
is_part o answer old new made is new_is part = subst (λ (p : Posted). IsPartOf o old p) (sym new_is) (subst (λ (a : Out). IsPartOf a old made) (sym is) part)

-- after the contribution, some of the sends are a part of the answer
pub part_posted : (x : Vertex) (n : ℕ) (sends : Pairs) (o : Out) (old new : Posted) → o ≡ posts x n sends → SendsPart sends (contributed n old) new → IsPartOf o old new
part_posted x n sends o old new is part = is_part o _ old new _ is part.1 (record { sends = (part.0, refl); requests = begins_none _ _; contributions = (1, refl) })

-- where nothing is contributed, some of the sends, or of the requests
pub part_spread : (x : Vertex) (sends : Pairs) (o : Out) (old new : Posted) → o ≡ spreads x sends → SendsPart sends old new → IsPartOf o old new
part_spread x sends o old new is part = is_part o _ old new _ is part.1 (record { sends = (part.0, refl); requests = begins_none _ _; contributions = begins_none _ _ })

pub part_asked : (x : Vertex) (requests : Pairs) (o : Out) (old new : Posted) → o ≡ asks x requests → RequestsPart requests old new → IsPartOf o old new
part_asked x requests o old new is part = is_part o _ old new _ is part.1 (record { sends = begins_none _ _; requests = (part.0, refl); contributions = begins_none _ _ })

-- after the contribution, all the sends are the answer
pub all_posted : (x : Vertex) (n : ℕ) (sends : Pairs) (o : Out) (old : Posted) → o ≡ posts x n sends → with_sends sends (contributed n old) ≡ with_out o old
all_posted x n sends o old is =
    ap (λ (l : List (ℕ × List ℕ)). record { sends = old.sends ++ sends; requests = l; contributions = old.contributions ++ n ∷ [] }) (sym (append-nil old.requests))
    ∙ sym (ap (λ (a : Out). with_out a old) is)

-- one pair was refused: it is the next, or nothing was made
pub stops_at_once : (asked : Posted → Posted) (valid : Type 0) (was now : Posted → Type 0) (f : MadeFor) (is_open : Bool) (before after : ℕ) (e : Stop) → valid → Refuses valid was now asked f is_open before after e
    → StopsPosting was now (λ old made. (made ≡ old) ⊎ (made ≡ asked old)) f is_open before after e
stops_at_once asked valid was now f is_open before after e ok k = record {
  begun = λ still p took. (p, inl refl, k.same still p took);
  beyond = λ stop p took. (asked p, inr refl, k.beyond ok stop p took);
  cause = k.cause;
}

-- a stop after this was posted
pub stops_then : (first : Posted → Posted) (Part : Posted → Posted → Type 0) (was mid now : Posted → Type 0) (f g : MadeFor) (is_open : Bool) (before between after : ℕ) (e : Stop) → ((p : Posted) → was p → mid (first p)) → g ≡ f
    → between ≡ before → StopsPosting mid now Part g is_open between after e → StopsPosting was now (λ p. Part (first p)) f is_open before after e
stops_then first Part was mid now f g is_open before between after e posted same none k = record {
  begun = λ still p took. k.begun still (first p) (posted p took);
  beyond = λ stop p took. let made = k.beyond stop (first p) (posted p took) in (made.0, made.1, subst (λ h. IsBeyond h made.0) same made.2);
  cause = record { scratch = λ stop. subst (λ b. Rose b after) none (k.cause.scratch stop); no_fault = λ not. k.cause.no_fault not ∙ none; no_graph = k.cause.no_graph };
}

-- a stop after the contribution
pub stops_after : (n : ℕ) (Part : Posted → Posted → Type 0) (was mid now : Posted → Type 0) (f g : MadeFor) (is_open : Bool) (before between after : ℕ) (e : Stop) → ((p : Posted) → was p → mid (contributed n p)) → g ≡ f
    → between ≡ before → StopsPosting mid now Part g is_open between after e → StopsPosting was now (λ p. Part (contributed n p)) f is_open before after e
stops_after n = stops_then (contributed n)

-- what is such a part is also a part of that kind
pub stops_as : (Part More : Posted → Posted → Type 0) (was now : Posted → Type 0) (f : MadeFor) (is_open : Bool) (before after : ℕ) (e : Stop) → ((old made : Posted) → Part old made → More old made)
    → StopsPosting was now Part f is_open before after e → StopsPosting was now More f is_open before after e
stops_as Part More was now f is_open before after e more k = record {
  begun = λ still p took. let made = k.begun still p took in (made.0, more p made.0 made.1, made.2);
  beyond = λ stop p took. let made = k.beyond stop p took in (made.0, more p made.0 made.1, made.2);
  cause = k.cause;
}

-- a stop while the answer was posted
pub stops_posting : (Part : Posted → Posted → Type 0) (valid wide : Type 0) (was now : Posted → Type 0) (o : Out) (f : MadeFor) (is_open : Bool) (before after : ℕ) (e : Stop) → (valid → (old made : Posted) → Part old made → IsPartOf o old made)
    → StopsPosting was now Part f is_open before after e → StopsComputing valid wide was now o f is_open before after e
stops_posting Part valid wide was now o f is_open before after e part k = record {
  begun = λ v still p took. let made = k.begun still p took in (made.0, part v p made.0 made.1, made.2);
  beyond = λ v stop. inr (λ p took. let made = k.beyond stop p took in (made.0, part v p made.0 made.1, made.2));
  cause = k.cause;
}

-- with a contribution, and then sends
pub stops_posted : (x : Vertex) (n : ℕ) (sends : Pairs) (valid wide : Type 0) (was now : Posted → Type 0) (o : Out) (f : MadeFor) (is_open : Bool) (before after : ℕ) (e : Stop) → (valid → o ≡ posts x n sends)
    → StopsPosting was now (λ p. SendsPart sends (contributed n p)) f is_open before after e → StopsComputing valid wide was now o f is_open before after e
stops_posted x n sends valid wide was now o f is_open before after e is = stops_posting (λ p. SendsPart sends (contributed n p)) valid wide was now o f is_open before after e (λ v old made. part_posted x n sends o old made (is v))
