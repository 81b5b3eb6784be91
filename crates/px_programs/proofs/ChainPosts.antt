-- What a vertex of chains has posted where it stops.
use Rattle.std.proofs.Common.{◌≡◌, ◌⊎◌, ℕ, Bool, List, [], ◌∷◌, ◌++◌, length, take, drop, Option, sym, ◌∙◌, ap, subst, refl, inl, inr}
use Rattle.std.proofs.lemmas.List.{append-nil}
use Rattle.px_core.specs.declared.stop.Stop.{Stop}
use Rattle.byteorder.specs.Endian.{big_bytes}
use Rattle.px_meaning.specs.Graph.{Vertex}
use Rattle.px_meaning.specs.Merge.{Pairs}
use Rattle.px_program.specs.Posted.{Posted, MadeFor, sent, requested, with_out, gathered, with_piece, IsPartOf, Refuses, StopsPosting}
use Rattle.px_program.proofs.Gathering.{pieces_more}
use Rattle.px_record.specs.Body.{edges_bytes}
use Rattle.px_verdict.specs.Verdict.{delete}
use Rattle.px_programs.specs.Along.{with_sends, SendsPart}
use Rattle.px_programs.specs.ChainMessages.{answer}
use Rattle.px_programs.specs.Chains.{answers}
use Rattle.px_programs.proofs.PostSteps.{begins_none, stops_at_once, stops_as}

-- the only send was refused
part_of_one : (to : ℕ) (payload : List ℕ) (sends : Pairs) → sends ≡ (to, payload) ∷ [] → (old made : Posted) → (made ≡ old) ⊎ (made ≡ sent to payload old) → SendsPart sends old made
part_of_one to payload sends is old made (inl none) = (0, none ∙ ap (λ (l : Pairs). record old { sends = l }) (sym (append-nil old.sends)))
part_of_one to payload sends is old made (inr one) = (1, one ∙ ap (λ (l : Pairs). with_sends (take 1 l) old) (sym is))

pub stops_one_send : (to : ℕ) (payload : List ℕ) (sends : Pairs) (valid : Type 0) (was now : Posted → Type 0) (f : MadeFor) (is_open : Bool) (before after : ℕ) (e : Stop) → sends ≡ (to, payload) ∷ [] → valid
    → Refuses valid was now (sent to payload) f is_open before after e → StopsPosting was now (SendsPart sends) f is_open before after e
stops_one_send to payload sends valid was now f is_open before after e is ok k =
    stops_as _ (SendsPart sends) was now f is_open before after e (part_of_one to payload sends is) (stops_at_once (sent to payload) valid was now f is_open before after e ok k)

module _ (vid : ℕ) (x : Vertex) (head : ℕ) where
  -- the answer was refused
  pub part_sent : (old made : Posted) → (made ≡ old) ⊎ (made ≡ sent head (answer (drop 1 x.value) x.edges) old) → IsPartOf (answers vid x head) old made
  part_sent old made (inl none) =
      subst (IsPartOf (answers vid x head) old) (sym none) (record { sends = begins_none _ _; requests = begins_none _ _; contributions = begins_none _ _ })
  part_sent old made (inr one) =
      subst (IsPartOf (answers vid x head) old) (sym one) (record { sends = (1, refl); requests = begins_none _ _; contributions = begins_none _ _ })

  -- the request was refused
  pub part_left : (old made : Posted) → (made ≡ sent head (answer (drop 1 x.value) x.edges) old) ⊎ (made ≡ requested vid delete (sent head (answer (drop 1 x.value) x.edges) old)) → IsPartOf (answers vid x head) old made
  part_left old made (inl one) = part_sent old made (inr one)
  part_left old made (inr two) =
      subst (IsPartOf (answers vid x head) old) (sym two) (record { sends = (1, refl); requests = (1, refl); contributions = begins_none _ _ })

  pub all_answered : (p : Posted) → requested vid delete (sent head (answer (drop 1 x.value) x.edges) p) ≡ with_out (answers vid x head) p
  all_answered p =
      ap (λ (l : List ℕ). record { sends = p.sends ++ (head, answer (drop 1 x.value) x.edges) ∷ []; requests = p.requests ++ (vid, delete) ∷ []; contributions = l }) (sym (append-nil p.contributions))

-- three pieces were gathered
pub three_gathered : (f0 f1 f2 f3 : MadeFor) (a b c want : List ℕ) (p0 p1 p2 p3 : Option (List ℕ)) → p0 ≡ gathered f0.room [] → p1 ≡ with_piece f0.room a p0 → f1 ≡ f0 → p2 ≡ with_piece f1.room b p1 → f2 ≡ f1
    → p3 ≡ with_piece f2.room c p2 → f3 ≡ f2 → a ++ b ++ c ≡ want → p3 ≡ gathered f3.room want
three_gathered f0 f1 f2 f3 a b c want p0 p1 p2 p3 none first same1 second same2 third same3 all =
    let one : p1 ≡ gathered f0.room a = pieces_more f0.room [] a p0 p1 none first in
    let two = pieces_more f0.room a b p1 p2 one (second ∙ ap (λ (f : MadeFor). with_piece f.room b p1) same1) in
    let three = pieces_more f0.room (a ++ b) c p2 p3 two (third ∙ ap (λ (f : MadeFor). with_piece f.room c p2) (same2 ∙ same1)) in
    three ∙ ap (gathered f0.room) all ∙ ap (λ (f : MadeFor). gathered f.room want) (sym (same3 ∙ same2 ∙ same1))

-- the pieces of an answer
pub answer_bytes : (a b c vids : List ℕ) (edges : List (ℕ × ℕ)) → a ≡ 3 ∷ big_bytes 4 (length b) → b ≡ vids → c ≡ edges_bytes edges → a ++ b ++ c ≡ answer vids edges
answer_bytes a b c vids edges front middle end =
    ap (λ (l : List ℕ). l ++ b ++ c) front ∙ ap (λ (l : List ℕ). 3 ∷ big_bytes 4 (length l) ++ l ++ c) middle ∙ ap (λ (l : List ℕ). 3 ∷ big_bytes 4 (length vids) ++ vids ++ l) end
