-- A caller that collects the vids of a text.
use Rattle.std.proofs.Common.{◌≡◌, ◌≢◌, ℕ, List, [], ◌∷◌, ◌++◌, Option, None, Result, Ok, Err, sym, ◌∙◌, ap, refl, subst, append-nil, append_assoc}
use Rattle.std.specs.Prelude.{IfOk, IfErr, OnOk}
use Rattle.px_meaning.specs.Graph.{Vertex, vids}
use Rattle.px_meaning.specs.GraphText.{Offence}
use Rattle.px_record.specs.Held.{HeldVertex}
use Rattle.px_graph_text.specs.declared.refusal.TextStop.{TextStop}
use Rattle.px_graph_text.specs.declared.refusal.TextStop.TheVariants.{Source, Bad}
use Rattle.px_graph_text.specs.Reading.{ParserView, ToGive, Begins, IsOver, IsBad}

-- these vids were found since the beginning, and the others are still to be given
pub record Collects (AreLeft : List ℕ → Type 0) (room : ℕ) (parser : ParserView) (before found : List ℕ) (vertices : List (ℕ × Vertex)) (offence : Option Offence) : Type 0 where
  pub bytes : List ℕ
  pub others : List (ℕ × Vertex)
  pub are_left : AreLeft bytes
  pub to_give : ToGive room parser bytes others offence
  pub all : found ++ vids others ≡ before ++ vids vertices

pub collects_more : (Left New : List ℕ → Type 0) (room was : ℕ) (old new : ParserView) (before found more : List ℕ) (held : HeldVertex) (vs : List (ℕ × Vertex)) (o : Option Offence) → was ≡ room → more ≡ found ++ held.vid ∷ []
    → ((bytes : List ℕ) (ws : List (ℕ × Vertex)) (p : Option Offence) → Left bytes → ToGive was old bytes ws p → Begins New was new held ws p)
    → Collects Left room old before found vs o → Collects New room new before more vs o
collects_more Left New room was old new before found more held vs o same is gives h =
    let b = gives h.bytes h.others o h.are_left (subst (λ (r : ℕ). ToGive r old h.bytes h.others o) (sym same) h.to_give) in
    record {
      bytes = b.bytes;
      others = b.others;
      are_left = b.are_left;
      to_give = subst (λ (r : ℕ). ToGive r new b.bytes b.others o) same b.to_give;
      all = ap (λ (l : List ℕ). l ++ vids b.others) is ∙ append_assoc found (held.vid ∷ []) (vids b.others) ∙ ap (λ (ws : List (ℕ × Vertex)). found ++ vids ws) (sym b.is) ∙ h.all;
    }

-- where no others are to be given
pub collected : (Left : List ℕ → Type 0) (room was : ℕ) (old : ParserView) (before found : List ℕ) (vs : List (ℕ × Vertex)) (o : Option Offence) → was ≡ room
    → ((bytes : List ℕ) (ws : List (ℕ × Vertex)) (p : Option Offence) → Left bytes → ToGive was old bytes ws p → ws ≡ [])
    → Collects Left room old before found vs o → found ≡ before ++ vids vs
collected Left room was old before found vs o same none h =
    let e = none h.bytes h.others o h.are_left (subst (λ (r : ℕ). ToGive r old h.bytes h.others o) (sym same) h.to_give) in
    sym (append-nil found) ∙ ap (λ (ws : List (ℕ × Vertex)). found ++ vids ws) (sym e) ∙ h.all

pub bad_given : (stop : TextStop) (vs : List (ℕ × Vertex)) (o : Option Offence) → stop ≢ Source → IsBad stop vs o → vs ≡ []
bad_given Source vs o not bad = absurd (not refl)
bad_given (Bad line kind) vs o not bad = bad.given

bad_so : (stop : TextStop) (vs : List (ℕ × Vertex)) (o : Option Offence) → IsBad stop vs o → IsBad stop [] o
bad_so Source vs o bad = tt
bad_so (Bad line kind) vs o bad = record { given = refl; at = bad.at }

pub collected_good : (Left New : List ℕ → Type 0) (room was : ℕ) (old : ParserView) (before found : List ℕ) (vs : List (ℕ × Vertex)) (o : Option Offence) → was ≡ room
    → ((bytes : List ℕ) (ws : List (ℕ × Vertex)) (p : Option Offence) → Left bytes → ToGive was old bytes ws p → IsOver New ws p)
    → Collects Left room old before found vs o → o ≡ None
collected_good Left New room was old before found vs o same over h = (over h.bytes h.others o h.are_left (subst (λ (r : ℕ). ToGive r old h.bytes h.others o) (sym same) h.to_give)).good

pub collected_bad : (Left : List ℕ → Type 0) (room was : ℕ) (old : ParserView) (before found : List ℕ) (vs : List (ℕ × Vertex)) (o : Option Offence) (stop : TextStop) → was ≡ room
    → ((bytes : List ℕ) (ws : List (ℕ × Vertex)) (p : Option Offence) → Left bytes → ToGive was old bytes ws p → IsBad stop ws p)
    → Collects Left room old before found vs o → IsBad stop [] o
collected_bad Left room was old before found vs o stop same bad h = bad_so stop h.others o (bad h.bytes h.others o h.are_left (subst (λ (r : ℕ). ToGive r old h.bytes h.others o) (sym same) h.to_give))

-- what follows from an answer

pub answers_so : {T F : Type 0} (r : Result T F) (P Q : T → Type 0) → ((x : T) → P x → Q x) → IfOk r P → IfOk r Q
answers_so (Ok x) P Q f h = f x h
answers_so (Err e) P Q f h = tt

pub ends_so : {T E F : Type 0} (r : Result (Result T E) F) (A B : Type 0) → (A → B) → IfOk r (λ end. OnOk end A) → IfOk r (λ end. OnOk end B)
ends_so (Ok (Ok x)) A B f h = f h
ends_so (Ok (Err e)) A B f h = tt
ends_so (Err e) A B f h = tt

pub stops_so : {T E F : Type 0} (r : Result (Result T E) F) (P Q : E → Type 0) → ((e : E) → P e → Q e) → IfOk r (λ end. IfErr end P) → IfOk r (λ end. IfErr end Q)
stops_so (Ok (Ok x)) P Q f h = tt
stops_so (Ok (Err e)) P Q f h = f e h
stops_so (Err e) P Q f h = tt
