-- The steps of a merge.
use Rattle.std.proofs.Common.{◌≡◌, ℕ, Bool, true, false, List, [], ◌∷◌, ◌++◌, sym, ◌∙◌, ap, append_assoc, refl, subst}
use Rattle.std.proofs.lemmas.List.{append-nil}
use Rattle.std.specs.Prelude.{Option, Some, None, Result, Ok, Err, IfSome, IfNone, IfOk, OnOk, nat_le, ⊤}
use Rattle.px_core.specs.Shown.{Shown, Touches, Only, NoFile}
use Rattle.px_core.proofs.Keeping.{same_by_none, same_by_other}
use Rattle.px_pages.specs.Entry.{Entry}
use Rattle.px_stream.specs.Views.{WriterView, ReaderView}
use Rattle.px_stream.specs.Stream.{Took, ToGive, Leads, tuple}
use Rattle.px_stream.specs.declared.reader.Head.{Head}
use Rattle.px_stream.proofs.Kept.{took_same, to_give_same}
use Rattle.px_stream.specs.Merged.{merged, goes_first, LeadsBoth}

-- whether the first list's first tuple goes first
abbrev pub a_leads : List Entry → List Entry → Bool
a_leads [] lb = false
a_leads (x ∷ la) [] = true
a_leads (x ∷ la) (y ∷ lb) = nat_le x.key y.key

merged_nil : (l : List Entry) → merged l [] ≡ l
merged_nil [] = refl
merged_nil (x ∷ l) = refl

merged_left : (e : Entry) (rest lb : List Entry) → a_leads (e ∷ rest) lb ≡ true → merged (e ∷ rest) lb ≡ e ∷ merged rest lb
merged_left e rest [] h = ap (λ (x : List Entry). e ∷ x) (sym (merged_nil rest))
merged_left e rest (y ∷ lb) h = rw h refl

merged_right : (la : List Entry) (e : Entry) (rest : List Entry) → a_leads la (e ∷ rest) ≡ false → merged la (e ∷ rest) ≡ e ∷ merged la rest
merged_right [] e rest h = refl
merged_right (x ∷ la) e rest h = rw h refl

both_none : (la : List Entry) → a_leads la [] ≡ false → la ≡ []
both_none [] h = refl
both_none (x ∷ la) h = absurd (cc h)

-- the heads that two peeks gave tell which list leads
pub peeks_tell : (A B : List Entry → Type 0) (o p : Option Head) (ba bb : List ℕ) (la lb : List Entry)
    → IfNone o ((l : List Entry) → A l → l ≡ []) → IfSome o (λ h. (l : List Entry) → A l → Leads (tuple h ba) l (λ x. ⊤))
    → IfNone p ((l : List Entry) → B l → l ≡ []) → IfSome p (λ h. (l : List Entry) → B l → Leads (tuple h bb) l (λ x. ⊤))
    → A la → B lb → goes_first o p ≡ a_leads la lb
peeks_tell A B None p ba bb la lb none_a some_a none_b some_b a b = sym (ap (λ (x : List Entry). a_leads x lb) (none_a la a))
peeks_tell A B (Some x) None ba bb la lb none_a some_a none_b some_b a b =
    sym (ap (λ (v : List Entry). a_leads v lb) (some_a la a).is ∙ ap (a_leads (tuple x ba ∷ (some_a la a).rest)) (none_b lb b))
peeks_tell A B (Some x) (Some y) ba bb la lb none_a some_a none_b some_b a b =
    sym (ap (λ (v : List Entry). a_leads v lb) (some_a la a).is ∙ ap (a_leads (tuple x ba ∷ (some_a la a).rest)) (some_b lb b).is)

-- the first list's tuple is taken
pub first_none : (E : Type 0) (A B A' : List Entry → Type 0) (r : Result (Option Head) E) → ((l : List Entry) → A l → A' l) → ((la lb : List Entry) → A la → B lb → true ≡ a_leads la lb)
    → IfOk r (λ o. IfNone o ((l : List Entry) → A' l → l ≡ [])) → IfOk r (λ o. IfNone o ((la lb : List Entry) → A la → B lb → merged la lb ≡ []))
first_none E A B A' (Err e) same tell none = tt
first_none E A B A' (Ok (Some h)) same tell none = tt
first_none E A B A' (Ok None) same tell none = λ la lb a b.
    let no_tuple : true ≡ false = tell la lb a b ∙ ap (λ (x : List Entry). a_leads x lb) (none la (same la a)) in
    absurd (cc no_tuple)

pub first_some : (E : Type 0) (A B A' A'' B'' : List Entry → Type 0) (r : Result (Option Head) E) (bytes : List ℕ) → ((l : List Entry) → A l → A' l)
    → ((la lb : List Entry) → A la → B lb → true ≡ a_leads la lb) → (T : Type 0) → OnOk r T → (T → (l : List Entry) → B l → B'' l)
    → IfOk r (λ o. IfSome o (λ h. (l : List Entry) → A' l → Leads (tuple h bytes) l A''))
    → IfOk r (λ o. IfSome o (λ h. (la lb : List Entry) → A la → B lb → LeadsBoth (tuple h bytes) (merged la lb) A'' B''))
first_some E A B A' A'' B'' (Err e) bytes same tell T kept keep some = tt
first_some E A B A' A'' B'' (Ok None) bytes same tell T kept keep some = tt
first_some E A B A' A'' B'' (Ok (Some h)) bytes same tell T kept keep some = λ la lb a b.
    let lead = some la (same la a) in
    let leads : a_leads (tuple h bytes ∷ lead.rest) lb ≡ true = sym (tell la lb a b ∙ ap (λ (x : List Entry). a_leads x lb) lead.is) in
    record {
      in_a = lead.rest;
      in_b = lb;
      is = ap (λ (x : List Entry). merged x lb) lead.is ∙ merged_left (tuple h bytes) lead.rest lb leads;
      a = lead.after;
      b = keep kept lb b;
    }

-- the second list's tuple is taken
pub second_none : (E : Type 0) (A B B' : List Entry → Type 0) (r : Result (Option Head) E) → ((l : List Entry) → B l → B' l) → ((la lb : List Entry) → A la → B lb → false ≡ a_leads la lb)
    → IfOk r (λ o. IfNone o ((l : List Entry) → B' l → l ≡ [])) → IfOk r (λ o. IfNone o ((la lb : List Entry) → A la → B lb → merged la lb ≡ []))
second_none E A B B' (Err e) same tell none = tt
second_none E A B B' (Ok (Some h)) same tell none = tt
second_none E A B B' (Ok None) same tell none = λ la lb a b.
    let empty : lb ≡ [] = none lb (same lb b) in
    let none_a : la ≡ [] = both_none la (sym (tell la lb a b ∙ ap (a_leads la) empty)) in
    ap (λ (x : List Entry). merged x lb) none_a ∙ empty

pub second_some : (E : Type 0) (A B B' A'' B'' : List Entry → Type 0) (r : Result (Option Head) E) (bytes : List ℕ) → ((l : List Entry) → B l → B' l)
    → ((la lb : List Entry) → A la → B lb → false ≡ a_leads la lb) → (T : Type 0) → OnOk r T → (T → (l : List Entry) → A l → A'' l)
    → IfOk r (λ o. IfSome o (λ h. (l : List Entry) → B' l → Leads (tuple h bytes) l B''))
    → IfOk r (λ o. IfSome o (λ h. (la lb : List Entry) → A la → B lb → LeadsBoth (tuple h bytes) (merged la lb) A'' B''))
second_some E A B B' A'' B'' (Err e) bytes same tell T kept keep some = tt
second_some E A B B' A'' B'' (Ok None) bytes same tell T kept keep some = tt
second_some E A B B' A'' B'' (Ok (Some h)) bytes same tell T kept keep some = λ la lb a b.
    let lead = some lb (same lb b) in
    let leads : a_leads la (tuple h bytes ∷ lead.rest) ≡ false = sym (tell la lb a b ∙ ap (a_leads la) lead.is) in
    record {
      in_a = la;
      in_b = lead.rest;
      is = ap (merged la) lead.is ∙ merged_right la (tuple h bytes) lead.rest leads;
      a = keep kept la a;
      b = lead.after;
    }

-- what was taken, and what two readers have still to give
pub record Merging (s : Shown) (ra rb : ReaderView) (w : WriterView) (l : List Entry) : Type 0 where
  pub done : List Entry
  pub in_a : List Entry
  pub in_b : List Entry
  pub took : Took s w done
  pub a : ToGive s ra in_a
  pub b : ToGive s rb in_b
  pub all : l ≡ done ++ merged in_a in_b

pub merging_next : (s t u : Shown) (a b a' b' : ReaderView) (w w' : WriterView) (e : Entry) (l : List Entry) → Touches NoFile s t → Touches (Only w.file) t u
    → (a'.file ≡ w.file → ⊥) → (b'.file ≡ w.file → ⊥)
    → ((la lb : List Entry) → ToGive s a la → ToGive s b lb → LeadsBoth e (merged la lb) (ToGive t a') (ToGive t b'))
    → ((k : List Entry) → Took t w k → Took u w' (k ++ e ∷ [])) → Merging s a b w l → Merging u a' b' w' l
merging_next s t u a b a' b' w w' e l none one other_a other_b gives takes i =
    let lead = gives i.in_a i.in_b i.a i.b in
    record {
      done = i.done ++ e ∷ [];
      in_a = lead.in_a;
      in_b = lead.in_b;
      took = takes i.done (took_same s t w i.done (same_by_none (Only w.file) s t none) i.took);
      a = to_give_same t u a' lead.in_a (same_by_other a'.file w.file t u other_a one) lead.a;
      b = to_give_same t u b' lead.in_b (same_by_other b'.file w.file t u other_b one) lead.b;
      all = i.all ∙ ap (λ (x : List Entry). i.done ++ x) lead.is ∙ sym (append_assoc i.done (e ∷ []) (merged lead.in_a lead.in_b));
    }

pub merging_end : (s t : Shown) (a b : ReaderView) (w : WriterView) (l : List Entry) → Touches NoFile s t
    → ((la lb : List Entry) → ToGive s a la → ToGive s b lb → merged la lb ≡ []) → Merging s a b w l → Took t w l
merging_end s t a b w l kept none i =
    let all : i.done ≡ l = sym (i.all ∙ ap (λ (x : List Entry). i.done ++ x) (none i.in_a i.in_b i.a i.b) ∙ append-nil i.done) in
    subst (Took t w) all (took_same s t w i.done (same_by_none (Only w.file) s t kept) i.took)
