-- What was added, and what is still to be read, are the whole; and so with what was given and what is still to be given.
use Rattle.std.proofs.Common.{◌≡◌, ℕ, ◌+◌, ◌-◌, ◌^◌, min, List, [], ◌∷◌, ◌++◌, length, length-append, IsTrue, sym, ◌∙◌, ap, append_assoc, subst, refl, arith}
use Rattle.std.proofs.lemmas.Bool.{and_parts, and_from}
use Rattle.std.proofs.lemmas.List.{append-nil, map-append}
use Rattle.px_core.specs.Shown.{Shown, Only}
use Rattle.px_core.specs.Same.{Same}
use Rattle.px_pages.specs.Entry.{Entry, entry}
use Rattle.px_stream.specs.Views.{WriterView, ReaderView}
use Rattle.px_stream.specs.Stream.{Took, ToGive, Leads}
use Rattle.px_stream.proofs.Kept.{took_same, to_give_same}
use Rattle.px_meaning.specs.Merge.{MergeRule, MergeLaws, Pairs, AllValid}
use Rattle.px_meaning.specs.Step.{has_wide_fold}
use Rattle.px_meaning.proofs.Limits.{wide_with_more}
use Rattle.px_meaning.proofs.Inbox.{AllValid-append, AllValid-parts}
use Rattle.px_program.specs.Groups.{LeadsPair}
use Rattle.px_connectors.specs.Messages.{pairs_of, tagged}
use Rattle.px_store.specs.Joins.{message_tuples}

-- what a group took after `l`, and what the reader has still to give
pub record Adding (T : Pairs → Type 0) (s : Shown) (r : ReaderView) (l : Pairs) (ins : List Entry) : Type 0 where
  pub done : List Entry
  pub rest : List Entry
  pub took : T (l ++ pairs_of done)
  pub to_give : ToGive s r rest
  pub all : ins ≡ done ++ rest

valid_first : (rule : MergeRule) (done rest ins : List Entry) (e : Entry) → AllValid rule (pairs_of ins) → ins ≡ done ++ e ∷ rest → IsTrue (rule.valid e.body)
valid_first rule done rest ins e valid is =
    let whole : AllValid rule (pairs_of done ++ pairs_of (e ∷ rest)) = subst (AllValid rule) (ap pairs_of is ∙ map-append (λ (x : Entry). (x.key, x.body)) done (e ∷ rest)) valid in
    (and_parts (rule.valid e.body) _ (AllValid-parts rule (pairs_of done) (pairs_of (e ∷ rest)) whole).1).0

pairs_with : (l : Pairs) (done : List Entry) (e : Entry) → (l ++ pairs_of done) ++ (e.key, e.body) ∷ [] ≡ l ++ pairs_of (done ++ e ∷ [])
pairs_with l done e = append_assoc l (pairs_of done) ((e.key, e.body) ∷ []) ∙ ap (λ (x : Pairs). l ++ x) (sym (map-append (λ (x : Entry). (x.key, x.body)) done (e ∷ [])))

-- one pair is read and added
pub adding_next : (T T' T'' : Pairs → Type 0) (rule : MergeRule) (a b c : Shown) (r r' : ReaderView) (e : Entry) (l : Pairs) (ins : List Entry) → Same (Only r'.file) b c
    → AllValid rule (pairs_of ins) → ((k : List Entry) → ToGive a r k → Leads e k (ToGive b r')) → ((k : Pairs) → T k → T' k)
    → ((k : Pairs) → IsTrue (rule.valid e.body) → T' k → T'' (k ++ (e.key, e.body) ∷ [])) → Adding T a r l ins → Adding T'' c r' l ins
adding_next T T' T'' rule a b c r r' e l ins t valid gives same takes i =
    let lead = gives i.rest i.to_give in
    let is : ins ≡ i.done ++ e ∷ lead.rest = i.all ∙ ap (λ (x : List Entry). i.done ++ x) lead.is in
    let taken : T'' ((l ++ pairs_of i.done) ++ (e.key, e.body) ∷ []) = takes (l ++ pairs_of i.done) (valid_first rule i.done lead.rest ins e valid is) (same (l ++ pairs_of i.done) i.took) in
    record {
      done = i.done ++ e ∷ [];
      rest = lead.rest;
      took = subst T'' (pairs_with l i.done e) taken;
      to_give = to_give_same b c r' lead.rest t lead.after;
      all = is ∙ sym (append_assoc i.done (e ∷ []) lead.rest);
    }

-- none is left to be read
pub adding_end : (T T' : Pairs → Type 0) (a : Shown) (r : ReaderView) (l : Pairs) (ins : List Entry) → ((k : List Entry) → ToGive a r k → k ≡ []) → ((k : Pairs) → T k → T' k)
    → Adding T a r l ins → T' (l ++ pairs_of ins)
adding_end T T' a r l ins none same i =
    let all : ins ≡ i.done = i.all ∙ ap (λ (x : List Entry). i.done ++ x) (none i.rest i.to_give) ∙ append-nil i.done in
    subst (λ (x : List Entry). T' (l ++ pairs_of x)) (sym all) (same (l ++ pairs_of i.done) i.took)

whole_with : (l : Pairs) (done rest ins : List Entry) (e : Entry) → ins ≡ done ++ e ∷ rest → ((l ++ pairs_of done) ++ (e.key, e.body) ∷ []) ++ pairs_of rest ≡ l ++ pairs_of ins
whole_with l done rest ins e is =
    ap (λ (x : Pairs). x ++ pairs_of rest) (pairs_with l done e) ∙ append_assoc l (pairs_of (done ++ e ∷ [])) (pairs_of rest)
    ∙ ap (λ (x : Pairs). l ++ x) (sym (map-append (λ (x : Entry). (x.key, x.body)) (done ++ e ∷ []) rest))
    ∙ ap (λ (x : List Entry). l ++ pairs_of x) (append_assoc done (e ∷ []) rest ∙ sym is)

-- a pair that makes some fold too wide makes it so among all pairs
pub adding_beyond : (T T' : Pairs → Type 0) (rule : MergeRule) → MergeLaws rule → (room : ℕ) (a b : Shown) (r r' : ReaderView) (e : Entry) (l : Pairs) (ins : List Entry) → AllValid rule (pairs_of ins)
    → ((k : List Entry) → ToGive a r k → Leads e k (ToGive b r')) → ((k : Pairs) → T k → T' k) → ((k : Pairs) → T' k → AllValid rule k)
    → ((k : Pairs) → IsTrue (rule.valid e.body) → T' k → IsTrue (has_wide_fold rule room (k ++ (e.key, e.body) ∷ []))) → Adding T a r l ins → IsTrue (has_wide_fold rule room (l ++ pairs_of ins))
adding_beyond T T' rule laws room a b r r' e l ins valid gives same holds wide i =
    let lead = gives i.rest i.to_give in
    let is : ins ≡ i.done ++ e ∷ lead.rest = i.all ∙ ap (λ (x : List Entry). i.done ++ x) lead.is in
    let one = valid_first rule i.done lead.rest ins e valid is in
    let before : Pairs = l ++ pairs_of i.done in
    let taken = same before i.took in
    let parts = AllValid-parts rule (pairs_of i.done) (pairs_of (e ∷ lead.rest)) (subst (AllValid rule) (ap pairs_of is ∙ map-append (λ (x : Entry). (x.key, x.body)) i.done (e ∷ lead.rest)) valid) in
    let last = (and_parts (rule.valid e.body) _ parts.1).1 in
    subst (λ (x : Pairs). IsTrue (has_wide_fold rule room x)) (whole_with l i.done lead.rest ins e is)
    (wide_with_more rule laws room (before ++ (e.key, e.body) ∷ []) (pairs_of lead.rest) (AllValid-append rule before ((e.key, e.body) ∷ []) (holds before taken) (and_from _ _ one refl)) last (wide before one taken))

-- what a writer took after `l`, and what the group has still to give
pub record Giving (Gives : Pairs → Type 0) (s : Shown) (w : WriterView) (l : List Entry) (rest : Pairs) : Type 0 where
  pub done : Pairs
  pub more : Pairs
  pub gives : Gives more
  pub took : Took s w (l ++ message_tuples done)
  pub all : rest ≡ done ++ more

-- none is given yet
pub giving_first : (G : Pairs → Type 0) (s : Shown) (w : WriterView) (l : List Entry) (rest : Pairs) → G rest → Took s w l → Giving G s w l rest
giving_first G s w l rest gives took = record { done = []; more = rest; gives = gives; took = subst (Took s w) (sym (append-nil l)) took; all = refl }

messages_with : (l : List Entry) (done : Pairs) (e : ℕ × List ℕ) → (l ++ message_tuples done) ++ tagged 0 e ∷ [] ≡ l ++ message_tuples (done ++ e ∷ [])
messages_with l done e = append_assoc l (message_tuples done) (tagged 0 e ∷ []) ∙ ap (λ (x : List Entry). l ++ x) (sym (map-append (tagged 0) done (e ∷ [])))

-- one pair is given and written
pub giving_next : (G G' G'' : Pairs → Type 0) (a b c : Shown) (w w' : WriterView) (v : ℕ) (bytes : List ℕ) (l : List Entry) (rest : Pairs) → Same (Only w.file) a b
    → ((k : Pairs) → G k → LeadsPair v bytes k G') → ((k : Pairs) → G' k → G'' k)
    → ((k : List Entry) → Took b w k → Took c w' (k ++ entry v 0 bytes ∷ [])) → Giving G a w l rest → Giving G'' c w' l rest
giving_next G G' G'' a b c w w' v bytes l rest t gives same takes i =
    let lead = gives i.more i.gives in
    record {
      done = i.done ++ (v, bytes) ∷ [];
      more = lead.rest;
      gives = same lead.rest lead.after;
      took = subst (Took c w') (messages_with l i.done (v, bytes)) (takes (l ++ message_tuples i.done) (took_same a b w (l ++ message_tuples i.done) t i.took));
      all = i.all ∙ ap (λ (x : Pairs). i.done ++ x) lead.is ∙ sym (append_assoc i.done ((v, bytes) ∷ []) lead.rest);
    }

-- none is left to be given
pub giving_end : (G : Pairs → Type 0) (a b : Shown) (w : WriterView) (l : List Entry) (rest : Pairs) → Same (Only w.file) a b
    → ((k : Pairs) → G k → k ≡ []) → Giving G a w l rest → Took b w (l ++ message_tuples rest)
giving_end G a b w l rest t none i =
    let all : rest ≡ i.done = i.all ∙ ap (λ (x : Pairs). i.done ++ x) (none i.more i.gives) ∙ append-nil i.done in
    subst (λ (x : Pairs). Took b w (l ++ message_tuples x)) (sym all) (took_same a b w (l ++ message_tuples i.done) t i.took)

-- so many pairs were given
pub record Counting (G : Pairs → Type 0) (n : ℕ) (rest : Pairs) : Type 0 where
  pub done : Pairs
  pub more : Pairs
  pub gives : G more
  pub all : rest ≡ done ++ more
  pub count : n ≡ min (length done) (2 ^ 64 - 1)

pub counting_first : (G : Pairs → Type 0) (rest : Pairs) → G rest → Counting G 0 rest
counting_first G rest gives = record { done = []; more = rest; gives = gives; all = refl; count = refl }

pub counting_next : (G G' G'' : Pairs → Type 0) (v : ℕ) (bytes : List ℕ) (n n' : ℕ) (rest : Pairs) → ((k : Pairs) → G k → LeadsPair v bytes k G') → ((k : Pairs) → G' k → G'' k) → n' ≡ min (n + 1) (2 ^ 64 - 1)
    → Counting G n rest → Counting G'' n' rest
counting_next G G' G'' v bytes n n' rest gives same more i =
    let lead = gives i.more i.gives in
    record {
      done = i.done ++ (v, bytes) ∷ [];
      more = lead.rest;
      gives = same lead.rest lead.after;
      all = i.all ∙ ap (λ (x : Pairs). i.done ++ x) lead.is ∙ sym (append_assoc i.done ((v, bytes) ∷ []) lead.rest);
      count = omega (arith, more, i.count, length-append i.done ((v, bytes) ∷ []));
    }

pub counting_end : (G : Pairs → Type 0) (n : ℕ) (rest : Pairs) → ((k : Pairs) → G k → k ≡ []) → Counting G n rest → n ≡ min (length rest) (2 ^ 64 - 1)
counting_end G n rest none i =
    let all : rest ≡ i.done = i.all ∙ ap (λ (x : Pairs). i.done ++ x) (none i.more i.gives) ∙ append-nil i.done in
    subst (λ (x : Pairs). n ≡ min (length x) (2 ^ 64 - 1)) (sym all) i.count
