-- How many vids of a map are below a bound, and how many two maps name.
use Rattle.std.proofs.Common.{◌≡◌, ◌≢◌, ◌≤◌, ◌<◌, ◌+◌, ℕ, suc, List, [], ◌∷◌, ◌++◌, length, Bool, true, false, ◌||◌, nat_lt, is_some, Option, None, sym, ◌∙◌, ap, subst, refl, arith, inl, inr}
use Rattle.std.proofs.lemmas.Bool.{cases_order, cases_eq, lt-ltb, le-ltb, true≢false, false≢true}
use Rattle.px_meaning.specs.Graph.{lookup, vids, place, ascending}
use Rattle.px_meaning.proofs.Ascending.{has, place_below, place_past, has-first, has-rest, has-append, has-ascending, ascending_of_members, AllBelow}
use Rattle.px_meaning.proofs.Maps.{lookup_past, is_some-lookup}
use Rattle.px_mutations.specs.Effects.{bit}

-- how many of the pairs have a key below this bound
abbrev pub below : {X : Type 0} → ℕ → List (ℕ × X) → ℕ
below b [] = 0
below b (e ∷ es) = bit (nat_lt e.0 b) + below b es

one_below : (n b : ℕ) → n < b → bit (nat_lt n b) ≡ bit true
one_below n b lt = ap bit (lt-ltb n b lt)

none_below : (n b : ℕ) → b ≤ n → bit (nat_lt n b) ≡ bit false
none_below n b le = ap bit (le-ltb n b le)

up_to_one : (c : Bool) → bit c ≤ 1
up_to_one true = omega arith
up_to_one false = omega arith

pub below_all : {X : Type 0} (b : ℕ) (es : List (ℕ × X)) → below b es ≤ length es
below_all b [] = omega arith
below_all b (e ∷ es) = omega (arith, up_to_one (nat_lt e.0 b), below_all b es)

one_more : (n b c : ℕ) → b ≤ c → bit (nat_lt n b) ≤ bit (nat_lt n c)
one_more n b c le = elim (cases_order n b) [
  | inl same ↦ omega (arith, none_below n b (omega (arith, same)))
  | inr d ↦ elim d [
    | inl lt ↦ omega (arith, one_below n b lt, one_below n c (omega (arith, lt, le)))
    | inr gt ↦ omega (arith, none_below n b (omega (arith, gt)))
  ]
]

pub below_more : {X : Type 0} (b c : ℕ) (es : List (ℕ × X)) → b ≤ c → below b es ≤ below c es
below_more b c [] le = omega arith
below_more b c (e ∷ es) le = omega (arith, one_more e.0 b c le, below_more b c es le)

-- a key that is there, and not below the one bound, is below the other
pub below_one : {X : Type 0} (b v : ℕ) (es : List (ℕ × X)) → b ≤ v → is_some (lookup v es) ≡ true → below b es + 1 ≤ below (v + 1) es
below_one b v [] le there = absurd (false≢true there)
below_one b v (e ∷ es) le there = elim (cases_eq v e.0) [
  | inl s ↦ omega (arith, none_below e.0 b (omega (arith, s, le)), one_below e.0 (v + 1) (omega (arith, s)), below_more b (v + 1) es (omega (arith, le)))
  | inr d ↦ omega (arith, one_more e.0 b (v + 1) (omega (arith, le)), below_one b v es le (sym (ap is_some (lookup_past v e es d)) ∙ there))
]

-- a number that is not there is placed as one more
length-place_new : (k : ℕ) (ns : List ℕ) → has k ns ≡ false → length (place k ns) ≡ suc (length ns)
length-place_new k [] none = refl
length-place_new k (n ∷ ns) none = elim (cases_order k n) [
  | inl s ↦ absurd (true≢false (sym (subst (λ (m : ℕ). has m (n ∷ ns) ≡ true) (sym s) (has-first n ns)) ∙ none))
  | inr d ↦ elim d [
    | inl low ↦ ap length (place_below k n ns low)
    | inr high ↦ ap length (place_past k n ns high) ∙ ap suc (length-place_new k ns (sym (has-rest k n ns (λ s. omega (arith, s, high))) ∙ none))
  ]
]

-- whether one of two maps has a key
pub named : {X Y : Type 0} (k : ℕ) (cs : List (ℕ × X)) (fs : List (ℕ × Y)) → has k (vids cs ++ vids fs) ≡ (is_some (lookup k cs) || is_some (lookup k fs))
named k cs fs = has-append k (vids cs) (vids fs) ∙ ap (λ (b : Bool). b || has k (vids fs)) (sym (is_some-lookup k cs)) ∙ ap (λ (b : Bool). is_some (lookup k cs) || b) (sym (is_some-lookup k fs))

-- two maps with one key more name one vid more
pub names_one : {X Y : Type 0} (v : ℕ) (cs cs' : List (ℕ × X)) (fs fs' : List (ℕ × Y)) → ((k : ℕ) → k ≢ v → lookup k cs ≡ lookup k cs') → ((k : ℕ) → k ≢ v → lookup k fs ≡ lookup k fs')
    → lookup v cs' ≡ None → lookup v fs' ≡ None → (is_some (lookup v cs) || is_some (lookup v fs)) ≡ true
    → length (ascending (vids cs ++ vids fs)) ≡ suc (length (ascending (vids cs' ++ vids fs')))
names_one v cs cs' fs fs' same same' none none' some =
    let gone : has v (vids cs' ++ vids fs') ≡ false = named v cs' fs' ∙ ap (λ (o : Option _). is_some o || is_some (lookup v fs')) none ∙ ap is_some none' in
    let members : (k : ℕ) → has k (vids cs ++ vids fs) ≡ has k (v ∷ (vids cs' ++ vids fs')) = λ k. elim (cases_eq k v) [
      | inl s ↦ subst (λ (n : ℕ). has n (vids cs ++ vids fs) ≡ has n (v ∷ (vids cs' ++ vids fs'))) (sym s) (named v cs fs ∙ some ∙ sym (has-first v (vids cs' ++ vids fs')))
      | inr d ↦ named k cs fs ∙ ap (λ (o : Option _). is_some o || is_some (lookup k fs)) (same k d) ∙ ap (λ (o : Option _). is_some (lookup k cs') || is_some o) (same' k d)
          ∙ sym (named k cs' fs') ∙ sym (has-rest k v (vids cs' ++ vids fs') d)
    ] in
    ap length (ascending_of_members (vids cs ++ vids fs) (v ∷ (vids cs' ++ vids fs')) members) ∙ length-place_new v (ascending (vids cs' ++ vids fs')) (has-ascending v (vids cs' ++ vids fs') ∙ gone)

-- numbers that are below one bound are below a greater one
pub below_bound : (b c : ℕ) (ns : List ℕ) → b ≤ c → AllBelow b ns → AllBelow c ns
below_bound b c [] le h = tt
below_bound b c (n ∷ ns) le h = (omega (arith, h.0, le), below_bound b c ns le h.1)

pub below_last : (b : ℕ) (ns : List ℕ) (n : ℕ) → AllBelow b ns → n < b → AllBelow b (ns ++ n ∷ [])
below_last b [] n h lt = (lt, tt)
below_last b (m ∷ ns) n h lt = (h.0, below_last b ns n h.1 lt)
