-- Pairs in another order, in parts, or partly merged: the inboxes, and so what they are grouped to, stay the same.
use Rattle.std.proofs.Common.{◌≡◌, ℕ, zero, suc, ◌<◌, ◌≤◌, List, [], ◌∷◌, ◌++◌, length, get_or, set, filter, swap, Bool, true, false, Contains, IsPermutation, IsTrue, sym, ◌∙◌, ap, refl, subst, arith, inl, inr}
use Rattle.std.specs.List.{reduce}
use Rattle.std.proofs.lemmas.Bool.{and_parts, and_from, cases_eq, cases_Bool, cond-true, cond-false, cond_both}
use Rattle.std.proofs.lemmas.List.{append_assoc}
use Rattle.std.proofs.lemmas.List.Sorted.{IsPermutation-keeps, IsPermutation-cons, IsPermutation-middle, IsPermutation-trans}
use Rattle.px_meaning.specs.Merge.{MergeRule, MergeLaws, Pairs, AllValid, payloads, inbox, merged, grouped}
use Rattle.px_meaning.proofs.MapParts.{IsMap-filter, lookup-filter_on, lookup-filter_off}
use Rattle.px_meaning.proofs.Inbox.{inbox-append, inbox-append_comm, AllValid-append, AllValid-parts, payloads_here, payloads_past}
use Rattle.px_meaning.proofs.Grouping.{IsMap-grouped, lookup-grouped, grouped_is, grouped_by_inboxes, AllValid-grouped, grouped-append_left, grouped-append_right}
use Rattle.px_meaning.proofs.Limits.{inbox_length, inbox_last, inbox_no_shorter}

-- an element of a list divides it
pub split_at_member : {X : Type 0} (xs : List X) (x : X) → Contains xs x → (us : List X) × (ws : List X) × (xs ≡ us ++ x ∷ ws)
split_at_member [] x c = absurd (omega arith)
split_at_member (y ∷ ys) x (zero, low, at) = ([], ys, ap (λ z. z ∷ ys) at)
split_at_member (y ∷ ys) x (suc i, low, at) =
    let r = split_at_member ys x (i, omega arith, at) in
    (y ∷ r.0, r.1, ap (λ l. y ∷ l) r.2)

module _ (rule : MergeRule) (laws : MergeLaws rule) where
  -- the same head before lists with the same inbox
  inbox_cons_same : (e : ℕ × List ℕ) (xs ys : Pairs) (v : ℕ) → IsTrue (rule.valid e.1) → AllValid rule xs → AllValid rule ys → inbox rule xs v ≡ inbox rule ys v → inbox rule (e ∷ xs) v ≡ inbox rule (e ∷ ys) v
  inbox_cons_same e xs ys v he hx hy same =
      inbox-append rule laws (e ∷ []) xs v (and_from _ _ he refl) hx ∙ ap (merged rule (inbox rule (e ∷ []) v)) same ∙ sym (inbox-append rule laws (e ∷ []) ys v (and_from _ _ he refl) hy)

  -- two heads in the other order
  inbox_exchange : (e f : ℕ × List ℕ) (xs : Pairs) (v : ℕ) → IsTrue (rule.valid e.1) → IsTrue (rule.valid f.1) → AllValid rule xs → inbox rule (e ∷ f ∷ xs) v ≡ inbox rule (f ∷ e ∷ xs) v
  inbox_exchange e f xs v he hf hx =
      let ef : AllValid rule (e ∷ f ∷ []) = and_from _ _ he (and_from _ _ hf refl) in
      let fe : AllValid rule (f ∷ e ∷ []) = and_from _ _ hf (and_from _ _ he refl) in
      inbox-append rule laws (e ∷ f ∷ []) xs v ef hx
      ∙ ap (λ o. merged rule o (inbox rule xs v)) (inbox-append_comm rule laws (e ∷ []) (f ∷ []) v (and_from _ _ he refl) (and_from _ _ hf refl))
      ∙ sym (inbox-append rule laws (f ∷ e ∷ []) xs v fe hx)

  -- the head and a later element in each other's place
  head_swapped : (e : ℕ × List ℕ) (xs : Pairs) (j : ℕ) (d : ℕ × List ℕ) → j < length xs → IsTrue (rule.valid e.1) → AllValid rule xs → AllValid rule (get_or xs j d ∷ set xs j e) × ((v : ℕ) → inbox rule (get_or xs j d ∷ set xs j e) v ≡ inbox rule (e ∷ xs) v)
  head_swapped e [] j d low he hx = absurd (omega arith)
  head_swapped e (f ∷ xs) zero d low he hx =
      let parts = and_parts (rule.valid f.1) _ hx in
      (and_from _ _ parts.0 (and_from _ _ he parts.1), λ v. inbox_exchange f e xs v parts.0 he parts.1)
  head_swapped e (f ∷ xs) (suc j) d low he hx =
      let parts = and_parts (rule.valid f.1) _ hx in
      let r = head_swapped e xs j d (omega arith) he parts.1 in
      let ends = and_parts (rule.valid (get_or xs j d).1) _ r.0 in (
        and_from _ _ ends.0 (and_from _ _ parts.0 ends.1),
        λ v. inbox_exchange (get_or xs j d) f (set xs j e) v ends.0 parts.0 ends.1
            ∙ inbox_cons_same f (get_or xs j d ∷ set xs j e) (e ∷ xs) v parts.0 r.0 (and_from _ _ he parts.1) (r.1 v) ∙ inbox_exchange f e xs v parts.0 he parts.1,
      )

  two_swapped : (xs : Pairs) (i j : ℕ) (d : ℕ × List ℕ) → i < length xs → j < length xs → AllValid rule xs → AllValid rule (set (set xs i (get_or xs j d)) j (get_or xs i d)) × ((v : ℕ) → inbox rule (set (set xs i (get_or xs j d)) j (get_or xs i d)) v ≡ inbox rule xs v)
  two_swapped [] i j d hi hj hx = absurd (omega arith)
  two_swapped (e ∷ xs) zero zero d hi hj hx = (hx, λ v. refl)
  two_swapped (e ∷ xs) zero (suc j) d hi hj hx =
      let parts = and_parts (rule.valid e.1) _ hx in
      head_swapped e xs j d (omega arith) parts.0 parts.1
  two_swapped (e ∷ xs) (suc i) zero d hi hj hx =
      let parts = and_parts (rule.valid e.1) _ hx in
      head_swapped e xs i d (omega arith) parts.0 parts.1
  two_swapped (e ∷ xs) (suc i) (suc j) d hi hj hx =
      let parts = and_parts (rule.valid e.1) _ hx in
      let r = two_swapped xs i j d (omega arith) (omega arith) parts.1 in
      (and_from _ _ parts.0 r.0, λ v. inbox_cons_same e (set (set xs i (get_or xs j d)) j (get_or xs i d)) xs v parts.0 r.0 parts.1 (r.1 v))

  swapped : (xs : Pairs) (i j : ℕ) → i < length xs → j < length xs → AllValid rule xs → AllValid rule (swap xs i j) × ((v : ℕ) → inbox rule (swap xs i j) v ≡ inbox rule xs v)
  swapped [] i j hi hj hx = absurd (omega arith)
  swapped (e ∷ xs) i j hi hj hx = two_swapped (e ∷ xs) i j e hi hj hx

  rearranged : (xs ys : Pairs) → IsPermutation xs ys → AllValid rule xs → AllValid rule ys × ((v : ℕ) → inbox rule ys v ≡ inbox rule xs v)
  rearranged xs ys p hx =
      IsPermutation-keeps xs (λ l. AllValid rule l × ((v : ℕ) → inbox rule l v ≡ inbox rule xs v)) (hx, λ v. refl)
      (λ l i j hi hj so. let r = swapped l i j hi hj so.0 in (r.0, λ v. r.1 v ∙ so.1 v)) ys p

  -- valid pairs are valid in any order
  pub AllValid-IsPermutation : (xs ys : Pairs) → IsPermutation xs ys → AllValid rule xs → AllValid rule ys
  AllValid-IsPermutation xs ys p hx = (rearranged xs ys p hx).0

  -- they have the same inboxes in any order
  pub inbox-IsPermutation : (xs ys : Pairs) (v : ℕ) → IsPermutation xs ys → AllValid rule xs → inbox rule xs v ≡ inbox rule ys v
  inbox-IsPermutation xs ys v p hx = sym ((rearranged xs ys p hx).1 v)

  -- and are grouped alike
  pub grouped-IsPermutation : (xs ys : Pairs) → IsPermutation xs ys → AllValid rule xs → grouped rule xs ≡ grouped rule ys
  grouped-IsPermutation xs ys p hx = grouped_by_inboxes rule xs ys (λ v. inbox-IsPermutation xs ys v p hx)

  -- both parts of a list may be grouped before the whole
  pub grouped_in_parts : (xs ys : Pairs) → AllValid rule xs → AllValid rule ys → grouped rule (grouped rule xs ++ grouped rule ys) ≡ grouped rule (xs ++ ys)
  grouped_in_parts xs ys hx hy = grouped-append_left rule laws xs (grouped rule ys) hx (AllValid-grouped rule laws ys hy) ∙ grouped-append_right rule laws xs ys hx hy

  inbox_of_two : (v w : ℕ) (a b : List ℕ) → inbox rule ((v, a) ∷ (v, b) ∷ []) w ≡ inbox rule ((v, rule.merge a b) ∷ []) w
  inbox_of_two v w a b =
      elim (cases_eq v w) [
        | inl s ↦ ap (reduce rule.merge) (payloads_here (v, a) ((v, b) ∷ []) w s ∙ ap (λ (l : List (List ℕ)). a ∷ l) (payloads_here (v, b) [] w s)) ∙ sym (ap (reduce rule.merge) (payloads_here (v, rule.merge a b) [] w s))
        | inr d ↦ ap (reduce rule.merge) (payloads_past (v, a) ((v, b) ∷ []) w d ∙ payloads_past (v, b) [] w d) ∙ sym (ap (reduce rule.merge) (payloads_past (v, rule.merge a b) [] w d))
      ]

  -- two pairs of a vid may be merged to one, wherever they stand
  pub grouped_one_merge : (xs ys zs : Pairs) (v : ℕ) (a b : List ℕ) → AllValid rule xs → AllValid rule ys → AllValid rule zs → IsTrue (rule.valid a) → IsTrue (rule.valid b) → grouped rule (xs ++ (v, rule.merge a b) ∷ (ys ++ zs)) ≡ grouped rule (xs ++ (v, a) ∷ (ys ++ (v, b) ∷ zs))
  grouped_one_merge xs ys zs v a b hx hy hz ha hb =
      let rest : Pairs = (xs ++ ys) ++ zs in
      let hrest : AllValid rule rest = AllValid-append rule (xs ++ ys) zs (AllValid-append rule xs ys hx hy) hz in
      let hab : AllValid rule ((v, a) ∷ (v, b) ∷ []) = and_from _ _ ha (and_from _ _ hb refl) in
      let hm : AllValid rule ((v, rule.merge a b) ∷ []) = and_from _ _ (laws.closed a b ha hb) refl in
      let one : IsPermutation (xs ++ (v, rule.merge a b) ∷ (ys ++ zs)) ((v, rule.merge a b) ∷ rest) =
      subst (λ l. IsPermutation (xs ++ (v, rule.merge a b) ∷ (ys ++ zs)) ((v, rule.merge a b) ∷ l)) (sym (append_assoc xs ys zs)) (IsPermutation-middle xs (v, rule.merge a b) (ys ++ zs)) in
      let late : IsPermutation (xs ++ (ys ++ (v, b) ∷ zs)) ((v, b) ∷ rest) =
      subst (λ l. IsPermutation l ((v, b) ∷ rest)) (append_assoc xs ys ((v, b) ∷ zs)) (IsPermutation-middle (xs ++ ys) (v, b) zs) in
      let two : IsPermutation (xs ++ (v, a) ∷ (ys ++ (v, b) ∷ zs)) ((v, a) ∷ (v, b) ∷ rest) =
      IsPermutation-trans (xs ++ (v, a) ∷ (ys ++ (v, b) ∷ zs)) ((v, a) ∷ (xs ++ (ys ++ (v, b) ∷ zs))) ((v, a) ∷ (v, b) ∷ rest) (IsPermutation-middle xs (v, a) (ys ++ (v, b) ∷ zs))
      (IsPermutation-cons (v, a) (xs ++ (ys ++ (v, b) ∷ zs)) ((v, b) ∷ rest) late) in
      let hone : AllValid rule (xs ++ (v, rule.merge a b) ∷ (ys ++ zs)) = AllValid-append rule xs ((v, rule.merge a b) ∷ (ys ++ zs)) hx (and_from _ _ (laws.closed a b ha hb) (AllValid-append rule ys zs hy hz)) in
      let htwo : AllValid rule (xs ++ (v, a) ∷ (ys ++ (v, b) ∷ zs)) = AllValid-append rule xs ((v, a) ∷ (ys ++ (v, b) ∷ zs)) hx (and_from _ _ ha (AllValid-append rule ys ((v, b) ∷ zs) hy (and_from _ _ hb hz))) in
      grouped-IsPermutation (xs ++ (v, rule.merge a b) ∷ (ys ++ zs)) ((v, rule.merge a b) ∷ rest) one hone
      ∙ grouped_by_inboxes rule ((v, rule.merge a b) ∷ rest) ((v, a) ∷ (v, b) ∷ rest) (λ w. inbox-append rule laws ((v, rule.merge a b) ∷ []) rest w hm hrest
      ∙ ap (λ o. merged rule o (inbox rule rest w)) (sym (inbox_of_two v w a b)) ∙ sym (inbox-append rule laws ((v, a) ∷ (v, b) ∷ []) rest w hab hrest))
      ∙ sym (grouped-IsPermutation (xs ++ (v, a) ∷ (ys ++ (v, b) ∷ zs)) ((v, a) ∷ (v, b) ∷ rest) two htwo)

  -- no payload is longer than its vid's fold
  pub payload_fits_fold : (xs : Pairs) (v : ℕ) (b : List ℕ) → AllValid rule xs → Contains xs (v, b) → length b ≤ inbox_length rule xs v
  payload_fits_fold xs v b hx c =
      let r = split_at_member xs (v, b) c in
      let parts = AllValid-parts rule r.0 ((v, b) ∷ r.1) (subst (AllValid rule) r.2 hx) in
      let ends = and_parts (rule.valid b) _ parts.1 in
      let front : length b ≤ inbox_length rule (r.0 ++ (v, b) ∷ []) v = inbox_last rule laws r.0 v b parts.0 ends.0 in
      let more : inbox_length rule (r.0 ++ (v, b) ∷ []) v ≤ inbox_length rule ((r.0 ++ (v, b) ∷ []) ++ r.1) v =
      inbox_no_shorter rule laws (r.0 ++ (v, b) ∷ []) r.1 v (AllValid-append rule r.0 ((v, b) ∷ []) parts.0 (and_from _ _ ends.0 refl)) ends.1 in
      let same : (r.0 ++ (v, b) ∷ []) ++ r.1 ≡ xs = append_assoc r.0 ((v, b) ∷ []) r.1 ∙ sym r.2 in
      subst (λ l. length b ≤ inbox_length rule l v) same (omega arith)

-- the pairs of the vids that pass a test, as of one partition

payloads-filter_on : (q : ℕ → Bool) (xs : Pairs) (v : ℕ) → q v ≡ true → payloads (filter (λ e. q e.0) xs) v ≡ payloads xs v
payloads-filter_on q [] v h = refl
payloads-filter_on q (e ∷ es) v h =
    elim (cases_eq e.0 v) [
      | inl s ↦ ap (λ l. payloads l v) (cond-true (q e.0) _ _ (ap q s ∙ h)) ∙ payloads_here e (filter (λ f. q f.0) es) v s ∙ ap (λ (l : List (List ℕ)). e.1 ∷ l) (payloads-filter_on q es v h) ∙ sym (payloads_here e es v s)
      | inr d ↦ cond_both (q e.0) _ _ (λ l. payloads l v ≡ payloads (e ∷ es) v)
          (λ _. payloads_past e (filter (λ f. q f.0) es) v d ∙ payloads-filter_on q es v h ∙ sym (payloads_past e es v d)) (λ _. payloads-filter_on q es v h ∙ sym (payloads_past e es v d))
    ]

payloads-filter_off : (q : ℕ → Bool) (xs : Pairs) (v : ℕ) → q v ≡ false → payloads (filter (λ e. q e.0) xs) v ≡ []
payloads-filter_off q [] v h = refl
payloads-filter_off q (e ∷ es) v h =
    elim (cases_eq e.0 v) [
      | inl s ↦ ap (λ l. payloads l v) (cond-false (q e.0) _ _ (ap q s ∙ h)) ∙ payloads-filter_off q es v h
      | inr d ↦ cond_both (q e.0) _ _ (λ l. payloads l v ≡ []) (λ _. payloads_past e (filter (λ f. q f.0) es) v d ∙ payloads-filter_off q es v h) (λ _. payloads-filter_off q es v h)
    ]

-- the inbox of a vid that passes is that of all pairs
pub inbox-filter_on : (rule : MergeRule) (q : ℕ → Bool) (xs : Pairs) (v : ℕ) → q v ≡ true → inbox rule (filter (λ e. q e.0) xs) v ≡ inbox rule xs v
inbox-filter_on rule q xs v h = ap (reduce rule.merge) (payloads-filter_on q xs v h)

-- a part of the vids may be taken before or after grouping
pub grouped-filter : (rule : MergeRule) (q : ℕ → Bool) (xs : Pairs) → grouped rule (filter (λ e. q e.0) xs) ≡ filter (λ e. q e.0) (grouped rule xs)
grouped-filter rule q xs =
    grouped_is rule (filter (λ e. q e.0) xs) (filter (λ e. q e.0) (grouped rule xs)) (IsMap-filter q (grouped rule xs) (IsMap-grouped rule xs)) (λ v. elim (cases_Bool (q v)) [
      | inl on ↦ inbox-filter_on rule q xs v on ∙ sym (lookup-grouped rule xs v) ∙ sym (lookup-filter_on q v (grouped rule xs) on)
      | inr off ↦ ap (reduce rule.merge) (payloads-filter_off q xs v off) ∙ sym (lookup-filter_off q v (grouped rule xs) off)
    ])
