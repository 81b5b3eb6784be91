-- Messages that are given to a graph's rows are at their vids.
use Rattle.std.proofs.Common.{◌≡◌, ℕ, ◌<◌, ◌≤◌, List, [], ◌∷◌, ◌++◌, map, Option, Bool, true, false, ◌||◌, ◌==◌, nat_lt, Some, None, sym, ◌∙◌, ap, refl, subst, arith, inl, inr}
use Rattle.std.specs.Option.{option_map}
use Rattle.std.proofs.lemmas.Bool.{or_cases, or_left, or_right, or_parts, cases_Bool, cases_eq, cases_order, cond-true, cond-false, true≢false, false≢true, ltb-true, ltb-false, eq-eqb, ne_eqb, eqb-true}
use Rattle.std.proofs.lemmas.List.{map-append}
use Rattle.px_meaning.specs.Graph.{Vertex, Graph, lookup, vids, ascending, AllAbove, IsAscending, IsMap}
use Rattle.px_meaning.specs.Attached.{plain, fresh_row, below, not_below, first_at, past, attached, joined}
use Rattle.px_meaning.specs.Merge.{MergeRule, Pairs, inbox, grouped}
use Rattle.px_meaning.specs.Program.{Row}
use Rattle.px_meaning.proofs.Ascending.{has, has-append, has-ascending, has-first, has-above, place_here, IsAscending-ascending, ascending_is, ascending-append_right}
use Rattle.px_meaning.proofs.Each.{map_agree}
use Rattle.px_meaning.proofs.Grouping.{vids-grouped, lookup-grouped}
use Rattle.px_meaning.proofs.Maps.{lookup_here, lookup_past, lookup_none}
use Rattle.px_meaning.proofs.MapParts.{vids-append, lookup-append_none, IsMap-front, IsMap-back}

-- each number of one list is below each of another
abbrev Apart : List ℕ → List ℕ → Type 0
Apart xs ys = (j k : ℕ) → has j xs ≡ true → has k ys ≡ true → j < k

all_above_from : (m : ℕ) (ns : List ℕ) → ((k : ℕ) → has k ns ≡ true → m < k) → AllAbove m ns
all_above_from m [] h = tt
all_above_from m (n ∷ ns) h = (h n (has-first n ns), all_above_from m ns (λ k later. h k (or_right (k == n) _ later)))

above_member : (m k : ℕ) (ns : List ℕ) → AllAbove m ns → has k ns ≡ true → m < k
above_member m k ns a h =
    elim (cases_order m k) [
      | inl same ↦ absurd (true≢false (sym h ∙ has-above k m ns (omega arith) a))
      | inr d ↦ elim d [ inl low ↦ low | inr high ↦ absurd (true≢false (sym h ∙ has-above k m ns (omega arith) a)) ]
    ]

ascending-append : (xs ys : List ℕ) → IsAscending xs → IsAscending ys → Apart xs ys → IsAscending (xs ++ ys)
ascending-append [] ys ax ay apart = ay
ascending-append (x ∷ xs) ys ax ay apart = (
  all_above_from x (xs ++ ys) (λ k h. elim (or_cases (has k xs) (has k ys) (sym (has-append k xs ys) ∙ h)) [
    | inl front ↦ above_member x k xs ax.0 front
    | inr back ↦ apart x k (has-first x xs) back
  ]),
  ascending-append xs ys ax.1 ay (λ j k front back. apart j k (or_right (j == x) _ front) back),
)

or_four : (a b c d : Bool) → ((a || b) || (c || d)) ≡ ((a || c) || (b || d))
or_four true b c d = refl
or_four false true true d = refl
or_four false true false d = refl
or_four false false c d = refl

-- two lists, each in two parts
ascending_split : (ws bs cs ds : List ℕ) → Apart (ws ++ cs) (bs ++ ds) → ascending ((ws ++ bs) ++ (cs ++ ds)) ≡ ascending (ws ++ cs) ++ ascending (bs ++ ds)
ascending_split ws bs cs ds apart =
    ascending_is ((ws ++ bs) ++ (cs ++ ds)) (ascending (ws ++ cs) ++ ascending (bs ++ ds))
    (ascending-append (ascending (ws ++ cs)) (ascending (bs ++ ds)) (IsAscending-ascending (ws ++ cs)) (IsAscending-ascending (bs ++ ds))
    (λ j k front back. apart j k (sym (has-ascending j (ws ++ cs)) ∙ front) (sym (has-ascending k (bs ++ ds)) ∙ back)))
    (λ k. has-append k (ws ++ bs) (cs ++ ds) ∙ ap (λ b. b || has k (cs ++ ds)) (has-append k ws bs) ∙ ap (λ b. (has k ws || has k bs) || b) (has-append k cs ds)
    ∙ or_four (has k ws) (has k bs) (has k cs) (has k ds)
    ∙ ap (λ b. b || (has k bs || has k ds)) (sym (has-append k ws cs)) ∙ ap (λ b. has k (ws ++ cs) || b) (sym (has-append k bs ds))
    ∙ ap (λ b. b || has k (bs ++ ds)) (sym (has-ascending k (ws ++ cs))) ∙ ap (λ b. has k (ascending (ws ++ cs)) || b) (sym (has-ascending k (bs ++ ds)))
    ∙ sym (has-append k (ascending (ws ++ cs)) (ascending (bs ++ ds))))

-- a look-up of what is not in the second part, or not in the first
lookup_front : {X : Type 0} (k : ℕ) (es fs : List (ℕ × X)) → has k (vids fs) ≡ false → lookup k (es ++ fs) ≡ lookup k es
lookup_front k [] fs none = lookup_none k fs none
lookup_front k (e ∷ es) fs none =
    elim (cases_eq k e.0) [
      | inl s ↦ lookup_here k e (es ++ fs) s ∙ sym (lookup_here k e es s)
      | inr d ↦ lookup_past k e (es ++ fs) d ∙ lookup_front k es fs none ∙ sym (lookup_past k e es d)
    ]

not_has : (k : ℕ) (ns : List ℕ) → (has k ns ≡ true → ⊥) → has k ns ≡ false
not_has k ns h = elim (cases_Bool (has k ns)) [ inl on ↦ absurd (h on) | inr off ↦ off ]

-- a graph and its messages may be joined in two parts, of which the first is below the second
joined_split : (g h : Graph) (a b : Pairs) → Apart (vids g ++ vids a) (vids h ++ vids b) → joined (g ++ h) (a ++ b) ≡ joined g a ++ joined h b
joined_split g h a b apart =
    let row : Graph → Pairs → ℕ → Row = λ graph messages v. record { vid = v; vertex = lookup v graph; message = lookup v messages } in
    let front = ascending (vids g ++ vids a) in
    let back = ascending (vids h ++ vids b) in
    let no_back : (k : ℕ) → has k front ≡ true → has k (vids h ++ vids b) ≡ false = λ k yes. not_has k (vids h ++ vids b) (λ other. (let low = apart k k (sym (has-ascending k (vids g ++ vids a)) ∙ yes) other in omega arith)) in
    let no_front : (k : ℕ) → has k back ≡ true → has k (vids g ++ vids a) ≡ false = λ k yes. not_has k (vids g ++ vids a) (λ other. (let low = apart k k other (sym (has-ascending k (vids h ++ vids b)) ∙ yes) in omega arith)) in
    ap (map (row (g ++ h) (a ++ b))) (ap (λ (l : List ℕ). ascending (l ++ vids (a ++ b))) (vids-append g h) ∙ ap (λ (l : List ℕ). ascending ((vids g ++ vids h) ++ l)) (vids-append a b) ∙ ascending_split (vids g) (vids h) (vids a) (vids b) apart)
    ∙ map-append (row (g ++ h) (a ++ b)) front back
    ∙ ap (λ (l : List Row). l ++ map (row (g ++ h) (a ++ b)) back) (map_agree (row (g ++ h) (a ++ b)) (row g a) front (λ k yes.
    (let none = or_parts _ _ (sym (has-append k (vids h) (vids b)) ∙ no_back k yes) in
    ap (λ o. record { vid = k; vertex = o; message = lookup k (a ++ b) }) (lookup_front k g h none.0) ∙ ap (λ o. record { vid = k; vertex = lookup k g; message = o }) (lookup_front k a b none.1))))
    ∙ ap (λ (l : List Row). map (row g a) front ++ l) (map_agree (row (g ++ h) (a ++ b)) (row h b) back (λ k yes.
    (let none = or_parts _ _ (sym (has-append k (vids g) (vids a)) ∙ no_front k yes) in
    ap (λ o. record { vid = k; vertex = o; message = lookup k (a ++ b) }) (lookup-append_none k g h (lookup_none k g none.0)) ∙ ap (λ o. record { vid = k; vertex = lookup k h; message = o }) (lookup-append_none k a b (lookup_none k a none.1)))))

-- one number below all of a list
apart_above : (n : ℕ) (ns : List ℕ) → AllAbove n ns → Apart (n ∷ []) ns
apart_above n ns a = λ j k here there.
    elim (or_cases (j == n) false here) [
      | inl same ↦ (let e = eqb-true j n same in let low = above_member n k ns a there in omega arith)
      | inr none ↦ absurd (false≢true none)
    ]

-- one message, one vertex, and both

one_fresh : (v : ℕ) (m : List ℕ) → joined [] ((v, m) ∷ []) ≡ fresh_row (v, m) ∷ []
one_fresh v m = ap (λ o. record { vid = v; vertex = None; message = o } ∷ []) (lookup_here v (v, m) [] refl)

one_plain : (v : ℕ) (x : Vertex) → joined ((v, x) ∷ []) [] ≡ record { vid = v; vertex = Some x; message = None } ∷ []
one_plain v x = ap (λ o. record { vid = v; vertex = o; message = None } ∷ []) (lookup_here v (v, x) [] refl)

one_both : (v : ℕ) (x : Vertex) (m : List ℕ) → joined ((v, x) ∷ []) ((v, m) ∷ []) ≡ record { vid = v; vertex = Some x; message = Some m } ∷ []
one_both v x m =
    let row : ℕ → Row = λ w. record { vid = w; vertex = lookup w ((v, x) ∷ []); message = lookup w ((v, m) ∷ []) } in
    ap (map row) (place_here v v [] refl)
    ∙ ap (λ o. record { vid = v; vertex = o; message = lookup v ((v, m) ∷ []) } ∷ []) (lookup_here v (v, x) [] refl)
    ∙ ap (λ o. record { vid = v; vertex = Some x; message = o } ∷ []) (lookup_here v (v, m) [] refl)

-- the messages of a map that have no vertex
joined_fresh : (b : Pairs) → IsMap b → joined [] b ≡ map fresh_row b
joined_fresh [] m = refl
joined_fresh (e ∷ es) m =
    joined_split [] [] (e ∷ []) es (apart_above e.0 (vids es) m.0) ∙ ap (λ (l : List Row). l ++ joined [] es) (one_fresh e.0 e.1) ∙ ap (λ (l : List Row). fresh_row e ∷ l) (joined_fresh es m.1)

below_split : (v : ℕ) (b : Pairs) → below v b ++ not_below v b ≡ b
below_split v [] = refl
below_split v (e ∷ es) =
    elim (cases_Bool (nat_lt e.0 v)) [
      | inl low ↦ ap (λ (l : Pairs). l ++ not_below v (e ∷ es)) (cond-true (nat_lt e.0 v) _ _ low) ∙ ap (λ (l : Pairs). (e ∷ below v es) ++ l) (cond-true (nat_lt e.0 v) _ _ low) ∙ ap (λ (l : Pairs). e ∷ l) (below_split v es)
      | inr high ↦ ap (λ (l : Pairs). l ++ not_below v (e ∷ es)) (cond-false (nat_lt e.0 v) _ _ high) ∙ cond-false (nat_lt e.0 v) _ _ high
    ]

below_member : (v k : ℕ) (b : Pairs) → has k (vids (below v b)) ≡ true → k < v
below_member v k [] h = absurd (false≢true h)
below_member v k (e ∷ es) h =
    elim (cases_Bool (nat_lt e.0 v)) [
      | inl low ↦ elim (or_cases (k == e.0) (has k (vids (below v es))) (sym (ap (λ (l : Pairs). has k (vids l)) (cond-true (nat_lt e.0 v) _ _ low)) ∙ h)) [
        | inl same ↦ (let e1 = eqb-true k e.0 same in let e2 = ltb-true e.0 v low in omega arith)
        | inr later ↦ below_member v k es later
      ]
      | inr high ↦ absurd (false≢true (sym (ap (λ (l : Pairs). has k (vids l)) (cond-false (nat_lt e.0 v) _ _ high)) ∙ h))
    ]

not_below_member : (v k : ℕ) (b : Pairs) → IsMap b → has k (vids (not_below v b)) ≡ true → v ≤ k
not_below_member v k [] m h = absurd (false≢true h)
not_below_member v k (e ∷ es) m h =
    elim (cases_Bool (nat_lt e.0 v)) [
      | inl low ↦ not_below_member v k es m.1 (sym (ap (λ (l : Pairs). has k (vids l)) (cond-true (nat_lt e.0 v) _ _ low)) ∙ h)
      | inr high ↦ elim (or_cases (k == e.0) (has k (vids es)) (sym (ap (λ (l : Pairs). has k (vids l)) (cond-false (nat_lt e.0 v) _ _ high)) ∙ h)) [
        | inl same ↦ (let e1 = eqb-true k e.0 same in let e2 = ltb-false e.0 v high in omega arith)
        | inr later ↦ (let up = above_member e.0 k (vids es) m.0 later in let e2 = ltb-false e.0 v high in omega arith)
      ]
    ]

apart_twice : (v : ℕ) (ns : List ℕ) → Apart (v ∷ []) ns → Apart (v ∷ v ∷ []) ns
apart_twice v ns apart = λ j k here there. apart j k (elim (or_cases (j == v) (has j (v ∷ [])) here) [ inl one ↦ or_left (j == v) false one | inr two ↦ two ]) there

apart_both : (v : ℕ) (ns ms : List ℕ) → AllAbove v ns → ((k : ℕ) → has k ms ≡ true → v < k) → Apart (v ∷ []) (ns ++ ms)
apart_both v ns ms a h = apart_above v (ns ++ ms) (all_above_from v (ns ++ ms) (λ k yes. elim (or_cases (has k ns) (has k ms) (sym (has-append k ns ms) ∙ yes)) [ inl one ↦ above_member v k ns a one | inr two ↦ h k two ]))

-- the first vertex with the messages from its vid on
attached_here : (v : ℕ) (x : Vertex) (g : Graph) (c : Pairs) → IsMap ((v, x) ∷ g) → IsMap c → ((k : ℕ) → has k (vids c) ≡ true → v ≤ k) → ((b : Pairs) → IsMap b → attached (plain g) b ≡ joined g b)
    → record { vid = v; vertex = Some x; message = first_at v c } ∷ attached (plain g) (past v c) ≡ joined ((v, x) ∷ g) c
attached_here v x g [] mg mc low rest =
    ap (λ (l : List Row). record { vid = v; vertex = Some x; message = None } ∷ l) (rest [] tt)
    ∙ ap (λ (l : List Row). l ++ joined g []) (sym (one_plain v x))
    ∙ sym (joined_split ((v, x) ∷ []) g [] [] (apart_both v (vids g) [] mg.0 (λ k h. absurd (false≢true h))))
attached_here v x g ((w, m) ∷ c) mg mc low rest =
    elim (cases_eq w v) [
      | inl same ↦
          ap (λ o. record { vid = v; vertex = Some x; message = o } ∷ attached (plain g) (past v ((w, m) ∷ c))) (cond-true (w == v) _ _ (eq-eqb w v same))
          ∙ ap (λ (l : Pairs). record { vid = v; vertex = Some x; message = Some m } ∷ attached (plain g) l) (cond-true (w == v) _ _ (eq-eqb w v same))
          ∙ ap (λ (l : List Row). record { vid = v; vertex = Some x; message = Some m } ∷ l) (rest c mc.1)
          ∙ ap (λ (l : List Row). l ++ joined g c) (sym (one_both v x m))
          ∙ sym (joined_split ((v, x) ∷ []) g ((v, m) ∷ []) c (apart_twice v (vids g ++ vids c) (apart_both v (vids g) (vids c) mg.0 (λ k h. (let up = above_member w k (vids c) mc.0 h in omega arith)))))
          ∙ ap (λ n. joined ((v, x) ∷ g) ((n, m) ∷ c)) (sym same)
      | inr other ↦
          ap (λ o. record { vid = v; vertex = Some x; message = o } ∷ attached (plain g) (past v ((w, m) ∷ c))) (cond-false (w == v) _ _ (ne_eqb w v other))
          ∙ ap (λ (l : Pairs). record { vid = v; vertex = Some x; message = None } ∷ attached (plain g) l) (cond-false (w == v) _ _ (ne_eqb w v other))
          ∙ ap (λ (l : List Row). record { vid = v; vertex = Some x; message = None } ∷ l) (rest ((w, m) ∷ c) mc)
          ∙ ap (λ (l : List Row). l ++ joined g ((w, m) ∷ c)) (sym (one_plain v x))
          ∙ sym (joined_split ((v, x) ∷ []) g [] ((w, m) ∷ c) (apart_both v (vids g) (w ∷ vids c) mg.0 (λ k h. elim (or_cases (k == w) (has k (vids c)) h) [
            | inl here ↦ (let e = eqb-true k w here in let le = low w (has-first w (vids c)) in omega arith)
            | inr later ↦ (let up = above_member w k (vids c) mc.0 later in let le = low w (has-first w (vids c)) in omega arith)
          ])))
    ]

-- messages that are attached to the plain rows of a graph are joined with it
pub attached_is_joined : (g : Graph) (b : Pairs) → IsMap g → IsMap b → attached (plain g) b ≡ joined g b
attached_is_joined [] b mg mb = sym (joined_fresh b mb)
attached_is_joined ((v, x) ∷ g) b mg mb =
    let c = not_below v b in
    let front : IsMap (below v b) = IsMap-front (below v b) c (subst (λ (l : Pairs). IsMap l) (sym (below_split v b)) mb) in
    let back : IsMap c = IsMap-back (below v b) c (subst (λ (l : Pairs). IsMap l) (sym (below_split v b)) mb) in
    ap (λ (l : List Row). map fresh_row (below v b) ++ l) (attached_here v x g c mg back (λ k h. not_below_member v k b mb h) (λ d md. attached_is_joined g d mg.1 md))
    ∙ ap (λ (l : List Row). l ++ joined ((v, x) ∷ g) c) (sym (joined_fresh (below v b) front))
    ∙ sym (joined_split [] ((v, x) ∷ g) (below v b) c (λ j k one two. (let low = below_member v j b one in
    elim (or_cases (has k (v ∷ vids g)) (has k (vids c)) (sym (has-append k (v ∷ vids g) (vids c)) ∙ two)) [
      | inl vertex ↦ elim (or_cases (k == v) (has k (vids g)) vertex) [
        | inl here ↦ (let e = eqb-true k v here in omega arith)
        | inr later ↦ (let up = above_member v k (vids g) mg.0 later in omega arith)
      ]
      | inr message ↦ (let le = not_below_member v k b mb message in omega arith)
    ])))
    ∙ ap (λ (l : Pairs). joined ((v, x) ∷ g) l) (below_split v b)

-- the vertex of a row under its vid
abbrev pub vertex_at : Row → Option (ℕ × Vertex)
vertex_at row = option_map (λ x. (row.vid, x)) row.vertex

-- a graph joined with grouped pairs has each vid's inbox
pub joined_grouped : (rule : MergeRule) (g : Graph) (pairs : Pairs) → joined g (grouped rule pairs) ≡ map (λ v. record { vid = v; vertex = lookup v g; message = inbox rule pairs v }) (ascending (vids g ++ vids pairs))
joined_grouped rule g pairs =
    let by_groups : ℕ → Row = λ v. record { vid = v; vertex = lookup v g; message = lookup v (grouped rule pairs) } in
    let by_pairs : ℕ → Row = λ v. record { vid = v; vertex = lookup v g; message = inbox rule pairs v } in
    map_agree by_groups by_pairs (ascending (vids g ++ vids (grouped rule pairs))) (λ v named. ap (λ o. record { vid = v; vertex = lookup v g; message = o }) (lookup-grouped rule pairs v))
    ∙ ap (map by_pairs) (ap (λ (l : List ℕ). ascending (vids g ++ l)) (vids-grouped rule pairs) ∙ ascending-append_right (vids g) (vids pairs))
