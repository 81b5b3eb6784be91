-- Vids are settled one at a time, ascending.
use Rattle.std.proofs.Common.{◌≡◌, ◌≢◌, ◌≤◌, ◌<◌, ◌+◌, ◌-◌, ◌^◌, ℕ, suc, List, [], ◌∷◌, ◌++◌, length, filter, Bool, true, false, not, ◌||◌, ◌&&◌, nat_lt, ◌==◌, is_some, Option, Some, None, sym, ◌∙◌, ap, subst, refl, arith, inl, inr}
use Rattle.std.specs.Prelude.{IfSome, if◌then◌else◌}
use Rattle.std.specs.Option.{option_or}
use Rattle.std.proofs.lemmas.Bool.{cond-true, cond-false, cases_eq, cases_order, cases_Bool, lt-ltb, le-ltb, ltb-false, or_right, true≢false, false≢true}
use Rattle.std.proofs.Math.Bool.{and-false, or-false}
use Rattle.std.proofs.lemmas.List.{length-append}
use Rattle.px_meaning.specs.Graph.{Graph, Vertex, vertex_size, lookup, vids, ascending, IsMap, IsAscending, AllAbove}
use Rattle.px_meaning.specs.Merge.{Pairs}
use Rattle.px_meaning.specs.Program.{ProgramMeaning}
use Rattle.px_meaning.specs.Step.{put_all, settled, is_awake, has_wide_vertex}
use Rattle.px_meaning.proofs.Ascending.{has, AllBelow, has-append, has-first, has-rest, IsAscending-push, ascending_from_members}
use Rattle.px_meaning.proofs.Inbox.{inbox_of_map}
use Rattle.px_meaning.proofs.Limits.{wide_from_lookup, fits_at_lookup, fits_from_lookups}
use Rattle.px_meaning.proofs.Maps.{lookup_here, lookup_past, lookup_below, lookup-put_same, lookup-put_other, lookup-delete_same, lookup-delete_other, IsMap-put, IsMap-delete, maps_equal}
use Rattle.px_meaning.proofs.Settling.{settled_at, lookup-put_all, lookup-settled}
use Rattle.px_mutations.specs.declared.effects.Effect.{Effect}
use Rattle.px_mutations.specs.declared.effects.Counts.{Counts}
use Rattle.px_mutations.specs.Turns.{Takes, with_vid}
use Rattle.px_mutations.specs.Effects.{placed, left_at, bit, standing, IsEffect, IsCounted, IsTooWide}
use Rattle.px_mutations.specs.Applying.{live_vids, AreCounts}
use Rattle.px_mutations.proofs.Counting.{below, below_all, below_more, below_one, below_bound, below_last, names_one}

-- one pair is taken from the front of a map

pub takes_map : {X : Type 0} (v : ℕ) (o : Option X) (es rest : List (ℕ × X)) → Takes v o es rest → IsMap es → IsMap rest
takes_map v None es rest t m = subst (λ (k : List _). IsMap k) t.0 m
takes_map v (Some x) es rest t m = (subst (λ (k : List _). IsMap k) t m).1

takes_above : {X : Type 0} (v : ℕ) (o : Option X) (es rest : List (ℕ × X)) → Takes v o es rest → IsMap es → AllAbove v (vids rest)
takes_above v None es rest t m = subst (λ (k : List _). AllAbove v (vids k)) t.0 t.1
takes_above v (Some x) es rest t m = (subst (λ (k : List _). IsMap k) t m).0

pub takes_low : {X : Type 0} (v : ℕ) (o : Option X) (es rest : List (ℕ × X)) → Takes v o es rest → IsMap es → (k : ℕ) → k < v + 1 → lookup k rest ≡ None
takes_low v o es rest t m k lt = lookup_below k v rest lt (takes_above v o es rest t m)

pub takes_at : {X : Type 0} (v : ℕ) (o : Option X) (es rest : List (ℕ × X)) → Takes v o es rest → lookup v es ≡ o
takes_at v None es rest t = lookup_below v v es (omega arith) t.1
takes_at v (Some x) es rest t = ap (lookup v) t ∙ lookup_here v (v, x) rest refl

pub takes_other : {X : Type 0} (v : ℕ) (o : Option X) (es rest : List (ℕ × X)) → Takes v o es rest → (k : ℕ) → k ≢ v → lookup k es ≡ lookup k rest
takes_other v None es rest t k d = ap (lookup k) t.0
takes_other v (Some x) es rest t k d = ap (lookup k) t ∙ lookup_past k (v, x) rest d

-- a vertex is placed, or none

pub lookup-placed_same : (v : ℕ) (o : Option Vertex) (g : Graph) → lookup v (placed v o g) ≡ o
lookup-placed_same v None g = lookup-delete_same v g
lookup-placed_same v (Some x) g = lookup-put_same v x g

pub lookup-placed_other : (v : ℕ) (o : Option Vertex) (g : Graph) (k : ℕ) → k ≢ v → lookup k (placed v o g) ≡ lookup k g
lookup-placed_other v None g k d = lookup-delete_other k v g d
lookup-placed_other v (Some x) g k d = lookup-put_other k v x g d

pub IsMap-placed : (v : ℕ) (o : Option Vertex) (g : Graph) → IsMap g → IsMap (placed v o g)
IsMap-placed v None g m = IsMap-delete v g m
IsMap-placed v (Some x) g m = IsMap-put v x g m

-- what a vid has after all
pub lookup_after : (p : ProgramMeaning) (l changes : Graph) (folds : Pairs) → IsMap changes → IsMap folds → (k : ℕ)
    → settled_at p k (option_or (lookup k changes) (lookup k l)) (lookup k folds) ≡ lookup k (settled p (put_all l changes) folds)
lookup_after p l changes folds mc mf k =
    ap (λ (o : Option Vertex). settled_at p k o (lookup k folds)) (sym (lookup-put_all k l changes mc))
    ∙ ap (settled_at p k (lookup k (put_all l changes))) (sym (inbox_of_map p.verdict folds k mf)) ∙ sym (lookup-settled p k (put_all l changes) folds)

-- the vids that are awake

above_filtered : (q : ℕ × Vertex → Bool) (n : ℕ) (g : Graph) → AllAbove n (vids g) → AllAbove n (vids (filter q g))
above_filtered q n [] a = tt
above_filtered q n (e ∷ es) a = elim (cases_Bool (q e)) [
  | inl on ↦ subst (λ (k : Graph). AllAbove n (vids k)) (sym (cond-true (q e) (e ∷ filter q es) (filter q es) on)) (a.0, above_filtered q n es a.1)
  | inr off ↦ subst (λ (k : Graph). AllAbove n (vids k)) (sym (cond-false (q e) (e ∷ filter q es) (filter q es) off)) (above_filtered q n es a.1)
]

map_filtered : (q : ℕ × Vertex → Bool) (g : Graph) → IsMap g → IsMap (filter q g)
map_filtered q [] m = tt
map_filtered q (e ∷ es) m = elim (cases_Bool (q e)) [
  | inl on ↦ subst (λ (k : Graph). IsMap k) (sym (cond-true (q e) (e ∷ filter q es) (filter q es) on)) (above_filtered q e.0 es m.0, map_filtered q es m.1)
  | inr off ↦ subst (λ (k : Graph). IsMap k) (sym (cond-false (q e) (e ∷ filter q es) (filter q es) off)) (map_filtered q es m.1)
]

pub live_ascend : (g : Graph) → IsMap g → IsAscending (live_vids g)
live_ascend g m = map_filtered (λ e. not e.1.halt) g m

live_first : (e : ℕ × Vertex) (es : Graph) (b : Bool) → e.1.halt ≡ b → live_vids (e ∷ es) ≡ (if not b then e.0 ∷ live_vids es else live_vids es)
live_first e es true is = ap vids (cond-false (not e.1.halt) (e ∷ filter (λ (f : ℕ × Vertex). not f.1.halt) es) _ (ap not is))
live_first e es false is = ap vids (cond-true (not e.1.halt) (e ∷ filter (λ (f : ℕ × Vertex). not f.1.halt) es) _ (ap not is))

live_not_below : (k : ℕ) (g : Graph) → lookup k g ≡ None → has k (live_vids g) ≡ false
live_not_below k [] none = refl
live_not_below k (e ∷ es) none = elim (cases_eq k e.0) [
  | inl s ↦ absurd (true≢false (ap is_some (sym (lookup_here k e es s) ∙ none)))
  | inr d ↦
      let rest = live_not_below k es (sym (lookup_past k e es d) ∙ none) in
      elim (cases_Bool e.1.halt) [
        | inl on ↦ ap (has k) (live_first e es true on) ∙ rest
        | inr off ↦ ap (has k) (live_first e es false off) ∙ has-rest k e.0 (live_vids es) d ∙ rest
      ]
]

-- a vid is one of them where its vertex is awake
pub live_member : (k : ℕ) (g : Graph) → IsMap g → has k (live_vids g) ≡ is_awake (lookup k g)
live_member k [] m = refl
live_member k (e ∷ es) m = elim (cases_eq k e.0) [
  | inl s ↦
      let at : is_awake (lookup k (e ∷ es)) ≡ not e.1.halt = ap is_awake (lookup_here k e es s) in
      elim (cases_Bool e.1.halt) [
        | inl on ↦ ap (has k) (live_first e es true on) ∙ live_not_below k es (lookup_below k e.0 es (omega (arith, s)) m.0) ∙ sym (at ∙ ap not on)
        | inr off ↦ ap (has k) (live_first e es false off) ∙ subst (λ (n : ℕ). has n (e.0 ∷ live_vids es) ≡ true) (sym s) (has-first e.0 (live_vids es)) ∙ sym (at ∙ ap not off)
      ]
  | inr d ↦
      let rest = live_member k es m.1 ∙ sym (ap is_awake (lookup_past k e es d)) in
      elim (cases_Bool e.1.halt) [
        | inl on ↦ ap (has k) (live_first e es true on) ∙ rest
        | inr off ↦ ap (has k) (live_first e es false off) ∙ has-rest k e.0 (live_vids es) d ∙ rest
      ]
]

-- there are at most as many as vertices
pub live_most : (g : Graph) → length (live_vids g) ≤ length g
live_most [] = omega arith
live_most (e ∷ es) = elim (cases_Bool e.1.halt) [
  | inl on ↦ omega (arith, ap length (live_first e es true on), live_most es)
  | inr off ↦ omega (arith, ap length (live_first e es false off), live_most es)
]

-- the vids below a bound are settled: the graph is so far as it will be, the changes and the folds above are still to come, and the live vids below are written
pub record SettledTo (p : ProgramMeaning) (room : ℕ) (l after g cs : Graph) (fs : Pairs) (ws : List ℕ) (bound : ℕ) (c : Counts) : Type 0 where
  pub map_g : IsMap g
  pub map_cs : IsMap cs
  pub map_fs : IsMap fs
  pub low_cs : (k : ℕ) → k < bound → lookup k cs ≡ None
  pub low_fs : (k : ℕ) → k < bound → lookup k fs ≡ None
  pub same : (k : ℕ) → bound ≤ k → lookup k g ≡ lookup k l
  pub leads : (k : ℕ) → settled_at p k (option_or (lookup k cs) (lookup k g)) (lookup k fs) ≡ lookup k after
  pub fit : (k : ℕ) → IfSome (option_or (lookup k cs) (lookup k g)) (λ x. vertex_size x ≤ room)
  pub awake : (k : ℕ) → bound ≤ k → is_awake (lookup k g) ≡ true → is_some (lookup k cs) ≡ true
  pub ascend : IsAscending ws
  pub below_it : AllBelow bound ws
  pub written : (k : ℕ) → has k ws ≡ (nat_lt k bound && is_awake (lookup k g))
  pub more : ℕ
  pub fewer : ℕ
  pub sizes : length g + fewer ≡ length l + more
  pub within : fewer ≤ below bound l
  pub added : c.added ≡ standing more
  pub removed : c.removed ≡ standing fewer
  pub live : c.live ≡ standing (length ws)

fit_at : (room : ℕ) (g : Graph) (k : ℕ) (o : Option Vertex) → has_wide_vertex room g ≡ false → lookup k g ≡ o → IfSome o (λ x. vertex_size x ≤ room)
fit_at room g k None fit is = tt
fit_at room g k (Some x) fit is = ltb-false room (vertex_size x) (fits_at_lookup room k x g fit is)

-- nothing is settled yet
pub settled_first : (p : ProgramMeaning) (room : ℕ) (l changes : Graph) (folds : Pairs) (c : Counts) → IsMap l → IsMap changes → IsMap folds → has_wide_vertex room (put_all l changes) ≡ false
    → ((k : ℕ) → is_awake (lookup k l) ≡ true → is_some (lookup k changes) ≡ true) → c ≡ record { added = 0; removed = 0; live = 0 }
    → SettledTo p room l (settled p (put_all l changes) folds) l changes folds [] 0 c
settled_first p room l changes folds c ml mc mf fit awake is = record {
  map_g = ml;
  map_cs = mc;
  map_fs = mf;
  low_cs = λ k lt. absurd (omega (arith, lt));
  low_fs = λ k lt. absurd (omega (arith, lt));
  same = λ k le. refl;
  leads = lookup_after p l changes folds mc mf;
  fit = λ k. fit_at room (put_all l changes) k _ fit (lookup-put_all k l changes mc);
  awake = λ k le on. awake k on;
  ascend = tt;
  below_it = tt;
  written = λ k. sym (ap (λ (b : Bool). b && is_awake (lookup k l)) (le-ltb k 0 (omega arith)));
  more = 0;
  fewer = 0;
  sizes = refl;
  within = omega arith;
  added = ap (λ (x : Counts). x.added) is;
  removed = ap (λ (x : Counts). x.removed) is;
  live = ap (λ (x : Counts). x.live) is;
}

ascend_more : (live : Bool) (v : ℕ) (ws : List ℕ) → IsAscending ws → AllBelow v ws → IsAscending (with_vid live v ws)
ascend_more true v ws a b = IsAscending-push v ws a b
ascend_more false v ws a b = a

below_more_vids : (live : Bool) (v : ℕ) (ws : List ℕ) → AllBelow v ws → AllBelow (v + 1) (with_vid live v ws)
below_more_vids true v ws b = below_last (v + 1) ws v (below_bound v (v + 1) ws (omega arith) b) (omega arith)
below_more_vids false v ws b = below_bound v (v + 1) ws (omega arith) b

has_with_same : (live : Bool) (v : ℕ) (ws : List ℕ) → has v ws ≡ false → has v (with_vid live v ws) ≡ live
has_with_same true v ws none = has-append v ws (v ∷ []) ∙ or_right (has v ws) _ (has-first v [])
has_with_same false v ws none = none

has_with_other : (live : Bool) (v : ℕ) (ws : List ℕ) (k : ℕ) → k ≢ v → has k (with_vid live v ws) ≡ has k ws
has_with_other true v ws k d = has-append k ws (v ∷ []) ∙ ap (λ (b : Bool). has k ws || b) (has-rest k v [] d) ∙ or-false (has k ws)
has_with_other false v ws k d = refl

length_with : (live : Bool) (v : ℕ) (ws : List ℕ) → length (with_vid live v ws) ≡ length ws + bit live
length_with true v ws = length-append ws (v ∷ [])
length_with false v ws = omega arith

-- counts that stand still are added to
stands : (n k : ℕ) → standing (standing n + k) ≡ standing (n + k)
stands n k = omega arith

removed_within : (b v : ℕ) (r : Bool) (n : ℕ) (l g : Graph) → b ≤ v → n ≤ below b l → lookup v g ≡ lookup v l → (r ≡ true → is_some (lookup v g) ≡ true) → n + bit r ≤ below (v + 1) l
removed_within b v true n l g le h same was = omega (arith, h, below_one b v l le (sym (ap is_some same) ∙ was refl))
removed_within b v false n l g le h same was = omega (arith, h, below_more b (v + 1) l (omega (arith, le)))

-- a vid is awake below the one bound just where it is below the other, where none stands between
below_either : (a : Bool) (k b v : ℕ) → k ≢ v → b ≤ v → (b ≤ k → k < v → a ≡ true → ⊥) → (nat_lt k b && a) ≡ (nat_lt k (v + 1) && a)
below_either false k b v d le between = and-false (nat_lt k b) ∙ sym (and-false (nat_lt k (v + 1)))
below_either true k b v d le between = elim (cases_order k b) [
  | inl s ↦ absurd (between (omega (arith, s)) (let c : k ≡ v → ⊥ = d in omega (arith, s, le, c)) refl)
  | inr o ↦ elim o [
    | inl lt ↦ ap (λ (x : Bool). x && true) (lt-ltb k b lt ∙ sym (lt-ltb k (v + 1) (omega (arith, lt, le))))
    | inr gt ↦ elim (cases_order k v) [
      | inl s ↦ absurd (d s)
      | inr q ↦ elim q [
        | inl low ↦ absurd (between (omega (arith, gt)) low refl)
        | inr high ↦ ap (λ (x : Bool). x && true) (le-ltb k b (omega (arith, gt)) ∙ sym (le-ltb k (v + 1) (omega (arith, high))))
      ]
    ]
  ]
]

module _ (p : ProgramMeaning) (room : ℕ) (l after g cs cs' : Graph) (fs fs' : Pairs) (ws : List ℕ) (bound : ℕ) (c c' : Counts) (s : SettledTo p room l after g cs fs ws bound c)
    (v : ℕ) (change : Option Vertex) (fold : Option (List ℕ)) (tc : Takes v change cs cs') (tf : Takes v fold fs fs') (some : (is_some change || is_some fold) ≡ true) where
  bound_low : bound ≤ v
  bound_low = elim (cases_order v bound) [
    | inl same ↦ omega (arith, same)
    | inr d ↦ elim d [
      | inl lt ↦
          let none : change ≡ None = sym (takes_at v change cs cs' tc) ∙ s.low_cs v lt in
          let gone : fold ≡ None = sym (takes_at v fold fs fs' tf) ∙ s.low_fs v lt in
          absurd (true≢false (sym some ∙ ap (λ (o : Option Vertex). is_some o || is_some fold) none ∙ ap is_some gone))
      | inr gt ↦ omega (arith, gt)
    ]
  ]

  -- what the vid has after all is what its turn leaves there
  pub left_is : left_at p v change fold g ≡ lookup v after
  left_is = ap (λ (o : Option Vertex). settled_at p v (option_or o (lookup v g)) fold) (sym (takes_at v change cs cs' tc)) ∙ ap (settled_at p v (option_or (lookup v cs) (lookup v g))) (sym (takes_at v fold fs fs' tf)) ∙ s.leads v

  -- a vertex that is left too wide is one of the graph after all
  pub wide_is_beyond : IsTooWide room (left_at p v change fold g) → has_wide_vertex room after ≡ true
  wide_is_beyond wide = wide_at room v after (lookup v after) refl (subst (IsTooWide room) left_is wide)
    where
      wide_at : (room v : ℕ) (after : Graph) (o : Option Vertex) → lookup v after ≡ o → IsTooWide room o → has_wide_vertex room after ≡ true
      wide_at room v after None is wide = absurd wide
      wide_at room v after (Some x) is wide = wide_from_lookup room v x after is (lt-ltb room (vertex_size x) wide)

  -- a turn is taken
  pub settled_next : (e : Effect) → IsEffect e v room g (placed v (left_at p v change fold g) g) → IsCounted e c c'
      → SettledTo p room l after (placed v (left_at p v change fold g) g) cs' fs' (with_vid e.live v ws) (v + 1) c'
  settled_next e effect counted =
      let o = left_at p v change fold g in
      let g' = placed v o g in
      let at : lookup v g' ≡ o = lookup-placed_same v o g in
      let other : (k : ℕ) → k ≢ v → lookup k g' ≡ lookup k g = lookup-placed_other v o g in
      let low : (k : ℕ) → k < v + 1 → lookup k cs' ≡ None = takes_low v change cs cs' tc s.map_cs in
      let low' : (k : ℕ) → k < v + 1 → lookup k fs' ≡ None = takes_low v fold fs fs' tf s.map_fs in
      let rest : (k : ℕ) → k ≢ v → lookup k cs ≡ lookup k cs' = takes_other v change cs cs' tc in
      let rest' : (k : ℕ) → k ≢ v → lookup k fs ≡ lookup k fs' = takes_other v fold fs fs' tf in
      let unwritten : has v ws ≡ false = s.written v ∙ ap (λ (b : Bool). b && is_awake (lookup v g)) (le-ltb v bound bound_low) in
      record {
        map_g = IsMap-placed v o g s.map_g;
        map_cs = takes_map v change cs cs' tc s.map_cs;
        map_fs = takes_map v fold fs fs' tf s.map_fs;
        low_cs = low;
        low_fs = low';
        same = λ k le. other k (λ is. omega (arith, is, le)) ∙ s.same k (omega (arith, le, bound_low));
        leads = λ k. elim (cases_eq k v) [
          | inl is ↦ subst (λ (n : ℕ). settled_at p n (option_or (lookup n cs') (lookup n g')) (lookup n fs') ≡ lookup n after) (sym is)
              (ap (λ (x : Option Vertex). settled_at p v (option_or x (lookup v g')) (lookup v fs')) (low v (omega arith)) ∙ ap (settled_at p v (lookup v g')) (low' v (omega arith)) ∙ at ∙ left_is)
          | inr d ↦ ap (λ (x : Option Vertex). settled_at p k (option_or x (lookup k g')) (lookup k fs')) (sym (rest k d))
              ∙ ap (λ (x : Option Vertex). settled_at p k (option_or (lookup k cs) x) (lookup k fs')) (other k d)
              ∙ ap (settled_at p k (option_or (lookup k cs) (lookup k g))) (sym (rest' k d)) ∙ s.leads k
        ];
        fit = λ k. elim (cases_eq k v) [
          | inl is ↦ subst (λ (n : ℕ). IfSome (option_or (lookup n cs') (lookup n g')) (λ x. vertex_size x ≤ room)) (sym is)
              (subst (λ (x : Option Vertex). IfSome (option_or x (lookup v g')) (λ y. vertex_size y ≤ room)) (sym (low v (omega arith))) effect.fits)
          | inr d ↦ subst (λ (x : Option Vertex). IfSome (option_or x (lookup k g')) (λ y. vertex_size y ≤ room)) (rest k d)
              (subst (λ (x : Option Vertex). IfSome (option_or (lookup k cs) x) (λ y. vertex_size y ≤ room)) (sym (other k d)) (s.fit k))
        ];
        awake = λ k le on.
            (let d : k ≢ v = λ is. omega (arith, is, le) in
            sym (ap is_some (rest k d)) ∙ s.awake k (omega (arith, le, bound_low)) (sym (ap is_awake (other k d)) ∙ on));
        ascend = ascend_more e.live v ws s.ascend (below_bound bound v ws bound_low s.below_it);
        below_it = below_more_vids e.live v ws (below_bound bound v ws bound_low s.below_it);
        written = λ k. elim (cases_eq k v) [
          | inl is ↦ subst (λ (n : ℕ). has n (with_vid e.live v ws) ≡ (nat_lt n (v + 1) && is_awake (lookup n g'))) (sym is)
              (has_with_same e.live v ws unwritten ∙ effect.live ∙ sym (ap (λ (b : Bool). b && is_awake (lookup v g')) (lt-ltb v (v + 1) (omega arith))))
          | inr d ↦ has_with_other e.live v ws k d ∙ s.written k
              ∙ below_either (is_awake (lookup k g)) k bound v d bound_low (λ le lt on. true≢false (sym (s.awake k le on) ∙ ap is_some (rest k d ∙ low k (omega (arith, lt)))))
              ∙ ap (λ (x : Option Vertex). nat_lt k (v + 1) && is_awake x) (sym (other k d))
        ];
        more = s.more + bit e.added;
        fewer = s.fewer + bit e.removed;
        sizes = omega (arith, s.sizes, effect.sizes);
        within = removed_within bound v e.removed s.fewer l g bound_low s.within (s.same v bound_low) effect.was;
        added = counted.added ∙ ap (λ (n : ℕ). standing (n + bit e.added)) s.added ∙ stands s.more (bit e.added);
        removed = counted.removed ∙ ap (λ (n : ℕ). standing (n + bit e.removed)) s.removed ∙ stands s.fewer (bit e.removed);
        live = counted.live ∙ ap (λ (n : ℕ). standing (n + bit e.live)) s.live ∙ stands (length ws) (bit e.live) ∙ ap standing (sym (length_with e.live v ws));
      }

  -- and one vid less is left
  pub touched_next : length (ascending (vids cs ++ vids fs)) ≡ suc (length (ascending (vids cs' ++ vids fs')))
  touched_next = names_one v cs cs' fs fs' (takes_other v change cs cs' tc) (takes_other v fold fs fs' tf) (takes_low v change cs cs' tc s.map_cs v (omega arith)) (takes_low v fold fs fs' tf s.map_fs v (omega arith))
      (ap (λ (o : Option Vertex). is_some o || is_some (lookup v fs)) (takes_at v change cs cs' tc) ∙ ap (λ (o : Option (List ℕ)). is_some change || is_some o) (takes_at v fold fs fs' tf) ∙ some)

module _ (p : ProgramMeaning) (room : ℕ) (l after g cs : Graph) (fs : Pairs) (ws : List ℕ) (bound : ℕ) (c : Counts) (s : SettledTo p room l after g cs fs ws bound c) (map_after : IsMap after) (no_cs : cs ≡ []) (no_fs : fs ≡ []) where
  -- nothing is left: the graph is the one after all
  pub settled_whole : g ≡ after
  settled_whole = maps_equal g after s.map_g map_after (λ k.
      ap (λ (es : Graph). settled_at p k (option_or (lookup k es) (lookup k g)) (lookup k [])) (sym no_cs) ∙ ap (λ (es : Pairs). settled_at p k (option_or (lookup k cs) (lookup k g)) (lookup k es)) (sym no_fs) ∙ s.leads k)

  asleep : (k : ℕ) → bound ≤ k → is_awake (lookup k g) ≡ true → ⊥
  asleep k le on = false≢true (ap (λ (es : Graph). is_some (lookup k es)) (sym no_cs) ∙ s.awake k le on)

  written_all : (k : ℕ) (a : Bool) → is_awake (lookup k g) ≡ a → (nat_lt k bound && a) ≡ a
  written_all k false is = and-false (nat_lt k bound)
  written_all k true is = elim (cases_order k bound) [
    | inl same ↦ absurd (asleep k (omega (arith, same)) is)
    | inr d ↦ elim d [
      | inl lt ↦ ap (λ (b : Bool). b && true) (lt-ltb k bound lt)
      | inr gt ↦ absurd (asleep k (omega (arith, gt)) is)
    ]
  ]

  -- what was written is its live vids
  pub written_whole : ws ≡ live_vids after
  written_whole = ascending_from_members ws (live_vids g) s.ascend (live_ascend g s.map_g) (λ k. s.written k ∙ written_all k (is_awake (lookup k g)) refl ∙ sym (live_member k g s.map_g)) ∙ ap live_vids settled_whole

  pub fit_whole : has_wide_vertex room after ≡ false
  fit_whole = ap (has_wide_vertex room) (sym settled_whole) ∙ fits_from_lookups room g s.map_g (λ k x is.
      le-ltb room (vertex_size x) (subst (λ (o : Option Vertex). IfSome o (λ y. vertex_size y ≤ room)) is (subst (λ (es : Graph). IfSome (option_or (lookup k es) (lookup k g)) (λ y. vertex_size y ≤ room)) no_cs (s.fit k))))

  pub counts_whole : AreCounts c l after
  counts_whole = record {
    more = s.more;
    fewer = s.fewer;
    sizes = ap (λ (x : Graph). length x + s.fewer) (sym settled_whole) ∙ s.sizes;
    within = omega (arith, s.within, below_all bound l);
    added = s.added;
    removed = s.removed;
    live = s.live ∙ ap (λ (x : List ℕ). standing (length x)) written_whole;
  }
