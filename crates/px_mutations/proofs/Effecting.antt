-- What the calls of the store do to a vid.
use Rattle.std.proofs.Common.{◌≡◌, ◌≤◌, ◌+◌, ℕ, suc, List, [], ◌∷◌, length, Bool, true, false, not, ◌||◌, ◌&&◌, is_some, Option, Some, None, sym, ◌∙◌, ap, subst, refl, arith, inl, inr}
use Rattle.std.specs.Prelude.{if◌then◌else◌, IfSome}
use Rattle.std.specs.Option.{option_or}
use Rattle.std.proofs.lemmas.Bool.{cases_eq, true≢false, false≢true}
use Rattle.px_meaning.specs.Graph.{Graph, Vertex, vertex_size, lookup, put, delete, IsMap}
use Rattle.px_meaning.specs.Program.{ProgramMeaning, Settlement, Keeps, Sets, Removes}
use Rattle.px_meaning.specs.Step.{is_awake}
use Rattle.px_meaning.proofs.Maps.{lookup_past, lookup_below, delete_here, delete_past, maps_equal, length-put_new, length-put_old}
use Rattle.px_meaning.proofs.Settling.{after_settle}
use Rattle.px_program.specs.Calls.{Applies}
use Rattle.px_program.specs.declared.program.Settled.{Settled}
use Rattle.px_program.specs.declared.program.Settled.TheVariants.{Keep}
use Rattle.px_record.specs.Held.{HeldVertex}
use Rattle.px_mutations.specs.declared.turns.Turn.{Turn}
use Rattle.px_mutations.specs.declared.effects.Effect.{Effect}
use Rattle.px_mutations.specs.Turns.{given_if}
use Rattle.px_mutations.specs.Effects.{placed, left_at, settlement, outcome, IsFound, IsCarried, IsEffect, bit}
use Rattle.px_mutations.proofs.Steps.{lookup-placed_same, lookup-placed_other, IsMap-placed}

-- what is there already is placed again
pub placed_again : (v : ℕ) (o : Option Vertex) (l : Graph) → IsMap l → lookup v l ≡ o → placed v o l ≡ l
placed_again v o l m at = maps_equal (placed v o l) l (IsMap-placed v o l m) m (λ k. elim (cases_eq k v) [
  | inl s ↦ subst (λ (n : ℕ). lookup n (placed v o l) ≡ lookup n l) (sym s) (lookup-placed_same v o l ∙ sym at)
  | inr d ↦ lookup-placed_other v o l k d
])

-- a map without a key that it has is one shorter
length_delete : (v : ℕ) (l : Graph) → IsMap l → is_some (lookup v l) ≡ true → suc (length (delete v l)) ≡ length l
length_delete v [] m there = absurd (false≢true there)
length_delete v (e ∷ es) m there = elim (cases_eq v e.0) [
  | inl s ↦ ap (λ (k : Graph). suc (length k)) (delete_here v e es s ∙ placed_again v None es m.1 (lookup_below v e.0 es (omega (arith, s)) m.0))
  | inr d ↦ ap (λ (k : Graph). suc (length k)) (delete_past v e es d) ∙ ap suc (length_delete v es m.1 (sym (ap is_some (lookup_past v e es d)) ∙ there))
]

put_sizes : (was : Bool) (v : ℕ) (x : Vertex) (l : Graph) (o : Option Vertex) → IsMap l → lookup v l ≡ o → was ≡ is_some o → length (put v x l) + 0 ≡ length l + bit (not was)
put_sizes true v x l None m at is = absurd (true≢false is)
put_sizes true v x l (Some y) m at is = omega (arith, length-put_old v x y l m at)
put_sizes false v x l None m at is = omega (arith, length-put_new v x l at)
put_sizes false v x l (Some y) m at is = absurd (false≢true is)

-- a vertex was put
pub put_effect : (e : Effect) (was : Bool) (v room : ℕ) (x : Vertex) (l : Graph) → IsMap l → was ≡ is_some (lookup v l) → vertex_size x ≤ room → e ≡ record { added = not was; removed = false; live = not x.halt } → IsEffect e v room l (placed v (Some x) l)
put_effect e was v room x l m is size made = record {
  sizes = ap (λ (k : Effect). length (put v x l) + bit k.removed) made ∙ put_sizes was v x l (lookup v l) m refl is ∙ ap (λ (k : Effect). length l + bit k.added) (sym made);
  was = λ gone. absurd (false≢true (sym (ap (λ (k : Effect). k.removed) made) ∙ gone));
  live = ap (λ (k : Effect). k.live) made ∙ sym (ap is_awake (lookup-placed_same v (Some x) l));
  fits = subst (λ (o : Option Vertex). IfSome o (λ y. vertex_size y ≤ room)) (sym (lookup-placed_same v (Some x) l)) size;
}

delete_sizes : (was : Bool) (v : ℕ) (l : Graph) → IsMap l → (o : Option Vertex) → lookup v l ≡ o → was ≡ is_some o → length (placed v None l) + bit was ≡ length l + 0
delete_sizes true v l m o at is = omega (arith, length_delete v l m (ap is_some at ∙ sym is))
delete_sizes false v l m None at is = omega (arith, ap length (placed_again v None l m at))
delete_sizes false v l m (Some x) at is = absurd (false≢true is)

-- a vid is without a vertex
pub gone_effect : (e : Effect) (was : Bool) (v room : ℕ) (l : Graph) → IsMap l → was ≡ is_some (lookup v l) → e ≡ record { added = false; removed = was; live = false } → IsEffect e v room l (placed v None l)
gone_effect e was v room l m is made = record {
  sizes = ap (λ (k : Effect). length (placed v None l) + bit k.removed) made ∙ delete_sizes was v l m (lookup v l) refl is ∙ ap (λ (k : Effect). length l + bit k.added) (sym made);
  was = λ gone. sym is ∙ sym (ap (λ (k : Effect). k.removed) made) ∙ gone;
  live = ap (λ (k : Effect). k.live) made ∙ sym (ap is_awake (lookup-placed_same v None l));
  fits = subst (λ (o : Option Vertex). IfSome o (λ y. vertex_size y ≤ room)) (sym (lookup-placed_same v None l)) tt;
}

-- where it was not there, nothing is to be done
pub gone_already : (was : Bool) (v : ℕ) (l : Graph) (o : Option Vertex) → IsMap l → was ≡ false → lookup v l ≡ o → was ≡ is_some o → l ≡ placed v None l
gone_already true v l o m off at is = absurd (true≢false off)
gone_already false v l None m off at is = sym (placed_again v None l m at)
gone_already false v l (Some x) m off at is = absurd (false≢true is)

fits_if : (was : Bool) (room : ℕ) (x : Vertex) → vertex_size x ≤ room → IfSome (given_if was x) (λ y. vertex_size y ≤ room)
fits_if true room x size = size
fits_if false room x size = tt

awake_if : (was : Bool) (x : Vertex) → is_awake (given_if was x) ≡ (was && not x.halt)
awake_if true x = refl
awake_if false x = refl

-- a vid stays as it is
pub same_effect : (e : Effect) (was : Bool) (v room : ℕ) (x : Vertex) (l : Graph) → IsMap l → lookup v l ≡ given_if was x → vertex_size x ≤ room → e ≡ record { added = false; removed = false; live = was && not x.halt } → IsEffect e v room l (placed v (given_if was x) l)
same_effect e was v room x l m at size made = record {
  sizes = ap (λ (k : Effect). length (placed v (given_if was x) l) + bit k.removed) made ∙ ap (λ (k : Graph). length k + 0) (placed_again v (given_if was x) l m at) ∙ ap (λ (k : Effect). length l + bit k.added) (sym made);
  was = λ gone. absurd (false≢true (sym (ap (λ (k : Effect). k.removed) made) ∙ gone));
  live = ap (λ (k : Effect). k.live) made ∙ sym (awake_if was x) ∙ sym (ap is_awake (lookup-placed_same v (given_if was x) l));
  fits = subst (λ (o : Option Vertex). IfSome o (λ y. vertex_size y ≤ room)) (sym (lookup-placed_same v (given_if was x) l)) (fits_if was room x size);
}

-- what was found of a vid

-- the vertex to settle
found_is : (has was : Bool) (x y : Vertex) (there : Option Vertex) → IsFound there (given_if has x) was y → given_if (has || was) y ≡ option_or (given_if has x) there
found_is true was x y there f = ap (λ (z : Vertex). Some z) f.vertex
found_is false true x y None f = absurd (true≢false f.is_there)
found_is false true x y (Some z) f = ap (λ (w : Vertex). Some w) f.vertex
found_is false false x y None f = refl
found_is false false x y (Some z) f = absurd (false≢true f.is_there)

found_there : (was : Bool) (x y : Vertex) (there : Option Vertex) → IsFound there (given_if false x) was y → there ≡ given_if was y
found_there was x y there f = sym (found_is false was x y there f)

applied : (what : Settlement) (settled : Settled) (existing : Bool) (a b : HeldVertex) (o : Option Vertex) → given_if existing a.vertex ≡ o → Applies what settled a b → outcome existing settled b.vertex ≡ after_settle what o
applied Keeps settled existing a b o is h = ap (λ (k : Settled). outcome existing k b.vertex) h.0 ∙ ap (λ (k : HeldVertex). given_if existing k.vertex) h.1 ∙ is
applied (Sets x) settled existing a b o is h = ap (λ (k : Settled). outcome existing k b.vertex) h.0 ∙ ap (λ (k : HeldVertex). Some k.vertex) h.1
applied Removes settled existing a b o is h = ap (λ (k : Settled). outcome existing k b.vertex) h.0

-- what was decided leaves what the turn leaves
pub outcome_is : (p : ProgramMeaning) (t : Turn) (was : Bool) (x : Vertex) (bytes : List ℕ) (a b : HeldVertex) (settled : Settled) (l : Graph) → a.vid ≡ t.vid → IsFound (lookup t.vid l) (given_if t.has_update x) was a.vertex
    → Applies (settlement p t (t.has_update || was) a bytes) settled a b → outcome (t.has_update || was) settled b.vertex ≡ left_at p t.vid (given_if t.has_update x) (given_if t.has_verdict bytes) l
outcome_is p t was x bytes a b settled l vid f h =
    let o : given_if (t.has_update || was) a.vertex ≡ option_or (given_if t.has_update x) (lookup t.vid l) = found_is t.has_update was x a.vertex (lookup t.vid l) f in
    by_verdict t.has_verdict o (subst (λ (n : ℕ). Applies (if t.has_verdict then p.settle_of n (given_if (t.has_update || was) a.vertex) bytes else Keeps) settled a b) vid h)
  where
    by_verdict : (has : Bool) → given_if (t.has_update || was) a.vertex ≡ option_or (given_if t.has_update x) (lookup t.vid l) → Applies (if has then p.settle_of t.vid (given_if (t.has_update || was) a.vertex) bytes else Keeps) settled a b
        → outcome (t.has_update || was) settled b.vertex ≡ left_at p t.vid (given_if t.has_update x) (given_if has bytes) l
    by_verdict true o h = applied _ settled (t.has_update || was) a b _ refl h ∙ ap (λ (k : Option Vertex). after_settle (p.settle_of t.vid k bytes) k) o
    by_verdict false o h = applied Keeps settled (t.has_update || was) a b _ o h

kept_same : (what : Settlement) (settled : Settled) (a b : HeldVertex) → settled ≡ Keep → Applies what settled a b → b.vertex ≡ a.vertex
kept_same Keeps settled a b is h = ap (λ (k : HeldVertex). k.vertex) h.1
kept_same (Sets x) settled a b is h = absurd (cc (sym is ∙ h.0))
kept_same Removes settled a b is h = ap (λ (k : HeldVertex). k.vertex) h.1

pub carried_is : (p : ProgramMeaning) (t : Turn) (was : Bool) (x : Vertex) (bytes : List ℕ) (a b : HeldVertex) (settled : Settled) (l : Graph) → IsFound (lookup t.vid l) (given_if t.has_update x) was a.vertex
    → Applies (settlement p t (t.has_update || was) a bytes) settled a b → IsCarried t was settled b.vertex l
carried_is p t was x bytes a b settled l f h = record {
  is_there = f.is_there;
  same = λ keep off.
      found_there was x a.vertex (lookup t.vid l) (subst (λ (k : Bool). IsFound (lookup t.vid l) (given_if k x) was a.vertex) off f)
      ∙ ap (given_if was) (sym (kept_same (settlement p t (t.has_update || was) a bytes) settled a b keep h));
}
