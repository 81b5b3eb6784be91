-- Lines are printed one behind the other.
use Rattle.std.proofs.Common.{◌≡◌, ◌≤◌, ℕ, List, [], ◌∷◌, ◌++◌, length, take, true, false, sym, ◌∙◌, ap, subst, refl, append_assoc}
use Rattle.std.specs.Prelude.{flat_map, slice_index_or, Some, None}
use Rattle.std.proofs.lemmas.Grind.{flat_map-append}
use Rattle.std.proofs.lemmas.List.{append-nil}
use Rattle.px_core.specs.Parts.{to_part}
use Rattle.px_core.specs.Shown.{Shown}
use Rattle.px_meaning.specs.Graph.{Graph, Vertex, IsMap}
use Rattle.px_program.proofs.Phases.{begins_later}
use Rattle.px_load.specs.Dumping.{SomeOf, SomeMore}
use Rattle.px_load.specs.Heads.{AreLooked, Begins, NoneBefore, heads_of}
use Rattle.px_load.specs.Printing.{NextPrinted}
use Rattle.px_load.specs.declared.heads.PartReader.{PartReader}
use Rattle.px_load.proofs.HeadsSteps.{least_own, some_left, taken, no_head}

-- nothing of a text
pub part_none : (Holds : List ℕ → Type 0) (h text : List ℕ) → Holds h → SomeOf text (λ t. Holds (h ++ t))
part_none Holds h text holds = record { most = 0; holds = subst Holds (sym (append-nil h)) holds }

-- a part of a text's front is a part of the text
pub part_front : (Holds : List ℕ → Type 0) (h a b : List ℕ) → SomeOf a (λ t. Holds (h ++ t)) → SomeOf (a ++ b) (λ t. Holds (h ++ t))
part_front Holds h a b p =
    let later = begins_later h [] a b (h ++ take p.most a) (p.most, ap (λ (l : List ℕ). l ++ take p.most a) (sym (append-nil h))) in
    record { most = later.0; holds = subst Holds later.1 p.holds }

-- and so is a part of what comes behind the front
pub part_behind : (Holds : List ℕ → Type 0) (h a b : List ℕ) → SomeOf b (λ t. Holds ((h ++ a) ++ t)) → SomeOf (a ++ b) (λ t. Holds (h ++ t))
part_behind Holds h a b p =
    let later = begins_later h a b [] ((h ++ a) ++ take p.most b) (p.most, refl) in
    record { most = later.0; holds = subst (λ (l : List ℕ). Holds (h ++ take later.0 l)) (ap (λ (l : List ℕ). a ++ l) (append-nil b)) (subst Holds later.1 p.holds) }

-- the first vertices were printed, and this holds of the others
pub record Prints (line : ℕ × Vertex → List ℕ) (g : Graph) (After : Graph → Type 0) (Wrote : List ℕ → Type 0) : Type 0 where
  pub done : Graph
  pub rest : Graph
  pub is : g ≡ done ++ rest
  pub is_map : IsMap rest
  pub after : After rest
  pub wrote : Wrote (flat_map line done)

module _ (line : ℕ × Vertex → List ℕ) where
  pub prints_first : (g : Graph) (After : Graph → Type 0) (Wrote : List ℕ → Type 0) → IsMap g → After g → Wrote [] → Prints line g After Wrote
  prints_first g After Wrote map after wrote = record { done = []; rest = g; is = refl; is_map = map; after = after; wrote = wrote }

  line_more : (done : Graph) (e : ℕ × Vertex) → flat_map line done ++ line e ≡ flat_map line (done ++ e ∷ [])
  line_more done e = ap (λ (l : List ℕ). flat_map line done ++ l) (sym (append-nil (line e))) ∙ sym (flat_map-append line done (e ∷ []))

  -- one more was printed
  pub prints_next : (g : Graph) (Was Now : Graph → Type 0) (Began Held Holds : List ℕ → Type 0)
      → ((k : Graph) → IsMap k → Was k → NextPrinted line true k Now (λ t. (h : List ℕ) → Held h → Holds (h ++ t)))
      → Prints line g Was (λ t. (h : List ℕ) → Began h → Held (h ++ t)) → Prints line g Now (λ t. (h : List ℕ) → Began h → Holds (h ++ t))
  prints_next g Was Now Began Held Holds next p =
      let n = next p.rest p.is_map p.after in
      let e = n.0 in
      record {
        done = p.done ++ e ∷ [];
        rest = n.1;
        is = p.is ∙ ap (λ (l : Graph). p.done ++ l) n.2 ∙ sym (append_assoc p.done (e ∷ []) n.1);
        is_map = (subst (λ (l : Graph). IsMap l) n.2 p.is_map).1;
        after = n.3;
        wrote = λ h began. subst Holds (append_assoc h (flat_map line p.done) (line e) ∙ ap (λ (l : List ℕ). h ++ l) (line_more p.done e)) (n.4 (h ++ flat_map line p.done) (p.wrote h began));
      }

  -- all were printed
  pub prints_end : (g : Graph) (Was Now : Graph → Type 0) (Began Held Holds : List ℕ → Type 0)
      → ((k : Graph) → IsMap k → Was k → NextPrinted line false k Now (λ t. (h : List ℕ) → Held h → Holds (h ++ t)))
      → Prints line g Was (λ t. (h : List ℕ) → Began h → Held (h ++ t)) → (h : List ℕ) → Began h → Holds (h ++ flat_map line g)
  prints_end g Was Now Began Held Holds next p h began =
      let n = next p.rest p.is_map p.after in
      let all : p.done ≡ g = sym (p.is ∙ ap (λ (l : Graph). p.done ++ l) n.0 ∙ append-nil p.done) in
      subst Holds (append-nil _ ∙ ap (λ (l : Graph). h ++ flat_map line l) all) (n.1 (h ++ flat_map line p.done) (p.wrote h began))

  -- a part of the next was
  pub prints_part : (g : Graph) (Was : Graph → Type 0) (Began Held Holds : List ℕ → Type 0)
      → ((k : Graph) (h : List ℕ) → IsMap k → Was k → Held h → SomeOf (flat_map line k) (λ t. Holds (h ++ t)))
      → Prints line g Was (λ t. (h : List ℕ) → Began h → Held (h ++ t)) → (h : List ℕ) → Began h → SomeOf (flat_map line g) (λ t. Holds (h ++ t))
  prints_part g Was Began Held Holds next p h began =
      let n = next p.rest (h ++ flat_map line p.done) p.is_map p.after (p.wrote h began) in
      subst (λ (l : List ℕ). SomeOf l (λ t. Holds (h ++ t))) (sym (ap (flat_map line) p.is ∙ flat_map-append line p.done p.rest)) (part_behind Holds h (flat_map line p.done) (flat_map line p.rest) n)

-- the least head's vertex was taken and printed
pub taken_printed : (s t : Shown) (room q v vid : ℕ) (x : Vertex) (ps ps' : List PartReader) (line : ℕ × Vertex → List ℕ) (Held Holds : List ℕ → Type 0) (g : Graph) → 1 ≤ length ps → IsMap g → AreLooked s room ps g
    → slice_index_or (heads_of ps) q None ≡ Some v → NoneBefore v (heads_of ps)
    → ((k : Graph) → AreLooked s room ps k → Begins (to_part (length ps) q k) vid x (λ rest. (m : Graph) → to_part (length ps) q m ≡ rest → ((i : ℕ) → (i ≡ q → ⊥) → to_part (length ps) i m ≡ to_part (length ps) i k) → AreLooked t room ps' m))
    → ((h : List ℕ) → Held h → Holds (h ++ line (vid, x))) → NextPrinted line true g (AreLooked t room ps') (λ text. (h : List ℕ) → Held h → Holds (h ++ text))
taken_printed s t room q v vid x ps ps' line Held Holds [] some map looked at low takes print = absurd (some_left s room ps q v looked at)
taken_printed s t room q v vid x ps ps' line Held Holds (e ∷ g) some map looked at low takes print =
    let own = least_own s room ps e g q v some map looked at low in
    let both = taken (length ps) q e g vid x (AreLooked t room ps') own (takes (e ∷ g) looked) in
    (e, g, refl, both.1, λ h held. subst (λ (d : ℕ × Vertex). Holds (h ++ line d)) (sym both.0) (print h held))

-- a part of its line was
pub taken_part : (s t : Shown) (room q v vid : ℕ) (x : Vertex) (ps ps' : List PartReader) (line : ℕ × Vertex → List ℕ) (Holds : List ℕ → Type 0) (g : Graph) (h : List ℕ) → 1 ≤ length ps → IsMap g → AreLooked s room ps g
    → slice_index_or (heads_of ps) q None ≡ Some v → NoneBefore v (heads_of ps)
    → ((k : Graph) → AreLooked s room ps k → Begins (to_part (length ps) q k) vid x (λ rest. (m : Graph) → to_part (length ps) q m ≡ rest → ((i : ℕ) → (i ≡ q → ⊥) → to_part (length ps) i m ≡ to_part (length ps) i k) → AreLooked t room ps' m))
    → (k : ℕ) × Holds (h ++ take k (line (vid, x))) → SomeOf (flat_map line g) (λ text. Holds (h ++ text))
taken_part s t room q v vid x ps ps' line Holds [] h some map looked at low takes print = absurd (some_left s room ps q v looked at)
taken_part s t room q v vid x ps ps' line Holds (e ∷ g) h some map looked at low takes print =
    let own = least_own s room ps e g q v some map looked at low in
    let both = taken (length ps) q e g vid x (AreLooked t room ps') own (takes (e ∷ g) looked) in
    part_front Holds h (line e) (flat_map line g) (subst (λ (d : ℕ × Vertex). SomeOf (line d) (λ text. Holds (h ++ text))) (sym both.0) (record { most = print.0; holds = print.1 }))

-- a file that gives no more, though its head was known
pub ended_early : (s : Shown) (room q v : ℕ) (ps : List PartReader) (g : Graph) (A : Type 0) → AreLooked s room ps g → slice_index_or (heads_of ps) q None ≡ Some v → to_part (length ps) q g ≡ [] → A
ended_early s room q v ps g A looked at none = absurd (no_head s room ps g q v looked at none)

pub part_of : (Holds : List ℕ → Type 0) (h text : List ℕ) → (k : ℕ) × Holds (h ++ take k text) → SomeOf text (λ t. Holds (h ++ t))
part_of Holds h text p = record { most = p.0; holds = p.1 }

-- nothing more is held, or more and then more again
pub more_none : (Holds : List ℕ → Type 0) (h : List ℕ) → Holds h → SomeMore h Holds
more_none Holds h holds = record { more = []; holds = subst Holds (sym (append-nil h)) holds }

pub more_then : (Had Holds : List ℕ → Type 0) (h : List ℕ) → SomeMore h Had → ((k : List ℕ) → Had k → SomeMore k Holds) → SomeMore h Holds
more_then Had Holds h a f =
    let b = f (h ++ a.more) a.holds in
    record { more = a.more ++ b.more; holds = subst Holds (append_assoc h a.more b.more) b.holds }
