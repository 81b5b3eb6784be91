-- A store takes the vertices of its file, and the stores of other partitions keep theirs.
use Rattle.std.proofs.Common.{◌≡◌, ℕ, zero, suc, ◌+◌, ◌*◌, ◌<◌, ◌≤◌, Bool, true, false, IsTrue, List, [], ◌∷◌, ◌++◌, length, filter, set, Some, sym, ◌∙◌, ap, refl, subst, arith, inl, inr, append_assoc, ◌==◌, nat_lt}
use Rattle.std.specs.Prelude.{◌↔◌, slice_get}
use Rattle.std.specs.Bool.{OnTrue}
use Rattle.std.proofs.lemmas.Bool.{cases_eq, cond-true, cond-false, lt-ltb, le-ltb, eq-eqb, ne_eqb, cases_lt, cases_order}
use Rattle.std.proofs.lemmas.List.{append-nil, map-append, length-append}
use Rattle.px_cache.proofs.Lists.{slice_get-set_same, slice_get-set_other, some_is}
use Rattle.px_core.specs.Parts.{to_part}
use Rattle.px_core.specs.Partition.{partition_of}
use Rattle.px_meaning.specs.Graph.{Vertex, Graph, vids, IsMap, IsAscending}
use Rattle.px_meaning.specs.Merge.{Pairs}
use Rattle.px_meaning.proofs.Ascending as ascending
use Rattle.px_meaning.proofs.MapParts.{vids-append}
use Rattle.px_pages.specs.Entry.{Entry}
use Rattle.px_record.specs.Body.{vertex_of, is_vertex_body}
use Rattle.px_record.specs.Held.{HeldVertex}
use Rattle.px_store.specs.Desks.{AllBelow}
use Rattle.px_stream.specs.Stream.{tuple, Leads}
use Rattle.px_stream.specs.declared.reader.Head.{Head}
use Rattle.px_load.specs.Filling.{GaveNext, Fills, HoldUpTo, count_below}
use Rattle.px_load.specs.Held.{tuples}
use Rattle.px_load.specs.Reading.{vertices_of, AllBodies}
use Rattle.px_load.proofs.PartingSteps.{vids_of}

pub no_tuples : (l : Pairs) → tuples l ≡ [] → l ≡ []
no_tuples [] h = refl
no_tuples (p ∷ l) h = absurd (cc h)

abbrev key_of : List Entry → ℕ
key_of [] = 0
key_of (e ∷ es) = e.key

abbrev body_of_first : List Entry → List ℕ
body_of_first [] = []
body_of_first (e ∷ es) = e.body

abbrev rest_of : List Entry → List Entry
rest_of [] = []
rest_of (e ∷ es) = es

-- what a reader gave is the first of these pairs
pub gave_one : (room : ℕ) (l : Pairs) (h : Head) (bytes : List ℕ) (After : List Entry → Type 0) (loaded : Bool) (was now : HeldVertex) → was.room ≡ room → (IsTrue loaded ↔ (IsTrue (is_vertex_body bytes) × (13 + length bytes ≤ was.room)))
    → (IsTrue loaded → now ≡ record was { vid = h.key; vertex = vertex_of bytes }) → AllBodies room l → Leads (tuple h bytes) (tuples l) After → GaveNext true now l (λ rest. After (tuples rest))
gave_one room [] h bytes After loaded was now is valid load bodies lead = absurd (cc lead.is)
gave_one room (p ∷ l) h bytes After loaded was now is valid load bodies lead =
    let vid : p.0 ≡ h.key = ap (λ (es : List Entry). key_of es) lead.is in
    let body : p.1 ≡ bytes = ap (λ (es : List Entry). body_of_first es) lead.is in
    let rest : tuples l ≡ lead.rest = ap (λ (es : List Entry). rest_of es) lead.is in
    let spells : IsTrue (is_vertex_body bytes) = subst (λ (b : List ℕ). IsTrue (is_vertex_body b)) body bodies.0.spells in
    let short : 13 + length bytes ≤ was.room = omega (arith, bodies.0.size, ap length body, is) in
    let held = load (valid.1 (spells, short)) in
    (bytes, l, ap (λ (v : ℕ). (v, p.1) ∷ l) vid ∙ ap (λ (b : List ℕ). (h.key, b) ∷ l) body ∙ ap (λ (x : HeldVertex). (x.vid, bytes) ∷ l) (sym held), ap (λ (x : HeldVertex). x.vertex) held, subst After (sym rest) lead.after)

pub on_true : (b : Bool) (A B : Type 0) → (A → B) → OnTrue b A → OnTrue b B
on_true true A B f a = f a
on_true false A B f a = tt

pub on_true_both : (b : Bool) (A B C : Type 0) → (A → B → C) → OnTrue b A → OnTrue b B → OnTrue b C
on_true_both true A B C f x y = f x y
on_true_both false A B C f x y = tt

pub always : (b : Bool) (A : Type 0) → A → OnTrue b A
always true A a = a
always false A a = tt

all_below : (v : ℕ) (g : Graph) → ascending.AllBelow v (vids g) → AllBelow v g
all_below v [] h = tt
all_below v (e ∷ g) h = (h.0, all_below v g h.1)

-- the next vertex is above all that were taken
next_below : (v : ℕ) (body : List ℕ) (done rest : Pairs) → IsMap (done ++ (v, body) ∷ rest) → AllBelow v (vertices_of done)
next_below v body done rest m =
    all_below v (vertices_of done) (subst (ascending.AllBelow v) (sym (vids_of done)) (ascending.AllBelow-from_ascending v (vids done) (vids rest) (subst IsAscending (vids-append done ((v, body) ∷ rest)) m)))

-- none was taken yet
pub fills_first : (Takes : Graph → Type 0) (AreToGive : Pairs → Type 0) (counted : Bool) (spent made : ℕ) (l : Pairs) → Takes [] → AreToGive l → Fills Takes AreToGive counted spent spent made made l
fills_first Takes AreToGive counted spent made l takes give = record {
  done = [];
  rest = l;
  is = refl;
  takes = takes;
  to_give = give;
  reads = always counted _ (omega arith);
  leaves = always counted _ (omega arith);
}

pub bodies_back : (room : ℕ) (a b : Pairs) → AllBodies room (a ++ b) → AllBodies room b
bodies_back room [] b h = h
bodies_back room (p ∷ a) b h = bodies_back room a b h.1

-- one more was taken
pub fills_next : (room : ℕ) (Took Takes : Graph → Type 0) (Were Are : Pairs → Type 0) (counted : Bool) (spent spent' spent'' made made' made'' : ℕ) (v : HeldVertex) (l : Pairs) → AllBodies room l → IsMap l
    → ((rest : Pairs) → AllBodies room rest → Were rest → GaveNext true v rest Are) → ((g : Graph) → AllBelow v.vid g → Took g → Takes (g ++ (v.vid, v.vertex) ∷ []))
    → OnTrue counted (spent'' ≤ spent' + 2) → OnTrue counted (made'' ≤ made' + 1) → Fills Took Were counted spent spent' made made' l → Fills Takes Are counted spent spent'' made made'' l
fills_next room Took Takes Were Are counted spent spent' spent'' made made' made'' v l bodies m gives takes reads leaves f =
    let given = gives f.rest (bodies_back room f.done f.rest (subst (AllBodies room) f.is bodies)) f.to_give in
    let body = given.0 in
    let rest = given.1 in
    let whole : l ≡ f.done ++ (v.vid, body) ∷ rest = f.is ∙ ap (λ (x : Pairs). f.done ++ x) given.2 in
    let below = next_below v.vid body f.done rest (subst (λ (x : Pairs). IsMap x) whole m) in
    let more : vertices_of f.done ++ (v.vid, v.vertex) ∷ [] ≡ vertices_of (f.done ++ (v.vid, body) ∷ []) =
    ap (λ (x : Vertex). vertices_of f.done ++ (v.vid, x) ∷ []) given.3 ∙ sym (map-append (λ (p : ℕ × List ℕ). (p.0, vertex_of p.1)) f.done ((v.vid, body) ∷ [])) in
    let long = length-append f.done ((v.vid, body) ∷ []) in
    record {
      done = f.done ++ (v.vid, body) ∷ [];
      rest = rest;
      is = whole ∙ sym (append_assoc f.done ((v.vid, body) ∷ []) rest);
      takes = subst Takes more (takes (vertices_of f.done) below f.takes);
      to_give = given.4;
      reads = on_true_both counted _ _ _ (λ a b. omega (arith, a, b, long)) reads f.reads;
      leaves = on_true_both counted _ _ _ (λ a b. omega (arith, a, b, long)) leaves f.leaves;
    }

-- all were taken
pub fills_end : (room : ℕ) (Takes : Graph → Type 0) (Are : Pairs → Type 0) (counted : Bool) (spent spent' made made' : ℕ) (l : Pairs) → AllBodies room l → ((rest : Pairs) → AllBodies room rest → Are rest → rest ≡ []) → Fills Takes Are counted spent spent' made made' l → Takes (vertices_of l)
fills_end room Takes Are counted spent spent' made made' l bodies over f =
    let all : f.done ≡ l = sym (f.is ∙ ap (λ (x : Pairs). f.done ++ x) (over f.rest (bodies_back room f.done f.rest (subst (AllBodies room) f.is bodies)) f.to_give) ∙ append-nil f.done) in
    subst (λ (x : Pairs). Takes (vertices_of x)) all f.takes

pub fills_leaves : (Takes : Graph → Type 0) (Are : Pairs → Type 0) (counted : Bool) (spent spent' made made' : ℕ) (l : Pairs) → Fills Takes Are counted spent spent' made made' l → OnTrue counted (made' ≤ made + length l)
fills_leaves Takes Are counted spent spent' made made' l f = on_true counted _ _ (λ h. omega (arith, h, ap length f.is, length-append f.done f.rest)) f.leaves

-- whatever was taken
pub fills_reads : (Takes : Graph → Type 0) (Are : Pairs → Type 0) (counted : Bool) (spent spent' made made' : ℕ) (l : Pairs) → Fills Takes Are counted spent spent' made made' l → OnTrue counted (spent' ≤ spent + 2 * length l)
fills_reads Takes Are counted spent spent' made made' l f = on_true counted _ _ (λ h. omega (arith, h, ap length f.is, length-append f.done f.rest)) f.reads

-- also where the next could not be
pub fills_reads_more : (room : ℕ) (Takes : Graph → Type 0) (Were Are : Pairs → Type 0) (counted : Bool) (spent spent' spent'' made made' : ℕ) (v : HeldVertex) (l : Pairs) → AllBodies room l → ((rest : Pairs) → AllBodies room rest → Were rest → GaveNext true v rest Are) → OnTrue counted (spent'' ≤ spent' + 2)
    → Fills Takes Were counted spent spent' made made' l → OnTrue counted (spent'' ≤ spent + 2 * length l)
fills_reads_more room Takes Were Are counted spent spent' spent'' made made' v l bodies gives reads f =
    let given = gives f.rest (bodies_back room f.done f.rest (subst (AllBodies room) f.is bodies)) f.to_give in
    on_true_both counted _ _ _ (λ a b. omega (arith, a, b, ap length f.is, length-append f.done f.rest, ap length given.2)) reads f.reads

-- one store is filled, and those before it keep what they hold
pub hold_next : {X : Type 0} (old new : X → Graph → Type 0) (xs : List X) (q : ℕ) (y : X) (graphs : ℕ → Graph) → q < length xs → new y (graphs q)
    → ((i : ℕ) (x : X) → (i ≡ q → ⊥) → slice_get xs i ≡ Some x → old x (graphs i) → new x (graphs i)) → HoldUpTo old q graphs xs → HoldUpTo new (q + 1) graphs (set xs q y)
hold_next old new xs q y graphs lt own others all i x low at = elim (cases_eq i q) [
  | inl e ↦
      let y_is : y ≡ x = some_is (sym (slice_get-set_same xs q y lt) ∙ ap (slice_get (set xs q y)) (sym e) ∙ at) in
      subst (λ (z : _). new z (graphs i)) y_is (subst (λ (k : ℕ). new y (graphs k)) (sym e) own)
  | inr other ↦
      let at' = sym (slice_get-set_other xs q i y other) ∙ at in
      others i x other at' (all i x (omega (arith, low, other)) at')
]

-- the vertices of a partition
pub part_of_vertices : (parts q : ℕ) (l : Pairs) → to_part parts q (vertices_of l) ≡ vertices_of (to_part parts q l)
part_of_vertices parts q [] = refl
part_of_vertices parts q (p ∷ l) = elim (cases_eq (partition_of p.0 parts) q) [
  | inl is ↦
      let test = eq-eqb (partition_of p.0 parts) q is in
      cond-true _ _ _ test ∙ ap (λ (g : Graph). (p.0, vertex_of p.1) ∷ g) (part_of_vertices parts q l) ∙ ap vertices_of (sym (cond-true _ (p ∷ to_part parts q l) (to_part parts q l) test))
  | inr not ↦
      let test = ne_eqb (partition_of p.0 parts) q not in
      cond-false _ _ _ test ∙ part_of_vertices parts q l ∙ ap vertices_of (sym (cond-false _ (p ∷ to_part parts q l) (to_part parts q l) test))
]

pub part_bodies : (room parts q : ℕ) (l : Pairs) → AllBodies room l → AllBodies room (to_part parts q l)
part_bodies room parts q [] h = tt
part_bodies room parts q (p ∷ l) h = elim (cases_eq (partition_of p.0 parts) q) [
  | inl is ↦ subst (AllBodies room) (sym (cond-true _ (p ∷ to_part parts q l) (to_part parts q l) (eq-eqb (partition_of p.0 parts) q is))) (h.0, part_bodies room parts q l h.1)
  | inr not ↦ subst (AllBodies room) (sym (cond-false _ (p ∷ to_part parts q l) (to_part parts q l) (ne_eqb (partition_of p.0 parts) q not))) (part_bodies room parts q l h.1)
]

-- how many pass a test, with one more
count_on : (f : ℕ × List ℕ → Bool) (p : ℕ × List ℕ) (l : Pairs) → f p ≡ true → length (filter f (p ∷ l)) ≡ length (filter f l) + 1
count_on f p l is = ap length (cond-true _ (p ∷ filter f l) (filter f l) is) ∙ omega arith

count_off : (f : ℕ × List ℕ → Bool) (p : ℕ × List ℕ) (l : Pairs) → f p ≡ false → length (filter f (p ∷ l)) ≡ length (filter f l)
count_off f p l is = ap length (cond-false _ (p ∷ filter f l) (filter f l) is)

-- the vertices of the first partitions are no more than all
pub count_all : (parts n : ℕ) (l : Pairs) → count_below parts n l ≤ length l
count_all parts n [] = omega arith
count_all parts n (p ∷ l) =
    let f : ℕ × List ℕ → Bool = λ e. nat_lt (partition_of e.0 parts) n in
    elim (cases_lt (partition_of p.0 parts) n) [
      | inl lt ↦ omega (arith, count_all parts n l, count_on f p l (lt-ltb (partition_of p.0 parts) n lt))
      | inr le ↦ omega (arith, count_all parts n l, count_off f p l (le-ltb (partition_of p.0 parts) n le))
    ]

-- and one partition more
pub count_next : (parts n : ℕ) (l : Pairs) → count_below parts (n + 1) l ≡ count_below parts n l + length (to_part parts n l)
count_next parts n [] = refl
count_next parts n (p ∷ l) =
    let a = partition_of p.0 parts in
    let f : ℕ × List ℕ → Bool = λ e. nat_lt (partition_of e.0 parts) n in
    let g : ℕ × List ℕ → Bool = λ e. nat_lt (partition_of e.0 parts) (n + 1) in
    let h : ℕ × List ℕ → Bool = λ e. partition_of e.0 parts == n in
    elim (cases_order a n) [
      | inl e ↦ omega (arith, count_next parts n l, count_on g p l (lt-ltb a (n + 1) (omega (arith, e))), count_off f p l (le-ltb a n (omega (arith, e))), count_on h p l (eq-eqb a n e))
      | inr (inl lt) ↦ omega (arith, count_next parts n l, count_on g p l (lt-ltb a (n + 1) (omega (arith, lt))), count_on f p l (lt-ltb a n lt), count_off h p l (ne_eqb a n (λ e. omega (arith, lt, e))))
      | inr (inr gt) ↦ omega (arith, count_next parts n l, count_off g p l (le-ltb a (n + 1) (omega (arith, gt))), count_off f p l (le-ltb a n (omega (arith, gt))), count_off h p l (ne_eqb a n (λ e. omega (arith, gt, e))))
    ]

pub count_none : (parts : ℕ) (l : Pairs) → count_below parts 0 l ≡ 0
count_none parts [] = refl
count_none parts (p ∷ l) =
    let f : ℕ × List ℕ → Bool = λ e. nat_lt (partition_of e.0 parts) 0 in
    count_off f p l (le-ltb (partition_of p.0 parts) 0 (omega arith)) ∙ count_none parts l

at_below : {X : Type 0} (xs : List X) (i : ℕ) (x : X) → slice_get xs i ≡ Some x → i < length xs
at_below [] i x at = absurd (cc at)
at_below (y ∷ xs) zero x at = omega arith
at_below (y ∷ xs) (suc i) x at = omega (arith, at_below xs i x at)

-- all were filled
pub hold_all : {X : Type 0} (holding : X → Graph → Type 0) (stores : List X) (parts n : ℕ) (l : Pairs) → parts ≤ n → length stores ≡ parts → HoldUpTo holding n (λ i. vertices_of (to_part parts i l)) stores
    → (q : ℕ) (st : X) → slice_get stores q ≡ Some st → holding st (to_part (length stores) q (vertices_of l))
hold_all holding stores parts n l all count h q st at =
    subst (holding st) (sym (ap (λ (k : ℕ). to_part k q (vertices_of l)) count ∙ part_of_vertices parts q l)) (h q st (omega (arith, at_below stores q st at, count, all)) at)
