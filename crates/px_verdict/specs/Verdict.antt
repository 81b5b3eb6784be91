-- Requests to delete a vertex, to insert one, or both: their bytes, their merge, and what they do.
use Rattle.std.specs.Prelude.{◌≡◌, ◌≤◌, ℕ, ◌+◌, Bool, true, false, not, ◌&&◌, ◌||◌, ◌==◌, if◌then◌else◌, IsTrue, List, [], ◌∷◌, length, Option, Some, None, is_some}
use Rattle.std.specs.Cmp.{first_so, second_so}
use Rattle.std.proofs.Common.{refl, sym, ap, subst, ◌∙◌, zero-le, suc-le-suc}
use Rattle.std.proofs.Math.Bool.{or_comm, or_assoc}
use Rattle.std.proofs.Math.Nat.{le_refl}
use Rattle.std.proofs.lemmas.Bool.{false≢true}
use Rattle.px_meaning.specs.Graph.{Vertex, fresh}
use Rattle.px_meaning.specs.Merge.{MergeRule, MergeLaws}
use Rattle.px_meaning.specs.Program.{Settlement, Keeps, Sets, Removes}
use Rattle.px_record.specs.Body.{is_vertex_body, vertex_of}
use Rattle.px_verdict.specs.Longest.{longest, longest_commutes, longest_associates, longest_has, longest_empty, longest_no_shorter}

-- a kind is the sum of 1 for delete and 2 for insert
abbrev pub kind_of : Bool → Bool → ℕ
kind_of delete insert = (if delete then 1 else 0) + (if insert then 2 else 0)

abbrev pub deletes : ℕ → Bool
deletes kind = kind == 1 || kind == 3

abbrev pub inserts : ℕ → Bool
inserts kind = kind == 2 || kind == 3

abbrev pub is_empty : List ℕ → Bool
is_empty [] = true
is_empty (b ∷ bs) = false

-- a kind, and behind it the body of the vertex to insert, if there is one
abbrev pub is_verdict : List ℕ → Bool
is_verdict [] = false
is_verdict (kind ∷ body) = (deletes kind || inserts kind) && (if inserts kind then is_vertex_body body else is_empty body)

-- what either of two kinds has
abbrev pub both_kinds : ℕ → ℕ → ℕ
both_kinds k l = kind_of (deletes k || deletes l) (inserts k || inserts l)

-- what either has, and of two bodies the longer
abbrev pub merged_verdict : List ℕ → List ℕ → List ℕ
merged_verdict [] b = b
merged_verdict (k ∷ a) [] = k ∷ a
merged_verdict (k ∷ a) (l ∷ b) = both_kinds k l ∷ longest a b

abbrev pub verdict_rule : MergeRule
verdict_rule = record { valid = is_verdict; merge = merged_verdict }

-- a deletion goes before an insertion, so that both replace the vertex; an insertion alone leaves a vertex that is there
abbrev pub settle_of : ℕ → Option Vertex → List ℕ → Settlement
settle_of vid x [] = Keeps
settle_of vid x (kind ∷ body) = if not (inserts kind) then Removes else if is_some x && not (deletes kind) then Keeps else Sets (vertex_of body)

-- the request to delete a vertex
abbrev pub delete : List ℕ
delete = 1 ∷ []

-- the request to insert a live vertex without value and edges
abbrev pub insert_fresh : List ℕ
insert_fresh = 2 ∷ 0 ∷ 0 ∷ 0 ∷ 0 ∷ 0 ∷ 0 ∷ 0 ∷ 0 ∷ 0 ∷ []

-- the one is valid, and removes
pub record IsDelete (verdict : List ℕ) : Type 0 where
  pub valid : IsTrue (is_verdict verdict)
  pub removes : (vid : ℕ) (x : Option Vertex) → settle_of vid x verdict ≡ Removes

-- the other is valid, and makes a fresh vertex where there is none
pub record InsertsFresh (verdict : List ℕ) : Type 0 where
  pub valid : IsTrue (is_verdict verdict)
  pub keeps : (vid : ℕ) (x : Vertex) → settle_of vid (Some x) verdict ≡ Keeps
  pub sets : (vid : ℕ) → settle_of vid None verdict ≡ Sets fresh

pub delete_is : IsDelete delete
delete_is = record { valid = refl; removes = λ vid x. refl }

pub insert_fresh_is : InsertsFresh insert_fresh
unfolding is_vertex_body vertex_of
insert_fresh_is = record { valid = refl; keeps = λ vid x. refl; sets = λ vid. refl }

-- both flags are read back from a kind
deletes_of : (d i : Bool) → deletes (kind_of d i) ≡ d
deletes_of false false = refl
deletes_of false true = refl
deletes_of true false = refl
deletes_of true true = refl

inserts_of : (d i : Bool) → inserts (kind_of d i) ≡ i
inserts_of false false = refl
inserts_of false true = refl
inserts_of true false = refl
inserts_of true true = refl

kinds_commute : (k l : ℕ) → both_kinds k l ≡ both_kinds l k
kinds_commute k l = λ i. kind_of (or_comm (deletes k) (deletes l) i) (or_comm (inserts k) (inserts l) i)

kinds_associate : (k l m : ℕ) → both_kinds k (both_kinds l m) ≡ both_kinds (both_kinds k l) m
kinds_associate k l m =
    let d = ap (λ (x : Bool). deletes k || x) (deletes_of (deletes l || deletes m) (inserts l || inserts m)) ∙ sym (or_assoc (deletes k) (deletes l) (deletes m))
    ∙ sym (ap (λ (x : Bool). x || deletes m) (deletes_of (deletes k || deletes l) (inserts k || inserts l))) in
    let e = ap (λ (x : Bool). inserts k || x) (inserts_of (deletes l || deletes m) (inserts l || inserts m)) ∙ sym (or_assoc (inserts k) (inserts l) (inserts m))
    ∙ sym (ap (λ (x : Bool). x || inserts m) (inserts_of (deletes k || deletes l) (inserts k || inserts l))) in
    λ i. kind_of (d i) (e i)

commutes : (a b : List ℕ) → merged_verdict a b ≡ merged_verdict b a
commutes [] [] = refl
commutes [] (l ∷ b) = refl
commutes (k ∷ a) [] = refl
commutes (k ∷ a) (l ∷ b) = λ i. kinds_commute k l i ∷ longest_commutes a b i

associates : (a b c : List ℕ) → merged_verdict a (merged_verdict b c) ≡ merged_verdict (merged_verdict a b) c
associates [] b c = refl
associates (k ∷ a) [] c = refl
associates (k ∷ a) (l ∷ b) [] = refl
associates (k ∷ a) (l ∷ b) (m ∷ c) = λ i. kinds_associate k l m i ∷ longest_associates a b c i

no_shorter : (a b : List ℕ) → length a ≤ length (merged_verdict a b)
no_shorter [] b = zero-le
no_shorter (k ∷ a) [] = le_refl (length (k ∷ a))
no_shorter (k ∷ a) (l ∷ b) = suc-le-suc (longest_no_shorter a b)

-- what follows the kind: a body where insert is in it, and nothing else
abbrev Follows : Bool → List ℕ → Type 0
Follows insert a = IsTrue (if insert then is_vertex_body a else is_empty a)

beside_empty : (a b : List ℕ) → IsTrue (is_empty b) → longest a b ≡ a
beside_empty a [] h = longest_empty a
beside_empty a (y ∷ b) h = absurd (false≢true h)

follows_both : (i j : Bool) (a b : List ℕ) → Follows i a → Follows j b → Follows (i || j) (longest a b)
follows_both true true a b p q = longest_has (Follows true) a b p q
follows_both true false a b p q = subst (Follows true) (sym (beside_empty a b q)) p
follows_both false true a b p q = subst (Follows true) (sym (longest_commutes a b ∙ beside_empty b a p)) q
follows_both false false a b p q = longest_has (Follows false) a b p q

some_kind : (d i e j : Bool) → IsTrue (d || i) → IsTrue ((d || e) || (i || j))
some_kind true i e j h = refl
some_kind false true true j h = refl
some_kind false true false j h = refl
some_kind false false e j h = absurd (false≢true h)

and_true : (a b : Bool) → IsTrue a → IsTrue b → IsTrue (a && b)
and_true true b p q = q
and_true false b p q = absurd (false≢true p)

closed : (a b : List ℕ) → IsTrue (is_verdict a) → IsTrue (is_verdict b) → IsTrue (is_verdict (merged_verdict a b))
closed [] b p q = absurd (false≢true p)
closed (k ∷ a) [] p q = absurd (false≢true q)
closed (k ∷ a) (l ∷ b) p q =
    let d = deletes k || deletes l in
    let i = inserts k || inserts l in
    let kind = some_kind (deletes k) (inserts k) (deletes l) (inserts l) (first_so (deletes k || inserts k) _ p) in
    let body = follows_both (inserts k) (inserts l) a b (second_so (deletes k || inserts k) _ p) (second_so (deletes l || inserts l) _ q) in
    and_true _ _ (subst (λ (x : Bool). IsTrue (x || inserts (kind_of d i))) (sym (deletes_of d i)) (subst (λ (x : Bool). IsTrue (d || x)) (sym (inserts_of d i)) kind))
    (subst (λ (x : Bool). Follows x (longest a b)) (sym (inserts_of d i)) body)

pub verdict_laws : MergeLaws verdict_rule
verdict_laws = record {
  closed = closed;
  commutes = λ a b ha hb. commutes a b;
  associates = λ a b c ha hb hc. associates a b c;
  no_shorter = λ a b ha hb. no_shorter a b;
}
