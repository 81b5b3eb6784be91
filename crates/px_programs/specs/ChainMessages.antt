-- The messages of chains: a note with a flag and a vid, the word that there were many notes, or an answer with vids and edges.
use Rattle.std.specs.Prelude.{◌≡◌, ◌≤◌, ◌<◌, ℕ, suc, ◌/◌, ◌%◌, ◌^◌, Bool, true, false, ◌&&◌, ◌||◌, ◌==◌, nat_lt, nat_le, if◌then◌else◌, IsTrue, List, [], ◌∷◌, ◌++◌, length, take, drop, Option, Some, None, is_some, bytes_eq}
use Rattle.std.proofs.Common.{refl, sym, ap, subst, ◌∙◌, suc-le-suc}
use Rattle.std.proofs.Math.Nat.{le_refl, le_trans, le_of_suc-le, le-add_right, not-suc-le-zero, mul-mod_right}
use Rattle.std.proofs.lemmas.Bool.{true≢false, false≢true, and_parts, and_from, eqb-true, eq-eqb, leb-true, le-leb}
use Rattle.std.proofs.lemmas.List.{drop_at, length-append}
use Rattle.std.specs.Cmp.Lexicographic.{same_text}
use Rattle.byteorder.specs.Endian.{big_bytes, big_number}
use Rattle.byteorder.specs.Numbers.{big_number-reads_back}
use Rattle.px_meaning.specs.Merge.{MergeRule, MergeLaws}
use Rattle.px_program.specs.Numbers.{num, number}
use Rattle.px_record.specs.Body.{edges_bytes, edges_in}
use Rattle.px_record.proofs.Bytes.{length-edges_bytes}
use Rattle.px_verdict.specs.Longest.{longest, longest_commutes, longest_associates, longest_has, longest_no_shorter}

pub data Said : Type 0 where
  Note : Bool → ℕ → Said
  Many : Said
  Answer : List ℕ → List (ℕ × ℕ) → Said

-- 1, the flag as 1 or 0, and the vid in eight bytes
abbrev pub note : Bool → ℕ → List ℕ
note flag vid = 1 ∷ (if flag then 1 else 0) ∷ num vid

-- 2, and nine zeros
abbrev pub many : List ℕ
many = 2 ∷ 0 ∷ 0 ∷ 0 ∷ 0 ∷ 0 ∷ 0 ∷ 0 ∷ 0 ∷ 0 ∷ []

-- 3, the length of the vids in four bytes, the vids in eight bytes each, and the edges
abbrev pub answer : List ℕ → List (ℕ × ℕ) → List ℕ
answer vids edges = 3 ∷ big_bytes 4 (length vids) ++ vids ++ edges_bytes edges

-- so many bytes are one or more vids
abbrev pub are_vids : ℕ → Bool
are_vids n = nat_le 8 n && (n % 8 == 0)

-- what follows a 1, a 2 and a 3
abbrev pub note_in : List ℕ → Option Said
note_in [] = None
note_in (flag ∷ vid) = if nat_lt flag 2 && (length vid == 8) then Some (Note (flag == 1) (number vid)) else None

abbrev pub many_in : List ℕ → Option Said
many_in bytes = if bytes_eq bytes (drop 1 many) then Some Many else None

-- so many bytes are the vids, and what follows them are edges
abbrev pub parted : ℕ → List ℕ → Option Said
parted n bytes =
    if nat_le n (length bytes) && are_vids n && (length (drop n bytes) % 12 == 0)
    then Some (Answer (take n bytes) (edges_in (length (drop n bytes) / 12) (drop n bytes)))
    else None

abbrev pub answer_in : List ℕ → Option Said
answer_in bytes = parted (big_number 4 bytes) (drop 4 bytes)

-- what a message says, or none where the bytes are of another form
unfoldable pub said_in : List ℕ → Option Said
said_in [] = None
said_in (kind ∷ bytes) = if kind == 1 then note_in bytes else if kind == 2 then many_in bytes else if kind == 3 then answer_in bytes else None

abbrev pub is_message : List ℕ → Bool
is_message bytes = is_some (said_in bytes)

abbrev pub is_answer : List ℕ → Bool
is_answer [] = false
is_answer (kind ∷ bytes) = kind == 3

-- of two answers the longer, one answer before other messages, and else many
abbrev pub met_by : Bool → Bool → List ℕ → List ℕ → List ℕ
met_by first second a b = if first then (if second then longest a b else a) else if second then b else many

abbrev pub met : List ℕ → List ℕ → List ℕ
met a b = met_by (is_answer a) (is_answer b) a b

abbrev pub chain_rule : MergeRule
chain_rule = record { valid = is_message; merge = met }

commutes_by : (a b : List ℕ) (s t : Bool) → met_by s t a b ≡ met_by t s b a
commutes_by a b true true = longest_commutes a b
commutes_by a b true false = refl
commutes_by a b false true = refl
commutes_by a b false false = refl

-- what two messages make is an answer where one of them is
answers_by : (a b : List ℕ) (s t : Bool) → is_answer a ≡ s → is_answer b ≡ t → is_answer (met_by s t a b) ≡ (s || t)
answers_by a b true true p q = longest_has (λ (x : List ℕ). is_answer x ≡ true) a b p q
answers_by a b true false p q = p
answers_by a b false true p q = q
answers_by a b false false p q = refl

associates_by : (a b c : List ℕ) (s t u : Bool) → met_by s (t || u) a (met_by t u b c) ≡ met_by (s || t) u (met_by s t a b) c
associates_by a b c true true true = longest_associates a b c
associates_by a b c true true false = refl
associates_by a b c true false true = refl
associates_by a b c true false false = refl
associates_by a b c false true true = refl
associates_by a b c false true false = refl
associates_by a b c false false true = refl
associates_by a b c false false false = refl

associates : (a b c : List ℕ) → met a (met b c) ≡ met (met a b) c
associates a b c =
    let s = is_answer a in
    let t = is_answer b in
    let u = is_answer c in
    ap (λ (x : Bool). met_by s x a (met b c)) (answers_by b c t u refl refl) ∙ associates_by a b c s t u
    ∙ sym (ap (λ (x : Bool). met_by x u (met a b) c) (answers_by a b s t refl refl))

many_is : IsTrue (is_message many)
unfolding said_in
many_is = refl

closed_by : (a b : List ℕ) (s t : Bool) → IsTrue (is_message a) → IsTrue (is_message b) → IsTrue (is_message (met_by s t a b))
closed_by a b true true p q = longest_has (λ (x : List ℕ). IsTrue (is_message x)) a b p q
closed_by a b true false p q = p
closed_by a b false true p q = q
closed_by a b false false p q = many_is

asked : {A : Type 0} (c : Bool) (x : A) → is_some (if c then Some x else None) ≡ true → c ≡ true
asked true x h = refl
asked false x h = absurd (false≢true h)

note_len : (bytes : List ℕ) → is_some (note_in bytes) ≡ true → length bytes ≡ 9
note_len [] h = absurd (false≢true h)
note_len (flag ∷ vid) h = ap suc (eqb-true (length vid) 8 (and_parts _ _ (asked _ _ h)).1)

many_len : (bytes : List ℕ) → is_some (many_in bytes) ≡ true → length bytes ≡ 9
many_len bytes h = ap length (same_text bytes (drop 1 many) (sym (asked _ _ h)))

one_more : (n : ℕ) → n ≤ suc n
one_more n = le_of_suc-le (le_refl (suc n))

nine : (bytes : List ℕ) → 8 ≤ length (drop 4 bytes) → 9 ≤ length bytes
nine [] h = absurd (not-suc-le-zero h)
nine (a ∷ []) h = absurd (not-suc-le-zero h)
nine (a ∷ b ∷ []) h = absurd (not-suc-le-zero h)
nine (a ∷ b ∷ c ∷ []) h = absurd (not-suc-le-zero h)
nine (a ∷ b ∷ c ∷ d ∷ rest) h = le_trans (suc-le-suc h) (le_trans (one_more _) (le_trans (one_more _) (one_more _)))

answer_len : (bytes : List ℕ) → is_some (answer_in bytes) ≡ true → 9 ≤ length bytes
answer_len bytes h =
    let n = big_number 4 bytes in
    let parts = and_parts _ _ (and_parts _ _ (asked _ _ h)).0 in
    nine bytes (le_trans (leb-true 8 n (and_parts _ _ parts.1).0) (leb-true n (length (drop 4 bytes)) parts.0))

short_by : (s t u : Bool) (bytes : List ℕ) → u ≡ false → is_some (if s then note_in bytes else if t then many_in bytes else if u then answer_in bytes else None) ≡ true → suc (length bytes) ≡ 10
short_by true t u bytes p h = ap suc (note_len bytes h)
short_by false true u bytes p h = ap suc (many_len bytes h)
short_by false false true bytes p h = absurd (true≢false p)
short_by false false false bytes p h = absurd (false≢true h)

short : (bytes : List ℕ) → is_answer bytes ≡ false → IsTrue (is_message bytes) → length bytes ≡ 10
unfolding said_in
short [] p h = absurd (false≢true h)
short (kind ∷ bytes) p h = short_by (kind == 1) (kind == 2) (kind == 3) bytes p h

ten_by : (s t u : Bool) (bytes : List ℕ) → is_some (if s then note_in bytes else if t then many_in bytes else if u then answer_in bytes else None) ≡ true → 10 ≤ suc (length bytes)
ten_by true t u bytes h = subst (λ (n : ℕ). 10 ≤ suc n) (sym (note_len bytes h)) (le_refl 10)
ten_by false true u bytes h = subst (λ (n : ℕ). 10 ≤ suc n) (sym (many_len bytes h)) (le_refl 10)
ten_by false false true bytes h = suc-le-suc (answer_len bytes h)
ten_by false false false bytes h = absurd (false≢true h)

-- no message is shorter than a note
ten : (bytes : List ℕ) → IsTrue (is_message bytes) → 10 ≤ length bytes
unfolding said_in
ten [] h = absurd (false≢true h)
ten (kind ∷ bytes) h = ten_by (kind == 1) (kind == 2) (kind == 3) bytes h

no_shorter_by : (a b : List ℕ) (s t : Bool) → is_answer a ≡ s → IsTrue (is_message a) → IsTrue (is_message b) → length a ≤ length (met_by s t a b)
no_shorter_by a b true true p h k = longest_no_shorter a b
no_shorter_by a b true false p h k = le_refl (length a)
no_shorter_by a b false true p h k = subst (λ (n : ℕ). n ≤ length b) (sym (short a p h)) (ten b k)
no_shorter_by a b false false p h k = subst (λ (n : ℕ). n ≤ 10) (sym (short a p h)) (le_refl 10)

pub chain_message_laws : MergeLaws chain_rule
chain_message_laws = record {
  closed = λ a b ha hb. closed_by a b (is_answer a) (is_answer b) ha hb;
  commutes = λ a b ha hb. commutes_by a b (is_answer a) (is_answer b);
  associates = λ a b c ha hb hc. associates a b c;
  no_shorter = λ a b ha hb. no_shorter_by a b (is_answer a) (is_answer b) refl ha hb;
}

pub note_is : (flag : Bool) (vid : ℕ) → IsTrue (is_message (note flag vid))
unfolding said_in num
note_is true vid = refl
note_is false vid = refl

parted_is : (vids : List ℕ) (edges : List (ℕ × ℕ)) → IsTrue (are_vids (length vids)) → is_some (parted (length vids) (vids ++ edges_bytes edges)) ≡ true
parted_is vids edges h =
    let n = length vids in
    let rest = edges_bytes edges in
    let within = le-leb n (length (vids ++ rest)) (subst (λ (k : ℕ). n ≤ k) (sym (length-append vids rest)) (le-add_right n (length rest))) in
    let whole = eq-eqb (length (drop n (vids ++ rest)) % 12) 0
    (ap (λ (l : List ℕ). length l % 12) (drop_at vids rest n refl) ∙ ap (λ (k : ℕ). k % 12) (length-edges_bytes edges) ∙ mul-mod_right 12 (length edges)) in
    let all = and_from _ _ (and_from _ _ within h) whole in
    ap (λ (c : Bool). is_some (if c then Some (Answer (take n (vids ++ rest)) (edges_in (length (drop n (vids ++ rest)) / 12) (drop n (vids ++ rest)))) else None)) all

pub answer_is : (vids : List ℕ) (edges : List (ℕ × ℕ)) → IsTrue (are_vids (length vids)) → length vids < 2 ^ 32 → IsTrue (is_message (answer vids edges))
unfolding said_in
answer_is vids edges h small =
    let n = length vids in
    let rest : List ℕ = vids ++ edges_bytes edges in
    let back : big_number 4 (big_bytes 4 n ++ rest) ≡ n = big_number-reads_back 4 n rest small in
    ap (λ (k : ℕ). is_some (parted k rest)) back ∙ parted_is vids edges h
