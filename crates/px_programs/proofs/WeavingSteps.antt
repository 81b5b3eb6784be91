-- Entries are woven into others one by one, from the last.
use Rattle.std.proofs.Common.{◌≡◌, ◌≤◌, ℕ, ◌+◌, ◌-◌, ◌*◌, not, IsTrue, List, [], ◌∷◌, ◌++◌, drop, sym, ap, subst, ◌∙◌, append_assoc, arith}
use Rattle.std.specs.List.{concat}
use Rattle.std.proofs.lemmas.List.{append-nil, take-append-drop}
use Rattle.std.proofs.lemmas.List.Folds.{concat-append}
use Rattle.px_programs.specs.Entries.{entries_in}
use Rattle.px_programs.specs.InOrder.{is_after, in_order, is_ordered}
use Rattle.px_programs.specs.Weaving.{entry_at, IsSpan, IsPut, woven}
use Rattle.px_programs.proofs.EntryPlaces.{place_behind, entries_in-add, entries_in-same, concat-entries_in, all_in}
use Rattle.px_programs.proofs.OrderedParts.{are_upto, are_after, in_order_same, in_order_split, ordered_front, ordered_back, ordered_upto}

-- the entries before a place and those behind it
cut_at : (stay held : ℕ) (bytes : List ℕ) → stay ≤ held → entries_in held bytes ≡ entries_in stay bytes ++ entries_in (held - stay) (drop (12 * stay) bytes)
cut_at stay held bytes within =
    let sum : held ≡ stay + (held - stay) = omega arith in
    ap (λ (n : ℕ). entries_in n bytes) sum ∙ entries_in-add stay (held - stay) bytes

-- the first of entries in order are in order
pub first_ordered : (stay held : ℕ) (bytes : List ℕ) → stay ≤ held → IsTrue (is_ordered (entries_in held bytes)) → IsTrue (is_ordered (entries_in stay bytes))
first_ordered stay held bytes within ordered =
    ordered_front (entries_in stay bytes) _ (subst (λ (es : List (List ℕ)). IsTrue (is_ordered es)) (cut_at stay held bytes within) ordered)

before_place : (held stay : ℕ) (e bytes : List ℕ) → IsSpan held bytes e stay stay → IsTrue (are_upto e (entries_in stay bytes))
before_place held stay e bytes span = all_in (λ f. not (is_after f e)) stay bytes (λ i below. ap not (span.upto i below))

behind_place : (held stay : ℕ) (e bytes : List ℕ) → IsSpan held bytes e stay stay → IsTrue (are_after e (entries_in (held - stay) (drop (12 * stay) bytes)))
behind_place held stay e bytes span =
    all_in (λ f. is_after f e) (held - stay) (drop (12 * stay) bytes)
    (λ i below. ap (λ (f : List ℕ). is_after f e) (place_behind stay i bytes) ∙ span.after (stay + i) (omega arith) (omega arith))

-- the entries of both, where the last of more is set apart
split_by_last : (held gap left stay : ℕ) (e bytes more : List ℕ) → left ≡ gap + 1 → e ≡ entry_at gap more → stay ≤ held → IsTrue (is_ordered (entries_in held bytes)) → IsTrue (is_ordered (entries_in left more))
    → IsSpan held bytes e stay stay
    → in_order (entries_in held bytes ++ entries_in left more) ≡ in_order (entries_in stay bytes ++ entries_in gap more) ++ e ∷ entries_in (held - stay) (drop (12 * stay) bytes)
split_by_last held gap left stay e bytes more is entry within ordered more_ordered span =
    let fs = entries_in gap more in
    let cut = cut_at stay held bytes within in
    let last : entries_in left more ≡ fs ++ e ∷ [] =
    ap (λ (n : ℕ). entries_in n more) is ∙ entries_in-add gap 1 more ∙ ap (λ (f : List ℕ). fs ++ f ∷ []) (sym entry) in
    let all = subst (λ (es : List (List ℕ)). IsTrue (is_ordered es)) last more_ordered in
    (λ i. in_order (cut i ++ last i))
    ∙ in_order_split e (entries_in stay bytes) (entries_in (held - stay) (drop (12 * stay) bytes)) fs (before_place held stay e bytes span) (behind_place held stay e bytes span)
    (ordered_back (entries_in stay bytes) _ (subst (λ (es : List (List ℕ)). IsTrue (is_ordered es)) cut ordered)) (ordered_front fs (e ∷ []) all) (ordered_upto fs e all) all

joined_in_parts : (fs bs : List (List ℕ)) (e t : List ℕ) → concat (fs ++ e ∷ bs) ++ t ≡ concat fs ++ (e ++ (concat bs ++ t))
joined_in_parts fs bs e t =
    ap (λ (l : List ℕ). l ++ t) (concat-append fs (e ∷ bs)) ∙ append_assoc (concat fs) (e ++ concat bs) t ∙ ap (λ (l : List ℕ). concat fs ++ l) (append_assoc e (concat bs) t)

-- what is left to be put stays the same, put
pub put_woven : (held gap left stay : ℕ) (e old new more : List ℕ) → left ≡ gap + 1 → e ≡ entry_at gap more → IsTrue (is_ordered (entries_in held old)) → IsTrue (is_ordered (entries_in left more))
    → IsSpan held old e stay stay → IsPut held gap stay e old new → woven stay gap new more ≡ woven held left old more
put_woven held gap left stay e old new more is entry ordered more_ordered span put =
    let behind = entries_in (held - stay) (drop (12 * stay) old) in
    let rest = drop (12 * (held + gap + 1)) old in
    let count : 12 * (held + gap + 1) ≡ 12 * (held + left) = omega arith in
    let front = entries_in-same stay new old put.front in
    let back : drop (12 * (stay + gap)) new ≡ e ++ (concat behind ++ rest) =
    put.back ∙ ap (λ (l : List ℕ). e ++ (l ++ rest)) (sym (concat-entries_in (held - stay) (drop (12 * stay) old))) in
    (λ i. concat (in_order (front i ++ entries_in gap more)) ++ back i)
    ∙ sym (joined_in_parts (in_order (entries_in stay old ++ entries_in gap more)) behind e rest)
    ∙ ap (λ (es : List (List ℕ)). concat es ++ rest) (sym (split_by_last held gap left stay e old more is entry put.within ordered more_ordered span))
    ∙ ap (λ (n : ℕ). concat (in_order (entries_in held old ++ entries_in left more)) ++ drop n old) count

-- those that stay are in order
pub put_ordered : (held gap stay : ℕ) (e old new : List ℕ) → IsTrue (is_ordered (entries_in held old)) → IsPut held gap stay e old new → IsTrue (is_ordered (entries_in stay new))
put_ordered held gap stay e old new ordered put =
    subst (λ (es : List (List ℕ)). IsTrue (is_ordered es)) (sym (entries_in-same stay new old put.front)) (first_ordered stay held old put.within ordered)

-- where none is left, all is put
pub all_woven : (held left : ℕ) (bytes more : List ℕ) → left ≡ 0 → IsTrue (is_ordered (entries_in held bytes)) → bytes ≡ woven held left bytes more
all_woven held left bytes more none ordered =
    let count : 12 * (held + 0) ≡ 12 * held = omega arith in
    sym (take-append-drop (12 * held) bytes)
    ∙ ap (λ (l : List ℕ). l ++ drop (12 * held) bytes) (sym (concat-entries_in held bytes))
    ∙ ap (λ (es : List (List ℕ)). concat es ++ drop (12 * held) bytes) (sym (in_order_same (entries_in held bytes) ordered) ∙ ap in_order (sym (append-nil (entries_in held bytes))))
    ∙ ap (λ (n : ℕ). concat (in_order (entries_in held bytes ++ [])) ++ drop n bytes) (sym count)
    ∙ ap (λ (n : ℕ). woven held n bytes more) (sym none)
